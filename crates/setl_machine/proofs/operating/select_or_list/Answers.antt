use Rattle.std.proofs.Common.{◌∙◌, suc, ap, refl, subst, true}
use Rattle.setl_store.specs.Forms.{SelectsFreely}
use Rattle.setl_store.specs.Standing.{Standing, at_place}
use Rattle.setl_machine_control.specs.declared.end.End.TheVariants as end
use Rattle.setl_machine.proofs.Operated.{operated_two}
use Rattle.setl_machine.proofs.operating.select_or_list.Goals as goal

pub returns-clause-did : goal.returns-clause-did
returns-clause-did c =
    let old = c.args.store.now in
    let s : SelectsFreely c.args.what old c.select.new.self true = subst (SelectsFreely c.args.what old c.select.new.self) c.if-not-branch.false c.in_ok-select.ensures.done in
    operated_two old c.go_on.new.store c.args.control.now c.charge.new.self c.args.line c.args.count 0 c.args.what s.0 s.1 s.2 end.Paused c.requires.two c.requires.fits s.3 (s.4 c.args.control.now.turns) c.charge.ensures
    (refl, c.go_on.ensures ∙ ap (λ (s : Standing). record s { core = at_place (suc s.core.now.at) s.core }) s.5)
