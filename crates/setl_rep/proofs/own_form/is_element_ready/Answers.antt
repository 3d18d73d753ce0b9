use Rattle.std.proofs.Common.{rules, ◌≡◌, ◌∙◌, sym, ap}
use Rattle.std.proofs.lemmas.Result.{IfOk-weaker}
use Rattle.setl_base.specs.Base.{value_of}
use Rattle.setl_modes.specs.Fits.{datum_fits, part_fits}
use Rattle.setl_modes.specs.Modes.{mode_of}
use Rattle.setl_rep_bases.specs.Bases.{named}
use Rattle.setl_rep.proofs.ReadyHandles.{ready_element}
use Rattle.setl_rep.proofs.own_form.is_element_ready.Goals as goal

pub returns : goal.returns
returns c =
    let bs = c.args.bases.now in
    let n = c.args.instance in
    let k = mode_of c.in-Some.k.now in
    let is : named bs n c.in-Some.c ≡ c.args.b = search rules in
    IfOk-weaker c.handle_fits.result _ _ (λ t fit yes.
    ready_element bs n c.in-Some.c k c.args.b c.at.ensures.known is (mode_of c.args.mode.now) c.args.e c.in-Some.ensures c.requires.living
    (ap (λ i. part_fits (datum_fits k) (value_of i c.args.e)) (sym c.at.ensures.base) ∙ sym fit ∙ yes)) c.handle_fits.ensures
