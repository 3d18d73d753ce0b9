use Rattle.std.proofs.Common.{rules, ◌≡◌, ◌∙◌, sym, ap, subst, true}
use Rattle.std.proofs.lemmas.Result.{IfOk-weaker}
use Rattle.std.specs.List.{list_all}
use Rattle.setl_modes.specs.Fits.{datum_fits, part_fits}
use Rattle.setl_modes.specs.Modes.{mode_of, Tuples}
use Rattle.setl_rep_bases.specs.Bases.{named}
use Rattle.setl_rep_forms.specs.Stands.{parts_at}
use Rattle.setl_rep.proofs.ModeCodes.{of_tuple}
use Rattle.setl_rep.proofs.ReadyHandles.{ready_tuple}
use Rattle.setl_rep.proofs.own_form.is_tuple_ready.Goals as goal

pub returns : goal.returns
returns c =
    let bs = c.args.bases.now in
    let n = c.args.instance in
    let k = mode_of c.in-Some.k.now in
    let is : named bs n c.in-Some.c ≡ c.args.b = search rules in
    IfOk-weaker c.all_parts_fit.result _ _ (λ t fit yes.
    ready_tuple bs n c.in-Some.c k c.args.b c.at.ensures.known is (mode_of c.args.mode.now) c.args.list.now
    (ap mode_of c.in-Tuple.is ∙ of_tuple c.in-Tuple.m ∙ ap (λ z. Tuples (mode_of z)) (sym c.get.ensures) ∙ ap Tuples c.in-Some.ensures)
    (subst (λ b. list_all (part_fits (datum_fits k)) (parts_at b c.args.list.now) ≡ true) c.at.ensures.base (fit yes))) c.all_parts_fit.ensures
