use Rattle.std.proofs.Common.{rules, ◌≡◌, ◌∙◌, sym, ap}
use Rattle.std.proofs.lemmas.Result.{IfOk-weaker}
use Rattle.std.specs.List.{list_all}
use Rattle.std.specs.Ordering.{nat_cmp}
use Rattle.std.specs.FinSet as set
use Rattle.setl_modes.specs.Fits.{datum_fits}
use Rattle.setl_modes.specs.Modes.{mode_of, Sets}
use Rattle.setl_rep_bases.specs.Bases.{named}
use Rattle.setl_rep_forms.specs.Stands.{members_at}
use Rattle.setl_rep_based.specs.Numbers.{layout_of, numbers_in}
use Rattle.setl_rep.proofs.ModeCodes.{of_set}
use Rattle.setl_rep.proofs.Ready.{ready_set}
use Rattle.setl_rep.proofs.own_form.is_set_ready.Goals as goal

pub returns : goal.returns
returns c =
    let bs = c.args.bases.now in
    let n = c.args.instance in
    let k = mode_of c.in-Some.k.now in
    let is : named bs n c.in-Some.c ≡ c.args.b = search rules in
    IfOk-weaker c.all_fit.result _ _ (λ t fit yes.
    ready_set c.sets_have_their_members.ensures.tested bs n (mode_of c.args.mode.now) k c.in-Set.f c.in-Some.c (layout_of c.args.held) c.args.b (numbers_in c.args.held) c.at.ensures.known
    (ap mode_of c.in-Set.is ∙ of_set c.in-Set.f c.in-Set.m ∙ ap (λ z. Sets c.in-Set.f (mode_of z)) (sym c.get.ensures) ∙ ap (Sets c.in-Set.f) c.in-Some.ensures)
    (c.lies_so.ensures c.if-not-lies_so.false) is
    (sym (λ i. list_all (datum_fits k) (members_at (c.at.ensures.base i) ((ap (λ l. set.from_list {R = nat_cmp} l) c.as_slice.ensures.value ∙ c.in_ok-list.ensures) i))) ∙ fit yes)) c.all_fit.ensures
