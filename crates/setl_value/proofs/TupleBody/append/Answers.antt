use Rattle.std.proofs.Common.{◌≡◌, ◌∙◌, ap, arith, sym, subst, map, drop}
use Rattle.setl_value.specs.code.DatumOf.{part}
use Rattle.setl_value.proofs.Leads.{lead_kept}
use Rattle.setl_value.specs.WellFormed.{IsTupleList}
use Rattle.setl_value.proofs.Fronts.{deep_of, tuple_append, behind_appended, deep_behind, deep_appended, long_appended}
use Rattle.setl_value.proofs.TupleBody.append.Goals as goal

pub invariant_of-self-2 : goal.invariant_of-self-2
invariant_of-self-2 c =
    let s = c.self.inside.start in
    let xs = c.self.inside.parts.value.items in
    let ys = c.append_in.new.items.value.items in
    let more = c.from.result.now in
    let from : more ≡ drop c.other.inside.start c.other.inside.parts.value.items = c.from.ensures ∙ ap (drop c.other.inside.start) (c.deref-2.ensures.value ∙ ap (λ v. v.items) c.deref.ensures) in
    let appended = c.in_ok-append_in.ensures.appended in
    let within = c.self.invariant.3 in
    let deep : deep_of more ≡ c.other.inside.deep = ap deep_of from ∙ sym c.other.invariant.1 in (
      subst IsTupleList (sym (behind_appended s xs more ys within appended)) (tuple_append (map part (drop s xs)) (map part more) c.self.invariant.0 (subst (λ l. IsTupleList (map part l)) (sym from) c.other.invariant.0)),
      omega (arith, c.max-self-inside.ensures, deep_behind s xs more ys within appended, c.self.invariant.1, deep),
      omega (arith, c.max-self-inside.ensures, deep_appended s xs more ys within appended, c.self.invariant.2, deep),
      long_appended s xs more ys within appended,
      lead_kept c.lead_of-self-inside.result _ _ (record { sfits = c.lead_of-self-inside.type_inv }) c.lead_of-self-inside.ensures (c.from-2.ensures ∙ ap (drop s) (c.deref-4.ensures.value ∙ ap (λ v. v.items) c.deref-3.ensures)),
    )
