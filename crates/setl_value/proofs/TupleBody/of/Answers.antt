use Rattle.std.proofs.Common.{◌≡◌, ◌∙◌, ap, arith, sym, subst, map}
use Rattle.std.specs.List.{AllByRecursion}
use Rattle.setl_value.proofs.Fronts.{deep_of}
use Rattle.setl_value.proofs.Trim.{tuple_made, trim_depth}
use Rattle.setl_value.specs.Datum.{depth, tuple_of}
use Rattle.setl_value.specs.code.DatumOf.{part}
use Rattle.setl_value.proofs.Leads.{lead_kept}
use Rattle.setl_value.specs.WellFormed.{IsTupleList, PartIsWellFormed, trim}
use Rattle.setl_value.proofs.TupleBody.of.Goals as goal

pub depth_of-deep-requires-clause-bound : goal.depth_of-deep-requires-clause-bound
depth_of-deep-requires-clause-bound c =
    omega (arith, ap deep_of c.as_slice-2.ensures.value, ap (λ l. depth (tuple_of l)) c.trim_end.ensures.trimmed, trim_depth (map part c.args.parts.items), c.requires.shallow)

pub invariant_of-result : goal.invariant_of-result
invariant_of-result c =
    let ps = map part c.args.parts.items in
    let kept : map part c.in_ok-new.field-0.value.items ≡ trim ps = ap (λ v. map part v.items) c.in_ok-new.ensures.ok ∙ c.trim_end.ensures.trimmed in
    let fine : AllByRecursion PartIsWellFormed ps = subst (λ l. AllByRecursion PartIsWellFormed (map part l)) c.as_slice.ensures.value c.learn_parts.ensures in
    let deep : c.depth_of-deep.result ≡ deep_of c.in_ok-new.field-0.value.items = c.depth_of-deep.ensures ∙ ap deep_of (c.as_slice-2.ensures.value ∙ sym (ap (λ v. v.items) c.in_ok-new.ensures.ok)) in
    (subst IsTupleList (sym kept) (tuple_made ps fine c.requires.shallow), deep, omega (arith, deep), omega arith, lead_kept c.lead_of-lead.result _ _ (record { sfits = c.lead_of-lead.type_inv }) c.lead_of-lead.ensures (c.as_slice-3.ensures.value ∙ sym (ap (λ v. v.items) c.in_ok-new.ensures.ok)))
