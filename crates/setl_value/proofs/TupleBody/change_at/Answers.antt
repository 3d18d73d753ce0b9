use Rattle.std.proofs.Common.{◌≡◌, ap, sym, subst, ◌∙◌, arith, ◌+◌, ◌⊎◌, inl, inr, Some, None, slice_get, slice_set, map, drop, refl}
use Rattle.std.specs.Fn.{FnOnceReturnsAtMut}
use Rattle.std.specs.Prelude.{IfNone, IfSome, unwrap_or}
use Rattle.std.specs.Option.{option_map}
use Rattle.std.proofs.lemmas.Option.{slice_get-map}
use Rattle.setl_value.specs.declared.Value.{Value}
use Rattle.setl_value.specs.Datum.{part_depth}
use Rattle.setl_value.specs.code.DatumOf.{datum, part}
use Rattle.setl_value.proofs.Leads.{lead_kept}
use Rattle.setl_value.specs.WellFormed.{PartIsWellFormed}
use Rattle.setl_value.proofs.Changing.{was, now, is, holds, get_behind}
use Rattle.setl_value.proofs.TupleBody.change_at.Goals as goal

pub invariant_of-self-in-Some : goal.invariant_of-self-in-Some
invariant_of-self-in-Some g c =
    let xs = c.self.inside.parts.value.items in
    let ys = c.change_part.new.parts.value.items in
    let s = c.self.inside.start in
    let i = c.args.i in
    let e = subst (λ o. IfSome o (λ r. (v : Value) × (w : Value) × (slice_get xs (s + i) ≡ Some (Some v)) × FnOnceReturnsAtMut g.F.FnOnce c.args.change v r w × (ys ≡ slice_set xs (s + i) (Some w)))) c.in-Some.is c.in_ok-change_part.ensures.changed in
    let v = e.0 in
    let w = e.1 in
    let there = e.2 in
    let written = e.4 in
    let before : slice_get c.args.self.now i ≡ Some (Some (datum v)) = ap (λ l. slice_get l i) (sym c.self.view_is) ∙ was xs ys s i v w there written in
    let grows = c.requires.grows (datum v) before c.in-Some.answer (datum w) (record { before = v; after = w; was = refl; met = e.3; is = refl }) in
    let left = ap (map part) (c.from.ensures ∙ ap (drop s) (c.deref-in-Some.ensures.value ∙ ap (λ l. l.items) c.deref.ensures)) in
    let after = ap (λ l. unwrap_or (slice_get l i) None) left ∙ ap (λ o. unwrap_or o None) (is xs ys s i v w there written) in
    let held =
    holds xs ys s i v w there written c.self.inside.deep c.max-self-inside.result c.self.invariant.0 c.self.invariant.1 c.self.invariant.2 c.self.invariant.3
    (subst PartIsWellFormed after c.depth_at-came.ensures.stands) grows.0 grows.1 (omega (arith, c.max-self-inside.ensures, c.depth_at-came.ensures.depth, ap part_depth after)) in (
      held.0,
      held.1,
      held.2,
      held.3,
      lead_kept c.lead_of-self-inside.result _ _ (record { sfits = c.lead_of-self-inside.type_inv }) c.lead_of-self-inside.ensures (c.from-in-Some.ensures ∙ ap (drop s) (c.deref-in-Some-3.ensures.value ∙ ap (λ v. v.items) c.deref-in-Some-2.ensures)),
    )

pub returns-in-None-clause-nothing : goal.returns-in-None-clause-nothing
returns-in-None-clause-nothing g c =
    let xs = c.self.inside.parts.value.items in
    let s = c.self.inside.start in
    let i = c.args.i in
    let there : slice_get c.args.self.now i ≡ option_map part (slice_get xs (s + i)) = ap (λ l. slice_get l i) (sym c.self.view_is) ∙ slice_get-map part (drop s xs) i ∙ ap (option_map part) (get_behind s i xs) in
    let e = subst (λ o. IfNone o ((slice_get xs (s + i) ≡ Some None) ⊎ (slice_get xs (s + i) ≡ None))) c.in-None.is c.in_ok-change_part.ensures.nothing in
    elim e [ inl h ↦ inl (there ∙ ap (option_map part) h) | inr h ↦ inr (there ∙ ap (option_map part) h) ]

pub returns-in-Some-clause-changed : goal.returns-in-Some-clause-changed
returns-in-Some-clause-changed g c =
    let xs = c.self.inside.parts.value.items in
    let ys = c.change_part.new.parts.value.items in
    let s = c.self.inside.start in
    let i = c.args.i in
    let e = subst (λ o. IfSome o (λ r. (v : Value) × (w : Value) × (slice_get xs (s + i) ≡ Some (Some v)) × FnOnceReturnsAtMut g.F.FnOnce c.args.change v r w × (ys ≡ slice_set xs (s + i) (Some w)))) c.in-Some.is c.in_ok-change_part.ensures.changed in
    let v = e.0 in
    let w = e.1 in
    let there = e.2 in
    let written = e.4 in (
      datum v,
      datum w,
      ap (λ l. slice_get l i) (sym c.self.view_is) ∙ was xs ys s i v w there written,
      record { before = v; after = w; was = refl; met = e.3; is = refl },
      now xs ys s i v w there written ∙ ap (λ l. slice_set l i (Some (datum w))) c.self.view_is,
    )
