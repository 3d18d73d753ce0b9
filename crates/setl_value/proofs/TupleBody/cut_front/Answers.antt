use Rattle.std.proofs.Common.{List, ℕ, max, Option, ◌≡◌, ◌∙◌, ◌+◌, ◌<◌, ◌≤◌, ap, arith, sym, subst, map, drop, length}
use Rattle.std.proofs.lemmas.Bool.{ltb-false}
use Rattle.std.proofs.lemmas.List.{length-drop}
use Rattle.setl_value.specs.Datum.{Datum, depth, part_depth, tuple_of}
use Rattle.std.specs.Prelude.{slice_get, unwrap_or, None}
use Rattle.setl_value.specs.code.DatumOf.{part}
use Rattle.setl_value.proofs.Leads.{lead_kept}
use Rattle.setl_value.specs.WellFormed.{IsTupleList}
use Rattle.setl_value.proofs.Fronts.{behind_front, deep_of, drop_less, drop_one, front_depth, left_less, left_long, tuple_tail}
use Rattle.setl_value.proofs.TupleBody.cut_front.Goals.{then-deep-self, else-deep-self}
use Rattle.setl_value.proofs.TupleBody.cut_front.Goals as goal

-- the depth of a tuple of which the first component goes
falls : (ps rest : List (Option Datum)) (gone : ℕ) → 0 < length ps → rest ≡ drop 1 ps → gone ≡ part_depth (unwrap_or (slice_get ps 0) None)
    → max (depth (tuple_of rest)) (gone + 1) ≡ depth (tuple_of ps)
falls ps rest gone h e g = omega (arith, front_depth ps h, ap (λ l. depth (tuple_of l)) e, g)

pub depth_after-deep-requires-clause-changed : goal.depth_after-deep-requires-clause-changed
depth_after-deep-requires-clause-changed c =
    let s = c.self.inside.start in
    let xs = c.self.inside.parts.value.items in
    let ps = map part (drop s xs) in
    let first : c.from.result.now ≡ drop s xs = c.from.ensures ∙ ap (drop s) (c.deref-2.ensures.value ∙ ap (λ v. v.items) c.deref.ensures) in
    let rest : c.from-2.result.now ≡ drop (s + 1) xs = c.from-2.ensures ∙ ap (drop (s + 1)) (c.deref-4.ensures.value ∙ ap (λ v. v.items) c.deref-3.ensures) in
    let gone : c.depth_at-gone.result ≡ part_depth (unwrap_or (slice_get ps 0) None) = c.depth_at-gone.ensures.depth ∙ ap (λ l. part_depth (unwrap_or (slice_get (map part l) 0) None)) first in
    omega (
      arith,
      falls ps (map part c.from-2.result.now) c.depth_at-gone.result (subst (λ l. 0 < length l) (sym c.self.view_is) c.requires) (ap (map part) rest ∙ behind_front s xs) gone,
      c.self.invariant.1,
    )

pub invariant_of-self-else-self-len : goal.invariant_of-self-else-self-len
invariant_of-self-else-self-len c =
    let s = c.self.inside.start in
    let xs = c.self.inside.parts.value.items in
    let t = c.take_first.new.start in
    let ys = c.take_first.new.items.value.items in
    let taken = c.in_ok-first-2.ensures.taken in
    let rest : c.from-2.result.now ≡ drop t ys = c.from-2.ensures ∙ ap (drop (s + 1)) (c.deref-4.ensures.value ∙ ap (λ v. v.items) c.deref-3.ensures) ∙ drop_one s xs ∙ ap (drop 1) taken in
    let stays : c.self.inside.deep ≤ c.depth_after-deep.result =
    elim c.if-deep-self.branch [ then-deep-self w ↦ ltb-false c.depth_after-deep.result c.self.inside.deep (sym w.value-is ∙ c.if-self-len.false) | else-deep-self w ↦ w.if-deep-self.false ] in
    let deep : c.self.inside.deep ≡ deep_of (drop t ys) = omega (arith, c.depth_after-deep.ensures, ap deep_of rest, stays, drop_less t ys, left_less xs ys s c.take_first.ensures.left, c.self.invariant.2) in (
      subst IsTupleList (ap (λ l. drop 1 (map part l)) taken) (tuple_tail (map part (drop s xs)) c.self.invariant.0),
      deep,
      omega (arith, left_less xs ys s c.take_first.ensures.left, c.self.invariant.2),
      omega (arith, left_long xs ys s c.take_first.ensures.left, c.in_ok-first-2.ensures.next, ap length taken, length-drop s xs),
      lead_kept c.lead_of-self-inside-else-self-len.result _ _ (record { sfits = c.lead_of-self-inside-else-self-len.type_inv }) c.lead_of-self-inside-else-self-len.ensures (c.from-else-self-len.ensures ∙ ap (drop t) (c.deref-else-self-len-2.ensures.value ∙ ap (λ v. v.items) c.deref-else-self-len.ensures)),
    )

pub returns-in_ok-first-2-clause-cut : goal.returns-in_ok-first-2-clause-cut
returns-in_ok-first-2-clause-cut c = sym c.self.view_is ∙ ap (map part) c.in_ok-first-2.ensures.taken
