use Rattle.std.proofs.Common.{ℕ, List, Option, ◌≡◌, ◌∙◌, ◌+◌, ◌-◌, ap, arith, sym, subst, map, max, drop, length, Some, None}
use Rattle.std.specs.Prelude.{slice_get, unwrap_or}
use Rattle.std.specs.List.{remove}
use Rattle.setl_value.proofs.Depths.{tuple_without}
use Rattle.setl_value.proofs.Fronts.{deep_of, end_taken, end_cut, settles}
use Rattle.setl_value.proofs.Trim.{tuple_remove}
use Rattle.setl_value.specs.Datum.{Datum, depth, part_depth, tuple_of}
use Rattle.setl_value.specs.code.DatumOf.{part}
use Rattle.setl_value.proofs.Leads.{lead_kept}
use Rattle.setl_value.specs.WellFormed.{IsTupleList, trim}
use Rattle.setl_value.proofs.TupleBody.cut_back.Goals as goal

-- the depth of a tuple that lost its last component
falls : (ps rest : List (Option Datum)) (last : Option Datum) (len gone before : ℕ) → slice_get ps (length ps - 1) ≡ Some last → rest ≡ trim (remove ps (length ps - 1))
    → len ≡ length ps → gone ≡ part_depth (unwrap_or (slice_get ps (len - 1)) None) → before ≡ depth (tuple_of ps) → max (depth (tuple_of rest)) (gone + 1) ≡ max before (0 + 1)
falls ps rest last len gone before taken cut n g b =
    let same : gone ≡ part_depth last = g ∙ ap (λ k. part_depth (unwrap_or (slice_get ps (k - 1)) None)) n ∙ ap (λ o. part_depth (unwrap_or o None)) taken in
    omega (arith, tuple_without ps (length ps - 1) last taken, ap (λ l. depth (tuple_of l)) cut, same, b)

pub depth_after-self-inside-requires-clause-changed : goal.depth_after-self-inside-requires-clause-changed
depth_after-self-inside-requires-clause-changed c =
    let ps = c.args.self.now in
    let s = c.in_ok-self-inside.field-0 in
    let xs = c.settled.new.parts.value.items in
    let w : map part (drop s xs) ≡ ps = ap (map part) c.in_ok-self-inside.ensures.same ∙ c.self.view_is in
    let last = c.in_ok-last.last in
    let gone : c.depth_at-gone.result ≡ part_depth (unwrap_or (slice_get ps (c.len.result - 1)) None) =
    c.depth_at-gone.ensures.depth
    ∙ ap (λ l. part_depth (unwrap_or (slice_get l (c.len.result - 1)) None)) (ap (map part) (c.from.ensures ∙ ap (drop c.self.inside.start) (c.deref-2.ensures.value ∙ ap (λ v. v.items) c.deref.ensures)) ∙ c.self.view_is) in
    let left : map part c.from-2.result.now ≡ trim (remove ps (length ps - 1)) =
    ap (map part) (c.from-2.ensures ∙ ap (drop s) (c.deref-4.ensures.value ∙ ap (λ v. v.items) c.deref-3.ensures))
    ∙ end_cut s xs ps w c.requires (map part (drop s c.cut_last.new.parts.value.items)) c.in_ok-last.ensures.cut in
    falls ps (map part c.from-2.result.now) (part last) c.len.result c.depth_at-gone.result c.self.inside.deep (end_taken s xs ps w c.requires last c.in_ok-last.ensures.taken) left c.len.ensures gone
    (c.self.invariant.1 ∙ ap (λ l. depth (tuple_of l)) c.self.view_is)

pub invariant_of-self-2 : goal.invariant_of-self-2
invariant_of-self-2 c =
    let ps = c.args.self.now in
    let s = c.in_ok-self-inside.field-0 in
    let xs = c.settled.new.parts.value.items in
    let ys = c.cut_last.new.parts.value.items in
    let w : map part (drop s xs) ≡ ps = ap (map part) c.in_ok-self-inside.ensures.same ∙ c.self.view_is in
    let last = c.in_ok-last.last in
    let gone : c.depth_at-gone.result ≡ part_depth (unwrap_or (slice_get ps (c.len.result - 1)) None) =
    c.depth_at-gone.ensures.depth
    ∙ ap (λ l. part_depth (unwrap_or (slice_get l (c.len.result - 1)) None)) (ap (map part) (c.from.ensures ∙ ap (drop c.self.inside.start) (c.deref-2.ensures.value ∙ ap (λ v. v.items) c.deref.ensures)) ∙ c.self.view_is) in
    let left : map part (drop s ys) ≡ trim (remove ps (length ps - 1)) = end_cut s xs ps w c.requires (map part (drop s ys)) c.in_ok-last.ensures.cut in
    let deep : c.depth_after-self-inside.result ≡ deep_of (drop s ys) =
    c.depth_after-self-inside.ensures ∙ ap deep_of (c.from-2.ensures ∙ ap (drop s) (c.deref-4.ensures.value ∙ ap (λ v. v.items) c.deref-3.ensures)) in
    let fell : max (deep_of (drop s ys)) (c.depth_at-gone.result + 1) ≡ max c.self.inside.deep (0 + 1) =
    falls ps (map part (drop s ys)) (part last) c.len.result c.depth_at-gone.result c.self.inside.deep (end_taken s xs ps w c.requires last c.in_ok-last.ensures.taken) left c.len.ensures gone
    (c.self.invariant.1 ∙ ap (λ l. depth (tuple_of l)) c.self.view_is) in (
      subst IsTupleList (sym left) (tuple_remove ps (length ps - 1) (subst IsTupleList c.self.view_is c.self.invariant.0)),
      deep,
      settles s ys c.depth_after-self-inside.result c.self.inside.deep c.depth_at-gone.result 0 c.in_ok-self-inside.ensures.settled deep
          (omega (arith, fell, deep)) (omega (arith, deep)) (omega (arith, c.in_ok-last.ensures.shallow, c.in_ok-self-inside.ensures.shallow, c.self.invariant.2)),
      c.in_ok-last.ensures.inside,
      lead_kept c.lead_of-self-inside.result _ _ (record { sfits = c.lead_of-self-inside.type_inv }) c.lead_of-self-inside.ensures (c.from-3.ensures ∙ ap (drop s) (c.deref-6.ensures.value ∙ ap (λ v. v.items) c.deref-5.ensures)),
    )

pub returns-clause-taken : goal.returns-clause-taken
returns-clause-taken c =
    end_taken c.in_ok-self-inside.field-0 c.settled.new.parts.value.items c.args.self.now (ap (map part) c.in_ok-self-inside.ensures.same ∙ c.self.view_is) c.requires c.in_ok-last.last c.in_ok-last.ensures.taken

pub returns-clause-cut : goal.returns-clause-cut
returns-clause-cut c =
    let s = c.in_ok-self-inside.field-0 in
    end_cut s c.settled.new.parts.value.items c.args.self.now (ap (map part) c.in_ok-self-inside.ensures.same ∙ c.self.view_is) c.requires (map part (drop s c.cut_last.new.parts.value.items)) c.in_ok-last.ensures.cut
