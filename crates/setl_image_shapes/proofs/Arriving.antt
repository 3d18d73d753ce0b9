-- Shapes arrive at steps.
use Rattle.std.proofs.Common.{◌≡◌, ℕ, zero, suc, ◌+◌, ◌<◌, ◌≤◌, true, false, List, [], ◌∷◌, ◌++◌, length, get_or, Option, Some, None, refl, sym, ap, ◌∙◌, subst, inl, inr, ◌⊎◌, arith}
use Rattle.std.specs.Prelude.{slice_set}
use Rattle.std.specs.List.{Contains, sum_by}
use Rattle.std.proofs.lemmas.Bool.{cases_lt, cases_eq}
use Rattle.std.proofs.lemmas.List.{length-append, length-set, get_or-set_same, get_or-set_other, get_or_append_left}
use Rattle.std.proofs.lemmas.List.Sums.{sum_by-set}
use Rattle.std.proofs.Math.Seq.{get_or-append_seam}
use Rattle.setl_code.specs.Shapes.{Shape, all_serve}
use Rattle.setl_code.specs.Sound.{Table, shape_at, says, all_said}
use Rattle.setl_image_shapes.specs.Joins.{joined, collections}
use Rattle.setl_image_shapes.specs.Tables.{Serve, one_if_none, unreached, FewBegun, FewMore, weight, room, Arrived, Refused}
use Rattle.setl_image_shapes.proofs.Joining.{both_true, true_both, serve_same, serve_trans, serve_fewer, join_serves, join_least, join_falls}

-- ---- tables

pub same_shape : (table : Table) (at : ℕ) → shape_at table at ≡ get_or table at None
same_shape [] at = refl
same_shape (s ∷ ss) zero = refl
same_shape (s ∷ ss) (suc at) = same_shape ss at

pub shape_past : (table : Table) (at : ℕ) → length table ≤ at → shape_at table at ≡ None
shape_past [] at past = refl
shape_past (s ∷ ss) zero past = absurd (omega (arith, past))
shape_past (s ∷ ss) (suc at) past = shape_past ss at (omega (arith, past))

set_here : (table : Table) (to : ℕ) (s : Option Shape) → to < length table → shape_at (slice_set table to s) to ≡ s
set_here table to s within = same_shape (slice_set table to s) to ∙ get_or-set_same table to s None within

set_other : (table : Table) (to at : ℕ) (s : Option Shape) → (at ≡ to → ⊥) → shape_at (slice_set table to s) at ≡ shape_at table at
set_other table to at s other = same_shape (slice_set table to s) at ∙ get_or-set_other table to at s None other ∙ sym (same_shape table at)

same_some : {A : Type 0} {x y : A} → Some x ≡ Some y → x ≡ y
same_some h = cc

-- ---- what is pending

pub contains_front : (p q : List ℕ) (at : ℕ) → Contains p at → Contains (p ++ q) at
contains_front p q at h = (h.0, omega (arith, h.1, length-append p q), get_or_append_left p q at h.0 h.1 ∙ h.2)

pub contains_last : (p : List ℕ) (at : ℕ) → Contains (p ++ at ∷ []) at
contains_last p at = (length p, omega (arith, length-append p (at ∷ [])), get_or-append_seam p at [] at)

pub contains_split : (p : List ℕ) (to at : ℕ) → Contains (p ++ to ∷ []) at → Contains p at ⊎ (at ≡ to)
contains_split p to at h = elim (cases_lt h.0 (length p)) [
  | inl before ↦ inl (h.0, before, sym (get_or_append_left p (to ∷ []) at h.0 before) ∙ h.2)
  | inr behind ↦
      let last : h.0 ≡ length p = omega (arith, behind, h.1, length-append p (to ∷ [])) in
      inr (sym h.2 ∙ ap (λ k. get_or (p ++ to ∷ []) k at) last ∙ get_or-append_seam p to [] at)
]

-- ---- nothing changes

pub arrive_stays : (table : Table) (pending : List ℕ) (to : ℕ) (s : Shape) → says (shape_at table to) s ≡ true → Arrived table pending ((to, s) ∷ []) table pending
arrive_stays table pending to s said = record {
  size = refl;
  said = true_both said refl;
  weaker = λ at u h. h;
  stays = λ at h. refl;
  kept = λ at h. h;
  inside = λ at h. inl h;
  fewer = omega arith;
  few = λ few more. (few, omega arith);
  serve = λ other serve all. serve;
}

-- ---- a shape changes

-- What a shape that is put in the place of another one has to meet.
record Replaces (table : Table) (to : ℕ) (s : Shape) (old : Option Shape) (j : Shape) : Type 0 where
  within : to < length table
  is : shape_at table to ≡ old
  said : all_serve s j ≡ true
  weaker : (u : Shape) → says old u ≡ true → all_serve u j ≡ true
  reached : one_if_none (Some j) ≤ one_if_none old
  few : collections s + unreached table ≤ suc (length table) → FewBegun table → (collections j + unreached (slice_set table to (Some j)) ≤ length table) × (collections j < weight (length table) old)
  least : (o : Option Shape) → says o s ≡ true → ((u : Shape) → old ≡ Some u → says o u ≡ true) → says o j ≡ true

module _ (table : Table) (pending : List ℕ) (to : ℕ) (s : Shape) (old : Option Shape) (j : Shape) (r : Replaces table to s old j) where
  now_here : shape_at (slice_set table to (Some j)) to ≡ Some j
  now_here = set_here table to (Some j) r.within

  change_weaker : (at : ℕ) (u : Shape) → says (shape_at table at) u ≡ true → says (shape_at (slice_set table to (Some j)) at) u ≡ true
  change_weaker at u h = elim (cases_eq at to) [
    | inl same ↦
        let was : says old u ≡ true = subst (λ o. says o u ≡ true) (ap (shape_at table) same ∙ r.is) h in
        subst (λ k. says (shape_at (slice_set table to (Some j)) k) u ≡ true) (sym same) (subst (λ o. says o u ≡ true) (sym now_here) (r.weaker u was))
    | inr other ↦ subst (λ o. says o u ≡ true) (sym (set_other table to at (Some j) other)) h
  ]

  change_stays : (at : ℕ) → (Contains (pending ++ to ∷ []) at → ⊥) → shape_at (slice_set table to (Some j)) at ≡ shape_at table at
  change_stays at not = set_other table to at (Some j) (λ same. not (subst (Contains (pending ++ to ∷ [])) (sym same) (contains_last pending to)))

  change_inside : (at : ℕ) → Contains (pending ++ to ∷ []) at → Contains pending at ⊎ (at < length table)
  change_inside at h = elim (contains_split pending to at h) [
    | inl before ↦ inl before
    | inr last ↦ inr (subst (λ k. k < length table) (sym last) r.within)
  ]

  was_here : get_or table to None ≡ old
  was_here = sym (same_shape table to) ∙ r.is

  change_fewer : unreached (slice_set table to (Some j)) ≤ unreached table
  change_fewer =
      let sums = sum_by-set one_if_none table to (Some j) None r.within in
      let here : one_if_none (get_or table to None) ≡ one_if_none old = ap one_if_none was_here in
      omega (arith, sums, here, r.reached)

  change_few : FewBegun table → FewMore table ((to, s) ∷ []) → FewBegun (slice_set table to (Some j)) × (room (slice_set table to (Some j)) (pending ++ to ∷ []) ≤ room table pending)
  change_few few more = (each, less)
    where
      long : length (slice_set table to (Some j)) ≡ length table
      long = length-set table to (Some j)

      each : FewBegun (slice_set table to (Some j))
      each at u is = elim (cases_eq at to) [
        | inl same ↦
            let here : j ≡ u = same_some (sym now_here ∙ ap (shape_at (slice_set table to (Some j))) (sym same) ∙ is) in
            omega (arith, long, ap collections here, (r.few more.0 few).0)
        | inr other ↦ omega (arith, long, change_fewer, few at u (sym (set_other table to at (Some j) other) ∙ is))
      ]

      less : room (slice_set table to (Some j)) (pending ++ to ∷ []) ≤ room table pending
      less =
          let sums = sum_by-set (weight (length table)) table to (Some j) None r.within in
          let here : weight (length table) (get_or table to None) ≡ weight (length table) old = ap (weight (length table)) was_here in
          let same : sum_by (weight (length (slice_set table to (Some j)))) (slice_set table to (Some j)) ≡ sum_by (weight (length table)) (slice_set table to (Some j)) = ap (λ n. sum_by (weight n) (slice_set table to (Some j))) long in
          omega (arith, sums, here, same, (r.few more.0 few).1, length-append pending (to ∷ []))

  change_serve : (other : Table) → Serve table other → all_said other ((to, s) ∷ []) ≡ true → Serve (slice_set table to (Some j)) other
  change_serve other serve all at u is = elim (cases_eq at to) [
    | inl same ↦
        let here : j ≡ u = same_some (sym now_here ∙ ap (shape_at (slice_set table to (Some j))) (sym same) ∙ is) in
        let so = r.least (shape_at other to) (both_true all).0 (λ v was. serve to v (r.is ∙ was)) in
        subst (λ k. says (shape_at other k) u ≡ true) (sym same) (subst (λ v. says (shape_at other to) v ≡ true) here so)
    | inr away ↦ serve at u (sym (set_other table to at (Some j) away) ∙ is)
  ]

  arrive_changes : Arrived table pending ((to, s) ∷ []) (slice_set table to (Some j)) (pending ++ to ∷ [])
  arrive_changes = record {
    size = length-set table to (Some j);
    said = true_both (subst (λ o. says o s ≡ true) (sym now_here) r.said) refl;
    weaker = change_weaker;
    stays = change_stays;
    kept = λ at h. contains_front pending (to ∷ []) at h;
    inside = change_inside;
    fewer = change_fewer;
    few = change_few;
    serve = change_serve;
  }

-- a step is reached
pub arrive_reaches : (table : Table) (pending : List ℕ) (to : ℕ) (s : Shape) → to < length table → shape_at table to ≡ None → Arrived table pending ((to, s) ∷ []) (slice_set table to (Some s)) (pending ++ to ∷ [])
arrive_reaches table pending to s within is = arrive_changes table pending to s None s (record {
  within = within;
  is = is;
  said = serve_same s;
  weaker = λ u h. cc;
  reached = omega arith;
  few = λ more few. few_new more;
  least = λ o h all. h;
})
  where
    few_new : collections s + unreached table ≤ suc (length table) → (collections s + unreached (slice_set table to (Some s)) ≤ length table) × (collections s < suc (length table))
    few_new more =
        let sums = sum_by-set one_if_none table to (Some s) None within in
        let here : one_if_none (get_or table to None) ≡ 1 = ap one_if_none (sym (same_shape table to) ∙ is) in
        (omega (arith, sums, here, more), omega (arith, sums, here, more))

-- a shape falls
pub arrive_falls : (table : Table) (pending : List ℕ) (to : ℕ) (s o j : Shape) → shape_at table to ≡ Some o → all_serve s o ≡ false → joined o s ≡ Some j → Arrived table pending ((to, s) ∷ []) (slice_set table to (Some j)) (pending ++ to ∷ [])
arrive_falls table pending to s o j is not meet = arrive_changes table pending to s (Some o) j (record {
  within = within;
  is = is;
  said = both.1;
  weaker = λ u h. serve_trans u o j h both.0;
  reached = omega arith;
  few = λ more few. few_new few;
  least = least;
})
  where
    both : (all_serve o j ≡ true) × (all_serve s j ≡ true)
    both = join_serves o s j meet

    within : to < length table
    within = elim (cases_lt to (length table)) [
      | inl inside ↦ inside
      | inr past ↦ absurd (none_some (sym (shape_past table to past) ∙ is))
    ]
      where
        none_some : None ≡ Some o → ⊥
        none_some h = cc

    few_new : FewBegun table → (collections j + unreached (slice_set table to (Some j)) ≤ length table) × (collections j < collections o)
    few_new few =
        let sums = sum_by-set one_if_none table to (Some j) None within in
        let here : one_if_none (get_or table to None) ≡ 0 = ap one_if_none (sym (same_shape table to) ∙ is) in
        (omega (arith, sums, here, few to o is, serve_fewer o j both.0), join_falls o s j both.0 both.1 not)

    least : (p : Option Shape) → says p s ≡ true → ((u : Shape) → Some o ≡ Some u → says p u ≡ true) → says p j ≡ true
    least None h all = absurd (let f : false ≡ true = h in cc)
    least (Some t) h all =
        let found = join_least o s t (all o refl) h in
        let same : found.shape ≡ j = same_some (sym found.is ∙ meet) in
        subst (λ x. all_serve x t ≡ true) same found.serve

-- ---- two shapes

pub arrive_both : (one two three : Table) (p q r : List ℕ) (o u : ℕ × Shape) → Arrived one p (o ∷ []) two q → Arrived two q (u ∷ []) three r → Arrived one p (o ∷ u ∷ []) three r
arrive_both one two three p q r o u first second = record {
  size = second.size ∙ first.size;
  said = true_both (second.weaker o.0 o.1 (both_true first.said).0) second.said;
  weaker = λ at s h. second.weaker at s (first.weaker at s h);
  stays = λ at not. second.stays at not ∙ first.stays at (λ h. not (second.kept at h));
  kept = λ at h. second.kept at (first.kept at h);
  inside = inside;
  fewer = omega (arith, first.fewer, second.fewer);
  few = few;
  serve = λ other serve all. second.serve other (first.serve other serve (true_both (both_true all).0 refl)) (both_true all).1;
}
  where
    inside : (at : ℕ) → Contains r at → Contains p at ⊎ (at < length one)
    inside at h = elim (second.inside at h) [
      | inl before ↦ first.inside at before
      | inr within ↦ inr (omega (arith, within, first.size))
    ]

    few : FewBegun one → FewMore one (o ∷ u ∷ []) → FewBegun three × (room three r ≤ room one p)
    few begun more =
        let f = first.few begun (more.0, tt) in
        let s = second.few f.0 (omega (arith, first.fewer, first.size, more.1.0), tt) in
        (s.0, omega (arith, f.1, s.1))

pub arrive_none : (table : Table) (pending : List ℕ) → Arrived table pending [] table pending
arrive_none table pending = record {
  size = refl;
  said = refl;
  weaker = λ at u h. h;
  stays = λ at h. refl;
  kept = λ at h. h;
  inside = λ at h. inl h;
  fewer = omega arith;
  few = λ few more. (few, omega arith);
  serve = λ other serve all. serve;
}

-- ---- refused

pub refused_past : (table : Table) (to : ℕ) (s : Shape) → length table ≤ to → Refused table ((to, s) ∷ [])
refused_past table to s past other size serve all =
    let none = shape_past other to (omega (arith, size, past)) in
    let said : says None s ≡ true = subst (λ o. says o s ≡ true) none (both_true all).0 in
    cc

pub refused_apart : (table : Table) (to : ℕ) (s o : Shape) → shape_at table to ≡ Some o → joined o s ≡ None → Refused table ((to, s) ∷ [])
refused_apart table to s o is apart other size serve all = go (shape_at other to) (serve to o is) (both_true all).0
  where
    go : (p : Option Shape) → says p o ≡ true → says p s ≡ true → ⊥
    go None h i = cc
    go (Some t) h i =
        let found = join_least o s t h i in
        let clash : None ≡ Some found.shape = sym apart ∙ found.is in
        cc

pub refused_first : (table : Table) (o u : ℕ × Shape) → Refused table (o ∷ []) → Refused table (o ∷ u ∷ [])
refused_first table o u refused other size serve all = refused other size serve (true_both (both_true all).0 refl)

pub refused_second : (one two : Table) (p q : List ℕ) (o u : ℕ × Shape) → Arrived one p (o ∷ []) two q → Refused two (u ∷ []) → Refused one (o ∷ u ∷ [])
refused_second one two p q o u first refused other size serve all = refused other (size ∙ sym first.size) (first.serve other serve (true_both (both_true all).0 refl)) (both_true all).1
