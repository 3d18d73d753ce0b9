-- The table that a walk finds.
use Rattle.std.proofs.Common.{◌≡◌, ℕ, zero, suc, ◌<◌, ◌≤◌, true, false, List, [], ◌∷◌, ◌++◌, length, get_or, replicate, Option, Some, None, option_map, refl, sym, ap, ◌∙◌, subst, inl, inr, arith}
use Rattle.std.specs.Prelude.{slice_set}
use Rattle.std.proofs.lemmas.Bool.{cases_eq}
use Rattle.std.proofs.lemmas.List.Sums.{sum_by-cons}
use Rattle.std.proofs.lemmas.List.{get_or-set_same, get_or-set_other, map-set}
use Rattle.setl_code.specs.Shapes.{Shape, all_serve}
use Rattle.setl_code.specs.Sound.{shape_at, says}
use Rattle.setl_image_shapes.specs.declared.walk.Walk.{Walk}
use Rattle.setl_image_shapes.specs.Runs.{Grown, Finds}
use Rattle.setl_image_shapes.specs.Joins.{joined}
use Rattle.setl_image_shapes.specs.Tables.{table_of, AreThere, Changed, Came, Arrived, one_if_none, unreached}
use Rattle.setl_image_shapes.proofs.Arriving.{arrive_stays, arrive_reaches, arrive_falls, refused_past, refused_apart}
use Rattle.setl_image_shapes.proofs.Parting.{grown_same}

same_some : {A : Type 0} {x y : A} → Some x ≡ Some y → x ≡ y
same_some h = cc

-- ---- tables of stacks

pub table_grown : (one two : List Shape) (found : List (Option ℕ)) → Grown one two → AreThere one found → table_of two found ≡ table_of one found
table_grown one two [] grown there = refl
table_grown one two (None ∷ found) grown there = ap (λ t. None ∷ t) (table_grown one two found grown (λ at k is. there (suc at) k is))
table_grown one two (Some n ∷ found) grown there =
    ap (λ s. Some s ∷ table_of two found) (grown n (there 0 n refl)).1 ∙ ap (λ t. Some (get_or one n []) ∷ t) (table_grown one two found grown (λ at k is. there (suc at) k is))

pub there_grown : (one two : List Shape) (found : List (Option ℕ)) → Grown one two → AreThere one found → AreThere two found
there_grown one two found grown there at k is = (grown k (there at k is)).0

table_set : (stacks : List Shape) (found : List (Option ℕ)) (to k : ℕ) → table_of stacks (slice_set found to (Some k)) ≡ slice_set (table_of stacks found) to (Some (get_or stacks k []))
table_set stacks found to k = map-set (option_map (λ n. get_or stacks n [])) found to (Some k)

there_set : (stacks : List Shape) (found : List (Option ℕ)) (to k : ℕ) → to < length found → k < length stacks → AreThere stacks found → AreThere stacks (slice_set found to (Some k))
there_set stacks found to k within less there at j is = elim (cases_eq at to) [
  | inl same ↦
      let here : k ≡ j = same_some (sym (get_or-set_same found to (Some k) None within) ∙ ap (λ i. get_or (slice_set found to (Some k)) i None) (sym same) ∙ is) in
      omega (arith, less, here)
  | inr other ↦ there at j (sym (get_or-set_other found to at (Some k) None other) ∙ is)
]

pub table_at : (stacks : List Shape) (found : List (Option ℕ)) (at : ℕ) → shape_at (table_of stacks found) at ≡ option_map (λ k. get_or stacks k []) (get_or found at None)
table_at stacks [] at = refl
table_at stacks (n ∷ found) zero = refl
table_at stacks (n ∷ found) (suc at) = table_at stacks found at

pub table_long : (stacks : List Shape) (found : List (Option ℕ)) → length (table_of stacks found) ≡ length found
table_long stacks [] = refl
table_long stacks (n ∷ found) = ap suc (table_long stacks found)

-- ---- nothing is found yet

pub none_at : (stacks : List Shape) (n at : ℕ) → shape_at (table_of stacks (replicate n None)) at ≡ None
none_at stacks zero at = refl
none_at stacks (suc n) zero = refl
none_at stacks (suc n) (suc at) = none_at stacks n at

pub none_unreached : (stacks : List Shape) (n : ℕ) → unreached (table_of stacks (replicate n None)) ≤ n
none_unreached stacks zero = omega arith
none_unreached stacks (suc n) = omega (arith, sum_by-cons one_if_none None (table_of stacks (replicate n None)), none_unreached stacks n)

-- ---- a stack arrives

-- a stack is noted at a step, where stacks grew before
module _ (w m v : Walk) (to number : ℕ) (grown : Grown w.stacks m.stacks) (same : m.found.items ≡ w.found.items) (pending : m.pending.items ≡ w.pending.items) (there : AreThere w.stacks w.found.items) (within : to < length m.found.items) (less : number < length m.stacks) (changed : Changed m to number v) where
  table_changed : table_of v.stacks v.found.items ≡ slice_set (table_of w.stacks w.found.items) to (Some (get_or m.stacks number []))
  table_changed =
      ap (λ s. table_of s v.found.items) changed.stacks
      ∙ ap (table_of m.stacks) changed.found
      ∙ table_set m.stacks m.found.items to number
      ∙ ap (λ f. slice_set (table_of m.stacks f) to (Some (get_or m.stacks number []))) same
      ∙ ap (λ t. slice_set t to (Some (get_or m.stacks number []))) (table_grown w.stacks m.stacks w.found.items grown there)

  there_changed : AreThere v.stacks v.found.items
  there_changed =
      let before : AreThere m.stacks m.found.items = subst (AreThere m.stacks) (sym same) (there_grown w.stacks m.stacks w.found.items grown there) in
      subst (λ s. AreThere s v.found.items) (sym changed.stacks) (subst (AreThere m.stacks) (sym changed.found) (there_set m.stacks m.found.items to number within less before))

  grown_changed : Grown w.stacks v.stacks
  grown_changed = subst (Grown w.stacks) (sym changed.stacks) grown

  came_changed : (s : Shape) → Arrived (table_of w.stacks w.found.items) w.pending.items ((to, s) ∷ []) (slice_set (table_of w.stacks w.found.items) to (Some (get_or m.stacks number []))) (w.pending.items ++ to ∷ []) → Came true w ((to, s) ∷ []) v
  came_changed s arrived =
      let p : v.pending.items ≡ w.pending.items ++ to ∷ [] = changed.pending ∙ ap (λ x. x ++ to ∷ []) pending in
      (there_changed, grown_changed, rw table_changed (rw p arrived))

pub came_reached : (w v : Walk) (to number : ℕ) → AreThere w.stacks w.found.items → number < length w.stacks → to < length w.found.items → get_or w.found.items to None ≡ None → Changed w to number v → Came true w ((to, get_or w.stacks number []) ∷ []) v
came_reached w v to number there less within none changed =
    let at : shape_at (table_of w.stacks w.found.items) to ≡ None = table_at w.stacks w.found.items to ∙ ap (option_map (λ k. get_or w.stacks k [])) none in
    came_changed w w v to number (grown_same w.stacks) refl refl there within less changed (get_or w.stacks number [])
    (arrive_reaches (table_of w.stacks w.found.items) w.pending.items to (get_or w.stacks number []) (omega (arith, within, table_long w.stacks w.found.items)) at)

-- the walk as it was, but for stacks that grew
pub record Kept (w m : Walk) : Type 0 where
  pub grown : Grown w.stacks m.stacks
  pub found : m.found.items ≡ w.found.items
  pub pending : m.pending.items ≡ w.pending.items

known_at : (w : Walk) (to known : ℕ) → get_or w.found.items to None ≡ Some known → shape_at (table_of w.stacks w.found.items) to ≡ Some (get_or w.stacks known [])
known_at w to known is = table_at w.stacks w.found.items to ∙ ap (option_map (λ k. get_or w.stacks k [])) is

pub came_served : (w m : Walk) (to number known : ℕ) → Kept w m → AreThere w.stacks w.found.items → get_or w.found.items to None ≡ Some known → all_serve (get_or w.stacks number []) (get_or w.stacks known []) ≡ true → Came true w ((to, get_or w.stacks number []) ∷ []) m
came_served w m to number known kept there is serve =
    let said : says (shape_at (table_of w.stacks w.found.items) to) (get_or w.stacks number []) ≡ true = subst (λ o. says o (get_or w.stacks number []) ≡ true) (sym (known_at w to known is)) serve in
    let same : table_of m.stacks m.found.items ≡ table_of w.stacks w.found.items = ap (table_of m.stacks) kept.found ∙ table_grown w.stacks m.stacks w.found.items kept.grown there in
    (subst (AreThere m.stacks) (sym kept.found) (there_grown w.stacks m.stacks w.found.items kept.grown there), kept.grown, rw same (rw kept.pending (arrive_stays (table_of w.stacks w.found.items) w.pending.items to (get_or w.stacks number []) said)))

pub came_apart : (w m : Walk) (to number known : ℕ) → Kept w m → AreThere w.stacks w.found.items → get_or w.found.items to None ≡ Some known → joined (get_or w.stacks known []) (get_or w.stacks number []) ≡ None → Came false w ((to, get_or w.stacks number []) ∷ []) m
came_apart w m to number known kept there is apart = (
  subst (AreThere m.stacks) (sym kept.found) (there_grown w.stacks m.stacks w.found.items kept.grown there),
  kept.grown,
  refused_apart (table_of w.stacks w.found.items) to (get_or w.stacks number []) (get_or w.stacks known []) (known_at w to known is) apart,
)

pub came_past : (w : Walk) (to number : ℕ) → AreThere w.stacks w.found.items → length w.found.items ≤ to → Came false w ((to, get_or w.stacks number []) ∷ []) w
came_past w to number there past = (there, grown_same w.stacks, refused_past (table_of w.stacks w.found.items) to (get_or w.stacks number []) (omega (arith, past, table_long w.stacks w.found.items)))

pub came_fallen : (w m v : Walk) (to number known both : ℕ) → Kept w m → AreThere w.stacks w.found.items → to < length w.found.items → both < length m.stacks → get_or w.found.items to None ≡ Some known → all_serve (get_or w.stacks number []) (get_or w.stacks known []) ≡ false → joined (get_or w.stacks known []) (get_or w.stacks number []) ≡ Some (get_or m.stacks both []) → Changed m to both v → Came true w ((to, get_or w.stacks number []) ∷ []) v
came_fallen w m v to number known both kept there within less is not join changed =
    came_changed w m v to both kept.grown kept.found kept.pending there (omega (arith, within, ap length kept.found)) less changed (get_or w.stacks number [])
    (arrive_falls (table_of w.stacks w.found.items) w.pending.items to (get_or w.stacks number []) (get_or w.stacks known []) (get_or m.stacks both []) (known_at w to known is) not join)

-- ---- what is read

pub read_at : (found : List (Option ℕ)) (k : ℕ) (r : Option ℕ) → k < length found → r ≡ get_or found k r → get_or found k None ≡ r
read_at [] k r less is = absurd (omega (arith, less))
read_at (n ∷ found) zero r less is = sym is
read_at (n ∷ found) (suc k) r less is = read_at found k r (omega (arith, less)) is

pub found_none : (stacks : List Shape) (f : Option ℕ) (o : Option Shape) → f ≡ None → Finds stacks f o → o ≡ None
found_none stacks f o is found = subst (λ n. Finds stacks n o) is found

pub found_some : (stacks : List Shape) (f : Option ℕ) (k : ℕ) (o : Option Shape) → f ≡ Some k → Finds stacks f o → (k < length stacks) × (o ≡ Some (get_or stacks k []))
found_some stacks f k o is found = subst (λ n. Finds stacks n o) is found

-- two stacks are joined alike after stacks grew
pub joined_grown : (one two : List Shape) (a b : ℕ) → Grown one two → a < length one → b < length one → joined (get_or two a []) (get_or two b []) ≡ joined (get_or one a []) (get_or one b [])
joined_grown one two a b grown first second = ap (λ s. joined s (get_or two b [])) (grown a first).1 ∙ ap (joined (get_or one a [])) (grown b second).1
