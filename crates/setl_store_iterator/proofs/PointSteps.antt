-- The arguments of a map one after the other: the pairs of each stand together in the rising list.
use Rattle.std.specs.Prelude.{◌≡◌, ℕ, zero, suc, ◌+◌, ◌-◌, ◌==◌, ◌<◌, ◌≤◌, length, nat_le, Bool, true, false, cond, List, [], ◌∷◌, drop, map, slice_get, Option, Some, None, is_some, refl}
use Rattle.std.specs.Bool.{if◌then◌else◌}
use Rattle.std.specs.List.{AllByRecursion, filter_map, prefix_len}
use Rattle.std.specs.List.Sorted.{IsStrictlySortedBy}
use Rattle.std.specs.declared.cmp.Ordering.{Ordering}
use Rattle.std.specs.declared.cmp.Ordering.TheVariants.{Less, Equal, Greater}
use Rattle.std.specs.Ordering.{is_eq, ordering_then, ordering_reverse}
use Rattle.std.proofs.Common.{ap, sym, ◌∙◌, subst, arith, ◌⊎◌, inl, inr}
use Rattle.std.proofs.lemmas.Bool.{false≢true, and_parts}
use Rattle.std.proofs.lemmas.Bool.Decides.{nat_tests}
use Rattle.std.proofs.Math.Seq.{drop-nil}
use Rattle.std.proofs.lemmas.List.{drop-drop}
use Rattle.std.proofs.lemmas.List.Sums.{prefix_len-drop_all}
use Rattle.std.specs.Option.{unwrap_or}
use Rattle.setl_value.specs.declared.Value.{Value}
use Rattle.setl_value.specs.declared.Value.TheVariants.{Bool as boolean, Int, Text, Atom, Tuple, Set}
use Rattle.setl_value.specs.code.DatumOf.{datum}
use Rattle.setl_value.specs.Datum.{Datum, tuple, tuple_of, part_then, no_part, part_list, part_list-parts_of, element_list-elements_of}
use Rattle.setl_value.specs.Order.{datum_cmp, IsRising}
use Rattle.setl_value.specs.OrderLaws.{datum_cmp_total, same_datum, equal_iff_same}
use Rattle.setl_value.specs.Pairs.{pair, pair_parts, second_of, is_map, pairs_at, images}
use Rattle.setl_value.specs.WellFormed.{IsSetList}
use Rattle.setl_set.specs.Sets.{insert_datum, insert_by}
use Rattle.setl_map.specs.Maps.{image, domain_of, only}
use Rattle.setl_map.specs.code.Points.{is_at}
use Rattle.setl_model.specs.Core.{Two}
use Rattle.setl_model.specs.Iterations.{map_points}
use Rattle.setl_store_iterator.specs.Points.{points}
use Rattle.setl_store_iterator.proofs.Lists.{drop_at, none_left}

-- ---- pairs as their two parts

abbrev Parts : Type 0
Parts = Datum × Datum

abbrev pairs : List Parts → List Datum
pairs ps = map (λ p. pair p.0 p.1) ps

pair_of : (d : Datum) → is_some (pair_parts d) ≡ true → (p : Parts) × (d ≡ pair p.0 p.1)
pair_of (tuple (part_then x (part_then y no_part))) h = ((x, y), refl)
pair_of d h = absurd (false≢true h)

as_pairs : (ds : List Datum) → is_map ds ≡ true → (ps : List Parts) × (ds ≡ pairs ps)
as_pairs [] h = ([], refl)
as_pairs (d ∷ ds) h =
    let b = and_parts (is_some (pair_parts d)) (is_map ds) h in
    let p = pair_of d b.0 in
    let r = as_pairs ds b.1 in
    (p.0 ∷ r.0, λ i. p.1 i ∷ r.1 i)

-- ---- first parts rise

same_itself : (x : Datum) → datum_cmp x x ≡ Equal
same_itself x = (equal_iff_same x x).1 refl

not_down : (a b c d : Datum) → datum_cmp a c ≡ Greater → datum_cmp (pair a b) (pair c d) ≡ Less → ⊥
not_down a b c d e h = let r = ap (λ o. ordering_then o (ordering_then (datum_cmp b d) Equal)) e in cc

-- what is below one first part is below the next
still_below : (x a b c d : Datum) (o : Ordering) → datum_cmp a c ≡ o → datum_cmp (pair a b) (pair c d) ≡ Less → datum_cmp x a ≡ Less → datum_cmp x c ≡ Less
still_below x a b c d Less e h l = datum_cmp_total.trans x a c l e
still_below x a b c d Equal e h l = subst (λ z. datum_cmp x z ≡ Less) (same_datum a c e) l
still_below x a b c d Greater e h l = absurd (not_down a b c d e h)

abbrev Above : Datum → List Parts → Type 0
Above x ps = AllByRecursion (λ p. datum_cmp x p.0 ≡ Less) ps

all_above : (x : Datum) (p : Parts) (ps : List Parts) → IsRising (pairs (p ∷ ps)) → datum_cmp x p.0 ≡ Less → Above x (p ∷ ps)
unfolding IsStrictlySortedBy
all_above x p [] r l = (l, tt)
all_above x p (q ∷ qs) r l = (l, all_above x q qs r.1 (still_below x p.0 p.1 q.0 q.1 (datum_cmp p.0 q.0) refl r.0.0 l))

-- ---- behind the pairs of x

abbrev rest_by : Ordering → Parts → List Parts → List Parts → List Parts
rest_by Less p ps behind = p ∷ ps
rest_by Equal p ps behind = behind
rest_by Greater p ps behind = p ∷ ps

abbrev rest : Datum → List Parts → List Parts
rest x [] = []
rest x (p ∷ ps) = rest_by (datum_cmp x p.0) p ps (rest x ps)

abbrev run : Datum → List Parts → ℕ
run x ps = prefix_len (is_at x) (pairs ps)

drop_more : (n : ℕ) (d : Datum) (ds : List Datum) → drop (1 + n) (d ∷ ds) ≡ drop n ds
drop_more n d ds = ap (λ k. drop k (d ∷ ds)) {x = 1 + n} {y = suc n} (omega arith)

drop_run_by : (o : Ordering) (p : Parts) (ps behind : List Parts) (n : ℕ) → drop n (pairs ps) ≡ pairs behind → drop (cond (is_eq o) (1 + n) 0) (pairs (p ∷ ps)) ≡ pairs (rest_by o p ps behind)
drop_run_by Less p ps behind n h = refl
drop_run_by Equal p ps behind n h = drop_more n (pair p.0 p.1) (pairs ps) ∙ h
drop_run_by Greater p ps behind n h = refl

drop_run : (x : Datum) (ps : List Parts) → drop (run x ps) (pairs ps) ≡ pairs (rest x ps)
drop_run x [] = refl
drop_run x (p ∷ ps) = drop_run_by (datum_cmp x p.0) p ps (rest x ps) (run x ps) (drop_run x ps)

-- behind them all first parts are above x
abbrev Behind : Datum → Datum → List Parts → Type 0
Behind x y ps = IsRising (pairs ((x, y) ∷ ps)) → Above x (rest x ps)

behind_by : (x y a b : Datum) (ps : List Parts) (o : Ordering) → datum_cmp x a ≡ o → Behind x b ps → IsRising (pairs ((x, y) ∷ (a, b) ∷ ps)) → Above x (rest_by o (a, b) ps (rest x ps))
unfolding IsStrictlySortedBy
behind_by x y a b ps Less e h r = all_above x (a, b) ps r.1 e
behind_by x y a b ps Equal e h r = h (subst (λ z. IsRising (pairs ((z, b) ∷ ps))) (sym (same_datum x a e)) r.1)
behind_by x y a b ps Greater e h r = absurd (not_down x y a b e r.0.0)

behind : (x y : Datum) (ps : List Parts) → Behind x y ps
behind x y [] r = tt
behind x y (p ∷ ps) r = behind_by x y p.0 p.1 ps (datum_cmp x p.0) refl (behind x p.1 ps) r

-- ---- the domain

abbrev dom : List Parts → List Datum
dom ps = domain_of (pairs ps)

all_insert_by : (P : Datum → Type 0) (o : Ordering) (d e : Datum) (es inserted : List Datum) → P d → P e → AllByRecursion P es → AllByRecursion P inserted → AllByRecursion P (insert_by o d e es inserted)
all_insert_by P Less d e es inserted p q r s = (p, (q, r))
all_insert_by P Equal d e es inserted p q r s = (q, r)
all_insert_by P Greater d e es inserted p q r s = (q, s)

all_insert : (P : Datum → Type 0) (d : Datum) (ds : List Datum) → P d → AllByRecursion P ds → AllByRecursion P (insert_datum d ds)
all_insert P d [] p a = (p, tt)
all_insert P d (e ∷ es) p a = all_insert_by P (datum_cmp d e) d e es (insert_datum d es) p a.0 a.1 (all_insert P d es p a.1)

dom_above : (x : Datum) (ps : List Parts) → Above x ps → AllByRecursion (λ a. datum_cmp x a ≡ Less) (dom ps)
dom_above x [] h = tt
dom_above x (p ∷ ps) h = all_insert (λ a. datum_cmp x a ≡ Less) p.0 (dom ps) h.0 (dom_above x ps h.1)

-- what is below all comes first
insert_first : (x : Datum) (ds : List Datum) → AllByRecursion (λ a. datum_cmp x a ≡ Less) ds → insert_datum x ds ≡ x ∷ ds
insert_first x [] h = refl
insert_first x (d ∷ ds) h = ap (λ o. insert_by o x d ds (insert_datum x ds)) h.0

insert_again : (x : Datum) (ds : List Datum) → insert_datum x (x ∷ ds) ≡ x ∷ ds
insert_again x ds = ap (λ o. insert_by o x x ds (insert_datum x ds)) (same_itself x)

-- x comes first, and behind it the domain of the rest
abbrev DomainStep : Datum → Datum → List Parts → Type 0
DomainStep x y ps = IsRising (pairs ((x, y) ∷ ps)) → dom ((x, y) ∷ ps) ≡ x ∷ dom (rest x ps)

domain_by : (x y a b : Datum) (ps : List Parts) (o : Ordering) → datum_cmp x a ≡ o → DomainStep x b ps → IsRising (pairs ((x, y) ∷ (a, b) ∷ ps)) → dom ((x, y) ∷ (a, b) ∷ ps) ≡ x ∷ dom (rest_by o (a, b) ps (rest x ps))
unfolding IsStrictlySortedBy
domain_by x y a b ps Less e h r = insert_first x (dom ((a, b) ∷ ps)) (dom_above x ((a, b) ∷ ps) (all_above x (a, b) ps r.1 e))
domain_by x y a b ps Equal e h r =
    let s = same_datum x a e in
    let t = h (subst (λ z. IsRising (pairs ((z, b) ∷ ps))) (sym s) r.1) in
    ap (λ z. dom ((x, y) ∷ (z, b) ∷ ps)) (sym s) ∙ ap (insert_datum x) t ∙ insert_again x (dom (rest x ps))
domain_by x y a b ps Greater e h r = absurd (not_down x y a b e r.0.0)

domain_step : (x y : Datum) (ps : List Parts) → DomainStep x y ps
domain_step x y [] r = refl
domain_step x y (p ∷ ps) r = domain_by x y p.0 p.1 ps (datum_cmp x p.0) refl (domain_step x p.1 ps) r

-- ---- images

-- of x, in order
images_at : (x y : Datum) (ds : List Datum) → images x (pair x y ∷ ds) ≡ y ∷ images x ds
images_at x y ds = ap (λ o. filter_map (λ d. second_of (pair_parts d)) (cond (is_eq o) (pair x y ∷ pairs_at x ds) (pairs_at x ds))) (same_itself x)

-- of another argument
images_other : (a x y : Datum) (ds : List Datum) → datum_cmp x a ≡ Less → images a (pair x y ∷ ds) ≡ images a ds
images_other a x y ds l =
    let g : datum_cmp a x ≡ Greater = datum_cmp_total.antisymm a x ∙ ap ordering_reverse l in
    ap (λ o. filter_map (λ d. second_of (pair_parts d)) (cond (is_eq o) (pair x y ∷ pairs_at a ds) (pairs_at a ds))) g

-- ---- the image of x: only where no other pair of x follows

no_images : (x : Datum) (ps : List Parts) → Above x ps → images x (pairs ps) ≡ []
no_images x [] h = refl
no_images x (p ∷ ps) h = ap (λ o. filter_map (λ d. second_of (pair_parts d)) (cond (is_eq o) (pair p.0 p.1 ∷ pairs_at x (pairs ps)) (pairs_at x (pairs ps)))) h.0 ∙ no_images x ps h.1

-- one of x is first, or none is left
abbrev ImageStep : Datum → Datum → List Parts → Type 0
ImageStep x y ps = (run x ps ≡ 0 → image x (pairs ((x, y) ∷ ps)) ≡ Some y) × ((run x ps ≡ 0 → ⊥) → image x (pairs ((x, y) ∷ ps)) ≡ None)

image_by : (x y a b : Datum) (ps : List Parts) (o : Ordering) → datum_cmp x a ≡ o → IsRising (pairs ((x, y) ∷ (a, b) ∷ ps)) → ImageStep x y ((a, b) ∷ ps)
unfolding IsStrictlySortedBy
image_by x y a b ps Less e r =
    let n : run x ((a, b) ∷ ps) ≡ 0 = ap (λ o. cond (is_eq o) (1 + run x ps) 0) e in
    (λ z. ap only (images_at x y (pairs ((a, b) ∷ ps)) ∙ ap (λ l. y ∷ l) (no_images x ((a, b) ∷ ps) (all_above x (a, b) ps r.1 e))), λ z. absurd (z n))
image_by x y a b ps Equal e r =
    let n : run x ((a, b) ∷ ps) ≡ 1 + run x ps = ap (λ o. cond (is_eq o) (1 + run x ps) 0) e in
    let i : images x (pairs ((a, b) ∷ ps)) ≡ b ∷ images x (pairs ps) = ap (λ z. images x (pair z b ∷ pairs ps)) (sym (same_datum x a e)) ∙ images_at x b (pairs ps) in
    (λ z. absurd (omega (arith, n, z)), λ z. ap only (images_at x y (pairs ((a, b) ∷ ps)) ∙ ap (λ l. y ∷ l) i))
image_by x y a b ps Greater e r = absurd (not_down x y a b e r.0.0)

image_step : (x y : Datum) (ps : List Parts) → IsRising (pairs ((x, y) ∷ ps)) → ImageStep x y ps
image_step x y [] r = (λ z. ap only (images_at x y []), λ z. absurd (z refl))
image_step x y (p ∷ ps) r = image_by x y p.0 p.1 ps (datum_cmp x p.0) refl r

-- ---- the images of the others are those among the rest

abbrev OtherImages : Datum → Datum → Datum → List Parts → Type 0
OtherImages a x y ps = datum_cmp x a ≡ Less → images a (pairs ((x, y) ∷ ps)) ≡ images a (pairs (rest x ps))

other_by : (a x y c d : Datum) (ps : List Parts) (o : Ordering) → datum_cmp x c ≡ o → OtherImages a x d ps → datum_cmp x a ≡ Less → images a (pairs ((x, y) ∷ (c, d) ∷ ps)) ≡ images a (pairs (rest_by o (c, d) ps (rest x ps)))
other_by a x y c d ps Less e h l = images_other a x y (pairs ((c, d) ∷ ps)) l
other_by a x y c d ps Equal e h l = images_other a x y (pairs ((c, d) ∷ ps)) l ∙ ap (λ z. images a (pair z d ∷ pairs ps)) (sym (same_datum x c e)) ∙ h l
other_by a x y c d ps Greater e h l = images_other a x y (pairs ((c, d) ∷ ps)) l

other_images : (a x y : Datum) (ps : List Parts) → OtherImages a x y ps
other_images a x y [] l = images_other a x y [] l
other_images a x y (p ∷ ps) l = other_by a x y p.0 p.1 ps (datum_cmp x p.0) refl (other_images a x p.1 ps) l

same_points : (f g xs : List Datum) → AllByRecursion (λ a. images a f ≡ images a g) xs → map_points f xs ≡ map_points g xs
same_points f g [] h = refl
same_points f g (a ∷ xs) h = λ i. Two (Some a) (only (h.0 i)) ∷ same_points f g xs h.1 i

all_others : (x y : Datum) (ps : List Parts) (xs : List Datum) → AllByRecursion (λ a. datum_cmp x a ≡ Less) xs → AllByRecursion (λ a. images a (pairs ((x, y) ∷ ps)) ≡ images a (pairs (rest x ps))) xs
all_others x y ps [] h = tt
all_others x y ps (a ∷ xs) h = (other_images a x y ps h.0, all_others x y ps xs h.1)

-- ---- one step

points_step : (x y : Datum) (ps : List Parts) → IsRising (pairs ((x, y) ∷ ps)) → points (pairs ((x, y) ∷ ps)) ≡ Two (Some x) (image x (pairs ((x, y) ∷ ps))) ∷ points (pairs (rest x ps))
points_step x y ps r =
    let f = pairs ((x, y) ∷ ps) in
    let g = pairs (rest x ps) in
    ap (map_points f) (domain_step x y ps r)
    ∙ ap (λ l. Two (Some x) (image x f) ∷ l) (same_points f g (dom (rest x ps)) (all_others x y ps (dom (rest x ps)) (dom_above x (rest x ps) (behind x y ps r))))

rising_drop : (ds : List Datum) (n : ℕ) → IsRising ds → IsRising (drop n ds)
unfolding IsStrictlySortedBy
rising_drop ds zero r = r
rising_drop [] (suc n) r = subst IsRising (sym (drop-nil (suc n))) tt
rising_drop (d ∷ ds) (suc n) r = rising_drop ds n r.1

map_drop : (ds : List Datum) (n : ℕ) → is_map ds ≡ true → is_map (drop n ds) ≡ true
map_drop ds zero h = h
map_drop [] (suc n) h = ap is_map (drop-nil (suc n))
map_drop (d ∷ ds) (suc n) h = map_drop ds n (and_parts (is_some (pair_parts d)) (is_map ds) h).1

-- the image, by how many pairs of x there are
abbrev shown : Bool → Datum → Option Datum
shown t y = if t then Some y else None

image_is : (x y : Datum) (ps : List Parts) (count : ℕ) (t : Bool) → (count == 1) ≡ t → count ≡ 1 + run x ps → ImageStep x y ps → image x (pairs ((x, y) ∷ ps)) ≡ shown t y
image_is x y ps count true e n h = h.0 (one (run x ps) count e n)
  where
    one : (k count : ℕ) → (count == 1) ≡ true → count ≡ 1 + k → k ≡ 0
    one k count e n = grind (arith, nat_tests)
image_is x y ps count false e n h = h.1 (λ z. more (run x ps) count e n z)
  where
    more : (k count : ℕ) → (count == 1) ≡ false → count ≡ 1 + k → k ≡ 0 → ⊥
    more k count e n z = grind (arith, nat_tests)

step_of : (f : List Datum) (at end : ℕ) (x y : Datum) (ps : List Parts) → drop at f ≡ pairs ((x, y) ∷ ps) → IsRising (pairs ((x, y) ∷ ps)) → end ≡ at + (1 + run x ps) → points (drop at f) ≡ Two (Some x) (shown (end - at == 1) y) ∷ points (drop end f)
step_of f at end x y ps e r n =
    let behind : drop end f ≡ pairs (rest x ps) =
    ap (λ k. drop k f) n ∙ sym (drop-drop (1 + run x ps) at f) ∙ ap (drop (1 + run x ps)) e ∙ drop_more (run x ps) (pair x y) (pairs ps) ∙ drop_run x ps in
    ap points e ∙ points_step x y ps r
    ∙ ap (λ v. Two (Some x) v ∷ points (pairs (rest x ps))) (image_is x y ps (end - at) (end - at == 1) refl (omega (arith, n)) (image_step x y ps r))
    ∙ ap (λ l. Two (Some x) (shown (end - at == 1) y) ∷ points l) (sym behind)

-- the first argument at a place of a map, where its pairs end at another place
pub step_at : (f : List Datum) (at end : ℕ) (x y : Datum) → IsSetList f → is_map f ≡ true → slice_get f at ≡ Some (pair x y) → end ≡ at + prefix_len (is_at x) (drop at f) → points (drop at f) ≡ Two (Some x) (shown (end - at == 1) y) ∷ points (drop end f)
step_at f at end x y s m g n =
    let d : drop at f ≡ pair x y ∷ drop (at + 1) f = drop_at f at (at + 1) (pair x y) refl g in
    let p = as_pairs (drop (at + 1) f) (map_drop f (at + 1) m) in
    let e : drop at f ≡ pairs ((x, y) ∷ p.0) = d ∙ ap (λ l. pair x y ∷ l) p.1 in
    let r = subst IsRising e (rising_drop f at (subst IsRising (element_list-elements_of f) s.0.1)) in
    let k : prefix_len (is_at x) (pairs ((x, y) ∷ p.0)) ≡ 1 + run x p.0 = ap (λ o. cond (is_eq o) (1 + run x p.0) 0) (same_itself x) in
    step_of f at end x y p.0 e r (n ∙ ap (λ l. at + prefix_len (is_at x) l) e ∙ ap (λ j. at + j) k)

-- each member of a map is a pair
pub member_is_pair : (f : List Datum) (at : ℕ) (d : Datum) → is_map f ≡ true → slice_get f at ≡ Some d → (p : Parts) × (d ≡ pair p.0 p.1)
member_is_pair [] at d m h = cc
member_is_pair (e ∷ ds) zero d m h = pair_of d (ap (λ o. is_some (pair_parts (unwrap_or o d))) (sym h) ∙ (and_parts (is_some (pair_parts e)) (is_map ds) m).0)
member_is_pair (e ∷ ds) (suc at) d m h = member_is_pair ds at d (and_parts (is_some (pair_parts e)) (is_map ds) m).1 h

-- the pairs of x from an index on, by whether the first is one of them
pub run_more : (f : List Datum) (at : ℕ) (x a b : Datum) → slice_get f at ≡ Some (pair a b) → is_eq (datum_cmp x a) ≡ true → prefix_len (is_at x) (drop at f) ≡ 1 + prefix_len (is_at x) (drop (at + 1) f)
run_more f at x a b g h = ap (prefix_len (is_at x)) (drop_at f at (at + 1) (pair a b) refl g) ∙ ap (λ t. cond t (1 + prefix_len (is_at x) (drop (at + 1) f)) 0) h

pub run_ends : (f : List Datum) (at : ℕ) (x a b : Datum) → slice_get f at ≡ Some (pair a b) → is_eq (datum_cmp x a) ≡ false → prefix_len (is_at x) (drop at f) ≡ 0
run_ends f at x a b g h = ap (prefix_len (is_at x)) (drop_at f at (at + 1) (pair a b) refl g) ∙ ap (λ t. cond t (1 + prefix_len (is_at x) (drop (at + 1) f)) 0) h

pub run_over : (f : List Datum) (at : ℕ) (x : Datum) → length f ≤ at → prefix_len (is_at x) (drop at f) ≡ 0
run_over f at x h = prefix_len-drop_all (is_at x) f at h

-- ---- a pair as a value

pub pair_is_tuple : (v : Value) (p : Parts) → datum v ≡ pair p.0 p.1 → ((t : List (Option Datum)) → v ≡ Tuple t → ⊥) → ⊥
pair_is_tuple (boolean b) p e n = cc
pair_is_tuple (Int z) p e n = cc
pair_is_tuple (Text t) p e n = cc
pair_is_tuple (Atom k) p e n = cc
pair_is_tuple (Tuple t) p e n = n t refl
pair_is_tuple (Set s) p e n = cc

abbrev parts_in : Datum → List (Option Datum)
parts_in (tuple ps) = part_list ps
parts_in d = []

pub pair_list : (t : List (Option Datum)) (p : Parts) → tuple_of t ≡ pair p.0 p.1 → t ≡ Some p.0 ∷ Some p.1 ∷ []
pair_list t p e = sym (part_list-parts_of t) ∙ ap parts_in e

pub pair_is : (t : List (Option Datum)) (p : Parts) (x y : Datum) → tuple_of t ≡ pair p.0 p.1 → slice_get t 0 ≡ Some (Some x) → slice_get t 1 ≡ Some (Some y) → tuple_of t ≡ pair x y
pair_is t p x y e g h =
    let l = pair_list t p e in
    let a : p.0 ≡ x = ap (λ o. unwrap_or (unwrap_or o None) x) (sym (ap (λ s. slice_get s 0) l) ∙ g) in
    let b : p.1 ≡ y = ap (λ o. unwrap_or (unwrap_or o None) y) (sym (ap (λ s. slice_get s 1) l) ∙ h) in
    e ∙ (λ i. pair (a i) (b i))

-- ---- at the end

insert_some : (x : Datum) (ds : List Datum) → 0 < length (insert_datum x ds)
insert_some x [] = omega arith
insert_some x (d ∷ ds) = by_order (datum_cmp x d)
  where
    by_order : (o : Ordering) → 0 < length (insert_by o x d ds (insert_datum x ds))
    by_order Less = omega arith
    by_order Equal = omega arith
    by_order Greater = omega arith

length_points : (f xs : List Datum) → length (map_points f xs) ≡ length xs
length_points f [] = refl
length_points f (x ∷ xs) = ap (λ n. suc n) (length_points f xs)

points_some : (f : List Datum) → is_map f ≡ true → (length f == 0) ≡ (length (points f) == 0)
points_some [] h = refl
points_some (d ∷ ds) h =
    let p = pair_of d (and_parts (is_some (pair_parts d)) (is_map ds) h).0 in
    let some : 0 < length (domain_of (d ∷ ds)) = subst (λ e. 0 < length (domain_of (e ∷ ds))) (sym p.1) (insert_some p.0.0 (domain_of ds)) in
    both (length (d ∷ ds)) (length (points (d ∷ ds))) (omega arith) (omega (arith, some, length_points (d ∷ ds) (domain_of (d ∷ ds))))
  where
    both : (m n : ℕ) → 0 < m → 0 < n → (m == 0) ≡ (n == 0)
    both m n p q = grind (arith, nat_tests)

pub no_points : (f : List Datum) (n i : ℕ) → is_map f ≡ true → n ≡ length f → nat_le n i ≡ (length (points (drop i f)) == 0)
no_points f n i h e = ap (λ k. nat_le k i) e ∙ none_left f i ∙ points_some (drop i f) (map_drop f i h)

-- ---- the tuple of a map's member

pub member_parts : (f : List Datum) (at : ℕ) (v : Value) (t : List (Option Datum)) → is_map f ≡ true → slice_get f at ≡ Some (datum v) → v ≡ Tuple t → (p : Parts) × (tuple_of t ≡ pair p.0 p.1)
member_parts f at v t m h e = let p = member_is_pair f at (datum v) m h in (p.0, sym (ap datum e) ∙ p.1)

pub first_there : (t : List (Option Datum)) (p : Parts) → tuple_of t ≡ pair p.0 p.1 → (slice_get t 0 ≡ Some None) ⊎ (slice_get t 0 ≡ None) → ⊥
first_there t p e (inl h) = let g = ap (λ s. slice_get s 0) (pair_list t p e) in cc
first_there t p e (inr h) = let g = ap (λ s. slice_get s 0) (pair_list t p e) in cc

pub second_there : (t : List (Option Datum)) (p : Parts) → tuple_of t ≡ pair p.0 p.1 → (slice_get t 1 ≡ Some None) ⊎ (slice_get t 1 ≡ None) → ⊥
second_there t p e (inl h) = let g = ap (λ s. slice_get s 1) (pair_list t p e) in cc
second_there t p e (inr h) = let g = ap (λ s. slice_get s 1) (pair_list t p e) in cc
