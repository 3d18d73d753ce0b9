-- Wholes in which a part was put.
use Rattle.std.specs.Prelude.{◌≡◌, ◌⊎◌, ℕ, zero, suc, ◌+◌, ◌-◌, pos, Bool, true, false, not, ◌==◌, cond, List, [], ◌∷◌, ◌++◌, map, length, take, drop, replicate, int_le, nat_le, Option, Some, None, refl, if◌then◌else◌}
use Rattle.std.specs.List.{list_all}
use Rattle.std.specs.declared.cmp.Ordering.{Ordering}
use Rattle.std.specs.declared.cmp.Ordering.TheVariants.{Less, Equal, Greater}
use Rattle.std.specs.Ordering.{is_eq, ordering_reverse}
use Rattle.std.proofs.Common.{ap, sym, ◌∙◌, subst, inl, inr}
use Rattle.std.proofs.lemmas.Bool.{false≢true, and_parts, and_from}
use Rattle.setl_value.specs.Datum.{Datum, int, tuple, set, part_then, no_part, depth, set_of, tuple_of, element_list, part_list, part_list-parts_of}
use Rattle.setl_value.specs.Order.{datum_cmp, IsRising}
use Rattle.setl_value.specs.OrderLaws.{datum_cmp_total}
use Rattle.setl_value.specs.Pairs.{pair, pair_parts, first_of, is_datum, images}
use Rattle.setl_value.specs.WellFormed.{trim, trim_onto}
use Rattle.setl_set.specs.Laws.{Gathers}
use Rattle.setl_map.specs.Maps.{without_point, put_image, put_images}
use Rattle.setl_tuple.specs.Tuples.{index_of, put_of}
use Rattle.setl_modes.specs.Modes.{Mode, General, Integers, Strings, Booleans, Atoms, Elements as ElementsOf, Sets, Tuples, SingleMaps, MultiMaps}
use Rattle.setl_modes.specs.Fits.{part_fits, single_fits, multi_fits, datum_fits, fits}
use Rattle.setl_operators_table.specs.Outcome.{Gives, Fails, Overspends, DeepFault, RangeFault, value, adding, charging, within_depth}
use Rattle.setl_operators_table.specs.Puts.{put_value, put_part, put_set}
use Rattle.setl_modes_parts.specs.Parts.{member_mode, takes_sets, value_mode, images_mode}
use Rattle.setl_modes_parts.specs.Laws.{Fitting, PutsFit, SetPutsFit}
use Rattle.setl_modes_parts.proofs.Lists.{Among, Within, all_of, all_from, among_parts, among_pairs, among_filter, among_insert, among_set_from, rising_filter}
use Rattle.setl_modes_parts.proofs.Images.{images_to_pairs, pairs_to_images, rising_images, same_self, none_left, others_left, insert_past, insert_here}
use Rattle.setl_modes_parts.proofs.Subsets.{some_same, list_fits, of_list, of_set, any_fits, single_first, single_once, single_second, single_from, shrinks, members_fit, fit_by_members}
use Rattle.setl_modes_parts.proofs.Parts.{gives_same, map_gives, let_through}

-- ---- what is given

pub within_gives : (d : Datum) (w : Option Datum) (n : ℕ) → within_depth d ≡ Gives w n → Some d ≡ w
within_gives d w n h = go (nat_le (depth d) 500) h
  where
    go : (b : Bool) → (if b then value d else Fails DeepFault) ≡ Gives w n → Some d ≡ w
    go true e = gives_same (Some d) w 0 n e
    go false e = absurd (cc)

charged_gives : (k left : ℕ) (d : Datum) (w : Option Datum) (n : ℕ) → charging k left (within_depth d) ≡ Gives w n → Some d ≡ w
charged_gives k left d w n h = go (nat_le k left) h
  where
    deep : (b : Bool) → adding k (if b then value d else Fails DeepFault) ≡ Gives w n → Some d ≡ w
    deep true e = gives_same (Some d) w (k + 0) n e
    deep false e = absurd (cc)

    go : (b : Bool) → (if b then adding k (within_depth d) else Overspends) ≡ Gives w n → Some d ≡ w
    go true e = deep (nat_le (depth d) 500) e
    go false e = absurd (cc)

-- ---- tuples

pub among_trim : (ps : List (Option Datum)) (q : Option Datum) → Among q (trim ps) → Among q ps
among_trim [] q m = m
among_trim (p ∷ ps) q m = go p (trim ps) (among_trim ps q) m
  where
    go : (o : Option Datum) (l : List (Option Datum)) → (Among q l → Among q ps) → Among q (trim_onto o l) → Among q (o ∷ ps)
    go None [] h n = absurd n
    go (Some d) l h (inl e) = inl e
    go (Some d) l h (inr n) = inr (h n)
    go None (r ∷ rs) h (inl e) = inl e
    go None (r ∷ rs) h (inr n) = inr (h n)

among_take : (i : ℕ) (ps : List (Option Datum)) (q : Option Datum) → Among q (take i ps) → Among q ps
among_take zero [] q m = m
among_take zero (p ∷ ps) q m = absurd m
among_take (suc i) [] q m = m
among_take (suc i) (p ∷ ps) q (inl e) = inl e
among_take (suc i) (p ∷ ps) q (inr m) = inr (among_take i ps q m)

among_drop : (i : ℕ) (ps : List (Option Datum)) (q : Option Datum) → Among q (drop i ps) → Among q ps
among_drop zero [] q m = m
among_drop zero (p ∷ ps) q m = m
among_drop (suc i) [] q m = m
among_drop (suc i) (p ∷ ps) q m = inr (among_drop i ps q m)

among_replicate : (n : ℕ) (p q : Option Datum) → Among q (replicate n p) → q ≡ p
among_replicate zero p q m = absurd m
among_replicate (suc n) p q (inl e) = e
among_replicate (suc n) p q (inr m) = among_replicate n p q m

pub tuple_fits : (m : Mode) (ps : List (Option Datum)) → datum_fits (Tuples m) (tuple_of ps) ≡ list_all (part_fits (datum_fits m)) ps
tuple_fits m ps = ap (list_all (part_fits (datum_fits m))) (part_list-parts_of ps)

-- a tuple with another component
put_in_fits : (m : Mode) (ps : List (Option Datum)) (i : ℕ) (v : Option Datum) → list_all (part_fits (datum_fits m)) ps ≡ true → fits m v ≡ true → fits (Tuples m) (Some (tuple_of (put_of ps i v))) ≡ true
put_in_fits m ps i v h f = tuple_fits m (put_of ps i v) ∙ all_from (part_fits (datum_fits m)) (put_of ps i v) (λ q n. go q (among_trim (take i ps ++ replicate (i - length ps) None ++ v ∷ drop (i + 1) ps) q n))
  where
    front : (q : Option Datum) → Among q (take i ps) ⊎ Among q (replicate (i - length ps) None) → part_fits (datum_fits m) q ≡ true
    front q (inl n) = all_of (part_fits (datum_fits m)) ps h q (among_take i ps q n)
    front q (inr n) = ap (part_fits (datum_fits m)) (among_replicate (i - length ps) None q n)

    split : (q : Option Datum) → Among q (take i ps ++ replicate (i - length ps) None) ⊎ Among q (v ∷ drop (i + 1) ps) → part_fits (datum_fits m) q ≡ true
    split q (inl n) = front q (among_parts (take i ps) (replicate (i - length ps) None) q n)
    split q (inr (inl e)) = ap (part_fits (datum_fits m)) e ∙ f
    split q (inr (inr n)) = all_of (part_fits (datum_fits m)) ps h q (among_drop (i + 1) ps q n)

    go : (q : Option Datum) → Among q (take i ps ++ replicate (i - length ps) None ++ v ∷ drop (i + 1) ps) → part_fits (datum_fits m) q ≡ true
    go q n = split q (among_parts (take i ps ++ replicate (i - length ps) None) (v ∷ drop (i + 1) ps) q n)

part_gives : (left i : ℕ) (v : Option Datum) (ps : List (Option Datum)) (w : Option Datum) (c : ℕ) → put_part left i v ps ≡ Gives w c → Some (tuple_of (put_of ps i v)) ≡ w
part_gives left i None ps w c h = gives_same (Some (tuple_of (put_of ps i None))) w 0 c h
part_gives left i (Some d) ps w c h = charged_gives (i - length ps) left (tuple_of (put_of ps i (Some d))) w c h

-- ---- points of maps

reverse_eq : (o : Ordering) → is_eq (ordering_reverse o) ≡ is_eq o
reverse_eq Less = refl
reverse_eq Equal = refl
reverse_eq Greater = refl

other_way : (x z : Datum) → is_eq (datum_cmp x z) ≡ false → is_eq (datum_cmp z x) ≡ false
other_way x z h = ap is_eq (datum_cmp_total.antisymm z x) ∙ reverse_eq (datum_cmp x z) ∙ h

not_true : (b : Bool) → not b ≡ true → b ≡ false
not_true true h = absurd (false≢true h)
not_true false h = refl

-- a pair that is left stands at another point
left_apart : (x z w : Datum) (f : List Datum) → Among (pair z w) (without_point x f) → Among (pair z w) f × (is_eq (datum_cmp z x) ≡ false)
left_apart x z w f m =
    let r = among_filter (λ d. not (is_datum x (first_of (pair_parts d)))) f (pair z w) m in
    (r.0, other_way x z (not_true (is_eq (datum_cmp x z)) r.1))

first_same : (x y z w : Datum) → pair x y ≡ pair z w → x ≡ z
first_same x y z w h = cc

second_same : (x y z w : Datum) → pair x y ≡ pair z w → y ≡ w
second_same x y z w h = cc

rising_left : (x : Datum) (f : List Datum) → IsRising f → IsRising (without_point x f)
rising_left x f r = rising_filter (λ d. not (is_datum x (first_of (pair_parts d)))) f r

within_left : (x : Datum) (f : List Datum) → Within (without_point x f) f
within_left x f z m = (among_filter (λ d. not (is_datum x (first_of (pair_parts d)))) f z m).0

abbrev IsPair : Datum → Type 0
IsPair e = (x : Datum) × (y : Datum) × (e ≡ pair x y)

single_pair : (domain range : Datum → Bool) (f : List Datum) (e : Datum) → single_fits domain range f (pair_parts e) ≡ true → IsPair e
single_pair domain range f (tuple (part_then x (part_then y no_part))) h = (x, y, refl)
single_pair domain range f e h = absurd (false≢true h)

multi_pair : (domain range : Datum → Bool) (f : List Datum) (e : Datum) → multi_fits domain range f (pair_parts e) ≡ true → IsPair e
multi_pair domain range f (tuple (part_then x (part_then y no_part))) h = (x, y, refl)
multi_pair domain range f e h = absurd (false≢true h)

-- ---- maps with one image

abbrev All_single : (domain range : Datum → Bool) → List Datum → List Datum → Bool
All_single domain range f ds = list_all (λ p. single_fits domain range f (pair_parts p)) ds

single_put : (domain range : Datum → Bool) (x y : Datum) (f : List Datum) → domain x ≡ true → range y ≡ true → All_single domain range f f ≡ true
    → All_single domain range (put_image x (Some y) f) (put_image x (Some y) f) ≡ true
single_put domain range x y f dx ry h =
    all_from (λ p. single_fits domain range (put_image x (Some y) f) (pair_parts p)) (put_image x (Some y) f) (λ e m. go e (among_insert (pair x y) (without_point x f) e m))
  where
    here : single_fits domain range (put_image x (Some y) f) (pair_parts (pair x y)) ≡ true
    here = single_from domain range (put_image x (Some y) f) x y dx (ap (λ l. length l == 1) (insert_here x y (without_point x f) (none_left x f))) ry

    there : (e : Datum) → Among e (without_point x f) → IsPair e → single_fits domain range (put_image x (Some y) f) (pair_parts e) ≡ true
    there e m u =
        let z = u.0 in
        let a = left_apart x z u.1 f (subst (λ t. Among t (without_point x f)) u.2 m) in
        let old = all_of (λ p. single_fits domain range f (pair_parts p)) f h (pair z u.1) a.0 in
        let same : images z (put_image x (Some y) f) ≡ images z f = insert_past z (pair x y) (without_point x f) a.1 ∙ others_left x z f a.1 in
        subst (λ t. single_fits domain range (put_image x (Some y) f) (pair_parts t) ≡ true) (sym u.2)
        (single_from domain range (put_image x (Some y) f) z u.1 (single_first domain range f z u.1 old) (ap (λ l. length l == 1) same ∙ single_once domain range f z u.1 old) (single_second domain range f z u.1 old))

    go : (e : Datum) → (e ≡ pair x y) ⊎ Among e (without_point x f) → single_fits domain range (put_image x (Some y) f) (pair_parts e) ≡ true
    go e (inl p) = subst (λ t. single_fits domain range (put_image x (Some y) f) (pair_parts t) ≡ true) (sym p) here
    go e (inr m) = there e m (single_pair domain range f e (all_of (λ p. single_fits domain range f (pair_parts p)) f h e (within_left x f e m)))

-- ---- maps with sets of images

abbrev All_multi : (domain : Datum → Bool) → Mode → List Datum → List Datum → Bool
All_multi domain s f ds = list_all (λ p. multi_fits domain (datum_fits s) f (pair_parts p)) ds

abbrev FitsAt : (Datum → Bool) → Mode → List Datum → Datum → Type 0
FitsAt domain s f x = (domain x ≡ true) × (list_fits s (images x f) ≡ true)

multi_at : (domain : Datum → Bool) (s : Mode) (f : List Datum) (x y : Datum) → All_multi domain s f f ≡ true → Among (pair x y) f → FitsAt domain s f x
multi_at domain s f x y h m =
    let p = and_parts (domain x) (datum_fits s (set_of (images x f))) (all_of (λ p. multi_fits domain (datum_fits s) f (pair_parts p)) f h (pair x y) m) in
    (p.0, sym (of_set s (images x f)) ∙ p.1)

multi_from : (domain : Datum → Bool) (s : Mode) (f : List Datum) → ((e : Datum) → Among e f → (x : Datum) × (y : Datum) × (e ≡ pair x y) × FitsAt domain s f x) → All_multi domain s f f ≡ true
multi_from domain s f h = all_from (λ p. multi_fits domain (datum_fits s) f (pair_parts p)) f one
  where
    one : (e : Datum) → Among e f → multi_fits domain (datum_fits s) f (pair_parts e) ≡ true
    one e m =
        let u = h e m in
        subst (λ t. multi_fits domain (datum_fits s) f (pair_parts t) ≡ true) (sym u.2)
        (and_from (domain u.0) (datum_fits s (set_of (images u.0 f))) u.3.0 (of_set s (images u.0 f) ∙ u.3.1))

multi_put : (domain : Datum → Bool) (s n : Mode) (x y : Datum) (f : List Datum) → member_mode s ≡ Some n → domain x ≡ true → datum_fits n y ≡ true → All_multi domain s f f ≡ true
    → All_multi domain s (put_image x (Some y) f) (put_image x (Some y) f) ≡ true
multi_put domain s n x y f is dx ny h =
    multi_from domain s (put_image x (Some y) f) (λ e m. let u = go e (among_insert (pair x y) (without_point x f) e m) in (u.0, u.1, u.2, (u.3, images_fit u.0)))
  where
    old : (z u : Datum) → Among (pair z u) (without_point x f) → datum_fits n u ≡ true
    old z u m =
        let k = (left_apart x z u f m).0 in
        members_fit s n (images z f) is (multi_at domain s f z u h k).1 u (pairs_to_images z f u k)

    image : (z u : Datum) → (pair z u ≡ pair x y) ⊎ Among (pair z u) (without_point x f) → datum_fits n u ≡ true
    image z u (inl p) = ap (datum_fits n) (second_same z u x y p) ∙ ny
    image z u (inr m) = old z u m

    images_fit : (z : Datum) → list_fits s (images z (put_image x (Some y) f)) ≡ true
    images_fit z = fit_by_members s n (images z (put_image x (Some y) f)) is (λ u m. image z u (among_insert (pair x y) (without_point x f) (pair z u) (images_to_pairs z (put_image x (Some y) f) u m)))

    there : (e : Datum) → Among e (without_point x f) → IsPair e → (a : Datum) × (b : Datum) × (e ≡ pair a b) × (domain a ≡ true)
    there e m u = (u.0, u.1, u.2, (multi_at domain s f u.0 u.1 h (left_apart x u.0 u.1 f (subst (λ t. Among t (without_point x f)) u.2 m)).0).0)

    go : (e : Datum) → (e ≡ pair x y) ⊎ Among e (without_point x f) → (a : Datum) × (b : Datum) × (e ≡ pair a b) × (domain a ≡ true)
    go e (inl p) = (x, y, p, dx)
    go e (inr m) = there e m (multi_pair domain (datum_fits s) f e (all_of (λ p. multi_fits domain (datum_fits s) f (pair_parts p)) f h e (within_left x f e m)))

multi_set_put : Gathers → (domain : Datum → Bool) (s : Mode) (x : Datum) (ys f : List Datum) → domain x ≡ true → list_fits s ys ≡ true → All_multi domain s f f ≡ true
    → All_multi domain s (put_images x ys f) (put_images x ys f) ≡ true
multi_set_put gathers domain s x ys f dx sy h =
    multi_from domain s (put_images x ys f) (λ e m. go e (cases e m))
  where
    cases : (e : Datum) → Among e (put_images x ys f) → Among e (without_point x f) ⊎ Among e (map (pair x) ys)
    cases e m = among_parts (without_point x f) (map (pair x) ys) e (among_set_from (without_point x f ++ map (pair x) ys) e m)

    rises : (z : Datum) → IsRising (images z (put_images x ys f))
    rises z = rising_images z (put_images x ys f) (gathers (without_point x f ++ map (pair x) ys)).rising

    apart : (z u : Datum) → is_eq (datum_cmp z x) ≡ false → Among (pair z u) (without_point x f) ⊎ Among (pair z u) (map (pair x) ys) → Among u (images z f)
    apart z u n (inl m) = pairs_to_images z f u (left_apart x z u f m).0
    apart z u n (inr m) =
        let r = among_pairs x ys (pair z u) m in
        let e = first_same z u x r.0 r.2 in
        absurd (false≢true (sym n ∙ ap (λ t. is_eq (datum_cmp t x)) e ∙ same_self x))

    same : (u : Datum) → Among (pair x u) (without_point x f) ⊎ Among (pair x u) (map (pair x) ys) → Among u ys
    same u (inl m) = absurd (false≢true (sym (left_apart x x u f m).1 ∙ same_self x))
    same u (inr m) = let r = among_pairs x ys (pair x u) m in subst (λ t. Among t ys) (sym (second_same x u x r.0 r.2)) r.1

    there : (e : Datum) → Among e (without_point x f) → IsPair e → (a : Datum) × (b : Datum) × (e ≡ pair a b) × FitsAt domain s (put_images x ys f) a
    there e m u =
        let a = left_apart x u.0 u.1 f (subst (λ t. Among t (without_point x f)) u.2 m) in
        let old = multi_at domain s f u.0 u.1 h a.0 in
        (u.0, u.1, u.2, (old.0, shrinks s (images u.0 f) (images u.0 (put_images x ys f)) (rises u.0) (λ t n. apart u.0 t a.1 (cases (pair u.0 t) (images_to_pairs u.0 (put_images x ys f) t n))) old.1))

    go : (e : Datum) → Among e (without_point x f) ⊎ Among e (map (pair x) ys) → (a : Datum) × (b : Datum) × (e ≡ pair a b) × FitsAt domain s (put_images x ys f) a
    go e (inl m) = there e m (multi_pair domain (datum_fits s) f e (all_of (λ p. multi_fits domain (datum_fits s) f (pair_parts p)) f h e (within_left x f e m)))
    go e (inr m) =
        let r = among_pairs x ys e m in
        (x, r.0, r.2, (dx, shrinks s ys (images x (put_images x ys f)) (rises x) (λ t n. same t (cases (pair x t) (images_to_pairs x (put_images x ys f) t n))) sy))

-- ---- every mode

put_fits : (m n : Mode) (d x : Datum) (v w : Option Datum) (left c : ℕ) → value_mode m (Some x) ≡ Some n → Fitting m (Some d) → fits n v ≡ true → put_value left d x v ≡ Gives w c → fits m w ≡ true
put_fits General n d x v w left c e h f g = any_fits w
put_fits (ElementsOf base m) n d x v w left c e h f g = put_fits m n d x v w left c e h f g
put_fits (Tuples m) n (tuple ps) (int i) v w left c e h f g = go (int_le (pos 1) i) g
  where
    fit : fits m v ≡ true
    fit = subst (λ k. fits k v ≡ true) (sym (some_same m n e)) f

    go : (b : Bool) → (if b then put_part left (index_of i) v (part_list ps) else Fails RangeFault) ≡ Gives w c → fits (Tuples m) w ≡ true
    go true a = subst (λ o. fits (Tuples m) o ≡ true) (part_gives left (index_of i) v (part_list ps) w c a) (put_in_fits m (part_list ps) (index_of i) v h.1 fit)
    go false a = absurd (cc)
put_fits (Tuples m) n (tuple ps) x v w left c e h f g = absurd (cc)
put_fits (Tuples m) n d x v w left c e h f g = absurd (false≢true h.1)
put_fits (SingleMaps form k r) n (set ms) x None w left c e h f g =
    let l = element_list ms in
    let new = without_point x l in
    let m = SingleMaps form k r in
    subst (λ o. fits m o ≡ true) (within_gives (set_of new) w c (map_gives (λ t. within_depth (set_of (put_image x None t))) l w c g))
    (of_set m new ∙ shrinks m l new (rising_left x l h.0.1) (within_left x l) (sym (of_list m ms) ∙ h.1))
put_fits (SingleMaps form k r) n (set ms) x (Some y) w left c e h f g =
    let l = element_list ms in
    let new = put_image x (Some y) l in
    let m = SingleMaps form k r in
    let a = let_through (fits k (Some x)) (Some r) n e in
    let ry = ap (λ j. datum_fits j y) (some_same r n a.1) ∙ f in
    subst (λ o. fits m o ≡ true) (within_gives (set_of new) w c (map_gives (λ t. within_depth (set_of (put_image x (Some y) t))) l w c g))
    (of_set m new ∙ single_put (datum_fits k) (datum_fits r) x y l a.0 ry h.1)
put_fits (SingleMaps form k r) n d x v w left c e h f g = absurd (false≢true h.1)
put_fits (MultiMaps form k s) n (set ms) x None w left c e h f g =
    let l = element_list ms in
    let new = without_point x l in
    let m = MultiMaps form k s in
    subst (λ o. fits m o ≡ true) (within_gives (set_of new) w c (map_gives (λ t. within_depth (set_of (put_image x None t))) l w c g))
    (of_set m new ∙ shrinks m l new (rising_left x l h.0.1) (within_left x l) (sym (of_list m ms) ∙ h.1))
put_fits (MultiMaps form k s) n (set ms) x (Some y) w left c e h f g =
    let l = element_list ms in
    let new = put_image x (Some y) l in
    let m = MultiMaps form k s in
    let a = let_through (fits k (Some x)) (member_mode s) n e in
    subst (λ o. fits m o ≡ true) (within_gives (set_of new) w c (map_gives (λ t. within_depth (set_of (put_image x (Some y) t))) l w c g))
    (of_set m new ∙ multi_put (datum_fits k) s n x y l a.1 a.0 f h.1)
put_fits (MultiMaps form k s) n d x v w left c e h f g = absurd (false≢true h.1)
put_fits Integers n d x v w left c e h f g = absurd (cc)
put_fits Strings n d x v w left c e h f g = absurd (cc)
put_fits Booleans n d x v w left c e h f g = absurd (cc)
put_fits Atoms n d x v w left c e h f g = absurd (cc)
put_fits (Sets form m) n d x v w left c e h f g = absurd (cc)

pub puts_fit : PutsFit
puts_fit m n None None v w left c e h f g = absurd (cc)
puts_fit m n None (Some d) v w left c e h f g = absurd (cc)
puts_fit m n (Some x) None v w left c e h f g = absurd (cc)
puts_fit m n (Some x) (Some d) v w left c e h f g = put_fits m n d x v w left c e h f g

set_put_fits : Gathers → (m n : Mode) (d x v : Datum) (w : Option Datum) (c : ℕ) → images_mode m (Some x) ≡ Some n → Fitting m (Some d) → datum_fits n v ≡ true → put_set d x v ≡ Gives w c → fits m w ≡ true
set_put_fits gathers General n d x v w c e h f g = any_fits w
set_put_fits gathers (ElementsOf base m) n d x v w c e h f g = set_put_fits gathers m n d x v w c e h f g
set_put_fits gathers (MultiMaps form k s) n (set ms) x (set ys) w c e h f g =
    let l = element_list ms in
    let m = MultiMaps form k s in
    let a = let_through (takes_sets s) (cond (fits k (Some x)) (Some s) None) n e in
    let b = let_through (fits k (Some x)) (Some s) n a.1 in
    let new = put_images x (element_list ys) l in
    let fit : datum_fits s (set ys) ≡ true = ap (λ j. datum_fits j (set ys)) (some_same s n b.1) ∙ f in
    subst (λ o. fits m o ≡ true) (within_gives (set_of new) w c (map_gives (λ t. within_depth (set_of (put_images x (element_list ys) t))) l w c g))
    (of_set m new ∙ multi_set_put gathers (datum_fits k) s x (element_list ys) l b.0 (sym (of_list s ys) ∙ fit) h.1)
set_put_fits gathers (MultiMaps form k s) n (set ms) x v w c e h f g = absurd (cc)
set_put_fits gathers (MultiMaps form k s) n d x v w c e h f g = absurd (false≢true h.1)
set_put_fits gathers Integers n d x v w c e h f g = absurd (cc)
set_put_fits gathers Strings n d x v w c e h f g = absurd (cc)
set_put_fits gathers Booleans n d x v w c e h f g = absurd (cc)
set_put_fits gathers Atoms n d x v w c e h f g = absurd (cc)
set_put_fits gathers (Sets form m) n d x v w c e h f g = absurd (cc)
set_put_fits gathers (Tuples m) n d x v w c e h f g = absurd (cc)
set_put_fits gathers (SingleMaps form k r) n d x v w c e h f g = absurd (cc)

pub set_puts_fit : Gathers → SetPutsFit
set_puts_fit gathers m n None None v w left c e h f g = absurd (cc)
set_puts_fit gathers m n None (Some d) v w left c e h f g = absurd (cc)
set_puts_fit gathers m n (Some x) None v w left c e h f g = absurd (cc)
set_puts_fit gathers m n (Some x) (Some d) None w left c e h f g = absurd (cc)
set_puts_fit gathers m n (Some x) (Some d) (Some v) w left c e h f g = set_put_fits gathers m n d x v w c e h f g
