-- A set that isn't empty is tested member by member and neighbour by neighbour.
use Rattle.std.specs.Prelude.{◌≡◌, ◌⊎◌, suc, Bool, true, false, ◌&&◌, ◌==◌, cond, List, [], ◌∷◌, length, Option, Some, None, refl}
use Rattle.std.specs.List.{list_all}
use Rattle.std.specs.List.Sorted.{IsStrictlySortedBy}
use Rattle.std.specs.Ordering.{is_eq}
use Rattle.std.proofs.Common.{ap, sym, ◌∙◌, subst, inl, inr, arith}
use Rattle.std.proofs.lemmas.Bool.{false≢true, and_parts, ne_eqb}
use Rattle.setl_value.specs.Datum.{Datum, tuple, part_then, no_part, set_of, element_list-elements_of}
use Rattle.setl_value.specs.Order.{datum_cmp, IsRising}
use Rattle.setl_value.specs.OrderLaws.{same_if_eq}
use Rattle.setl_value.specs.Pairs.{pair, pair_parts, images}
use Rattle.setl_value.specs.WellFormed.{IsSetList}
use Rattle.setl_modes.specs.Modes.{Mode, General, Integers, Strings, Booleans, Atoms, Elements, Sets, Tuples, SingleMaps, MultiMaps}
use Rattle.setl_modes.specs.Fits.{datum_fits, single_fits, multi_fits}
use Rattle.setl_modes_fit.specs.Neighbours.{pair_fits, images_at_one_point, both_fit, member_fits, go_together, all_follow}
use Rattle.setl_modes_fit.specs.Laws.{NeighboursDecide}
use Rattle.setl_modes_fit.proofs.Images.{is_at, at, Others, HasImage, same_self, images_past, images_at, none_at, some_at, images_rise, other_way, none_past}

-- ---- truth values

and_false : (a : Bool) → (a && false) ≡ false
and_false true = refl
and_false false = refl

and_true : (a : Bool) → (a && true) ≡ a
and_true true = refl
and_true false = refl

and_assoc : (a b c : Bool) → ((a && b) && c) ≡ (a && (b && c))
and_assoc true b c = refl
and_assoc false b c = refl

and_if : (b m n : Bool) → (b ≡ true → m ≡ n) → (b && m) ≡ (b && n)
and_if true m n h = h refl
and_if false m n h = refl

-- the first of a list, and then the second with how it goes together with the first
first_two : (fx ey wy g eb ac wb : Bool) → g ≡ (eb && wb) → (g ≡ true → wy ≡ ac) → ((fx && (ey && wy)) && g) ≡ ((fx && ey) && (eb && (ac && wb)))
first_two false ey wy g eb ac wb p q = refl
first_two true false wy g eb ac wb p q = refl
first_two true true wy g false ac wb p q = ap (λ t. wy && t) p ∙ and_false wy
first_two true true wy g true ac true p q = ap (λ t. wy && t) p ∙ ap (λ t. t && true) (q p)
first_two true true wy g true ac false p q = ap (λ t. wy && t) p ∙ and_false wy ∙ sym (and_false ac)

without_middle : (a b c d : Bool) → (a && (b && (c && d))) ≡ true → (b && d) ≡ true
without_middle true true true d h = h
without_middle true true false d h = absurd (false≢true h)
without_middle true false c d h = absurd (false≢true h)
without_middle false b c d h = absurd (false≢true h)

middle_alone : (a b c : Bool) → (a && c) ≡ true → (a && (b && c)) ≡ b
middle_alone true b true h = and_true b
middle_alone true b false h = absurd (false≢true h)
middle_alone false b c h = absurd (false≢true h)

-- ---- a test of the images of a point and of one of them

-- whether this is a pair whose first part fits and whose second part meets the test, with the images in f
abbrev paired : (Datum → Bool) → (List Datum → Datum → Bool) → List Datum → Option (Datum × Datum) → Bool
paired domain test f None = false
paired domain test f (Some p) = domain p.0 && test (images p.0 f) p.1

abbrev all_paired : (Datum → Bool) → (List Datum → Datum → Bool) → List Datum → List Datum → Bool
all_paired domain test f ds = list_all (λ d. paired domain test f (pair_parts d)) ds

-- the test looks at the images one by one and at neighbours
record IsLocal (test : List Datum → Datum → Bool) (alone : Datum → Bool) (together : Datum → Datum → Bool) : Type 0 where
  pub first : (y : Datum) (ys : List Datum) → IsRising (y ∷ ys) → test (y ∷ ys) y ≡ all_follow alone together None (y ∷ ys)
  pub later : (y z v : Datum) (zs : List Datum) → IsRising (y ∷ z ∷ zs) → test (y ∷ z ∷ zs) y ≡ true → test (y ∷ z ∷ zs) v ≡ test (z ∷ zs) v

abbrev pair_alone : (Datum → Bool) → (Datum → Bool) → Datum → Bool
pair_alone domain alone d = pair_fits domain alone (pair_parts d)

abbrev pair_together : (Datum → Datum → Bool) → Datum → Datum → Bool
pair_together together a b = both_fit together (images_at_one_point (pair_parts a) (pair_parts b))

-- ---- a pair in front changes the images of its point alone

abbrev Agree : (List Datum → Datum → Bool) → Datum → List Datum → Type 0
Agree test y ys = (v : Datum) → test (y ∷ ys) v ≡ test ys v

same_pair : (domain : Datum → Bool) (test : List Datum → Datum → Bool) (x y : Datum) (f : List Datum) (z v : Datum) (b : Bool) → is_eq (datum_cmp x z) ≡ b
    → (is_eq (datum_cmp x z) ≡ true → Agree test y (images x f))
    → (domain z && test (images z (pair x y ∷ f)) v) ≡ (domain z && test (images z f) v)
same_pair domain test x y f z v true e h =
    subst (λ t. (domain t && test (images t (pair x y ∷ f)) v) ≡ (domain t && test (images t f) v)) (same_if_eq x z e)
    (ap (λ l. domain x && test l v) (images_at x y f) ∙ ap (λ b. domain x && b) (h e v))
same_pair domain test x y f z v false e h = ap (λ l. domain z && test l v) (images_past z (pair x y) f (other_way x z e))

same_one : (domain : Datum → Bool) (test : List Datum → Datum → Bool) (x y : Datum) (f : List Datum) (d : Datum) → (is_at x d ≡ true → Agree test y (images x f))
    → paired domain test (pair x y ∷ f) (pair_parts d) ≡ paired domain test f (pair_parts d)
same_one domain test x y f (tuple (part_then z (part_then v no_part))) h = same_pair domain test x y f z v (is_eq (datum_cmp x z)) refl h
same_one domain test x y f d h = refl

none_same : (domain : Datum → Bool) (test : List Datum → Datum → Bool) (x y : Datum) (f ds : List Datum) → Others x ds
    → all_paired domain test (pair x y ∷ f) ds ≡ all_paired domain test f ds
none_same domain test x y f [] h = refl
none_same domain test x y f (d ∷ ds) h =
    let one = same_one domain test x y f d (λ t. absurd (false≢true (sym h.0 ∙ t))) in
    let rest = none_same domain test x y f ds h.1 in
    λ k. one k && rest k

some_same : (domain : Datum → Bool) (test : List Datum → Datum → Bool) (x y : Datum) (f ds : List Datum) → Agree test y (images x f)
    → all_paired domain test (pair x y ∷ f) ds ≡ all_paired domain test f ds
some_same domain test x y f [] h = refl
some_same domain test x y f (d ∷ ds) h =
    let one = same_one domain test x y f d (λ t. h) in
    let rest = some_same domain test x y f ds h in
    λ k. one k && rest k

agree : (test : List Datum → Datum → Bool) (alone : Datum → Bool) (together : Datum → Datum → Bool) → IsLocal test alone together → (y : Datum) (ys : List Datum) (z : Datum) (zs : List Datum)
    → ys ≡ z ∷ zs → IsRising (y ∷ ys) → test (y ∷ ys) y ≡ true → Agree test y ys
agree test alone together l y ys z zs e h t =
    let r : IsRising (y ∷ z ∷ zs) = subst (λ k. IsRising (y ∷ k)) e h in
    let s : test (y ∷ z ∷ zs) y ≡ true = subst (λ k. test (y ∷ k) y ≡ true) e t in
    subst (Agree test y) (sym e) (λ v. l.later y z v zs r s)

same_rest : (domain : Datum → Bool) (test : List Datum → Datum → Bool) (alone : Datum → Bool) (together : Datum → Datum → Bool) → IsLocal test alone together → (x y : Datum) (f : List Datum)
    → IsRising (pair x y ∷ f) → test (y ∷ images x f) y ≡ true → Others x f ⊎ HasImage x f → all_paired domain test (pair x y ∷ f) f ≡ all_paired domain test f f
same_rest domain test alone together l x y f h t (inl n) = none_same domain test x y f f n
same_rest domain test alone together l x y f h t (inr u) =
    some_same domain test x y f f (agree test alone together l y (images x f) u.0 u.1 u.2 (images_rise x y f h) t)

-- ---- how a pair goes together with the next

apart : (domain : Datum → Bool) (test : List Datum → Datum → Bool) (alone : Datum → Bool) (together : Datum → Datum → Bool) (x y b : Datum) (bs : List Datum)
    → IsRising (pair x y ∷ b ∷ bs) → all_paired domain test (b ∷ bs) (b ∷ bs) ≡ true → is_at x b ≡ false
    → all_follow alone together (Some y) (images x (b ∷ bs)) ≡ pair_together together (pair x y) b
unfolding IsStrictlySortedBy
apart domain test alone together x y (tuple (part_then z (part_then w no_part))) bs h g e =
    ap (all_follow alone together (Some y)) (none_at x (pair z w ∷ bs) (e, none_past x y z w bs e h.0.0 h.1.0))
    ∙ sym (ap (λ t. both_fit together (cond t (Some (y, w)) None)) e)
apart domain test alone together x y b bs h g e = absurd (false≢true g)

at_one_point : (domain : Datum → Bool) (test : List Datum → Datum → Bool) (alone : Datum → Bool) (together : Datum → Datum → Bool) → IsLocal test alone together → (x y w : Datum) (bs : List Datum)
    → IsRising (pair x w ∷ bs) → all_paired domain test (pair x w ∷ bs) (pair x w ∷ bs) ≡ true
    → all_follow alone together (Some y) (images x (pair x w ∷ bs)) ≡ pair_together together (pair x y) (pair x w)
at_one_point domain test alone together l x y w bs h g =
    let ws = images x bs in
    let p = and_parts (domain x && test (images x (pair x w ∷ bs)) w) (all_paired domain test (pair x w ∷ bs) bs) g in
    let q = and_parts (domain x) (test (images x (pair x w ∷ bs)) w) p.0 in
    let fits : all_follow alone together None (w ∷ ws) ≡ true = sym (l.first w ws (images_rise x w bs h)) ∙ ap (λ k. test k w) (sym (images_at x w bs)) ∙ q.1 in
    ap (all_follow alone together (Some y)) (images_at x w bs)
    ∙ middle_alone (alone w) (together y w) (all_follow alone together (Some w) ws) fits
    ∙ sym (ap (λ t. both_fit together (cond t (Some (y, w)) None)) (same_self x))

meets : (domain : Datum → Bool) (test : List Datum → Datum → Bool) (alone : Datum → Bool) (together : Datum → Datum → Bool) → IsLocal test alone together → (x y b : Datum) (bs : List Datum)
    → IsRising (pair x y ∷ b ∷ bs) → (is_at x b ≡ false) ⊎ ((v : Datum) × (b ≡ pair x v)) → all_paired domain test (b ∷ bs) (b ∷ bs) ≡ true
    → all_follow alone together (Some y) (images x (b ∷ bs)) ≡ pair_together together (pair x y) b
unfolding IsStrictlySortedBy
meets domain test alone together l x y b bs h (inl e) g = apart domain test alone together x y b bs h g e
meets domain test alone together l x y b bs h (inr u) g =
    subst (λ t. all_follow alone together (Some y) (images x (t ∷ bs)) ≡ pair_together together (pair x y) t) (sym u.1)
    (at_one_point domain test alone together l x y u.0 bs (subst (λ t. IsRising (t ∷ bs)) u.1 h.1) (subst (λ t. all_paired domain test (t ∷ bs) (t ∷ bs) ≡ true) u.1 g))

-- ---- a test that is local for the images of a point gives one for the pairs

with_next : (domain : Datum → Bool) (test : List Datum → Datum → Bool) (alone : Datum → Bool) (together : Datum → Datum → Bool) → IsLocal test alone together → (x y : Datum) (f : List Datum)
    → IsRising (pair x y ∷ f) → all_paired domain test f f ≡ all_follow (pair_alone domain alone) (pair_together together) None f
    → ((domain x && (alone y && all_follow alone together (Some y) (images x f))) && all_paired domain test f f)
    ≡ ((domain x && alone y) && all_follow (pair_alone domain alone) (pair_together together) (Some (pair x y)) f)
with_next domain test alone together l x y [] h e = first_two (domain x) (alone y) true true true true true refl (λ t. refl)
with_next domain test alone together l x y (b ∷ bs) h e =
    first_two (domain x) (alone y) (all_follow alone together (Some y) (images x (b ∷ bs))) (all_paired domain test (b ∷ bs) (b ∷ bs))
    (pair_alone domain alone b) (pair_together together (pair x y) b) (all_follow (pair_alone domain alone) (pair_together together) (Some b) bs)
    e (meets domain test alone together l x y b bs h (at x b))

step : (domain : Datum → Bool) (test : List Datum → Datum → Bool) (alone : Datum → Bool) (together : Datum → Datum → Bool) → IsLocal test alone together → (c : Datum) (f : List Datum)
    → IsRising (c ∷ f) → all_paired domain test f f ≡ all_follow (pair_alone domain alone) (pair_together together) None f
    → all_paired domain test (c ∷ f) (c ∷ f) ≡ all_follow (pair_alone domain alone) (pair_together together) None (c ∷ f)
step domain test alone together l (tuple (part_then x (part_then y no_part))) f h e =
    let ys = images x f in
    ap (λ k. (domain x && test k y) && all_paired domain test (pair x y ∷ f) f) (images_at x y f)
    ∙ and_if (domain x && test (y ∷ ys) y) (all_paired domain test (pair x y ∷ f) f) (all_paired domain test f f)
    (λ t. same_rest domain test alone together l x y f h (and_parts (domain x) (test (y ∷ ys) y) t).1 (some_at x f))
    ∙ ap (λ b. (domain x && b) && all_paired domain test f f) (l.first y ys (images_rise x y f h))
    ∙ with_next domain test alone together l x y f h e
step domain test alone together l c f h e = refl

decided : (domain : Datum → Bool) (test : List Datum → Datum → Bool) (alone : Datum → Bool) (together : Datum → Datum → Bool) → IsLocal test alone together → (f : List Datum)
    → IsRising f → all_paired domain test f f ≡ all_follow (pair_alone domain alone) (pair_together together) None f
unfolding IsStrictlySortedBy
decided domain test alone together l [] h = refl
decided domain test alone together l (c ∷ f) h = step domain test alone together l c f h (decided domain test alone together l f h.1)

-- ---- maps with one image

abbrev only : (Datum → Bool) → List Datum → Datum → Bool
only range ys v = length ys == 1 && range v

several : (y z : Datum) (zs : List Datum) → (length (y ∷ z ∷ zs) == 1) ≡ false
several y z zs = ne_eqb (suc (suc (length zs))) 1 (omega arith)

only_first : (range : Datum → Bool) (y : Datum) (ys : List Datum) → IsRising (y ∷ ys) → only range (y ∷ ys) y ≡ all_follow range (λ a b. false) None (y ∷ ys)
only_first range y [] h = sym (and_true (range y))
only_first range y (z ∷ zs) h =
    ap (λ b. b && range y) (several y z zs) ∙ sym (ap (λ b. range y && b) (and_false (range z)) ∙ and_false (range y))

only_later : (range : Datum → Bool) (y z v : Datum) (zs : List Datum) → IsRising (y ∷ z ∷ zs) → only range (y ∷ z ∷ zs) y ≡ true → only range (y ∷ z ∷ zs) v ≡ only range (z ∷ zs) v
only_later range y z v zs h t = absurd (false≢true (sym (ap (λ b. b && range y) (several y z zs)) ∙ t))

only_local : (range : Datum → Bool) → IsLocal (only range) range (λ a b. false)
only_local range = record { first = only_first range; later = only_later range }

as_only : (domain range : Datum → Bool) (f : List Datum) (o : Option (Datum × Datum)) → single_fits domain range f o ≡ paired domain (only range) f o
as_only domain range f None = refl
as_only domain range f (Some p) = and_assoc (domain p.0) (length (images p.0 f) == 1) (range p.1)

-- ---- maps with sets of images

abbrev Decides : Mode → Type 0
Decides m = (d : Datum) (ds : List Datum) → IsRising (d ∷ ds) → datum_fits m (set_of (d ∷ ds)) ≡ all_follow (member_fits m) (go_together m) None (d ∷ ds)

abbrev images_fit : Mode → List Datum → Datum → Bool
images_fit m ys v = datum_fits m (set_of ys)

images_later : (m : Mode) → Decides m → (y z v : Datum) (zs : List Datum) → IsRising (y ∷ z ∷ zs) → images_fit m (y ∷ z ∷ zs) y ≡ true → images_fit m (y ∷ z ∷ zs) v ≡ images_fit m (z ∷ zs) v
unfolding IsStrictlySortedBy
images_later m d y z v zs h t =
    let rest = without_middle (member_fits m y) (member_fits m z) (go_together m y z) (all_follow (member_fits m) (go_together m) (Some z) zs) (sym (d y (z ∷ zs) h) ∙ t) in
    t ∙ sym (d z zs h.1 ∙ rest)

images_local : (m : Mode) → Decides m → IsLocal (images_fit m) (member_fits m) (go_together m)
images_local m d = record { first = d; later = images_later m d }

as_images : (domain : Datum → Bool) (m : Mode) (f : List Datum) (o : Option (Datum × Datum)) → multi_fits domain (datum_fits m) f o ≡ paired domain (images_fit m) f o
as_images domain m f None = refl
as_images domain m f (Some p) = refl

-- ---- every mode

all_free : (before : Option Datum) (ds : List Datum) → all_follow (λ d. true) (λ a b. true) before ds ≡ true
all_free before [] = refl
all_free None (d ∷ ds) = all_free (Some d) ds
all_free (Some c) (d ∷ ds) = all_free (Some d) ds

all_alone : (test : Datum → Bool) (before : Option Datum) (ds : List Datum) → list_all test ds ≡ all_follow test (λ a b. true) before ds
all_alone test before [] = refl
all_alone test None (d ∷ ds) = ap (λ b. test d && b) (all_alone test (Some d) ds)
all_alone test (Some c) (d ∷ ds) = ap (λ b. test d && b) (all_alone test (Some d) ds)

sets_decide : (test : Datum → Bool) (ds : List Datum) (list : List Datum) → list ≡ ds → list_all test list ≡ all_follow test (λ a b. true) None ds
sets_decide test ds list e = ap (list_all test) e ∙ all_alone test None ds

singles_decide : (domain range : Datum → Bool) (ds list : List Datum) → list ≡ ds → IsRising ds
    → list_all (λ p. single_fits domain range list (pair_parts p)) list ≡ all_follow (pair_alone domain range) (pair_together (λ a b. false)) None ds
singles_decide domain range ds list e h =
    ap (λ k. list_all (λ p. single_fits domain range k (pair_parts p)) k) e
    ∙ (λ i. list_all (λ p. as_only domain range ds (pair_parts p) i) ds)
    ∙ decided domain (only range) range (λ a b. false) (only_local range) ds h

multis_decide : (domain : Datum → Bool) (m : Mode) → Decides m → (ds list : List Datum) → list ≡ ds → IsRising ds
    → list_all (λ p. multi_fits domain (datum_fits m) list (pair_parts p)) list ≡ all_follow (pair_alone domain (member_fits m)) (pair_together (go_together m)) None ds
multis_decide domain m d ds list e h =
    ap (λ k. list_all (λ p. multi_fits domain (datum_fits m) k (pair_parts p)) k) e
    ∙ (λ i. list_all (λ p. as_images domain m ds (pair_parts p) i) ds)
    ∙ decided domain (images_fit m) (member_fits m) (go_together m) (images_local m d) ds h

pub neighbours_decide : NeighboursDecide
neighbours_decide General d ds h = sym (all_free None (d ∷ ds))
neighbours_decide Integers d ds h = refl
neighbours_decide Strings d ds h = refl
neighbours_decide Booleans d ds h = refl
neighbours_decide Atoms d ds h = refl
neighbours_decide (Tuples m) d ds h = refl
neighbours_decide (Elements base m) d ds h = neighbours_decide m d ds h
neighbours_decide (Sets form m) d ds h = sets_decide (datum_fits m) (d ∷ ds) _ (element_list-elements_of (d ∷ ds))
neighbours_decide (SingleMaps form m r) d ds h = singles_decide (datum_fits m) (datum_fits r) (d ∷ ds) _ (element_list-elements_of (d ∷ ds)) h
neighbours_decide (MultiMaps form m s) d ds h = multis_decide (datum_fits m) s (neighbours_decide s) (d ∷ ds) _ (element_list-elements_of (d ∷ ds)) h

-- ---- where a mode takes the empty set, all sets are tested so

pub by_members : (m : Mode) → datum_fits m (set_of []) ≡ true → (ds : List Datum) → IsRising ds → all_follow (member_fits m) (go_together m) None ds ≡ datum_fits m (set_of ds)
by_members m e [] h = sym e
by_members m e (d ∷ ds) h = sym (neighbours_decide m d ds h)

pub rising_members : (ds : List Datum) → IsSetList ds → IsRising ds
rising_members ds h = subst IsRising (element_list-elements_of ds) h.0.1
