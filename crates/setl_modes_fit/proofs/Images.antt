-- The images of a point in a rising list of pairs.
use Rattle.std.specs.Prelude.{◌≡◌, ◌⊎◌, Bool, true, false, cond, List, [], ◌∷◌, refl}
use Rattle.std.specs.List.{AllByRecursion, filter_map}
use Rattle.std.specs.declared.cmp.Ordering.{Ordering}
use Rattle.std.specs.declared.cmp.Ordering.TheVariants.{Less, Equal, Greater}
use Rattle.std.specs.List.Sorted.{IsStrictlySortedBy}
use Rattle.std.specs.Ordering.{is_eq, ordering_then, ordering_reverse}
use Rattle.std.proofs.Common.{ap, sym, ◌∙◌, subst, inl, inr}
use Rattle.setl_value.specs.Datum.{Datum, tuple, part_then, no_part}
use Rattle.setl_value.specs.Order.{datum_cmp, IsRising}
use Rattle.setl_value.specs.OrderLaws.{datum_cmp_total, same_if_eq, equal_iff_same, eq_iff_same}
use Rattle.setl_value.specs.Pairs.{pair, pair_parts, first_of, second_of, is_datum, pairs_at, images}

-- whether this is a pair of x
abbrev pub is_at : Datum → Datum → Bool
is_at x d = is_datum x (first_of (pair_parts d))

abbrev pub Others : Datum → List Datum → Type 0
Others x ds = AllByRecursion (λ d. is_at x d ≡ false) ds

abbrev pub Above : Datum → List Datum → Type 0
Above c ds = AllByRecursion (λ d. datum_cmp c d ≡ Less) ds

pub same_self : (x : Datum) → is_eq (datum_cmp x x) ≡ true
same_self x = (eq_iff_same x x).1 refl

at_pair : (x z w : Datum) (b : Bool) → is_eq (datum_cmp x z) ≡ b → (is_at x (pair z w) ≡ false) ⊎ ((v : Datum) × (pair z w ≡ pair x v))
at_pair x z w false h = inl h
at_pair x z w true h = inr (w, ap (λ t. pair t w) (sym (same_if_eq x z h)))

-- a datum is no pair of x, or it is one
pub at : (x d : Datum) → (is_at x d ≡ false) ⊎ ((v : Datum) × (d ≡ pair x v))
at x (tuple (part_then z (part_then w no_part))) = at_pair x z w (is_eq (datum_cmp x z)) refl
at x d = inl refl

-- ---- one member more

pub images_past : (x d : Datum) (f : List Datum) → is_at x d ≡ false → images x (d ∷ f) ≡ images x f
images_past x d f h = ap (λ b. filter_map (λ e. second_of (pair_parts e)) (cond b (d ∷ pairs_at x f) (pairs_at x f))) h

pub images_at : (x w : Datum) (f : List Datum) → images x (pair x w ∷ f) ≡ w ∷ images x f
images_at x w f = ap (λ b. filter_map (λ e. second_of (pair_parts e)) (cond b (pair x w ∷ pairs_at x f) (pairs_at x f))) (same_self x)

pub none_at : (x : Datum) (f : List Datum) → Others x f → images x f ≡ []
none_at x [] h = refl
none_at x (d ∷ f) h = images_past x d f h.0 ∙ none_at x f h.1

abbrev pub HasImage : Datum → List Datum → Type 0
HasImage x f = (w : Datum) × (ws : List Datum) × (images x f ≡ w ∷ ws)

one_more : (x d : Datum) (f : List Datum) → (is_at x d ≡ false) ⊎ ((v : Datum) × (d ≡ pair x v)) → Others x f ⊎ HasImage x f → Others x (d ∷ f) ⊎ HasImage x (d ∷ f)
one_more x d f (inl e) (inl n) = inl (e, n)
one_more x d f (inl e) (inr u) = inr (u.0, u.1, images_past x d f e ∙ u.2)
one_more x d f (inr u) r = inr (u.0, images x f, ap (λ t. images x (t ∷ f)) u.1 ∙ images_at x u.0 f)

-- x has an image, or no member is a pair of x
pub some_at : (x : Datum) (f : List Datum) → Others x f ⊎ HasImage x f
some_at x [] = inl tt
some_at x (d ∷ f) = one_more x d f (at x d) (some_at x f)

-- ---- the images rise

then_less : (o p : Ordering) → o ≡ Equal → ordering_then o (ordering_then p Equal) ≡ Less → p ≡ Less
then_less Less p e h = cc
then_less Equal Less e h = refl
then_less Equal Equal e h = h
then_less Equal Greater e h = h
then_less Greater p e h = cc

second_above : (x y w : Datum) → datum_cmp (pair x y) (pair x w) ≡ Less → datum_cmp y w ≡ Less
second_above x y w h = then_less (datum_cmp x x) (datum_cmp y w) ((equal_iff_same x x).1 refl) h

above_step : (x y d : Datum) (f : List Datum) → (is_at x d ≡ false) ⊎ ((v : Datum) × (d ≡ pair x v)) → datum_cmp (pair x y) d ≡ Less → Above y (images x f) → Above y (images x (d ∷ f))
above_step x y d f (inl e) h r = subst (Above y) (sym (images_past x d f e)) r
above_step x y d f (inr u) h r =
    subst (λ t. Above y (images x (t ∷ f))) (sym u.1)
    (subst (Above y) (sym (images_at x u.0 f)) (second_above x y u.0 (subst (λ t. datum_cmp (pair x y) t ≡ Less) u.1 h), r))

pub images_above : (x y : Datum) (f : List Datum) → Above (pair x y) f → Above y (images x f)
images_above x y [] h = tt
images_above x y (d ∷ f) h = above_step x y d f (at x d) h.0 (images_above x y f h.1)

rising_step : (x d : Datum) (f : List Datum) → (is_at x d ≡ false) ⊎ ((v : Datum) × (d ≡ pair x v)) → Above d f → IsRising (images x f) → IsRising (images x (d ∷ f))
unfolding IsStrictlySortedBy
rising_step x d f (inl e) h r = subst IsRising (sym (images_past x d f e)) r
rising_step x d f (inr u) h r =
    subst (λ t. IsRising (images x (t ∷ f))) (sym u.1)
    (subst IsRising (sym (images_at x u.0 f)) (images_above x u.0 f (subst (λ t. Above t f) u.1 h), r))

rising_images : (x : Datum) (f : List Datum) → IsRising f → IsRising (images x f)
unfolding IsStrictlySortedBy
rising_images x [] h = tt
rising_images x (d ∷ f) h = rising_step x d f (at x d) h.0 (rising_images x f h.1)

pub images_rise : (x y : Datum) (f : List Datum) → IsRising (pair x y ∷ f) → IsRising (y ∷ images x f)
unfolding IsStrictlySortedBy
images_rise x y f h = (images_above x y f h.0, rising_images x f h.1)

-- ---- behind a pair of another point no pair of x comes again

reverse_eq : (o : Ordering) → is_eq (ordering_reverse o) ≡ is_eq o
reverse_eq Less = refl
reverse_eq Equal = refl
reverse_eq Greater = refl

pub other_way : (x z : Datum) → is_eq (datum_cmp x z) ≡ false → is_eq (datum_cmp z x) ≡ false
other_way x z h = ap is_eq (datum_cmp_total.antisymm z x) ∙ reverse_eq (datum_cmp x z) ∙ h

never_back : (o p q : Ordering) → is_eq o ≡ false → ordering_then o p ≡ Less → ordering_then (ordering_reverse o) q ≡ Less → ⊥
never_back Less p q e h k = cc
never_back Equal p q e h k = cc
never_back Greater p q e h k = cc

not_back : (x y z w v : Datum) → is_eq (datum_cmp x z) ≡ false → datum_cmp (pair x y) (pair z w) ≡ Less → datum_cmp (pair z w) (pair x v) ≡ Less → ⊥
not_back x y z w v e h k =
    never_back (datum_cmp x z) (ordering_then (datum_cmp y w) Equal) (ordering_then (datum_cmp w v) Equal) e h
    (ap (λ o. ordering_then o (ordering_then (datum_cmp w v) Equal)) (sym (datum_cmp_total.antisymm z x)) ∙ k)

past_step : (x y z w d : Datum) → is_eq (datum_cmp x z) ≡ false → datum_cmp (pair x y) (pair z w) ≡ Less → datum_cmp (pair z w) d ≡ Less → (is_at x d ≡ false) ⊎ ((v : Datum) × (d ≡ pair x v)) → is_at x d ≡ false
past_step x y z w d e h k (inl n) = n
past_step x y z w d e h k (inr u) = absurd (not_back x y z w u.0 e h (subst (λ t. datum_cmp (pair z w) t ≡ Less) u.1 k))

pub none_past : (x y z w : Datum) (f : List Datum) → is_eq (datum_cmp x z) ≡ false → datum_cmp (pair x y) (pair z w) ≡ Less → Above (pair z w) f → Others x f
none_past x y z w [] e h a = tt
none_past x y z w (d ∷ f) e h a = (past_step x y z w d e h a.0 (at x d), none_past x y z w f e h a.1)
