-- The images of a point.
use Rattle.std.specs.Prelude.{◌≡◌, ◌⊎◌, Bool, true, false, not, cond, List, [], ◌∷◌, refl}
use Rattle.std.specs.List.{filter_map}
use Rattle.std.specs.declared.cmp.Ordering.{Ordering}
use Rattle.std.specs.declared.cmp.Ordering.TheVariants.{Less, Equal, Greater}
use Rattle.std.specs.List.Sorted.{IsStrictlySortedBy}
use Rattle.std.specs.Ordering.{is_eq, ordering_then}
use Rattle.std.proofs.Common.{ap, sym, ◌∙◌, subst, inl, inr}
use Rattle.setl_value.specs.Datum.{Datum, tuple, part_then, no_part}
use Rattle.setl_value.specs.Order.{datum_cmp, IsRising}
use Rattle.setl_value.specs.OrderLaws.{same_if_eq, same_datum, equal_iff_same, eq_iff_same}
use Rattle.setl_value.specs.Pairs.{pair, pair_parts, first_of, second_of, is_datum, pairs_at, images}
use Rattle.setl_set.specs.Sets.{insert_by, insert_datum}
use Rattle.setl_map.specs.Maps.{without_point}
use Rattle.setl_modes_parts.proofs.Lists.{Among, Above}

-- whether this is a pair of x
abbrev pub is_at : Datum → Datum → Bool
is_at x d = is_datum x (first_of (pair_parts d))

pub same_self : (x : Datum) → is_eq (datum_cmp x x) ≡ true
same_self x = (eq_iff_same x x).1 refl

at_pair : (x z w : Datum) (b : Bool) → is_eq (datum_cmp x z) ≡ b → (is_at x (pair z w) ≡ false) ⊎ ((v : Datum) × (pair z w ≡ pair x v))
at_pair x z w false h = inl h
at_pair x z w true h = inr (w, ap (λ t. pair t w) (sym (same_if_eq x z h)))

-- a datum is no pair of x, or it is one
pub at : (x d : Datum) → (is_at x d ≡ false) ⊎ ((v : Datum) × (d ≡ pair x v))
at x (tuple (part_then z (part_then w no_part))) = at_pair x z w (is_eq (datum_cmp x z)) refl
at x d = inl refl

-- ---- one member more

pub images_past : (x d : Datum) (f : List Datum) → is_at x d ≡ false → images x (d ∷ f) ≡ images x f
images_past x d f h = ap (λ b. filter_map (λ e. second_of (pair_parts e)) (cond b (d ∷ pairs_at x f) (pairs_at x f))) h

pub images_at : (x w : Datum) (f : List Datum) → images x (pair x w ∷ f) ≡ w ∷ images x f
images_at x w f = ap (λ b. filter_map (λ e. second_of (pair_parts e)) (cond b (pair x w ∷ pairs_at x f) (pairs_at x f))) (same_self x)

-- ---- images are by pairs

pub images_to_pairs : (x : Datum) (f : List Datum) (y : Datum) → Among y (images x f) → Among (pair x y) f
images_to_pairs x [] y m = absurd m
images_to_pairs x (d ∷ f) y m = go (at x d) (images_to_pairs x f y)
  where
    here : (v : Datum) → d ≡ pair x v → (Among y (images x f) → Among (pair x y) f) → Among y (v ∷ images x f) → Among (pair x y) (d ∷ f)
    here v e rest (inl n) = inl (ap (pair x) n ∙ sym e)
    here v e rest (inr n) = inr (rest n)

    go : (is_at x d ≡ false) ⊎ ((v : Datum) × (d ≡ pair x v)) → (Among y (images x f) → Among (pair x y) f) → Among (pair x y) (d ∷ f)
    go (inl e) rest = inr (rest (subst (Among y) (images_past x d f e) m))
    go (inr u) rest = here u.0 u.1 rest (subst (Among y) (ap (λ t. images x (t ∷ f)) u.1 ∙ images_at x u.0 f) m)

pub pairs_to_images : (x : Datum) (f : List Datum) (y : Datum) → Among (pair x y) f → Among y (images x f)
pairs_to_images x [] y m = absurd m
pairs_to_images x (d ∷ f) y (inl e) = subst (λ t. Among y (images x (t ∷ f))) e (subst (Among y) (sym (images_at x y f)) (inl refl))
pairs_to_images x (d ∷ f) y (inr m) = go (at x d) (pairs_to_images x f y m)
  where
    go : (is_at x d ≡ false) ⊎ ((v : Datum) × (d ≡ pair x v)) → Among y (images x f) → Among y (images x (d ∷ f))
    go (inl e) n = subst (Among y) (sym (images_past x d f e)) n
    go (inr u) n = subst (λ t. Among y (images x (t ∷ f))) (sym u.1) (subst (Among y) (sym (images_at x u.0 f)) (inr n))

-- ---- the images rise

then_less : (o p : Ordering) → o ≡ Equal → ordering_then o (ordering_then p Equal) ≡ Less → p ≡ Less
then_less Less p e h = cc
then_less Equal Less e h = refl
then_less Equal Equal e h = h
then_less Equal Greater e h = h
then_less Greater p e h = cc

second_above : (x y w : Datum) → datum_cmp (pair x y) (pair x w) ≡ Less → datum_cmp y w ≡ Less
second_above x y w h = then_less (datum_cmp x x) (datum_cmp y w) ((equal_iff_same x x).1 refl) h

above_step : (x y d : Datum) (f : List Datum) → (is_at x d ≡ false) ⊎ ((v : Datum) × (d ≡ pair x v)) → datum_cmp (pair x y) d ≡ Less → Above y (images x f) → Above y (images x (d ∷ f))
above_step x y d f (inl e) h r = subst (Above y) (sym (images_past x d f e)) r
above_step x y d f (inr u) h r =
    subst (λ t. Above y (images x (t ∷ f))) (sym u.1)
    (subst (Above y) (sym (images_at x u.0 f)) (second_above x y u.0 (subst (λ t. datum_cmp (pair x y) t ≡ Less) u.1 h), r))

images_above : (x y : Datum) (f : List Datum) → Above (pair x y) f → Above y (images x f)
images_above x y [] h = tt
images_above x y (d ∷ f) h = above_step x y d f (at x d) h.0 (images_above x y f h.1)

rising_step : (x d : Datum) (f : List Datum) → (is_at x d ≡ false) ⊎ ((v : Datum) × (d ≡ pair x v)) → Above d f → IsRising (images x f) → IsRising (images x (d ∷ f))
unfolding IsStrictlySortedBy
rising_step x d f (inl e) h r = subst IsRising (sym (images_past x d f e)) r
rising_step x d f (inr u) h r =
    subst (λ t. IsRising (images x (t ∷ f))) (sym u.1)
    (subst IsRising (sym (images_at x u.0 f)) (images_above x u.0 f (subst (λ t. Above t f) u.1 h), r))

pub rising_images : (x : Datum) (f : List Datum) → IsRising f → IsRising (images x f)
unfolding IsStrictlySortedBy
rising_images x [] h = tt
rising_images x (d ∷ f) h = rising_step x d f (at x d) h.0 (rising_images x f h.1)

-- ---- a point is given another image

-- no pair of x is left
pub none_left : (x : Datum) (f : List Datum) → images x (without_point x f) ≡ []
none_left x [] = refl
none_left x (d ∷ f) = go (is_at x d) refl (none_left x f)
  where
    go : (b : Bool) → is_at x d ≡ b → images x (without_point x f) ≡ [] → images x (cond (not b) (d ∷ without_point x f) (without_point x f)) ≡ []
    go true e rest = rest
    go false e rest = images_past x d (without_point x f) e ∙ rest

-- the images of another point are the same
pub others_left : (x z : Datum) (f : List Datum) → is_eq (datum_cmp z x) ≡ false → images z (without_point x f) ≡ images z f
others_left x z [] h = refl
others_left x z (d ∷ f) h = go (at x d) (others_left x z f h)
  where
    keep : is_at x d ≡ false → (is_at z d ≡ false) ⊎ ((v : Datum) × (d ≡ pair z v)) → images z (without_point x f) ≡ images z f → images z (without_point x (d ∷ f)) ≡ images z (d ∷ f)
    keep e (inl o) rest = ap (λ b. images z (cond (not b) (d ∷ without_point x f) (without_point x f))) e ∙ images_past z d (without_point x f) o ∙ rest ∙ sym (images_past z d f o)
    keep e (inr u) rest =
        ap (λ b. images z (cond (not b) (d ∷ without_point x f) (without_point x f))) e
        ∙ ap (λ t. images z (t ∷ without_point x f)) u.1
        ∙ images_at z u.0 (without_point x f)
        ∙ ap (λ l. u.0 ∷ l) rest
        ∙ sym (images_at z u.0 f)
        ∙ ap (λ t. images z (t ∷ f)) (sym u.1)

    go : (is_at x d ≡ false) ⊎ ((v : Datum) × (d ≡ pair x v)) → images z (without_point x f) ≡ images z f → images z (without_point x (d ∷ f)) ≡ images z (d ∷ f)
    go (inl e) rest = keep e (at z d) rest
    go (inr u) rest =
        let other : is_at z d ≡ false = ap (is_at z) u.1 ∙ h in
        let gone : is_at x d ≡ true = ap (is_at x) u.1 ∙ same_self x in
        ap (λ b. images z (cond (not b) (d ∷ without_point x f) (without_point x f))) gone ∙ rest ∙ sym (images_past z d f other)

past_by : (o : Ordering) (z p e : Datum) (es more : List Datum) → is_at z p ≡ false → datum_cmp p e ≡ o → images z more ≡ images z es → images z (insert_by o p e es more) ≡ images z (e ∷ es)
past_by Less z p e es more h c r = images_past z p (e ∷ es) h
past_by Equal z p e es more h c r = refl
past_by Greater z p e es more h c r = go (at z e)
  where
    go : (is_at z e ≡ false) ⊎ ((v : Datum) × (e ≡ pair z v)) → images z (e ∷ more) ≡ images z (e ∷ es)
    go (inl o) = images_past z e more o ∙ r ∙ sym (images_past z e es o)
    go (inr u) =
        ap (λ t. images z (t ∷ more)) u.1 ∙ images_at z u.0 more ∙ ap (λ l. u.0 ∷ l) r ∙ sym (images_at z u.0 es) ∙ ap (λ t. images z (t ∷ es)) (sym u.1)

-- a pair of another point changes nothing
pub insert_past : (z p : Datum) (ds : List Datum) → is_at z p ≡ false → images z (insert_datum p ds) ≡ images z ds
insert_past z p [] h = images_past z p [] h
insert_past z p (e ∷ es) h = past_by (datum_cmp p e) z p e es (insert_datum p es) h refl (insert_past z p es h)

here_by : (o : Ordering) (x y e : Datum) (es more : List Datum) → datum_cmp (pair x y) e ≡ o → images x (e ∷ es) ≡ [] → (images x es ≡ [] → images x more ≡ y ∷ []) → images x (insert_by o (pair x y) e es more) ≡ y ∷ []
here_by Less x y e es more c n r = images_at x y (e ∷ es) ∙ ap (λ l. y ∷ l) n
here_by Equal x y e es more c n r =
    let same : pair x y ≡ e = same_datum (pair x y) e c in
    let some : images x (e ∷ es) ≡ y ∷ images x es = ap (λ t. images x (t ∷ es)) (sym same) ∙ images_at x y es in
    let f : y ∷ images x es ≡ [] = sym some ∙ n in
    absurd (cc)
here_by Greater x y e es more c n r = go (at x e)
  where
    go : (is_at x e ≡ false) ⊎ ((v : Datum) × (e ≡ pair x v)) → images x (e ∷ more) ≡ y ∷ []
    go (inl o) = images_past x e more o ∙ r (sym (images_past x e es o) ∙ n)
    go (inr u) =
        let some : images x (e ∷ es) ≡ u.0 ∷ images x es = ap (λ t. images x (t ∷ es)) u.1 ∙ images_at x u.0 es in
        let f : u.0 ∷ images x es ≡ [] = sym some ∙ n in
        absurd (cc)

-- a point without images gets one
pub insert_here : (x y : Datum) (ds : List Datum) → images x ds ≡ [] → images x (insert_datum (pair x y) ds) ≡ y ∷ []
insert_here x y [] h = images_at x y []
insert_here x y (e ∷ es) h = here_by (datum_cmp (pair x y) e) x y e es (insert_datum (pair x y) es) refl h (insert_here x y es)
