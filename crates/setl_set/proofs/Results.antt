-- What each operation leaves: a rising list, and which data it has.
use Rattle.std.specs.Prelude.{◌≡◌, Bool, true, false, not, ◌&&◌, ◌||◌, List, [], ◌∷◌, ◌++◌, refl}
use Rattle.std.specs.List.{AllByRecursion, filter}
use Rattle.std.specs.List.Sorted.{IsStrictlySortedBy}
use Rattle.std.specs.declared.cmp.Ordering.{Ordering}
use Rattle.std.specs.declared.cmp.Ordering.TheVariants.{Less, Equal, Greater}
use Rattle.std.specs.Ordering.{is_eq}
use Rattle.std.proofs.Common.{ap, sym, ◌∙◌, subst}
use Rattle.std.proofs.lemmas.List.Folds.{list_any-append}
use Rattle.std.proofs.lemmas.List.Kept.{IsStrictlySortedBy-filter}
use Rattle.std.proofs.lemmas.Map.Views.{any-filter_same}
use Rattle.setl_value.specs.Datum.{Datum}
use Rattle.setl_value.specs.Order.{datum_cmp, IsRising}
use Rattle.setl_value.specs.OrderLaws.{same_datum, same_if_eq}
use Rattle.setl_set.specs.Sets.{has_datum, insert_datum, insert_by, remove_datum, set_from, union_of, minus_of, meet_of, symm_of}
use Rattle.setl_set.proofs.Members.{turned, below_cons}

-- ---- `insert_datum`

swap_or : (a b c : Bool) → (a || (b || c)) ≡ (b || (a || c))
swap_or true true c = refl
swap_or true false c = refl
swap_or false true c = refl
swap_or false false c = refl

or_itself : (a c : Bool) → (a || (a || c)) ≡ (a || c)
or_itself true c = refl
or_itself false c = refl

has_insert_by : (o : Ordering) (x d e : Datum) (es : List Datum) → datum_cmp d e ≡ o → has_datum x (insert_datum d es) ≡ (is_eq (datum_cmp x d) || has_datum x es)
    → has_datum x (insert_by o d e es (insert_datum d es)) ≡ (is_eq (datum_cmp x d) || has_datum x (e ∷ es))
has_insert_by Less x d e es p h = refl
has_insert_by Equal x d e es p h =
    subst (λ z. has_datum x (e ∷ es) ≡ (is_eq (datum_cmp x z) || has_datum x (e ∷ es))) (sym (same_datum d e p)) (sym (or_itself (is_eq (datum_cmp x e)) (has_datum x es)))
has_insert_by Greater x d e es p h =
    ap (λ b. is_eq (datum_cmp x e) || b) h ∙ swap_or (is_eq (datum_cmp x e)) (is_eq (datum_cmp x d)) (has_datum x es)

pub has_insert : (x d : Datum) (ds : List Datum) → has_datum x (insert_datum d ds) ≡ (is_eq (datum_cmp x d) || has_datum x ds)
has_insert x d [] = refl
has_insert x d (e ∷ es) = has_insert_by (datum_cmp d e) x d e es refl (has_insert x d es)

all_by : (o : Ordering) (P : Datum → Type 0) (d e : Datum) (es more : List Datum) → P d → P e → AllByRecursion P es → AllByRecursion P more → AllByRecursion P (insert_by o d e es more)
all_by Less P d e es more p q a b = (p, (q, a))
all_by Equal P d e es more p q a b = (q, a)
all_by Greater P d e es more p q a b = (q, b)

pub all_insert : (P : Datum → Type 0) (d : Datum) (es : List Datum) → P d → AllByRecursion P es → AllByRecursion P (insert_datum d es)
all_insert P d [] p a = (p, tt)
all_insert P d (e ∷ es) p a = all_by (datum_cmp d e) P d e es (insert_datum d es) p a.0 a.1 (all_insert P d es p a.1)

rising_by : (o : Ordering) (d e : Datum) (es : List Datum) → datum_cmp d e ≡ o → IsRising (e ∷ es) → IsRising (insert_datum d es) → IsRising (insert_by o d e es (insert_datum d es))
unfolding IsStrictlySortedBy
rising_by Less d e es p r m = (below_cons d e es p r, r)
rising_by Equal d e es p r m = r
rising_by Greater d e es p r m = (all_insert (λ y. datum_cmp e y ≡ Less) d es (turned d e p) r.0, m)

pub rising_insert : (d : Datum) (ds : List Datum) → IsRising ds → IsRising (insert_datum d ds)
unfolding IsStrictlySortedBy
rising_insert d [] r = (tt, tt)
rising_insert d (e ∷ es) r = rising_by (datum_cmp d e) d e es refl r (rising_insert d es r.1)

-- ---- `set_from` and `union_of`

pub has_set_from : (x : Datum) (ds : List Datum) → has_datum x (set_from ds) ≡ has_datum x ds
has_set_from x [] = refl
has_set_from x (d ∷ ds) = has_insert x d (set_from ds) ∙ ap (λ b. is_eq (datum_cmp x d) || b) (has_set_from x ds)

pub rising_set_from : (ds : List Datum) → IsRising (set_from ds)
unfolding IsStrictlySortedBy
rising_set_from [] = tt
rising_set_from (d ∷ ds) = rising_insert d (set_from ds) (rising_set_from ds)

pub has_union : (x : Datum) (xs ys : List Datum) → has_datum x (union_of xs ys) ≡ (has_datum x xs || has_datum x ys)
has_union x xs ys = has_set_from x (xs ++ ys) ∙ list_any-append (λ e. is_eq (datum_cmp x e)) xs ys

-- ---- the operations that filter

has_filter : (x : Datum) (p : Datum → Bool) (ds : List Datum) → has_datum x (filter p ds) ≡ (p x && has_datum x ds)
has_filter x p ds = any-filter_same (λ e. is_eq (datum_cmp x e)) p (p x) (λ k t. ap p (sym (same_if_eq x k t))) ds

pub rising_filter : (p : Datum → Bool) (ds : List Datum) → IsRising ds → IsRising (filter p ds)
rising_filter p ds r = IsStrictlySortedBy-filter datum_cmp p ds r

pub has_remove : (x d : Datum) (ds : List Datum) → has_datum x (remove_datum d ds) ≡ (not (is_eq (datum_cmp d x)) && has_datum x ds)
has_remove x d ds = has_filter x (λ e. not (is_eq (datum_cmp d e))) ds

pub has_minus : (x : Datum) (xs ys : List Datum) → has_datum x (minus_of xs ys) ≡ (not (has_datum x ys) && has_datum x xs)
has_minus x xs ys = has_filter x (λ e. not (has_datum e ys)) xs

pub has_meet : (x : Datum) (xs ys : List Datum) → has_datum x (meet_of xs ys) ≡ (has_datum x ys && has_datum x xs)
has_meet x xs ys = has_filter x (λ e. has_datum e ys) xs

pub has_symm : (x : Datum) (xs ys : List Datum) → has_datum x (symm_of xs ys) ≡ ((not (has_datum x ys) && has_datum x xs) || (not (has_datum x xs) && has_datum x ys))
has_symm x xs ys =
    has_union x (minus_of xs ys) (minus_of ys xs)
    ∙ ap (λ b. b || has_datum x (minus_of ys xs)) (has_minus x xs ys)
    ∙ ap (λ b. (not (has_datum x ys) && has_datum x xs) || b) (has_minus x ys xs)
