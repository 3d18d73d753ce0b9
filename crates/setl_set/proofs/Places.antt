-- Where a datum stands in a rising list, and what a change there leaves.
use Rattle.std.specs.Prelude.{◌≡◌, Result, Ok, Err, IfOk, IfErr, is_ok, ℕ, zero, suc, ◌<◌, ◌≤◌, Bool, true, false, not, ◌||◌, List, [], ◌∷◌, Some, refl, take, drop, length, slice_get}
use Rattle.std.specs.List.{AllByRecursion, insert, remove}
use Rattle.std.specs.List.Sorted.{IsStrictlySortedBy}
use Rattle.std.specs.declared.cmp.Ordering.TheVariants.{Less}
use Rattle.std.specs.Ordering.{is_eq}
use Rattle.std.specs.Option.{unwrap_or}
use Rattle.std.proofs.Common.{ap, sym, ◌∙◌, subst, arith}
use Rattle.std.proofs.lemmas.Bool.{or_left, or_right, or_from, or_parts, not_from_false, cond-true, cond-false, not_from_true}
use Rattle.std.proofs.lemmas.Option.{none-some, slice_get_within}
use Rattle.setl_value.specs.declared.places.Cursor.{Cursor}
use Rattle.setl_value.specs.code.Body.{Body, Members}
use Rattle.setl_value.specs.Datum.{Datum, depth, elements_depth, elements_of, element_list-elements_of}
use Rattle.setl_value.specs.Order.{datum_cmp, IsRising}
use Rattle.setl_value.specs.OrderLaws.{same_if_eq}
use Rattle.setl_value.specs.WellFormed.{IsSetList}
use Rattle.setl_set.specs.Sets.{has_datum, insert_datum, insert_by, remove_datum}
use Rattle.setl_value.specs.code.Places.{rank, IsPlace}
use Rattle.setl_set.proofs.Members.{IsBelow, turned_back, none_above, rising_unique, eq_decides}
use Rattle.setl_set.proofs.Results.{has_insert, rising_insert, all_insert}

pub some_same : {X : Type 0} (x y : X) → Some x ≡ Some y → x ≡ y
some_same x y p = ap (λ o. unwrap_or o x) p

-- what a body's own fact says of its list
pub rising_from_set : (ds : List Datum) → IsSetList ds → IsRising ds
rising_from_set ds h = subst IsRising (element_list-elements_of ds) h.0.1

pub all_at : (P : Datum → Type 0) (ds : List Datum) (i : ℕ) (d : Datum) → AllByRecursion P ds → slice_get ds i ≡ Some d → P d
all_at P [] i d a e = absurd (none-some d e)
all_at P (c ∷ ds) zero d a e = subst P (some_same c d e) a.0
all_at P (c ∷ ds) (suc i) d a e = all_at P ds i d a.1 e

-- ---- what is there, and what isn't

pub there : (ds : List Datum) (i : ℕ) (d : Datum) → slice_get ds i ≡ Some d → has_datum d ds ≡ true
there [] i d h = absurd (none-some d h)
there (c ∷ cs) zero d h = or_left (is_eq (datum_cmp d c)) (has_datum d cs) ((eq_decides d c).1 (sym (some_same c d h)))
there (c ∷ cs) (suc i) d h = or_right (is_eq (datum_cmp d c)) (has_datum d cs) (there cs i d h)

absent_at : (ds : List Datum) (i : ℕ) (d : Datum) → AllByRecursion (λ e. datum_cmp e d ≡ Less) (take i ds) → AllByRecursion (λ e. datum_cmp d e ≡ Less) (drop i ds) → has_datum d ds ≡ false
absent_at [] i d a b = refl
absent_at (e ∷ es) zero d a b = none_above d (e ∷ es) b
absent_at (e ∷ es) (suc i) d a b = or_from (is_eq (datum_cmp d e)) (has_datum d es) (ap is_eq (turned_back e d a.0)) (absent_at es i d a.1 b)

pub absent : (d : Datum) (ds : List Datum) (i : ℕ) → IsPlace d ds i → has_datum d ds ≡ false
absent d ds i p = absent_at ds i d p.before p.after

-- ---- `insert_datum`

inserted_at : (ds : List Datum) (i : ℕ) (d : Datum) → i ≤ length ds → AllByRecursion (λ e. datum_cmp e d ≡ Less) (take i ds) → AllByRecursion (λ e. datum_cmp d e ≡ Less) (drop i ds) → insert ds i d ≡ insert_datum d ds
inserted_at [] zero d l a b = refl
inserted_at [] (suc i) d l a b = absurd (omega arith)
inserted_at (e ∷ es) zero d l a b = sym (ap (λ o. insert_by o d e es (insert_datum d es)) b.0)
inserted_at (e ∷ es) (suc i) d l a b =
    ap (λ l. e ∷ l) (inserted_at es i d (omega arith) a.1 b) ∙ sym (ap (λ o. insert_by o d e es (insert_datum d es)) (turned_back e d a.0))

pub inserted : (d : Datum) (ds : List Datum) (i : ℕ) → IsPlace d ds i → insert ds i d ≡ insert_datum d ds
inserted d ds i p = inserted_at ds i d p.within p.before p.after

known : (b c : Bool) → (b ≡ true → c ≡ true) → (b || c) ≡ c
known true c f = sym (f refl)
known false c f = refl

pub insert_there : (d : Datum) (ds : List Datum) → IsRising ds → has_datum d ds ≡ true → insert_datum d ds ≡ ds
insert_there d ds r h =
    rising_unique (insert_datum d ds) ds (rising_insert d ds r) r
    (λ x. has_insert x d ds ∙ known (is_eq (datum_cmp x d)) (has_datum x ds) (λ e. subst (λ z. has_datum z ds ≡ true) (sym (same_if_eq x d e)) h))

-- ---- `remove_datum`

removed_none : (d : Datum) (ds : List Datum) → has_datum d ds ≡ false → remove_datum d ds ≡ ds
removed_none d [] h = refl
removed_none d (e ∷ es) h =
    let parts = or_parts (is_eq (datum_cmp d e)) (has_datum d es) h in
    cond-true (not (is_eq (datum_cmp d e))) (e ∷ remove_datum d es) (remove_datum d es) (not_from_false (is_eq (datum_cmp d e)) parts.0) ∙ ap (λ l. e ∷ l) (removed_none d es parts.1)

pub remove_absent : (d : Datum) (ds : List Datum) → has_datum d ds ≡ false → ds ≡ remove_datum d ds
remove_absent d ds h = sym (removed_none d ds h)

pub removed : (ds : List Datum) (i : ℕ) (d : Datum) → IsRising ds → slice_get ds i ≡ Some d → remove ds i ≡ remove_datum d ds
unfolding IsStrictlySortedBy
removed [] i d r h = absurd (none-some d h)
removed (e ∷ es) zero d r h =
    let p : d ≡ e = sym (some_same e d h) in
    sym (cond-false (not (is_eq (datum_cmp d e))) (e ∷ remove_datum d es) (remove_datum d es) (not_from_true (is_eq (datum_cmp d e)) ((eq_decides d e).1 p))
    ∙ removed_none d es (none_above d es (subst (λ z. IsBelow z es) (sym p) r.0)))
removed (e ∷ es) (suc i) d r h =
    ap (λ l. e ∷ l) (removed es i d r.1 h)
    ∙ sym (cond-true (not (is_eq (datum_cmp d e))) (e ∷ remove_datum d es) (remove_datum d es)
    (not_from_false (is_eq (datum_cmp d e)) (ap is_eq (turned_back e d (all_at (λ y. datum_cmp e y ≡ Less) es i d r.0 h)))))

-- ---- depth

pub depths_in : (n : ℕ) (ds : List Datum) → elements_depth (elements_of ds) ≤ n → AllByRecursion (λ d. depth d ≤ n) ds
depths_in n [] p = tt
depths_in n (d ∷ ds) p = (omega arith, depths_in n ds (omega arith))

pub depths_out : (n : ℕ) (ds : List Datum) → AllByRecursion (λ d. depth d ≤ n) ds → elements_depth (elements_of ds) ≤ n
depths_out n [] a = omega arith
depths_out n (d ∷ ds) a = omega (arith, a.0, depths_out n ds a.1)

pub depth_insert : (d : Datum) (ds : List Datum) (n : ℕ) → depth d ≤ n → elements_depth (elements_of ds) ≤ n → elements_depth (elements_of (insert_datum d ds)) ≤ n
depth_insert d ds n p q = depths_out n (insert_datum d ds) (all_insert (λ e. depth e ≤ n) d ds p (depths_in n ds q))

-- ---- what a search answers

pub found_or_absent : (d : Datum) (b : Body) (r : Result Cursor Cursor) → IfOk r (λ c. slice_get (Members b) (rank b c) ≡ Some d) → IfErr r (λ c. IsPlace d (Members b) (rank b c)) → is_ok r ≡ has_datum d (Members b)
found_or_absent d b (Ok c) f a = sym (there (Members b) (rank b c) d f)
found_or_absent d b (Err c) f a = sym (absent d (Members b) (rank b c) a)

-- a place with a member is before the end
pub found_within : (ds : List Datum) (i : ℕ) (d : Datum) → slice_get ds i ≡ Some d → i < length ds
found_within ds i d h = slice_get_within ds i d h
