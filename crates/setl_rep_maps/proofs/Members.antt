-- Members of lists that are filtered and mapped.
use Rattle.std.proofs.Common.{◌≡◌, ◌∙◌, ⊎_elim, ℕ, Bool, true, false, cond, ◌||◌, List, [], ◌∷◌, map, Option, None, Some, option_and_then, refl, sym, ap, eq-eqb}
use Rattle.std.proofs.lemmas.Bool.{false≢true, or_left, or_right, or_cases}
use Rattle.std.specs.List.{filter, filter_map, cons_option}
use Rattle.std.specs.Option.{option_map, unwrap_or}
use Rattle.std.specs.Ordering.{is_eq}
use Rattle.setl_value.specs.Datum.{Datum}
use Rattle.setl_value.specs.Order.{datum_cmp}
use Rattle.setl_value.specs.OrderLaws.{same_if_eq, eq_iff_same}
use Rattle.setl_value.specs.Pairs.{pair, pair_parts}
use Rattle.setl_set.specs.Sets.{has_datum}
use Rattle.setl_base.specs.declared.Elt.{Elt}
use Rattle.setl_base.specs.Base.{BaseState, Member, IsBase, handle, member_at, value_in, value_of}
use Rattle.setl_rep_forms.specs.Stands.{value_at}

pub some_same : {A : Type 0} {x y : A} → Some x ≡ Some y → x ≡ y
some_same p = cc

pub not_both : {A : Type 0} {x : A} → None ≡ Some x → ⊥
not_both p = cc

pub itself : (d : Datum) → is_eq (datum_cmp d d) ≡ true
itself d = (eq_iff_same d d).1 refl

-- ---- filtered

pub has_kept : (t : Datum → Bool) (p : Datum) (ds : List Datum) → has_datum p ds ≡ true → t p ≡ true → has_datum p (filter t ds) ≡ true
has_kept t p [] h k = h
has_kept t p (d ∷ ds) h k = by (is_eq (datum_cmp p d)) refl h (λ r. has_kept t p ds r k)
  where
    by : (u : Bool) → is_eq (datum_cmp p d) ≡ u → (u || has_datum p ds) ≡ true → (has_datum p ds ≡ true → has_datum p (filter t ds) ≡ true) → has_datum p (cond (t d) (d ∷ filter t ds) (filter t ds)) ≡ true
    by true e g rest = ap (λ b. has_datum p (cond b (d ∷ filter t ds) (filter t ds))) (ap t (sym (same_if_eq p d e)) ∙ k) ∙ or_left (is_eq (datum_cmp p d)) (has_datum p (filter t ds)) e
    by false e g rest = either (t d)
      where
        either : (b : Bool) → has_datum p (cond b (d ∷ filter t ds) (filter t ds)) ≡ true
        either true = or_right (is_eq (datum_cmp p d)) (has_datum p (filter t ds)) (rest g)
        either false = rest g

pub was_kept : (t : Datum → Bool) (p : Datum) (ds : List Datum) → has_datum p (filter t ds) ≡ true → (has_datum p ds ≡ true) × (t p ≡ true)
was_kept t p [] h = absurd (false≢true h)
was_kept t p (d ∷ ds) h = by (t d) refl h (was_kept t p ds)
  where
    by : (b : Bool) → t d ≡ b → has_datum p (cond b (d ∷ filter t ds) (filter t ds)) ≡ true → (has_datum p (filter t ds) ≡ true → (has_datum p ds ≡ true) × (t p ≡ true)) → (has_datum p (d ∷ ds) ≡ true) × (t p ≡ true)
    by true e g rest =
        ⊎_elim
        (λ s. (or_left (is_eq (datum_cmp p d)) (has_datum p ds) s, ap t (same_if_eq p d s) ∙ e))
        (λ r. let q = rest r in (or_right (is_eq (datum_cmp p d)) (has_datum p ds) q.0, q.1))
        (or_cases (is_eq (datum_cmp p d)) (has_datum p (filter t ds)) g)
    by false e g rest = let q = rest g in (or_right (is_eq (datum_cmp p d)) (has_datum p ds) q.0, q.1)

-- ---- mapped

pub of_pairs : (x : Datum) (ys : List Datum) (p : Datum) → has_datum p (map (pair x) ys) ≡ true → (w : Datum) × (has_datum w ys ≡ true) × (p ≡ pair x w)
of_pairs x [] p h = absurd (false≢true h)
of_pairs x (y ∷ ys) p h =
    ⊎_elim
    (λ e. (y, or_left (is_eq (datum_cmp y y)) (has_datum y ys) (itself y), same_if_eq p (pair x y) e))
    (λ r. let w = of_pairs x ys p r in (w.0, or_right (is_eq (datum_cmp w.0 y)) (has_datum w.0 ys) w.1, w.2))
    (or_cases (is_eq (datum_cmp p (pair x y))) (has_datum p (map (pair x) ys)) h)

pub in_pairs : (x : Datum) (ys : List Datum) (w : Datum) → has_datum w ys ≡ true → has_datum (pair x w) (map (pair x) ys) ≡ true
in_pairs x [] w h = absurd (false≢true h)
in_pairs x (y ∷ ys) w h =
    ⊎_elim
    (λ e. or_left (is_eq (datum_cmp (pair x w) (pair x y))) (has_datum (pair x w) (map (pair x) ys)) ((eq_iff_same (pair x w) (pair x y)).1 (ap (pair x) (same_if_eq w y e))))
    (λ r. or_right (is_eq (datum_cmp (pair x w) (pair x y))) (has_datum (pair x w) (map (pair x) ys)) (in_pairs x ys w r))
    (or_cases (is_eq (datum_cmp w y)) (has_datum w ys) h)

has_more : (e : Datum) (o : Option Datum) (es : List Datum) → has_datum e es ≡ true → has_datum e (cons_option o es) ≡ true
has_more e None es h = h
has_more e (Some d) es h = or_right (is_eq (datum_cmp e d)) (has_datum e es) h

pub has_mapped : (g : Datum → Option Datum) (p e : Datum) (ds : List Datum) → has_datum p ds ≡ true → g p ≡ Some e → has_datum e (filter_map g ds) ≡ true
has_mapped g p e [] h k = absurd (false≢true h)
has_mapped g p e (d ∷ ds) h k =
    ⊎_elim
    (λ s. ap (λ o. has_datum e (cons_option o (filter_map g ds))) (ap g (sym (same_if_eq p d s)) ∙ k) ∙ or_left (is_eq (datum_cmp e e)) (has_datum e (filter_map g ds)) (itself e))
    (λ r. has_more e (g d) (filter_map g ds) (has_mapped g p e ds r k))
    (or_cases (is_eq (datum_cmp p d)) (has_datum p ds) h)

pub was_mapped : (g : Datum → Option Datum) (e : Datum) (ds : List Datum) → has_datum e (filter_map g ds) ≡ true → (p : Datum) × (has_datum p ds ≡ true) × (g p ≡ Some e)
was_mapped g e [] h = absurd (false≢true h)
was_mapped g e (d ∷ ds) h = by (g d) refl h (was_mapped g e ds)
  where
    later : (p : Datum) × (has_datum p ds ≡ true) × (g p ≡ Some e) → (p : Datum) × (has_datum p (d ∷ ds) ≡ true) × (g p ≡ Some e)
    later q = (q.0, or_right (is_eq (datum_cmp q.0 d)) (has_datum q.0 ds) q.1, q.2)

    by : (o : Option Datum) → g d ≡ o → has_datum e (cons_option o (filter_map g ds)) ≡ true → (has_datum e (filter_map g ds) ≡ true → (p : Datum) × (has_datum p ds ≡ true) × (g p ≡ Some e))
        → (p : Datum) × (has_datum p (d ∷ ds) ≡ true) × (g p ≡ Some e)
    by None q k rest = later (rest k)
    by (Some x) q k rest =
        ⊎_elim
        (λ s. (d, or_left (is_eq (datum_cmp d d)) (has_datum d ds) (itself d), q ∙ ap (λ z. Some z) (sym (same_if_eq e x s))))
        (λ r. later (rest r))
        (or_cases (is_eq (datum_cmp e x)) (has_datum e (filter_map g ds)) k)

-- ---- parts of pairs

pub first_same : (x y a b : Datum) → pair x y ≡ pair a b → x ≡ a
first_same x y a b p = ap (λ d. unwrap_or (option_map (λ (q : Datum × Datum). q.0) (pair_parts d)) x) p

-- ---- numbers of members

handle_at : (b : BaseState) (n : ℕ) (d : Datum) → value_at b n ≡ Some d → (e : Elt) × (e.block ≡ n) × (value_of b e ≡ Some d)
handle_at b n d p = by (member_at b n) refl p
  where
    by : (o : Option Member) → member_at b n ≡ o → option_map (λ m. m.value) o ≡ Some d → (e : Elt) × (e.block ≡ n) × (value_of b e ≡ Some d)
    by None q r = absurd (not_both r)
    by (Some m) q r = (handle n m, refl, ap (option_and_then (value_in m.generation)) q ∙ ap (λ t. cond t (Some m.value) None) (eq-eqb m.generation m.generation refl) ∙ r)

-- a member has one number
pub one_number : (b : BaseState) → IsBase b → (n k : ℕ) (d : Datum) → value_at b n ≡ Some d → value_at b k ≡ Some d → n ≡ k
one_number b base n k d p q =
    let e = handle_at b n d p in
    let f = handle_at b k d q in
    let same : e.0 ≡ f.0 = some_same (sym (base.found e.0 d e.2) ∙ base.found f.0 d f.2) in
    sym e.1 ∙ ap (λ (x : Elt). x.block) same ∙ f.1
