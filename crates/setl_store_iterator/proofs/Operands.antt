-- Operands of another number than an iterator has.
use Rattle.std.specs.Prelude.{◌≡◌, ℕ, suc, List, [], ◌∷◌, length, map, Option, Some, None, refl}
use Rattle.std.proofs.Common.{ap, sym, ◌∙◌, subst}
use Rattle.std.proofs.lemmas.List.{length-map}
use Rattle.setl_value.specs.Datum.{Datum, int}
use Rattle.setl_value.specs.code.DatumOf.{part}
use Rattle.setl_value.specs.declared.Value.{Value}
use Rattle.setl_operators_table.specs.declared.OpFault.{OpFault}
use Rattle.setl_operators_table.specs.Outcome.{all_values, one_more, KindFault}
use Rattle.setl_model.specs.Iterations.{Started, Refuses, of_values, one_source, integers_between, integers_stepped}
use Rattle.setl_store_iterator.specs.Operands.{fault_of, Refused}

more_values : (d : Datum) (o : Option (List Datum)) (ds : List Datum) (n : ℕ) → one_more d o ≡ Some ds → ((es : List Datum) → o ≡ Some es → length es ≡ n) → length ds ≡ suc n
more_values d None ds n e h = cc
more_values d (Some es) ds n e h = let l = h es refl in let same : d ∷ es ≡ ds = cc in ap length (sym same) ∙ ap (λ k. suc k) l

values_length : (vs : List (Option Datum)) (ds : List Datum) → all_values vs ≡ Some ds → length ds ≡ length vs
values_length [] [] e = refl
values_length [] (d ∷ ds) e = cc
values_length (None ∷ vs) ds e = cc
values_length (Some d ∷ vs) ds e = more_values d (all_values vs) ds (length vs) e (λ es h. values_length vs es h)

refused_by : (f : List Datum → Started) (n : ℕ) (vs : List (Option Datum)) (o : Option (List Datum)) → all_values vs ≡ o → (length vs ≡ n → ⊥) → ((ds : List Datum) → (length ds ≡ n → ⊥) → f ds ≡ Refuses KindFault) → Refused (fault_of o) (of_values f o)
refused_by f n vs None e h k = refl
refused_by f n vs (Some ds) e h k = k ds (λ l. h (sym (values_length vs ds e) ∙ l))

refused : (f : List Datum → Started) (n : ℕ) (xs : List (Option Value)) (e : OpFault) → e ≡ fault_of (all_values (map part xs)) → (length xs ≡ n → ⊥) → ((ds : List Datum) → (length ds ≡ n → ⊥) → f ds ≡ Refuses KindFault) → Refused e (of_values f (all_values (map part xs)))
refused f n xs e s h k =
    subst (λ x. Refused x (of_values f (all_values (map part xs)))) (sym s)
    (refused_by f n (map part xs) (all_values (map part xs)) refl (λ l. h (sym (length-map xs part) ∙ l)) k)

kind_of_one : (f : Datum → Started) (ds : List Datum) → (length ds ≡ 1 → ⊥) → one_source f ds ≡ Refuses KindFault
kind_of_one f (d ∷ []) h = absurd (h refl)
kind_of_one f ds h = refl

kind_of_two : (ds : List Datum) → (length ds ≡ 2 → ⊥) → integers_between ds ≡ Refuses KindFault
kind_of_two (int a ∷ int b ∷ []) h = absurd (h refl)
kind_of_two ds h = refl

kind_of_three : (order : List Datum → List Datum) (ds : List Datum) → (length ds ≡ 3 → ⊥) → integers_stepped order ds ≡ Refuses KindFault
kind_of_three order (int a ∷ int b ∷ int c ∷ []) h = absurd (h refl)
kind_of_three order ds h = refl

pub not_one : (xs : List (Option Value)) (e : OpFault) → e ≡ fault_of (all_values (map part xs)) → (length xs ≡ 1 → ⊥) → (f : Datum → Started) → Refused e (of_values (one_source f) (all_values (map part xs)))
not_one xs e s h f = refused (one_source f) 1 xs e s h (kind_of_one f)

pub not_two : (xs : List (Option Value)) (e : OpFault) → e ≡ fault_of (all_values (map part xs)) → (length xs ≡ 2 → ⊥) → Refused e (of_values integers_between (all_values (map part xs)))
not_two xs e s h = refused integers_between 2 xs e s h kind_of_two

pub not_three : (xs : List (Option Value)) (e : OpFault) → e ≡ fault_of (all_values (map part xs)) → (length xs ≡ 3 → ⊥) → (order : List Datum → List Datum) → Refused e (of_values (integers_stepped order) (all_values (map part xs)))
not_three xs e s h order = refused (integers_stepped order) 3 xs e s h (kind_of_three order)
