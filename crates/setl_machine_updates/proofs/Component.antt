-- The component at a place of a tuple that a closure changed in place.
use Rattle.std.proofs.Common.{◌≡◌, ◌∙◌, ap, sym, subst, refl, ℕ, ℤ, pos, ◌+◌, ◌-◌, ◌<◌, true, List, [], ◌∷◌, ◌++◌, Option, Some, None, length, take, drop, replicate, arith}
use Rattle.std.specs.Prelude.{Ok, Err, zero, suc, ◌≤◌, max, nat_le, int_le, slice_get, slice_set}
use Rattle.std.specs.Borrow.{MutBor}
use Rattle.std.specs.Fn.{Once}
use Rattle.std.specs.Bool.{if◌then◌else◌}
use Rattle.std.specs.Option.{option_flatten, unwrap_or}
use Rattle.std.proofs.lemmas.Bool.Decides.{nat_tests}
use Rattle.std.proofs.lemmas.List.{append-nil, take-append-drop, take-set, drop-set, set-get_or}
use Rattle.std.proofs.lemmas.Option.{none-some, slice_get_within, get_or_from_slice_get}
use Rattle.setl_value.specs.declared.Value.{Value}
use Rattle.setl_value.specs.Datum.{Datum, int, depth, part_depth, parts_depth, parts_of, tuple_of, part_list-parts_of}
use Rattle.setl_value.specs.WellFormed.{IsTrimmed, IsTupleList, trim}
use Rattle.setl_value.specs.code.Changing.{Leaves}
use Rattle.setl_tuple.specs.declared.TupleFault.TheVariants.{Range}
use Rattle.setl_tuple.specs.Tuples.{index_of, put_of}
use Rattle.setl_operators_table.specs.Outcome.{Gives, Fails, Overspends, RangeFault, value, within_depth, adding, charging}
use Rattle.setl_operators_table.specs.OutcomeLaws.{shallow}
use Rattle.setl_operators_table.specs.Puts.{put_part}
use Rattle.setl_operators_table.specs.Selections.{component}
use Rattle.setl_model.specs.Core.{Round}
use Rattle.setl_model.specs.Places.{part_of, with_part_at}
use Rattle.setl_machine_updates.specs.Changing.{ChangesPart, Deepens, IsShallowAt}
use Rattle.setl_machine_updates.proofs.Takings.{trim_ends}

component_is : (t : List (Option Datum)) (place : ℤ) (i left : ℕ) (d : Datum) → int_le (pos 1) place ≡ true → index_of place ≡ i → slice_get t i ≡ Some (Some d)
    → part_of (Round (Some (int place))) (Some (tuple_of t)) left ≡ Gives (Some d) 0
component_is t place i left d h e there =
    ap (λ ps. component (if int_le (pos 1) place then Ok (option_flatten (slice_get ps (index_of place))) else Err Range)) (part_list-parts_of t)
    ∙ ap (λ b. component (if b then Ok (option_flatten (slice_get t (index_of place))) else Err Range)) h
    ∙ ap (λ p. component (Ok (option_flatten p))) (ap (slice_get t) e ∙ there)

trimmed : (t : List (Option Datum)) → IsTrimmed t → trim t ≡ t
trimmed [] h = refl
trimmed (p ∷ ps) h = trim_ends p ps h

-- within a tuple a put writes one component
put_within : (t : List (Option Datum)) (i : ℕ) (p : Option Datum) → i < length t → IsTrimmed (slice_set t i p) → put_of t i p ≡ slice_set t i p
put_within t i p h k =
    let none : take i t ++ replicate (i - length t) None ≡ take i t = ap (λ n. take i t ++ replicate n None) {x = i - length t} {y = 0} (omega (arith, h)) ∙ append-nil (take i t) in
    ap (λ l. trim (l ++ p ∷ drop (i + 1) t)) (none ∙ sym (take-set t i p))
    ∙ ap (λ l. trim (take i (slice_set t i p) ++ l)) (sym (drop-set t i p h))
    ∙ ap trim (take-append-drop i (slice_set t i p))
    ∙ trimmed (slice_set t i p) k

-- so it charges nothing
tuple_with : (t : List (Option Datum)) (place : ℤ) (i left : ℕ) (e : Datum) → int_le (pos 1) place ≡ true → index_of place ≡ i → i < length t → IsTupleList (slice_set t i (Some e))
    → with_part_at (Round (Some (int place))) (Some (tuple_of t)) (Some e) left ≡ value (tuple_of (slice_set t i (Some e)))
tuple_with t place i left e h at within k =
    let new = tuple_of (slice_set t i (Some e)) in
    let kept : IsTrimmed (slice_set t i (Some e)) = subst IsTrimmed (part_list-parts_of (slice_set t i (Some e))) k.0.1 in
    let free : nat_le 0 left ≡ true = grind (arith, nat_tests) in
    ap (λ ps. if int_le (pos 1) place then put_part left (index_of place) (Some e) ps else Fails RangeFault) (part_list-parts_of t)
    ∙ ap (λ b. if b then put_part left (index_of place) (Some e) t else Fails RangeFault) h
    ∙ ap (λ n. put_part left n (Some e) t) at
    ∙ ap (λ n. charging n left (within_depth (tuple_of (put_of t i (Some e))))) {x = i - length t} {y = 0} (omega (arith, within))
    ∙ ap (λ ps. charging 0 left (within_depth (tuple_of ps))) (put_within t i (Some e) within kept)
    ∙ ap (charging 0 left) (shallow new k.1)
    ∙ ap (λ b. if b then adding 0 (value new) else Overspends) free

-- the component there is not very deep
pub shallow_there : (t : List (Option Datum)) (place : ℤ) (i : ℕ) (d : Datum) → IsShallowAt t place i → slice_get t i ≡ Some (Some d) → depth d < 499
shallow_there t place i d a there = subst (λ x. depth x < 499) (ap (λ o. unwrap_or (unwrap_or o None) d) (sym a.there ∙ there)) a.shallow

-- ---- depths

pub parts_cons : (p : Option Datum) (ps : List (Option Datum)) → parts_depth (parts_of (p ∷ ps)) ≡ max (part_depth p) (parts_depth (parts_of ps))
parts_cons None ps = omega arith
parts_cons (Some d) ps = omega arith

part_inside : (ps : List (Option Datum)) (i : ℕ) (d : Datum) → slice_get ps i ≡ Some (Some d) → depth d ≤ parts_depth (parts_of ps)
part_inside [] i d h = absurd (none-some (Some d) h)
part_inside (q ∷ ps) zero d h = omega (arith, parts_cons q ps, ap (λ o. part_depth (unwrap_or o q)) h)
part_inside (q ∷ ps) (suc i) d h = omega (arith, parts_cons q ps, part_inside ps i d h)

parts_deepen : (ps : List (Option Datum)) (i : ℕ) (d e : Datum) → slice_get ps i ≡ Some (Some d) → depth d ≤ depth e → parts_depth (parts_of ps) ≤ parts_depth (parts_of (slice_set ps i (Some e)))
parts_deepen [] i d e h le = absurd (none-some (Some d) h)
parts_deepen (q ∷ ps) zero d e h le = omega (arith, le, parts_cons q ps, parts_cons (Some e) ps, ap (λ o. part_depth (unwrap_or o q)) h)
parts_deepen (q ∷ ps) (suc i) d e h le = omega (arith, parts_cons q ps, parts_cons q (slice_set ps i (Some e)), parts_deepen ps i d e h le)

parts_bound : (ps : List (Option Datum)) (i : ℕ) (e : Datum) → parts_depth (parts_of (slice_set ps i (Some e))) ≤ max (parts_depth (parts_of ps)) (depth e)
parts_bound [] i e = omega arith
parts_bound (q ∷ ps) zero e = omega (arith, parts_cons q ps, parts_cons (Some e) ps)
parts_bound (q ∷ ps) (suc i) e = omega (arith, parts_cons q ps, parts_cons q (slice_set ps i (Some e)), parts_bound ps i e)

-- a tuple with a deeper component in the place of one
pub component_deepens : {F R : Type 0} (g : Once F (MutBor Value × Unit {0}) (R × (MutBor Value × Unit {0}))) (change : F) (t now : List (Option Datum)) (i : ℕ) (d e : Datum) (r : R)
    → slice_get t i ≡ Some (Some d) → Leaves g change d r e → now ≡ slice_set t i (Some e) → depth d ≤ depth e → Deepens g change (tuple_of t) r (tuple_of now)
component_deepens g change t now i d e r there l w le =
    let same : depth (tuple_of now) ≡ depth (tuple_of (slice_set t i (Some e))) = ap (λ ps. depth (tuple_of ps)) w in
    record {
      old = d;
      new = e;
      left = l;
      inside = omega (arith, part_inside t i d there);
      deeper = omega (arith, same, parts_deepen t i d e there le);
      bound = omega (arith, same, parts_bound t i e);
    }

-- the component is the part at the place
pub component_changed : {F R : Type 0} (g : Once F (MutBor Value × Unit {0}) (R × (MutBor Value × Unit {0}))) (change : F) (t now : List (Option Datum)) (place : ℤ) (i : ℕ) (d e : Datum) (r : R)
    → IsShallowAt t place i → slice_get t i ≡ Some (Some d) → Leaves g change d r e → now ≡ slice_set t i (Some e) → IsTupleList now
    → ChangesPart g change (int place) (tuple_of t) r (tuple_of now) (now ≡ t)
component_changed g change t now place i d e r a there l w k = record {
  old = d;
  new = e;
  there = λ left. component_is t place i left d a.from_one a.at there;
  left = l;
  written = λ left. tuple_with t place i left e a.from_one a.at (slice_get_within t i (Some d) there) (subst IsTupleList w k) ∙ ap (λ ps. value (tuple_of ps)) (sym w);
  same = λ s. w ∙ ap (λ x. slice_set t i (Some x)) s ∙ ap (slice_set t i) (sym (get_or_from_slice_get t i (Some d) None there)) ∙ set-get_or t i None;
}
