-- Parts of values, and values with other parts.
use Rattle.std.specs.Prelude.{◌≡◌, ℕ, List, [], ◌∷◌, reverse, Option, Some, None, refl}
use Rattle.std.specs.List.{AllByRecursion}
use Rattle.std.specs.List.Sorted.{IsStrictlySortedBy}
use Rattle.std.proofs.Common.{sym, subst}
use Rattle.std.proofs.lemmas.List.{reverse-append}
use Rattle.setl_value.specs.Datum.{Datum, tuple, set, element_list, part_list}
use Rattle.setl_value.specs.Order.{IsRising}
use Rattle.setl_value.specs.WellFormed.{IsValue, trim}
use Rattle.setl_operators_table.specs.declared.Operator.{Operator}
use Rattle.setl_operators_table.specs.declared.Operator.TheVariants.{Size, Get, Images, Put, PutImages}
use Rattle.setl_operators_table.specs.Operators.{op_of}
use Rattle.setl_operators_table.specs.Outcome.{Outcome, Gives, Fails, Overspends, then_with}
use Rattle.setl_operators_laws.specs.Lists.{all_append}
use Rattle.setl_operators_laws.specs.Outcomes.{GivesValue, then_gives}
use Rattle.setl_operators_laws.specs.SetValues.{Stands, members, rising_members, set_is_value, higher}
use Rattle.setl_operators_laws.specs.TupleValues.{PartStands, components, tuple_is_value, part_is_value, trim_is_trimmed, all_trim}
use Rattle.setl_operators_laws.specs.ValueLaws.{IsValueOrOm, CountFits, OperatorsGiveValues}
use Rattle.setl_program.specs.declared.kinds.Taking.{Taking}
use Rattle.setl_program.specs.declared.kinds.Taking.TheVariants.{TakeLeast, TakeFirst, TakeLast}
use Rattle.setl_model.specs.Core.{Selected, Round, Brace}
use Rattle.setl_model.specs.Places.{part_of, with_part_at, part_at_all, with_part_at_all, combined, Taken, TakesOut, IsEmpty, CannotTake, take_least, take_first, take_last, take_out}
use Rattle.setl_model_values.specs.ModelValues.{SelectorIsValue, SelectorsAreValues, PartsGiveValues, WholesGiveValues, CombinationsGiveValues, TakingsGiveValues}

outcome_gives : (o : Outcome) → ((v : Option Datum) (n : ℕ) → o ≡ Gives v n → IsValueOrOm v) → GivesValue o
outcome_gives (Gives v n) h = h v n refl
outcome_gives (Fails f) h = tt
outcome_gives Overspends h = tt

-- the law of the operators, of an outcome
operator_gives : OperatorsGiveValues → (o : Operator) (vs : List (Option Datum)) (left : ℕ) → AllByRecursion IsValueOrOm vs → CountFits o vs → GivesValue (op_of o vs left)
operator_gives law o vs left a c = outcome_gives (op_of o vs left) (λ v n e. law o vs left n v a c e)

part_gives : OperatorsGiveValues → (s : Selected) (from : Option Datum) (left : ℕ) → SelectorIsValue s → IsValueOrOm from → GivesValue (part_of s from left)
part_gives law (Round x) from left h k = operator_gives law Get (from ∷ x ∷ []) left (k, (h, tt)) tt
part_gives law (Brace x) from left h k = operator_gives law Images (from ∷ x ∷ []) left (k, (h, tt)) tt

with_part_gives : OperatorsGiveValues → (s : Selected) (from v : Option Datum) (left : ℕ) → SelectorIsValue s → IsValueOrOm from → IsValueOrOm v → GivesValue (with_part_at s from v left)
with_part_gives law (Round x) from v left h k u = operator_gives law Put (from ∷ x ∷ v ∷ []) left (k, (h, (u, tt))) tt
with_part_gives law (Brace x) from v left h k u = operator_gives law PutImages (from ∷ x ∷ v ∷ []) left (k, (h, (u, tt))) tt

parts_give : OperatorsGiveValues → (at : List Selected) (v : Option Datum) (left : ℕ) → SelectorsAreValues at → IsValueOrOm v → GivesValue (part_at_all at v left)
parts_give law [] v left a h = h
parts_give law (s ∷ ss) v left a h =
    then_gives (part_of s v left) left (λ part now. part_at_all ss part now) (part_gives law s v left a.0 h) (λ part now k. parts_give law ss part now a.1 k)

wholes_give : OperatorsGiveValues → (at : List Selected) (whole v : Option Datum) (left : ℕ) → SelectorsAreValues at → IsValueOrOm whole → IsValueOrOm v → GivesValue (with_part_at_all at whole v left)
wholes_give law [] whole v left a h k = k
wholes_give law (s ∷ []) whole v left a h k = with_part_gives law s whole v left a.0 h k
wholes_give law (s ∷ t ∷ ss) whole v left a h k =
    then_gives (part_of s whole left) left (λ part now. then_with (with_part_at_all (t ∷ ss) part v now) now (λ new later. with_part_at s whole new later)) (part_gives law s whole left a.0 h)
    (λ part now u. then_gives (with_part_at_all (t ∷ ss) part v now) now (λ new later. with_part_at s whole new later) (wholes_give law (t ∷ ss) part v now a.1 u k) (λ new later w. with_part_gives law s whole new later a.0 h w))

combined_gives : OperatorsGiveValues → (at : List Selected) (whole : Option Datum) (f : Option Datum → ℕ → Outcome) (left : ℕ) → SelectorsAreValues at → IsValueOrOm whole
    → ((part : Option Datum) (now : ℕ) → IsValueOrOm part → GivesValue (f part now)) → GivesValue (combined at whole f left)
combined_gives law [] whole f left a h k = k whole left h
combined_gives law (s ∷ ss) whole f left a h k =
    then_gives (part_of s whole left) left (λ part now. then_with (combined ss part f now) now (λ new later. with_part_at s whole new later)) (part_gives law s whole left a.0 h)
    (λ part now u. then_gives (combined ss part f now) now (λ new later. with_part_at s whole new later) (combined_gives law ss part f now a.1 u k) (λ new later w. with_part_gives law s whole new later a.0 h w))

-- of two operands nothing is counted
two_fit : (o : Operator) (a b : Option Datum) → CountFits o (a ∷ b ∷ [])
two_fit Size None b = tt
two_fit Size (Some d) b = tt
two_fit o a b = tt

pub parts_give_values : OperatorsGiveValues → PartsGiveValues
parts_give_values law at whole v left n a h e = subst GivesValue e (parts_give law at whole left a h)

pub wholes_give_values : OperatorsGiveValues → WholesGiveValues
wholes_give_values law at whole part v left n a h k e = subst GivesValue e (wholes_give law at whole part left a h k)

pub combinations_give_values : OperatorsGiveValues → CombinationsGiveValues
combinations_give_values law o at whole right v left n a h k e =
    subst GivesValue e (combined_gives law at whole (λ part now. op_of o (part ∷ right ∷ []) now) left a h (λ part now u. operator_gives law o (part ∷ right ∷ []) now (u, (k, tt)) (two_fit o part right)))

-- ---- taking out

-- it leaves a value and takes out a value or `om`, if it takes something
abbrev LeavesValues : Taken → Type 0
LeavesValues (TakesOut small taken) = IsValue small × IsValueOrOm taken
LeavesValues IsEmpty = Unit {0}
LeavesValues (CannotTake f) = Unit {0}

least_leaves : (ds : List Datum) → AllByRecursion (Stands 499) ds → IsRising ds → LeavesValues (take_least ds)
unfolding IsStrictlySortedBy
least_leaves [] a r = tt
least_leaves (d ∷ ds) a r = (set_is_value ds a.1 r.1, higher d a.0)

first_leaves : (ps : List (Option Datum)) → AllByRecursion (PartStands 499) ps → LeavesValues (take_first ps)
first_leaves [] a = tt
first_leaves (p ∷ ps) a = (tuple_is_value (trim ps) (all_trim (PartStands 499) ps a.1) (trim_is_trimmed ps), part_is_value p a.0)

pub all_reverse : {X : Type 0} (P : X → Type 0) (xs : List X) → AllByRecursion P xs → AllByRecursion P (reverse xs)
all_reverse P [] a = tt
all_reverse P (x ∷ xs) a = subst (AllByRecursion P) (sym (reverse-append (x ∷ []) xs)) (all_append P (reverse xs) (x ∷ []) (all_reverse P xs a.1) (a.0, tt))

last_leaves : (ps : List (Option Datum)) → AllByRecursion (PartStands 499) ps → LeavesValues (take_last ps)
last_leaves [] a = tt
last_leaves (p ∷ ps) a =
    (tuple_is_value (trim (reverse ps)) (all_trim (PartStands 499) (reverse ps) (all_reverse (PartStands 499) ps a.1)) (trim_is_trimmed (reverse ps)), part_is_value p a.0)

taking_leaves : (k : Taking) (v : Option Datum) → IsValueOrOm v → LeavesValues (take_out k v)
taking_leaves TakeLeast (Some (set ms)) h = least_leaves (element_list ms) (members ms h) (rising_members ms h)
taking_leaves TakeFirst (Some (tuple ps)) h = first_leaves (part_list ps) (components ps h)
taking_leaves TakeLast (Some (tuple ps)) h = last_leaves (reverse (part_list ps)) (all_reverse (PartStands 499) (part_list ps) (components ps h))
taking_leaves k None h = tt
taking_leaves k (Some d) h = tt

pub takings_give_values : TakingsGiveValues
takings_give_values k v small taken h e = subst LeavesValues e (taking_leaves k v h)
