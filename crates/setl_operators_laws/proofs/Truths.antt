-- The operators that give booleans.
use Rattle.std.specs.Prelude.{Bool, List, [], ◌∷◌, Option, Some, None}
use Rattle.setl_value.specs.Datum.{Datum, bool, int, text, tuple, set}
use Rattle.setl_value.specs.WellFormed.{IsValue}
use Rattle.setl_operators_table.specs.Outcome.{Outcome, Gives}
use Rattle.setl_operators_table.specs.Truths.{negation, both, either, is_below, is_at_most, is_in, subset, opposite, equality, kind_test}
use Rattle.setl_operators_laws.specs.Outcomes.{GivesValue, a_boolean}

pub negation_gives : (d : Datum) → IsValue d → GivesValue (negation d)
negation_gives (bool b) h = a_boolean
negation_gives d h = tt

pub both_gives : (d e : Datum) → IsValue d → IsValue e → GivesValue (both d e)
both_gives (bool a) (bool b) h k = a_boolean
both_gives d e h k = tt

pub either_gives : (d e : Datum) → IsValue d → IsValue e → GivesValue (either d e)
either_gives (bool a) (bool b) h k = a_boolean
either_gives d e h k = tt

pub below_gives : (d e : Datum) → IsValue d → IsValue e → GivesValue (is_below d e)
below_gives (int a) (int b) h k = a_boolean
below_gives (text a) (text b) h k = a_boolean
below_gives d e h k = tt

pub at_most_gives : (d e : Datum) → IsValue d → IsValue e → GivesValue (is_at_most d e)
at_most_gives (int a) (int b) h k = a_boolean
at_most_gives (text a) (text b) h k = a_boolean
at_most_gives d e h k = tt

pub in_gives : (d e : Datum) → IsValue d → IsValue e → GivesValue (is_in d e)
in_gives d (set ms) h k = a_boolean
in_gives d (tuple ps) h k = a_boolean
in_gives d e h k = tt

pub subset_gives : (d e : Datum) → IsValue d → IsValue e → GivesValue (subset d e)
subset_gives (set a) (set b) h k = a_boolean
subset_gives d e h k = tt

pub opposite_gives : (o : Outcome) → GivesValue o → GivesValue (opposite o)
opposite_gives (Gives (Some (bool b)) n) h = a_boolean
opposite_gives o h = h

pub equality_gives : (vs : List (Option Datum)) → GivesValue (equality vs)
equality_gives [] = tt
equality_gives (a ∷ []) = tt
equality_gives (a ∷ b ∷ []) = a_boolean
equality_gives (a ∷ b ∷ c ∷ vs) = tt

pub kind_gives : (test : Datum → Bool) (vs : List (Option Datum)) → GivesValue (kind_test test vs)
kind_gives test (None ∷ []) = a_boolean
kind_gives test (Some d ∷ []) = a_boolean
kind_gives test vs = tt
