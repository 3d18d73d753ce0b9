-- What a step of the meaning makes of values are values.
use Rattle.std.specs.Prelude.{◌≡◌, ℕ, ◌<◌, List, [], ◌∷◌, Option, None}
use Rattle.std.specs.List.{AllByRecursion}
use Rattle.setl_value.specs.Datum.{Datum}
use Rattle.setl_value.specs.WellFormed.{IsValue}
use Rattle.setl_text.specs.Reading.{Denotes, read_denotation}
use Rattle.setl_operators_table.specs.declared.Operator.{Operator}
use Rattle.setl_operators_table.specs.declared.Operator.TheVariants.{Size}
use Rattle.setl_operators_table.specs.Operators.{op_of}
use Rattle.setl_operators_table.specs.Outcome.{Gives}
use Rattle.setl_operators_laws.specs.TupleValues.{PartStands}
use Rattle.setl_operators_laws.specs.ValueLaws.{IsValueOrOm, CountFits}
use Rattle.setl_program.specs.declared.kinds.Collection.{Collection}
use Rattle.setl_program.specs.declared.kinds.Taking.{Taking}
use Rattle.setl_program.specs.Program.{Begin, Members, Points}
use Rattle.setl_model.specs.Collections.{refusal, collection}
use Rattle.setl_model.specs.Core.{Item, One, Two, Selected, Round, Brace}
use Rattle.setl_model.specs.Iterations.{Starts, items_of}
use Rattle.setl_model.specs.Places.{part_at_all, with_part_at_all, combined, TakesOut, take_out}

-- ---- reading

abbrev pub AreBytes : List ℕ → Type 0
AreBytes bs = AllByRecursion (λ b. b < 256) bs

abbrev pub ReadingsGiveValues : Type 0
ReadingsGiveValues = (bs : List ℕ) (v : Option Datum) (rest : List ℕ) → AreBytes bs → read_denotation bs ≡ Denotes v rest → IsValueOrOm v × AreBytes rest

-- ---- places

abbrev pub SelectorIsValue : Selected → Type 0
SelectorIsValue (Round v) = IsValueOrOm v
SelectorIsValue (Brace v) = IsValueOrOm v

abbrev pub SelectorsAreValues : List Selected → Type 0
SelectorsAreValues at = AllByRecursion SelectorIsValue at

abbrev pub PartsGiveValues : Type 0
PartsGiveValues = (at : List Selected) (whole v : Option Datum) (left n : ℕ) → SelectorsAreValues at → IsValueOrOm whole → part_at_all at whole left ≡ Gives v n → IsValueOrOm v

abbrev pub WholesGiveValues : Type 0
WholesGiveValues = (at : List Selected) (whole part v : Option Datum) (left n : ℕ) → SelectorsAreValues at → IsValueOrOm whole → IsValueOrOm part → with_part_at_all at whole part left ≡ Gives v n → IsValueOrOm v

abbrev pub CombinationsGiveValues : Type 0
CombinationsGiveValues =
    (o : Operator) (at : List Selected) (whole right v : Option Datum) (left n : ℕ) → SelectorsAreValues at → IsValueOrOm whole → IsValueOrOm right → combined at whole (λ part now. op_of o (part ∷ right ∷ []) now) left ≡ Gives v n → IsValueOrOm v

abbrev pub TakingsGiveValues : Type 0
TakingsGiveValues = (k : Taking) (v : Option Datum) (small : Datum) (taken : Option Datum) → IsValueOrOm v → take_out k v ≡ TakesOut small taken → IsValue small × IsValueOrOm taken

-- ---- iterators and collections

abbrev pub ItemIsValue : Item → Type 0
ItemIsValue (One v) = IsValueOrOm v
ItemIsValue (Two argument image) = IsValueOrOm argument × IsValueOrOm image

-- the places of a tuple or a string are in range; of other sources nothing is asked
abbrev pub PlacesFit : Begin → List (Option Datum) → Type 0
PlacesFit Points vs = CountFits Size vs
PlacesFit (Members k) vs = Unit {0}

abbrev pub ItemsAreValues : Type 0
ItemsAreValues = (b : Begin) (vs : List (Option Datum)) (items : List Item) → AllByRecursion IsValueOrOm vs → PlacesFit b vs → items_of b vs ≡ Starts items → AllByRecursion ItemIsValue items

-- what may be collected is less than 500 deep
abbrev pub AreAdmitted : Type 0
AreAdmitted = (k : Collection) (v : Option Datum) → IsValueOrOm v → refusal k v ≡ None → PartStands 499 v

abbrev pub CollectionsAreValues : Type 0
CollectionsAreValues = (k : Collection) (got : List (Option Datum)) → AllByRecursion (PartStands 499) got → IsValue (collection k got)
