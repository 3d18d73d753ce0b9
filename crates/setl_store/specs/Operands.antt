-- What the calls on operands tell.
use Rattle.std.specs.Prelude.{◌≡◌, ℕ, Bool, true, false, List, [], ◌∷◌, Option, Some, None, Result, Ok, Err}
use Rattle.setl_value.specs.Datum.{Datum}
use Rattle.setl_operators_table.specs.Outcome.{OmFault, DeepFault}
use Rattle.setl_operators_table.specs.declared.OpFault.{OpFault}
use Rattle.setl_operators_table.specs.declared.OpFault.TheVariants as fault
use Rattle.setl_model.specs.Core.{One, Two}
use Rattle.setl_code.specs.CodeCore.{Held, There, Gone, Operand, Result as Holds, Iterator, PairIterator, Collecting, Pops, Lacks, popped, without_iterators}
use Rattle.setl_code.specs.Machine.{Added, Adds, Refused, Nowhere}
use Rattle.setl_store.specs.declared.iterating.Ahead.{Ahead}
use Rattle.setl_store.specs.declared.iterating.Ahead.TheVariants as ahead

-- a slot's value wasn't taken
abbrev pub IsThere : Held → Type 0
IsThere Gone = ⊥
IsThere (There v) = Unit {0}

-- so many results were taken off, the last one the top, and the others are left; or there are too few
abbrev pub TakesOff : ℕ → List Operand → Option (List (Option Datum)) → List Operand → Type 0
TakesOff n old None new = popped n [] old ≡ Lacks
TakesOff n old (Some vs) new = popped n [] old ≡ Pops vs new

-- a result that is no collection is on top
abbrev pub IsPlainTop : List Operand → Type 0
IsPlainTop (Holds v ∷ xs) = Unit {0}
IsPlainTop xs = ⊥

-- what is ahead of the iterator on top, if one is on top
abbrev pub IsAhead : List Operand → Ahead → Type 0
IsAhead [] ahead.NoIterator = Unit {0}
IsAhead (Holds v ∷ xs) ahead.NoIterator = Unit {0}
IsAhead (Collecting what got ∷ xs) ahead.NoIterator = Unit {0}
IsAhead (Iterator [] ∷ xs) ahead.AtEnd = Unit {0}
IsAhead (PairIterator [] ∷ xs) ahead.AtEnd = Unit {0}
IsAhead (Iterator (item ∷ items) ∷ xs) ahead.AtItem = Unit {0}
IsAhead (PairIterator (item ∷ items) ∷ xs) ahead.AtItem = Unit {0}
IsAhead os a = ⊥

-- the first item of the iterator on top was taken off it and pushed: a member, or an image and on it its argument
abbrev pub Advances : List Operand → List Operand → Type 0
Advances (Iterator (One v ∷ items) ∷ xs) new = new ≡ Holds v ∷ Iterator items ∷ xs
Advances (PairIterator (Two argument image ∷ items) ∷ xs) new = new ≡ Holds argument ∷ Holds image ∷ PairIterator items ∷ xs
Advances os new = ⊥

-- so many iterators were dropped, or there are fewer on top
abbrev pub DropsIterators : ℕ → List Operand → Bool → List Operand → Type 0
DropsIterators n old true new = without_iterators n old ≡ Some new
DropsIterators n old false new = without_iterators n old ≡ None

-- a value was added, or there is no collection, or it refuses the value; want of memory tells nothing
abbrev pub TellsAdded : Added → Result Bool OpFault → List Operand → Type 0
TellsAdded a (Ok true) new = a ≡ Adds new
TellsAdded a (Ok false) new = a ≡ Nowhere
TellsAdded a (Err fault.Om) new = a ≡ Refused OmFault
TellsAdded a (Err fault.Deep) new = a ≡ Refused DeepFault
TellsAdded a (Err fault.NoMemory) new = Unit {0}
TellsAdded a (Err e) new = ⊥
