-- What operands are, over bases.
use Rattle.std.specs.Prelude.{◌≡◌, ℕ, ◌+◌, ◌≤◌, Bool, true, false, List, [], ◌∷◌, length, take, drop, map, reverse, Option, Some, None}
use Rattle.setl_value.specs.Datum.{Datum}
use Rattle.setl_value.specs.code.DatumOf.{datum, part}
use Rattle.setl_value.specs.declared.Value.{Value}
use Rattle.setl_program.specs.declared.kinds.Collection.{Collection}
use Rattle.setl_model.specs.Collections.{refusal}
use Rattle.setl_model.specs.Core.{Item}
use Rattle.setl_code.specs.CodeCore as core
use Rattle.setl_store_iterator.specs.States.{IteratorState}
use Rattle.setl_rep_bases.specs.Bases.{BasesState}
use Rattle.setl_rep_plain.specs.Standing.{held_value, IsHeldOver}
use Rattle.setl_store_slots.specs.declared.cells.Held.{Held}
use Rattle.setl_store_slots.specs.declared.cells.Held.TheVariants as slot
use Rattle.setl_store_operands.specs.declared.cells.Member.{Member}
use Rattle.setl_store_operands.specs.declared.cells.Operand.{Operand}
use Rattle.setl_store_operands.specs.declared.cells.Operand.TheVariants as operand

-- ---- members of collections

abbrev pub member_of : Member → Option Datum
member_of m = part m.value

-- those of some members that are no `om`
abbrev pub present : List (Option Datum) → List Datum
present [] = []
present (None ∷ vs) = present vs
present (Some d ∷ vs) = d ∷ present vs

-- what a collection has, the latest first
abbrev pub got : List Member → (lowest count : ℕ) → List (Option Datum)
got members lowest count = reverse (map member_of (take count (drop lowest members)))

-- no value that a collection has got is one that it refuses
abbrev pub GotAll : Collection → List (Option Datum) → Type 0
GotAll what [] = Unit {0}
GotAll what (v ∷ vs) = (refusal what v ≡ None) × GotAll what vs

-- ---- operands

-- an iterator with these items left, over members or over pairs
abbrev pub iterator_by : Bool → List Item → core.Operand
iterator_by true left = core.PairIterator left
iterator_by false left = core.Iterator left

abbrev pub iterator_of : IteratorState → core.Operand
iterator_of i = iterator_by i.pairs i.left

-- what an operand is, where the collections have these members
abbrev pub operand_of : BasesState → List Member → Operand → core.Operand
operand_of bs members operand.Om = core.Result None
operand_of bs members (operand.Value v) = core.Result (Some (datum v))
operand_of bs members (operand.Based h) = core.Result (held_value bs h)
operand_of bs members (operand.Iterator i) = iterator_of i
operand_of bs members (operand.Collection what lowest count) = core.Collecting what (got members lowest count)

-- the operand that is this value
abbrev pub operand_by : Option Value → Operand
operand_by None = operand.Om
operand_by (Some v) = operand.Value v

-- the operand that is what a slot holds, in its form; a slot whose value was taken has none
abbrev pub operand_in : Held → Operand
operand_in slot.Om = operand.Om
operand_in (slot.Value v) = operand.Value v
operand_in slot.Taken = operand.Om
operand_in (slot.Based m h) = operand.Based h

-- it is a value as it is, or `om`
abbrev pub IsPlain : Operand → Type 0
IsPlain operand.Om = Unit {0}
IsPlain (operand.Value v) = Unit {0}
IsPlain (operand.Based h) = ⊥
IsPlain (operand.Iterator i) = ⊥
IsPlain (operand.Collection what lowest count) = ⊥

-- it serves as a value: its form stands over the bases, and its members are there
abbrev pub Serves : BasesState → List Member → Operand → Type 0
Serves bs ms operand.Om = Unit {0}
Serves bs ms (operand.Value v) = Unit {0}
Serves bs ms (operand.Based h) = IsHeldOver bs h
Serves bs ms (operand.Iterator i) = ⊥
Serves bs ms (operand.Collection what lowest count) = (lowest + count ≤ length ms) × GotAll what (got ms lowest count)

-- ---- which operands stand

-- the form of an operand stands over these bases
abbrev pub IsOperandOver : BasesState → Operand → Type 0
IsOperandOver bs operand.Om = Unit {0}
IsOperandOver bs (operand.Value v) = Unit {0}
IsOperandOver bs (operand.Based h) = IsHeldOver bs h
IsOperandOver bs (operand.Iterator i) = Unit {0}
IsOperandOver bs (operand.Collection what lowest count) = Unit {0}

abbrev pub AreOperandsOver : BasesState → List Operand → Type 0
AreOperandsOver bs [] = Unit {0}
AreOperandsOver bs (o ∷ os) = IsOperandOver bs o × AreOperandsOver bs os

-- ---- operands one behind the other

-- how many members are left without an operand
abbrev pub members_below : Operand → ℕ → ℕ
members_below operand.Om n = n
members_below (operand.Value v) n = n
members_below (operand.Based h) n = n
members_below (operand.Iterator i) n = n
members_below (operand.Collection what lowest count) n = lowest

-- the collections among these operands, the top first, have these members one behind the other
abbrev pub HasMembers : List Operand → (members : ℕ) → Type 0
HasMembers [] n = n ≡ 0
HasMembers (operand.Om ∷ os) n = HasMembers os n
HasMembers (operand.Value v ∷ os) n = HasMembers os n
HasMembers (operand.Based h ∷ os) n = HasMembers os n
HasMembers (operand.Iterator i ∷ os) n = HasMembers os n
HasMembers (operand.Collection what lowest count ∷ os) n = (n ≡ lowest + count) × HasMembers os lowest
