-- The table of the instructions: each with its byte, and with the operands that stand behind the byte.
use Rattle.std.specs.Prelude.{ℕ, ◌-◌, true, false, List, [], ◌∷◌, Option, None, slice_get, nat_lt, if◌then◌else◌, unsigned_abs, unwrap_or, option_map}
use Rattle.setl_operators_table.specs.declared.Operator.{Operator}
use Rattle.setl_operators_table.specs.declared.Operator.TheVariants as o
use Rattle.setl_operators_table.specs.Operators.{operand_count}
use Rattle.setl_program.specs.declared.kinds.Collection.TheVariants.{OfSet, OfTuple}
use Rattle.setl_program.specs.declared.kinds.Connective.TheVariants.{And, Or, Implies}
use Rattle.setl_program.specs.declared.kinds.Source.TheVariants.{Values, Between, SetSteps, TupleSteps}
use Rattle.setl_program.specs.declared.kinds.Taking.TheVariants.{TakeLeast, TakeFirst, TakeLast}
use Rattle.setl_code.specs.declared.code.Slot.{Slot}
use Rattle.setl_code.specs.declared.code.Slot.TheVariants as slot
use Rattle.setl_code.specs.declared.code.Bracket.{Bracket}
use Rattle.setl_code.specs.declared.code.Alteration.{Alteration}
use Rattle.setl_code.specs.declared.code.Alteration.TheVariants as alteration
use Rattle.setl_code.specs.declared.code.Begin.{Begin}
use Rattle.setl_code.specs.declared.code.Begin.TheVariants as begin
use Rattle.setl_code.specs.declared.code.Instr.{Instr}
use Rattle.setl_code.specs.declared.code.Instr.TheVariants as i
use Rattle.setl_image_format.specs.declared.rows.Row.{Row}
use Rattle.setl_image_format.specs.declared.rows.Row.TheVariants as r

-- How an instruction is made: alone, or of the operands that stand behind its byte.
pub data Form : Type 0 where
  Alone : Instr → Form
  -- a number
  Counted : (ℕ → Instr) → Form
  -- a slot
  OnSlot : (Slot → Instr) → Form
  -- an integer, and a text
  Whole Written : Form
  -- a slot and selectors
  Updating : Alteration → Form
  -- the byte of an operator, a slot and selectors
  Combining : Form

abbrev pub begin_count : Begin → ℕ
begin_count (begin.Members Values) = 1
begin_count (begin.Members Between) = 2
begin_count (begin.Members SetSteps) = 3
begin_count (begin.Members TupleSteps) = 3
begin_count begin.Points = 1

abbrev pub form : Row → Form
form (r.Operate what) = Alone (i.Operate what (unwrap_or (operand_count what) 0))
form r.SetOf = Counted (i.Operate o.SetOf)
form r.TupleOf = Counted (i.Operate o.TupleOf)
form r.Integer = Whole
form r.Text = Written
form (r.Truth t) = Alone (i.Truth t)
form r.Undefined = Alone i.Undefined
form r.NewAtom = Alone i.NewAtom
form r.Eof = Alone i.Eof
form r.Load = OnSlot i.Load
form r.Take = OnSlot i.Take
form r.Store = OnSlot i.Store
form r.Put = Updating alteration.Put
form r.Combine = Combining
form (r.TakeOut k) = Updating (alteration.TakeOut k)
form (r.Decide k) = Counted (i.Decide k)
form r.TestTruth = Alone i.TestTruth
form r.Unless = Counted i.Unless
form r.Jump = Counted i.Jump
form r.Discard = Alone i.Discard
form r.Duplicate = Alone i.Duplicate
form r.Parts = Counted i.Parts
form (r.Begin k) = Alone (i.Begin k (begin_count k))
form r.Next = Counted i.Next
form (r.Collect k) = Alone (i.Collect k)
form r.Add = Counted i.Add
form r.Leave = Counted i.Leave
form r.Round = Alone i.Round
form r.Call = Counted i.Call
form r.Return = Alone i.Return
form r.Keep = Alone i.Keep
form r.Back = Alone i.Back
form r.Print = Counted i.Print
form r.Read = Alone i.Read
form r.Stop = Alone i.Stop
form r.Forget = Alone i.Forget

-- the operators by their bytes, from 0 on
abbrev pub operators : List Operator
operators =
    o.Negate ∷ o.Abs ∷ o.Even ∷ o.Odd ∷ o.Size ∷ o.Not ∷ o.Pow ∷ o.Domain ∷ o.Range ∷ o.Arb ∷
    o.Str ∷ o.IsInteger ∷ o.IsString ∷ o.IsBoolean ∷ o.IsAtom ∷ o.IsTuple ∷ o.IsSet ∷ o.IsMap ∷ o.Add ∷ o.Subtract ∷
    o.Multiply ∷ o.Power ∷ o.Divide ∷ o.Modulo ∷ o.Max ∷ o.Min ∷ o.With ∷ o.Less ∷ o.Lessf ∷ o.Npow ∷
    o.Equal ∷ o.NotEqual ∷ o.Below ∷ o.AtMost ∷ o.Above ∷ o.AtLeast ∷ o.In ∷ o.NotIn ∷ o.Subset ∷ o.Includes ∷
    o.Get ∷ o.Images ∷ o.Slice ∷ o.Tail ∷ o.FoldAdd ∷ o.FoldMultiply ∷ o.FoldMax ∷ o.FoldMin ∷ o.FoldAnd ∷ o.FoldOr ∷
    []

-- the other rows by their bytes, from 64 on
abbrev pub rows : List Row
rows =
    r.Integer ∷
    r.Text ∷
    r.Truth true ∷
    r.Truth false ∷
    r.Undefined ∷
    r.NewAtom ∷
    r.Eof ∷
    r.Load ∷
    r.Take ∷
    r.Store ∷
    r.SetOf ∷
    r.TupleOf ∷
    r.Operate o.SetRange ∷
    r.Operate o.TupleRange ∷
    r.Operate o.SetStep ∷
    r.Operate o.TupleStep ∷
    r.Put ∷
    r.Combine ∷
    r.TakeOut TakeLeast ∷
    r.TakeOut TakeFirst ∷
    r.TakeOut TakeLast ∷
    r.Decide And ∷
    r.Decide Or ∷
    r.Decide Implies ∷
    r.TestTruth ∷
    r.Unless ∷
    r.Jump ∷
    r.Discard ∷
    r.Duplicate ∷
    r.Parts ∷
    r.Begin (begin.Members Values) ∷
    r.Begin (begin.Members Between) ∷
    r.Begin (begin.Members SetSteps) ∷
    r.Begin (begin.Members TupleSteps) ∷
    r.Begin begin.Points ∷
    r.Next ∷
    r.Collect OfSet ∷
    r.Collect OfTuple ∷
    r.Add ∷
    r.Leave ∷
    r.Round ∷
    r.Call ∷
    r.Return ∷
    r.Keep ∷
    r.Back ∷
    r.Print ∷
    r.Read ∷
    r.Stop ∷
    r.Forget ∷
    []

-- the row of a byte
abbrev pub row_at : ℕ → Option Row
row_at b = if nat_lt b 50 then option_map r.Operate (slice_get operators b) else if nat_lt b 64 then None else slice_get rows (b - 64)

-- ---- the byte of an instruction

abbrev pub operator_tag : Operator → ℕ
operator_tag o.Negate = 0
operator_tag o.Abs = 1
operator_tag o.Even = 2
operator_tag o.Odd = 3
operator_tag o.Size = 4
operator_tag o.Not = 5
operator_tag o.Pow = 6
operator_tag o.Domain = 7
operator_tag o.Range = 8
operator_tag o.Arb = 9
operator_tag o.Str = 10
operator_tag o.IsInteger = 11
operator_tag o.IsString = 12
operator_tag o.IsBoolean = 13
operator_tag o.IsAtom = 14
operator_tag o.IsTuple = 15
operator_tag o.IsSet = 16
operator_tag o.IsMap = 17
operator_tag o.Add = 18
operator_tag o.Subtract = 19
operator_tag o.Multiply = 20
operator_tag o.Power = 21
operator_tag o.Divide = 22
operator_tag o.Modulo = 23
operator_tag o.Max = 24
operator_tag o.Min = 25
operator_tag o.With = 26
operator_tag o.Less = 27
operator_tag o.Lessf = 28
operator_tag o.Npow = 29
operator_tag o.Equal = 30
operator_tag o.NotEqual = 31
operator_tag o.Below = 32
operator_tag o.AtMost = 33
operator_tag o.Above = 34
operator_tag o.AtLeast = 35
operator_tag o.In = 36
operator_tag o.NotIn = 37
operator_tag o.Subset = 38
operator_tag o.Includes = 39
operator_tag o.Get = 40
operator_tag o.Images = 41
operator_tag o.Slice = 42
operator_tag o.Tail = 43
operator_tag o.FoldAdd = 44
operator_tag o.FoldMultiply = 45
operator_tag o.FoldMax = 46
operator_tag o.FoldMin = 47
operator_tag o.FoldAnd = 48
operator_tag o.FoldOr = 49
operator_tag o.SetOf = 74
operator_tag o.TupleOf = 75
operator_tag o.SetRange = 76
operator_tag o.TupleRange = 77
operator_tag o.SetStep = 78
operator_tag o.TupleStep = 79
operator_tag o.Put = 255
operator_tag o.PutImages = 255

abbrev pub tag : Instr → ℕ
tag (i.Integer n) = 64
tag (i.Text n) = 65
tag (i.Truth true) = 66
tag (i.Truth false) = 67
tag i.Undefined = 68
tag i.NewAtom = 69
tag i.Eof = 70
tag (i.Load n) = 71
tag (i.Take n) = 72
tag (i.Store n) = 73
tag (i.Operate what n) = operator_tag what
tag (i.Alter alteration.Put x ks) = 80
tag (i.Alter (alteration.Combine what) x ks) = 81
tag (i.Alter (alteration.TakeOut TakeLeast) x ks) = 82
tag (i.Alter (alteration.TakeOut TakeFirst) x ks) = 83
tag (i.Alter (alteration.TakeOut TakeLast) x ks) = 84
tag (i.Decide And n) = 85
tag (i.Decide Or n) = 86
tag (i.Decide Implies n) = 87
tag i.TestTruth = 88
tag (i.Unless n) = 89
tag (i.Jump n) = 90
tag i.Discard = 91
tag i.Duplicate = 92
tag (i.Parts n) = 93
tag (i.Begin (begin.Members Values) n) = 94
tag (i.Begin (begin.Members Between) n) = 95
tag (i.Begin (begin.Members SetSteps) n) = 96
tag (i.Begin (begin.Members TupleSteps) n) = 97
tag (i.Begin begin.Points n) = 98
tag (i.Next n) = 99
tag (i.Collect OfSet) = 100
tag (i.Collect OfTuple) = 101
tag (i.Add n) = 102
tag (i.Leave n) = 103
tag i.Round = 104
tag (i.Call n) = 105
tag i.Return = 106
tag i.Keep = 107
tag i.Back = 108
tag (i.Print n) = 109
tag i.Read = 110
tag i.Stop = 111
tag i.Forget = 112

-- ---- the operands of an instruction

abbrev pub number_in : Instr → ℕ
number_in (i.Operate what n) = n
number_in (i.Decide k to) = to
number_in (i.Unless to) = to
number_in (i.Jump to) = to
number_in (i.Parts n) = n
number_in (i.Next to) = to
number_in (i.Add n) = n
number_in (i.Leave n) = n
number_in (i.Call n) = n
number_in (i.Print n) = n
number_in what = 0

abbrev pub slot_in : Instr → Slot
slot_in (i.Load x) = x
slot_in (i.Take x) = x
slot_in (i.Store x) = x
slot_in (i.Alter a x ks) = x
slot_in what = slot.Own 0

abbrev pub brackets_in : Instr → List Bracket
brackets_in (i.Alter a x ks) = ks
brackets_in what = []

abbrev pub integer_in : Instr → ℕ
integer_in (i.Integer n) = unsigned_abs n
integer_in what = 0

abbrev pub text_in : Instr → List ℕ
text_in (i.Text t) = t
text_in what = []

abbrev pub operator_in : Instr → Operator
operator_in (i.Alter (alteration.Combine what) x ks) = what
operator_in what = o.Add
