-- The text of code.
use Rattle.std.specs.Prelude.{ℕ, zero, suc, List, [], ◌∷◌, ◌++◌, codes, decimal, Option, Some, None}
use Rattle.std.specs.Fmt.{signed_decimal}
use Rattle.setl_value.specs.Datum.{Datum, int, text}
use Rattle.setl_text.specs.Texts.{inner_text}
use Rattle.setl_model_runs.specs.Variable.{Variable, Global, Own, Bound}
use Rattle.setl_operators_table.specs.declared.Operator.{Operator}
use Rattle.setl_operators_table.specs.declared.Operator.TheVariants.{Negate, Abs, Even, Odd, Size, Not, Pow, Domain, Range, Arb, Str, IsInteger, IsString, IsBoolean, IsAtom, IsTuple, IsSet, IsMap, FoldAdd, FoldMultiply, FoldMax, FoldMin, FoldAnd, FoldOr, Add, Subtract, Multiply, Power, Divide, Modulo, Max, Min, With, Less, Lessf, Npow, Equal, NotEqual, Below, AtMost, Above, AtLeast, In, NotIn, Subset, Includes, Get, Images, Slice, Tail, SetOf, TupleOf, SetRange, TupleRange, SetStep, TupleStep, Put, PutImages}
use Rattle.setl_program.specs.declared.kinds.Collection.TheVariants.{OfSet, OfTuple}
use Rattle.setl_program.specs.declared.kinds.Connective.{Connective}
use Rattle.setl_program.specs.declared.kinds.Connective.TheVariants.{And, Or, Implies}
use Rattle.setl_program.specs.declared.kinds.Source.TheVariants.{Values, Between, SetSteps, TupleSteps}
use Rattle.setl_program.specs.declared.kinds.Taking.TheVariants.{TakeLeast, TakeFirst, TakeLast}
use Rattle.setl_program.specs.Program.{Begin, Members, Points}
use Rattle.setl_code.specs.Code.{Bracket, InRound, InBrace, Alteration, Putting, Combining, TakingOut, Instr, Push, PushAtom, PushEof, Load, Take, StoreIn, Operate, Alter, Decides, TestBool, Unless, Jump, DropTop, DupTop, PartsOf, BeginOver, NextOr, BeginOf, AddBelow, LeaveAll, PayRound, CallBody, ReturnTop, KeepAll, GoBack, ForgetKept, PrintTop, ReadOne, StopRun, Step, Body, Code}

-- ---- words

-- an operator's own sign or word
abbrev pub operator_word : Operator → List ℕ
operator_word Negate = codes "neg"
operator_word Abs = codes "abs"
operator_word Even = codes "even"
operator_word Odd = codes "odd"
operator_word Size = codes "#"
operator_word Not = codes "not"
operator_word Pow = codes "pow"
operator_word Domain = codes "domain"
operator_word Range = codes "range"
operator_word Arb = codes "arb"
operator_word Str = codes "str"
operator_word IsInteger = codes "is_integer"
operator_word IsString = codes "is_string"
operator_word IsBoolean = codes "is_boolean"
operator_word IsAtom = codes "is_atom"
operator_word IsTuple = codes "is_tuple"
operator_word IsSet = codes "is_set"
operator_word IsMap = codes "is_map"
operator_word FoldAdd = codes "fold +"
operator_word FoldMultiply = codes "fold *"
operator_word FoldMax = codes "fold max"
operator_word FoldMin = codes "fold min"
operator_word FoldAnd = codes "fold and"
operator_word FoldOr = codes "fold or"
operator_word Add = codes "+"
operator_word Subtract = codes "-"
operator_word Multiply = codes "*"
operator_word Power = codes "**"
operator_word Divide = codes "div"
operator_word Modulo = codes "mod"
operator_word Max = codes "max"
operator_word Min = codes "min"
operator_word With = codes "with"
operator_word Less = codes "less"
operator_word Lessf = codes "lessf"
operator_word Npow = codes "npow"
operator_word Equal = codes "="
operator_word NotEqual = codes "/="
operator_word Below = codes "<"
operator_word AtMost = codes "<="
operator_word Above = codes ">"
operator_word AtLeast = codes ">="
operator_word In = codes "in"
operator_word NotIn = codes "notin"
operator_word Subset = codes "subset"
operator_word Includes = codes "incs"
operator_word Get = codes "get"
operator_word Images = codes "images"
operator_word Slice = codes "slice"
operator_word Tail = codes "tail"
operator_word SetOf = codes "set"
operator_word TupleOf = codes "tuple"
operator_word SetRange = codes "range set"
operator_word TupleRange = codes "range tuple"
operator_word SetStep = codes "step set"
operator_word TupleStep = codes "step tuple"
operator_word Put = codes "put"
operator_word PutImages = codes "put"

-- a word with a number behind it
abbrev pub numbered : List ℕ → ℕ → List ℕ
numbered word n = word ++ 32 ∷ decimal n

-- an operator with its number of operands where that is written
abbrev pub operate_text : Operator → ℕ → List ℕ
operate_text SetOf n = numbered (codes "set") n
operate_text TupleOf n = numbered (codes "tuple") n
operate_text o n = operator_word o

abbrev pub alteration_word : Alteration → List ℕ
alteration_word Putting = codes "put"
alteration_word (Combining o) = operator_word o
alteration_word (TakingOut TakeLeast) = codes "from"
alteration_word (TakingOut TakeFirst) = codes "fromb"
alteration_word (TakingOut TakeLast) = codes "frome"

abbrev pub connective_word : Connective → List ℕ
connective_word And = codes "and"
connective_word Or = codes "or"
connective_word Implies = codes "impl"

abbrev pub begin_text : Begin → List ℕ
begin_text (Members Values) = codes "begin"
begin_text (Members Between) = codes "begin range"
begin_text (Members SetSteps) = codes "begin set step"
begin_text (Members TupleSteps) = codes "begin tuple step"
begin_text Points = codes "begin pairs"

-- a former's own name is written with the former's number
abbrev pub variable_text : Variable → List ℕ
variable_text (Global name) = name
variable_text (Own body name) = name
variable_text (Bound former name) = name ++ 46 ∷ decimal former

abbrev pub brackets_text : List Bracket → List ℕ
brackets_text [] = []
brackets_text (InRound ∷ bs) = codes " ()" ++ brackets_text bs
brackets_text (InBrace ∷ bs) = codes " {}" ++ brackets_text bs

-- a value that is pushed
abbrev pub pushed_text : Option Datum → List ℕ
pushed_text None = codes "om"
pushed_text (Some (int n)) = codes "int " ++ signed_decimal n
pushed_text (Some (text t)) = codes "str " ++ inner_text (text t)
pushed_text (Some d) = inner_text d

-- the name of a body
abbrev pub name_at : ℕ → List Body → List ℕ
name_at n [] = []
name_at zero (b ∷ bs) = b.name
name_at (suc n) (b ∷ bs) = name_at n bs

-- ---- instructions

abbrev pub instr_text : List Body → Instr → List ℕ
instr_text bs (Push v) = pushed_text v
instr_text bs PushAtom = codes "newat"
instr_text bs PushEof = codes "eof"
instr_text bs (Load x) = codes "load " ++ variable_text x
instr_text bs (Take x) = codes "take " ++ variable_text x
instr_text bs (StoreIn x) = codes "store " ++ variable_text x
instr_text bs (Operate o n) = operate_text o n
instr_text bs (Alter a x ks) = alteration_word a ++ 32 ∷ variable_text x ++ brackets_text ks
instr_text bs (Decides k to) = numbered (connective_word k) to
instr_text bs TestBool = codes "bool"
instr_text bs (Unless to) = numbered (codes "unless") to
instr_text bs (Jump to) = numbered (codes "jump") to
instr_text bs DropTop = codes "drop"
instr_text bs DupTop = codes "dup"
instr_text bs (PartsOf n) = numbered (codes "parts") n
instr_text bs (BeginOver k n) = begin_text k
instr_text bs (NextOr to) = numbered (codes "next") to
instr_text bs (BeginOf OfSet) = codes "newset"
instr_text bs (BeginOf OfTuple) = codes "newtuple"
instr_text bs (AddBelow n) = numbered (codes "add") n
instr_text bs (LeaveAll n) = numbered (codes "leave") n
instr_text bs PayRound = codes "round"
instr_text bs (CallBody n) = codes "call " ++ name_at n bs
instr_text bs ReturnTop = codes "return"
instr_text bs KeepAll = codes "ok"
instr_text bs GoBack = codes "fail"
instr_text bs ForgetKept = codes "succeed"
instr_text bs (PrintTop n) = numbered (codes "print") n
instr_text bs ReadOne = codes "read"
instr_text bs StopRun = codes "stop"

-- ---- bodies

-- a step with its number on a line
abbrev pub steps_text : List Body → ℕ → List Step → List ℕ
steps_text bs at [] = []
steps_text bs at (s ∷ ss) = decimal at ++ 32 ∷ instr_text bs s.1 ++ 10 ∷ steps_text bs (suc at) ss

abbrev pub body_text : List Body → List ℕ → Body → List ℕ
body_text bs head b = head ++ 10 ∷ steps_text bs 0 b.steps

abbrev pub procedures_text : List Body → List Body → List ℕ
procedures_text bs [] = []
procedures_text bs (b ∷ rest) = body_text bs (codes "proc " ++ b.name ++ 58 ∷ []) b ++ procedures_text bs rest

abbrev pub bodies_text : List Body → List ℕ
bodies_text [] = []
bodies_text (b ∷ bs) = body_text (b ∷ bs) (codes "main:") b ++ procedures_text (b ∷ bs) bs

-- the listing: for each body its head, and each step with its number
abbrev pub listing : Code → List ℕ
listing c = bodies_text c.bodies
