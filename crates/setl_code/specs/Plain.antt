-- The plain code that code stands for: each slot becomes its variable.
use Rattle.std.specs.Prelude.{ℕ, zero, suc, List, [], ◌∷◌, ◌++◌, map, Some, None}
use Rattle.setl_value.specs.Datum.{bool, int, text}
use Rattle.setl_tree.specs.declared.tree.Param.{Param}
use Rattle.setl_model_runs.specs.Variable.{Variable, Global, Own, Bound}
use Rattle.setl_program.specs.Program as program
use Rattle.setl_program.specs.ProgramOf.{parameter_of}
use Rattle.setl_code.specs.declared.code.Slot.{Slot}
use Rattle.setl_code.specs.declared.code.Slot.TheVariants as slot
use Rattle.setl_code.specs.declared.code.OwnName.{OwnName}
use Rattle.setl_code.specs.declared.code.OwnName.TheVariants as name
use Rattle.setl_code.specs.declared.code.Bracket.{Bracket}
use Rattle.setl_code.specs.declared.code.Bracket.TheVariants as bracket
use Rattle.setl_code.specs.declared.code.Alteration.{Alteration}
use Rattle.setl_code.specs.declared.code.Alteration.TheVariants as alteration
use Rattle.setl_code.specs.declared.code.Begin.{Begin}
use Rattle.setl_code.specs.declared.code.Begin.TheVariants as begin
use Rattle.setl_code.specs.declared.code.Instr.{Instr}
use Rattle.setl_code.specs.declared.code.Instr.TheVariants as i
use Rattle.setl_code.specs.declared.code.Step.{Step}
use Rattle.setl_code.specs.declared.code.Body.{Body}
use Rattle.setl_code.specs.declared.code.Code.{Code}
use Rattle.setl_code.specs.Code as plain

-- ---- variables

abbrev pub plain_name : (body : ℕ) → OwnName → Variable
plain_name n (name.Body x) = Own n x
plain_name n (name.Former former x) = Bound former x

-- the variables that a body's own slots stand for, in their order
abbrev pub own_variables : (body : ℕ) → List Param → List OwnName → List Variable
own_variables n ps names = map (λ p. Own n p.name) ps ++ map (plain_name n) names

-- the variable at a place; behind all of them there is none, and this one, which no program has, stands for it
abbrev pub variable_at : List Variable → ℕ → Variable
variable_at [] k = Bound 0 []
variable_at (x ∷ xs) zero = x
variable_at (x ∷ xs) (suc k) = variable_at xs k

-- the variables that all bodies see, and a body's own, by slots
pub record Variables : Type 0 where
  pub global : List Variable
  pub own : List Variable

abbrev pub plain_slot : Variables → Slot → Variable
plain_slot xs (slot.Global k) = variable_at xs.global k
plain_slot xs (slot.Own k) = variable_at xs.own k

-- ---- instructions

abbrev pub plain_bracket : Bracket → plain.Bracket
plain_bracket bracket.Round = plain.InRound
plain_bracket bracket.Brace = plain.InBrace

abbrev pub plain_alteration : Alteration → plain.Alteration
plain_alteration alteration.Put = plain.Putting
plain_alteration (alteration.Combine o) = plain.Combining o
plain_alteration (alteration.TakeOut k) = plain.TakingOut k

abbrev pub plain_begin : Begin → program.Begin
plain_begin (begin.Members k) = program.Members k
plain_begin begin.Points = program.Points

abbrev pub plain_instr : Variables → Instr → plain.Instr
plain_instr xs (i.Integer n) = plain.Push (Some (int n))
plain_instr xs (i.Text t) = plain.Push (Some (text t))
plain_instr xs (i.Truth t) = plain.Push (Some (bool t))
plain_instr xs i.Undefined = plain.Push None
plain_instr xs i.NewAtom = plain.PushAtom
plain_instr xs i.Eof = plain.PushEof
plain_instr xs (i.Load x) = plain.Load (plain_slot xs x)
plain_instr xs (i.Take x) = plain.Take (plain_slot xs x)
plain_instr xs (i.Store x) = plain.StoreIn (plain_slot xs x)
plain_instr xs (i.Operate o n) = plain.Operate o n
plain_instr xs (i.Alter a x bs) = plain.Alter (plain_alteration a) (plain_slot xs x) (map plain_bracket bs)
plain_instr xs (i.Decide k to) = plain.Decides k to
plain_instr xs i.TestTruth = plain.TestBool
plain_instr xs (i.Unless to) = plain.Unless to
plain_instr xs (i.Jump to) = plain.Jump to
plain_instr xs i.Discard = plain.DropTop
plain_instr xs i.Duplicate = plain.DupTop
plain_instr xs (i.Parts n) = plain.PartsOf n
plain_instr xs (i.Begin k n) = plain.BeginOver (plain_begin k) n
plain_instr xs (i.Next to) = plain.NextOr to
plain_instr xs (i.Collect k) = plain.BeginOf k
plain_instr xs (i.Add n) = plain.AddBelow n
plain_instr xs (i.Leave n) = plain.LeaveAll n
plain_instr xs i.Round = plain.PayRound
plain_instr xs (i.Call n) = plain.CallBody n
plain_instr xs i.Return = plain.ReturnTop
plain_instr xs i.Keep = plain.KeepAll
plain_instr xs i.Back = plain.GoBack
plain_instr xs i.Forget = plain.ForgetKept
plain_instr xs (i.Print n) = plain.PrintTop n
plain_instr xs i.Read = plain.ReadOne
plain_instr xs i.Stop = plain.StopRun

-- ---- bodies

abbrev pub plain_step : Variables → Step → plain.Step
plain_step xs s = (s.line, plain_instr xs s.what)

-- a body of this number, where all bodies see these variables
abbrev pub plain_body : List Variable → ℕ → Body → plain.Body
plain_body vars n b = record {
  name = b.name;
  parameters = map parameter_of b.parameters;
  names = map (plain_name n) b.names;
  steps = map (plain_step (record { global = vars; own = own_variables n b.parameters b.names })) b.steps;
}

abbrev pub plain_bodies : List Variable → ℕ → List Body → List plain.Body
plain_bodies vars n [] = []
plain_bodies vars n (b ∷ bs) = plain_body vars n b ∷ plain_bodies vars (suc n) bs

abbrev pub plain_code : Code → plain.Code
plain_code c = let vars = map Global c.vars in record { vars = vars; bodies = plain_bodies vars 0 c.bodies }
