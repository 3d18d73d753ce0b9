-- Bodies whose instructions name only what is there.
use Rattle.std.specs.Prelude.{◌≡◌, ℕ, ◌+◌, ◌-◌, Bool, true, false, ◌&&◌, nat_eq, nat_lt, List, map, length, slice_get, Option, Some, None}
use Rattle.std.specs.List.{list_all}
use Rattle.setl_operators_table.specs.Operators.{operand_count}
use Rattle.setl_program.specs.Updating.{is_updating}
use Rattle.setl_model_runs.specs.Variable.{Global}
use Rattle.setl_code.specs.declared.code.Slot.{Slot}
use Rattle.setl_code.specs.declared.code.Slot.TheVariants as slot
use Rattle.setl_code.specs.declared.code.Alteration.{Alteration}
use Rattle.setl_code.specs.declared.code.Alteration.TheVariants as alteration
use Rattle.setl_code.specs.declared.code.Instr.{Instr}
use Rattle.setl_code.specs.declared.code.Instr.TheVariants as i
use Rattle.setl_code.specs.declared.code.Step.{Step}
use Rattle.setl_code.specs.declared.code.Body.{Body}
use Rattle.setl_code.specs.declared.code.Code.{Code}
use Rattle.setl_code.specs.Code as plain
use Rattle.setl_code.specs.MayRun.{StepsFit}
use Rattle.setl_code.specs.Plain.{plain_body, plain_code}
use Rattle.setl_code.specs.Piece.{Is}
use Rattle.setl_code.specs.Sound.{ClosedBody, StaysBelow}
use Rattle.setl_image_closed.specs.declared.closed.Counts.{Counts}

-- Each slot, step and body that a body's instructions name is there, as code that may run and closed code have it; each
-- operator has as many operands as it needs, and an update one that it may have; none calls the main program or returns from
-- it, as sound code has it; and the last step ends the body.
pub record IsClosed (c : Code) (n : ℕ) (b : Body) : Type 0 where
  pub fits : StepsFit (length c.vars) (length b.parameters + length b.names) b.steps
  pub closed : ClosedBody (plain_code c) n (plain_body (map Global c.vars) n b)
  pub below : (at line : ℕ) (what : plain.Instr) → Is (plain_body (map Global c.vars) n b).steps at line what → StaysBelow n what

-- ---- as a test

abbrev pub has_slot : Counts → Slot → Bool
has_slot counts (slot.Global k) = nat_lt k counts.globals
has_slot counts (slot.Own k) = nat_lt k counts.own

abbrev pub can_alter : Alteration → Bool
can_alter alteration.Put = true
can_alter (alteration.Combine what) = is_updating what
can_alter (alteration.TakeOut k) = true

abbrev pub is_count : Option ℕ → ℕ → Bool
is_count None n = true
is_count (Some m) n = nat_eq n m

-- whether what an instruction names is there
abbrev pub names_there : Counts → Instr → Bool
names_there counts (i.Load x) = has_slot counts x
names_there counts (i.Take x) = has_slot counts x
names_there counts (i.Store x) = has_slot counts x
names_there counts (i.Operate what n) = is_count (operand_count what) n
names_there counts (i.Alter a x bs) = has_slot counts x && can_alter a
names_there counts (i.Decide k to) = nat_lt to counts.steps
names_there counts (i.Unless to) = nat_lt to counts.steps
names_there counts (i.Jump to) = nat_lt to counts.steps
names_there counts (i.Next to) = nat_lt to counts.steps
names_there counts (i.Call m) = nat_lt 0 m && nat_lt m counts.bodies
names_there counts i.Return = nat_lt 0 counts.number
names_there counts what = true

abbrev pub all_there : Counts → List Step → Bool
all_there counts steps = list_all (λ s. names_there counts s.what) steps

abbrev pub ends : Instr → Bool
ends (i.Jump to) = true
ends i.Return = true
ends i.Back = true
ends i.Stop = true
ends what = false

abbrev pub is_ended : Option Step → Bool
is_ended None = false
is_ended (Some s) = ends s.what

-- the last step
abbrev pub last_of : List Step → Option Step
last_of steps = slice_get steps (length steps - 1)

-- what there is for the instructions of a body
abbrev pub counts_of : Code → ℕ → Body → Counts
counts_of c n b = record {
  globals = length c.vars;
  own = length b.parameters + length b.names;
  steps = length b.steps;
  bodies = length c.bodies;
  number = n;
}
