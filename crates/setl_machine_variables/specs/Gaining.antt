-- What instructions on variables make of the bases that a store tells.
use Rattle.std.specs.Prelude.{ℕ, Bool, cond, List, [], length}
use Rattle.setl_model.specs.Entered.{Base}
use Rattle.setl_model.specs.Step.{declared_mode}
use Rattle.setl_model_runs.specs.Variable.{Variable}
use Rattle.setl_code.specs.Code.{Alteration, Bracket}
use Rattle.setl_code.specs.CodeCore.{CodeCore, held, popped}
use Rattle.setl_code.specs.Machine.{selected_by}
use Rattle.setl_code_events.specs.Told.{value_held, popped_values}
use Rattle.setl_store.specs.Standing.{Standing}
use Rattle.setl_machine_control.specs.Declaring.{Modes}
use Rattle.setl_machine_control.specs.Gaining.{gained_by, BasesAre}
use Rattle.setl_machine_control.specs.declared.end.End.{End}
use Rattle.setl_machine_variables.specs.Altered.{stores_new}

-- after a store into a variable, by what it holds then
abbrev pub after_store : Modes → Variable → (old new : Standing) → List Base
after_store modes x old new = gained_by (declared_mode modes x) (value_held (held x new.core)) old.bases

-- where the code goes on a variable was stored into, and else the bases are as before
abbrev pub GainsStore : Modes → Variable → (old new : Standing) → End → Type 0
GainsStore modes x old new e = BasesAre (after_store modes x old new) old.bases new.bases e

-- whether an update of a variable stores a new whole, where so many turns are left
abbrev pub stores_at : Alteration → Variable → List Bracket → CodeCore → (turns : ℕ) → Bool
stores_at a x bs k turns = stores_new a (value_held (held x k)) (selected_by bs (popped_values (popped (length bs) [] k.now.operands))) turns

-- the same of an update, which may store nothing
abbrev pub GainsIf : Bool → Modes → Variable → (old new : Standing) → End → Type 0
GainsIf stored modes x old new e = BasesAre (cond stored (after_store modes x old new) old.bases) old.bases new.bases e
