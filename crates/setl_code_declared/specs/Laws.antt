-- Declared variables hold what fits.
use Rattle.std.specs.Prelude.{◌≡◌, ℕ, true, List, [], slice_get, Option}
use Rattle.setl_value.specs.Datum.{Datum}
use Rattle.setl_modes.specs.Fits.{is_taken}
use Rattle.setl_model_runs.specs.Run.{State, Goes, run}
use Rattle.setl_model_runs.specs.Variable.{Variable}
use Rattle.setl_model.specs.Step.{test_of, declared_mode}
use Rattle.setl_model.specs.World.{World}
use Rattle.setl_code.specs.Code.{Code}
use Rattle.setl_code.specs.CodeCore.{There, cleared, CodeCore, held}
use Rattle.setl_code.specs.CodeMeans.{main_slots}
use Rattle.setl_code.specs.Machine.{machine}
use Rattle.setl_code_declared.specs.Fitting.{Modes, Fitting, NoFormers}

-- a run starts so
abbrev pub StartsFit : Type 0
StartsFit = (modes : Modes) (c : Code) (w : World) → Fitting modes (record {
  globals = cleared c.vars;
  now = record { body = 0; at = 0; own = main_slots (slice_get c.bodies 0); operands = [] };
  callers = [];
  kept = [];
  world = w;
})

-- and goes on so where its stores are tested
abbrev pub RunsFit : Type 0
RunsFit = (modes : Modes) (c : Code) (n : ℕ) (s t : State CodeCore) → NoFormers modes → Fitting modes s.core → run (machine c) (test_of modes true) n s ≡ Goes t → Fitting modes t.core

-- what a variable holds then is taken by its declaration
abbrev pub HeldFits : Type 0
HeldFits = (modes : Modes) (k : CodeCore) (x : Variable) (v : Option Datum) → Fitting modes k → held x k ≡ There v → is_taken (declared_mode modes x) v ≡ true
