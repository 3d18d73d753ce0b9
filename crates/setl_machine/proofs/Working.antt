-- How an instruction goes on, and how it ends a run.
use Rattle.std.proofs.Common.{◌≡◌, ℕ, true, false, List, ◌∷◌, refl, sym, ap, subst, Some, Ok, Err}
use Rattle.std.specs.Prelude.{Result, IfOk}
use Rattle.std.specs.declared.alloc.AllocError.{AllocError}
use Rattle.setl_value.specs.Datum.{bool}
use Rattle.setl_program.specs.declared.kinds.Connective.{Connective}
use Rattle.setl_program.specs.declared.kinds.Connective.TheVariants.{And, Or, Implies}
use Rattle.setl_model_runs.specs.Run.{settle}
use Rattle.setl_model.specs.World.{World}
use Rattle.setl_code.specs.Code.{Instr}
use Rattle.setl_code.specs.Plain.{plain_code}
use Rattle.setl_code.specs.CodeCore.{Operand, Result as Holds, CodeCore}
use Rattle.setl_code.specs.Machine.{machine, do_instr, next, go_to, on_top, decides}
use Rattle.setl_store.specs.Standing.{Standing, over, at_place}
use Rattle.setl_machine_control.specs.Control.{ControlState, world_of, in_world, stood_for}
use Rattle.setl_machine_control.specs.Declaring.{Modes, tested}
use Rattle.setl_machine_control.specs.Answers.{start, IsLikely, Quiet}
use Rattle.setl_machine_control.specs.Working.{Works, Does, WorksApart, DoesApart, DoesBy, Halted}
use Rattle.setl_machine.specs.Working.{Judges}
use Rattle.setl_machine_control.specs.declared.end.End.{End}
use Rattle.setl_machine_control.specs.declared.end.End.TheVariants.{Paused}
use Rattle.setl_machine_control.specs.Laws.{halted_quiet, likely_over}

-- it goes on at a step with these operands
pub goes : (old new : Standing) (line : ℕ) (what : Instr) (at : ℕ) (xs : List Operand) → new ≡ record old { core = at_place at (over xs old.core) } → ((w : World) → do_instr (plain_code old.code) line what (in_world w old.core) ≡ go_to at xs (in_world w old.core)) → Works old line what new Paused
goes old new line what at xs e f =
    let c = plain_code old.code in (
      ap (λ s. s.code) e,
      λ modes w.
          let k = in_world w old.core in
          subst (λ m. Quiet modes (settle (machine c) (tested modes) (start k) m) (in_world w new.core) Paused) (sym (f w)) (sym (ap (λ s. in_world w s.core) e), refl),
      ap (λ s. s.bases) e,
    )

-- it ends the run, when some operands may be gone
pub stops : (old new : Standing) (line : ℕ) (what : Instr) (xs : List Operand) (e : End) → new ≡ record old { core = over xs old.core } → ((w : World) → Halted (do_instr (plain_code old.code) line what (in_world w old.core)) e) → Works old line what new e
stops old new line what xs e h f =
    let c = plain_code old.code in (
      ap (λ s. s.code) h,
      λ modes w.
          let k = in_world w old.core in
          halted_quiet modes c k (in_world w new.core) (do_instr c line what k) e (subst (λ (s : Standing). IsLikely k (in_world w s.core)) (sym h) (likely_over w old.core xs)) (f w),
      ap (λ s. s.bases) h,
    )

-- where no connective is decided, none goes on
pub halts_deciding : (o : Connective) (to line : ℕ) (xs : List Operand) (k : CodeCore) (e : End) → Judges xs line (Err e) → Halted (on_top xs (λ v ys. decides o to v line ys k)) e
halts_deciding And to line xs k e h = h (λ v ys. next ys k) (λ v ys. go_to to (Holds (Some (bool false)) ∷ ys) k)
halts_deciding Or to line xs k e h = h (λ v ys. go_to to (Holds (Some (bool true)) ∷ ys) k) (λ v ys. next ys k)
halts_deciding Implies to line xs k e h = h (λ v ys. next ys k) (λ v ys. go_to to (Holds (Some (bool true)) ∷ ys) k)

-- the same where a control is asked
pub stops_with : (old new : Standing) (from to : ControlState) (line : ℕ) (what : Instr) (xs : List Operand) (e : End) → new ≡ record old { core = over xs old.core } → to ≡ from → ((rest : List ℕ) → Halted (do_instr (plain_code old.code) line what (stood_for old.core from rest)) e) → Does old from line what new to e
stops_with old new from to line what xs e h same f =
    let c = plain_code old.code in (
      ap (λ s. s.code) h,
      λ modes rest.
          let k = stood_for old.core from rest in
          let likely : IsLikely k (stood_for (over xs old.core) from rest) = likely_over (world_of from rest) old.core xs in
          halted_quiet modes c k (stood_for new.core to rest) (do_instr c line what k) e (subst (λ (s : Standing). IsLikely k (stood_for s.core to rest)) (sym h) (subst (λ d. IsLikely k (stood_for (over xs old.core) d rest)) (sym same) likely)) (f rest),
      ap (λ s. s.bases) h,
    )

-- what doesn't ask the control does the same with any
pub works_alone : (old new : Standing) (from : ControlState) (line : ℕ) (what : Instr) (r : Result End AllocError) → IfOk r (λ e. Works old line what new e) → IfOk r (λ e. Does old from line what new from e)
works_alone old new from line what (Ok e) h = (h.0, λ modes rest. h.1 modes (world_of from rest), h.2)
works_alone old new from line what (Err e) h = tt

-- the same but for the bases
pub works_apart : (old new : Standing) (from : ControlState) (line : ℕ) (what : Instr) (r : Result End AllocError) → IfOk r (λ e. WorksApart old line what new e) → IfOk r (λ e. DoesApart old from line what new from e)
works_apart old new from line what (Ok e) h = (h.0, λ modes rest. h.1 modes (world_of from rest))
works_apart old new from line what (Err e) h = tt

pub does_apart : (modes : Modes) (old new : Standing) (from to : ControlState) (line : ℕ) (what : Instr) (r : Result End AllocError) → IfOk r (λ e. DoesApart old from line what new to e) → IfOk r (λ e. DoesBy modes old from line what new to e)
does_apart modes old new from to line what (Ok e) h = (h.0, h.1 modes)
does_apart modes old new from to line what (Err e) h = tt

-- what tests no value does the same by any declarations
pub does_untested : (modes : Modes) (old new : Standing) (from to : ControlState) (line : ℕ) (what : Instr) (r : Result End AllocError) → IfOk r (λ e. Does old from line what new to e) → IfOk r (λ e. DoesBy modes old from line what new to e)
does_untested modes old new from to line what (Ok e) h = (h.0, h.1 modes)
does_untested modes old new from to line what (Err e) h = tt

-- the same of what asks no control and tests no value
pub works_any : (modes : Modes) (old new : Standing) (from : ControlState) (line : ℕ) (what : Instr) (r : Result End AllocError) → IfOk r (λ e. Works old line what new e) → IfOk r (λ e. DoesBy modes old from line what new from e)
works_any modes old new from line what r h = does_untested modes old new from from line what r (works_alone old new from line what r h)
