-- Facts about these definitions, for the proofs of this crate and of the machine.
use Rattle.std.proofs.Common.{◌≡◌, ◌∙◌, ℕ, true, false, List, [], ◌∷◌, refl, ap, Option, None, Some, Ok, Err, ◌≢◌, zero, suc, Bool, arith, ◌+◌, Result}
use Rattle.std.specs.Prelude.{IfOk, slice_get, nat_eq, bytes_eq, ◌&&◌}
use Rattle.std.specs.Option.{option_map}
use Rattle.std.specs.declared.alloc.AllocError.{AllocError}
use Rattle.setl_value.specs.Datum.{Datum}
use Rattle.setl_model_runs.specs.Run.{Move, Moves, Halts, settle}
use Rattle.setl_model_runs.specs.Variable.{Variable, Global, Own, Bound, is_variable}
use Rattle.setl_model.specs.World.{World}
use Rattle.setl_code.specs.Code.{Code, Instr}
use Rattle.setl_code.specs.Plain.{plain_body, plain_bodies}
use Rattle.setl_code.specs.CodeCore.{Held, Operand, value_of, CodeCore, write}
use Rattle.setl_code.specs.Machine.{machine, on_value, on_top, with_outcome}
use Rattle.setl_store.specs.Standing.{Standing, over, top_of}
use Rattle.setl_machine_control.specs.Control.{ControlState, world_of, in_world}
use Rattle.setl_machine_control.specs.Declaring.{Modes, tested}
use Rattle.setl_machine_control.specs.Answers.{start, IsLikely, Quiet}
use Rattle.setl_machine_control.specs.Working.{WorksBy, DoesBy, Halted, EndsBy}
use Rattle.setl_machine_control.specs.declared.end.End.{End}
use Rattle.setl_machine_control.specs.declared.end.End.TheVariants.{Done, Stopped, Spent, Paused, ReadFault, WriteFault, NoMemory, Stuck}
use Rattle.std.proofs.lemmas.Bool.{eqb-true}
use Rattle.setl_modes.specs.Fits.{is_taken}
use Rattle.setl_model.specs.Step.{declared_mode}
use Rattle.setl_code.specs.declared.code.Body as declared
use Rattle.setl_operators_table.specs.declared.OpFault.{OpFault}
use Rattle.setl_operators_table.specs.declared.OpFault.TheVariants as fault
use Rattle.setl_operators_table.specs.code.Answers.{Tells}
use Rattle.setl_operators_table.specs.Outcome.{Outcome}

pub halted_quiet : (modes : Modes) (c : Code) (k to : CodeCore) (m : Move CodeCore) (e : End) → IsLikely k to → Halted m e → Quiet modes (settle (machine c) (tested modes) (start k) m) to e
halted_quiet modes c k to (Halts d) Done l h = ((h, l), refl)
halted_quiet modes c k to (Halts d) (Stopped why line) l h = ((h modes, l), refl)
halted_quiet modes c k to (Halts d) Spent l h = ((h, l), refl)
halted_quiet modes c k to (Halts d) Stuck l h = ((h, l), refl)
halted_quiet modes c k to (Halts d) Paused l h = absurd h
halted_quiet modes c k to (Halts d) ReadFault l h = absurd h
halted_quiet modes c k to (Halts d) WriteFault l h = absurd h
halted_quiet modes c k to (Halts d) NoMemory l h = absurd h
halted_quiet modes c k to (Moves said told d line xs) Done l h = absurd h
halted_quiet modes c k to (Moves said told d line xs) (Stopped why at) l h = absurd h
halted_quiet modes c k to (Moves said told d line xs) Spent l h = absurd h
halted_quiet modes c k to (Moves said told d line xs) Stuck l h = absurd h
halted_quiet modes c k to (Moves said told d line xs) Paused l h = absurd h
halted_quiet modes c k to (Moves said told d line xs) ReadFault l h = absurd h
halted_quiet modes c k to (Moves said told d line xs) WriteFault l h = absurd h
halted_quiet modes c k to (Moves said told d line xs) NoMemory l h = absurd h

pub likely_over : (w : World) (k : CodeCore) (xs : List Operand) → IsLikely (in_world w k) (in_world w (over xs k))
likely_over w k xs = ([], refl)

pub works_alone_by : (modes : Modes) (old new : Standing) (from : ControlState) (line : ℕ) (what : Instr) (r : Result End AllocError) → IfOk r (λ e. WorksBy modes old line what new e) → IfOk r (λ e. DoesBy modes old from line what new from e)
works_alone_by modes old new from line what (Ok e) h = (h.0, λ rest. h.1 (world_of from rest))
works_alone_by modes old new from line what (Err e) h = tt

-- no write sees the world
pub write_in_world : (x : Variable) (h : Held) (w : World) (k : CodeCore) → write x h (in_world w k) ≡ in_world w (write x h k)
write_in_world (Global name) h w k = refl
write_in_world (Own body name) h w k = refl
write_in_world (Bound former name) h w k = refl

some_top : (o : Option (Option Datum)) (xs ys : List Operand) (v : Option Datum) (f : Option Datum → List Operand → Move CodeCore) → option_map {U = Option Datum × List Operand} (λ u. (u, xs)) o ≡ Some (v, ys) → on_value o (λ u. f u xs) ≡ f v ys
some_top None xs ys v f h = absurd (cc)
some_top (Some u) xs ys v f h =
    let p : ◌≡◌ {A = Option Datum × List Operand} (u, xs) (v, ys) = cc in
    ap (λ u. f u xs) (ap (λ q. q.0) p) ∙ ap (f v) (ap (λ q. q.1) p)

pub top_taken : (xs ys : List Operand) (v : Option Datum) (f : Option Datum → List Operand → Move CodeCore) → top_of xs ≡ Some (v, ys) → on_top xs f ≡ f v ys
top_taken [] ys v f h = absurd (cc)
top_taken (o ∷ xs) ys v f h = some_top (value_of o) xs ys v f h

-- what isn't declared takes every value
pub takes_any : (modes : Modes) (x : Variable) (v : Option Datum) → declared_mode modes x ≡ None → tested modes x v ≡ true
takes_any modes x v h = ap (λ m. is_taken m v) h

-- own variables of two bodies are two
pub apart : (n m : ℕ) (a b : List ℕ) → n ≢ m → is_variable (Own n a) (Own m b) ≡ false
apart n m a b ne = go (nat_eq n m) refl
  where
    go : (t : Bool) → nat_eq n m ≡ t → is_variable (Own n a) (Own m b) ≡ false
    go true e = absurd (ne (eqb-true n m e))
    go false e = ap (λ t. t && bytes_eq a b) e

pub bodies_at : (vars : List Variable) (n : ℕ) (bs : List declared.Body) (k : ℕ) → slice_get (plain_bodies vars n bs) k ≡ option_map (plain_body vars (n + k)) (slice_get bs k)
bodies_at vars n [] zero = refl
bodies_at vars n [] (suc k) = refl
bodies_at vars n (b ∷ bs) zero = let e : n ≡ n + 0 = omega arith in ap (λ j. Some (plain_body vars j b)) e
bodies_at vars n (b ∷ bs) (suc k) = let e : suc n + k ≡ n + suc k = omega arith in bodies_at vars (suc n) bs k ∙ ap (λ j. option_map (plain_body vars j) (slice_get bs k)) e

-- a fault that is told ends the run so
pub halts_by : (f : OpFault) (o : Outcome) (line : ℕ) (k : CodeCore) (then_does : Option Datum → CodeCore → Move CodeCore) (e : End) → Tells (Err f) o → EndsBy f line e → Halted (with_outcome o line k then_does) e
halts_by fault.Kind o line k then_does e t h = rw (t, h) (λ modes. refl)
halts_by fault.Om o line k then_does e t h = rw (t, h) (λ modes. refl)
halts_by fault.Wide o line k then_does e t h = rw (t, h) (λ modes. refl)
halts_by fault.Zero o line k then_does e t h = rw (t, h) (λ modes. refl)
halts_by fault.Range o line k then_does e t h = rw (t, h) (λ modes. refl)
halts_by fault.Deep o line k then_does e t h = rw (t, h) (λ modes. refl)
halts_by fault.Spent o line k then_does e t h = rw (t, h) refl
halts_by fault.NoMemory o line k then_does e t h = absurd h
