-- What was done at once, and runs of that.
use Rattle.std.proofs.Common.{◌≡◌, ◌+◌, ℕ, Bool, true, false, List, [], Option, None, Some, refl, sym, ap, subst, Ok, Err, inl}
use Rattle.std.specs.Prelude.{Result, IfOk}
use Rattle.std.specs.declared.alloc.AllocError.{AllocError}
use Rattle.setl_model_runs.specs.Run.{Next, settle, step}
use Rattle.setl_text.specs.code.Reads.{ReaderState, ahead}
use Rattle.setl_code.specs.Code.{Code, Instr}
use Rattle.setl_code.specs.declared.code.Instr as code
use Rattle.setl_code.specs.CodeCore.{CodeCore}
use Rattle.setl_code.specs.Machine.{do_step, fetch, machine}
use Rattle.setl_code.specs.Plain.{plain_code, plain_instr}
use Rattle.setl_store.specs.Standing.{Standing, variables}
use Rattle.setl_machine_control.specs.Control.{ControlState, world_of, stood_for, IsRest}
use Rattle.setl_machine_control.specs.Declaring.{Modes, tested}
use Rattle.setl_machine_control.specs.Answers.{start, next_of, Quiet}
use Rattle.setl_machine_control.specs.Working.{Works, DoesBy}
use Rattle.setl_machine_variables.specs.Freely.{WorksOrLeaves}
use Rattle.setl_machine.specs.Gaining.{RunGains}
use Rattle.setl_machine.specs.Outcome.{Seen, Ran, RanQuietly}
use Rattle.setl_machine.specs.Working.{went_on, GoesOrLeaves, DoesOrLeaves, StepsOrLeaves}
use Rattle.setl_machine.specs.Writing.{RunWrites}
use Rattle.setl_machine_control.specs.declared.end.End.{End}
use Rattle.setl_machine_control.specs.declared.end.End.TheVariants.{Done, Stopped, Spent, Paused, ReadFault, WriteFault, NoMemory, Stuck}
use Rattle.setl_machine.proofs.RanLaws.{ran_join, ran_one}
use Rattle.setl_machine.proofs.Rounds.{Moment, Runs, runs_then}
use Rattle.setl_machine.proofs.Stays.{ran_none}
use Rattle.setl_machine.proofs.Stepping.{step_is, quiet_steps, quiet_no_read, quiet_no_write}
use Rattle.setl_machine.proofs.Working.{works_any}
use Rattle.setl_machine.proofs.Writing.{quiet_run_writes}

-- ---- an instruction

went_so : (modes : Modes) (old new : Standing) (from to : ControlState) (line : ℕ) (what : Instr) (r : Result End AllocError) → IfOk r (λ e. DoesBy modes old from line what new to e) → DoesOrLeaves modes old from line what new to (went_on r)
went_so modes old new from to line what (Ok Paused) h = h
went_so modes old new from to line what (Ok Done) h = h.1
went_so modes old new from to line what (Ok (Stopped why at)) h = h.1
went_so modes old new from to line what (Ok Spent) h = h.1
went_so modes old new from to line what (Ok ReadFault) h = h.1
went_so modes old new from to line what (Ok WriteFault) h = h.1
went_so modes old new from to line what (Ok NoMemory) h = h.1
went_so modes old new from to line what (Ok Stuck) h = h.1
went_so modes old new from to line what (Err e) h = λ rest. tt

-- how an instruction went that was done
pub went : (modes : Modes) (old new : Standing) (from to : ControlState) (line : ℕ) (what : Instr) (r : Result End AllocError) (q : Result Bool End) → q ≡ went_on r → IfOk r (λ e. DoesBy modes old from line what new to e) → DoesOrLeaves modes old from line what new to q
went modes old new from to line what r q e h = subst (DoesOrLeaves modes old from line what new to) (sym e) (went_so modes old new from to line what r h)

-- the same of one that doesn't ask the control
pub went_alone : (modes : Modes) (old new : Standing) (from : ControlState) (line : ℕ) (what : Instr) (r : Result End AllocError) (q : Result Bool End) → q ≡ went_on r → IfOk r (λ e. Works old line what new e) → DoesOrLeaves modes old from line what new from q
went_alone modes old new from line what r q e h = went modes old new from from line what r q e (works_any modes old new from line what r h)

-- what was stored at once, or left
pub stored_or_left : (modes : Modes) (old new : Standing) (from : ControlState) (line : ℕ) (what : Instr) (done : Bool) → WorksOrLeaves modes old line what new done → DoesOrLeaves modes old from line what new from (Ok done)
stored_or_left modes old new from line what true h = (h.0, λ rest. h.1 (world_of from rest))
stored_or_left modes old new from line what false h = (h, refl)

-- how one ended the run, by what all others did
pub ended_so : (modes : Modes) (by : List ℕ → Next CodeCore) (old new : Standing) (from to : ControlState) (e : End) → (e ≡ Paused → ⊥) → ((rest : List ℕ) → Quiet modes (by rest) (stood_for new.core to rest) e) → GoesOrLeaves modes by old from new to (Err e)
ended_so modes by old new from to Paused ne h = absurd (ne refl)
ended_so modes by old new from to Done ne h = h
ended_so modes by old new from to (Stopped why at) ne h = h
ended_so modes by old new from to Spent ne h = h
ended_so modes by old new from to ReadFault ne h = h
ended_so modes by old new from to WriteFault ne h = h
ended_so modes by old new from to NoMemory ne h = h
ended_so modes by old new from to Stuck ne h = h

pub ends_so : (modes : Modes) (by : List ℕ → Next CodeCore) (old new : Standing) (from to : ControlState) (e : End) → GoesOrLeaves modes by old from new to (Err e) → (rest : List ℕ) → Quiet modes (by rest) (stood_for new.core to rest) e
ends_so modes by old new from to Paused h = absurd h
ends_so modes by old new from to Done h = h
ends_so modes by old new from to (Stopped why at) h = h
ends_so modes by old new from to Spent h = h
ends_so modes by old new from to ReadFault h = h
ends_so modes by old new from to WriteFault h = h
ends_so modes by old new from to NoMemory h = h
ends_so modes by old new from to Stuck h = h

-- an end isn't a pause
pub no_pause : (modes : Modes) (by : List ℕ → Next CodeCore) (old new : Standing) (from to : ControlState) (e : End) → GoesOrLeaves modes by old from new to (Err e) → e ≡ Paused → ⊥
no_pause modes by old new from to e h p = subst (λ e. GoesOrLeaves modes by old from new to (Err e)) p h

-- what is left is done by another call
pub left_then : (modes : Modes) (old mid new : Standing) (from via to : ControlState) (line : ℕ) (what : code.Instr) (r : Result Bool End) → mid ≡ old → via ≡ from → DoesOrLeaves modes mid via line (plain_instr (variables mid.core) what) new to r → DoesOrLeaves modes old from line (plain_instr (variables old.core) what) new to r
left_then modes old mid new from via to line what r s k h =
    subst (λ (d : ControlState). DoesOrLeaves modes old d line (plain_instr (variables old.core) what) new to r) k
    (subst (λ (m : Standing). DoesOrLeaves modes m via line (plain_instr (variables m.core) what) new to r) s h)

-- ---- the next step

-- it does what its instruction does
pub next_step : (modes : Modes) (old new : Standing) (from to : ControlState) (line : ℕ) (what : Instr) (r : Result Bool End) → fetch (plain_code old.code) old.core.now.body old.core.now.at ≡ Some (line, what) → DoesOrLeaves modes old from line what new to r → StepsOrLeaves modes old from new to r
next_step modes old new from to line what r h d =
    let by : (λ (rest : List ℕ). next_of modes (plain_code old.code) line what (stood_for old.core from rest)) ≡ (λ (rest : List ℕ). step (machine (plain_code old.code)) (tested modes) (start (stood_for old.core from rest))) =
    λ i rest. sym (step_is modes (plain_code old.code) (stood_for old.core from rest) line what h) i in
    subst (λ (f : List ℕ → Next CodeCore). GoesOrLeaves modes f old from new to r) by d

-- no step is in hand
pub no_step_quietly : (modes : Modes) (s : Standing) (k : ControlState) → fetch (plain_code s.code) s.core.now.body s.core.now.at ≡ None → StepsOrLeaves modes s k s k (Err Stuck)
no_step_quietly modes s k h = λ rest.
    let at = stood_for s.core k rest in
    subst (λ x. Quiet modes x at Stuck) (sym (ap (λ o. settle (machine (plain_code s.code)) (tested modes) (start at) (do_step (plain_code s.code) o at)) h)) ((refl, ([], refl)), refl)

-- ---- runs

pub quietly_none : (modes : Modes) (c : Code) (k : CodeCore) (d : ControlState) → RanQuietly modes c 0 k d k d Paused
quietly_none modes c k d = λ now rest. ran_none modes c (stood_for k d rest) now

-- one step more, of the same code
pub quietly_on : (modes : Modes) (c d : Code) (n : ℕ) (old mid new : CodeCore) (from via to : ControlState) (e : End) → d ≡ c → RanQuietly modes c n old from mid via Paused → ((rest : List ℕ) → Quiet modes (step (machine d) (tested modes) (start (stood_for mid via rest))) (stood_for new to rest) e) → RanQuietly modes c (n + 1) old from new to e
quietly_on modes c d n old mid new from via to e same p q = λ now rest.
    let k = stood_for mid via rest in
    let there = stood_for new to rest in
    let did = subst (λ x. Quiet modes (step (machine x) (tested modes) (start k)) there e) same (q rest) in
    let x = step (machine c) (tested modes) (start k) in
    ran_join modes c n 1 (stood_for old from rest) k there now now now e (p now rest)
    (ran_one modes c k there now now e (λ h. absurd (quiet_no_read modes x there e did h)) (λ h. absurd (quiet_no_write modes x there e did h)) (quiet_steps modes x there now e did))

-- a call that neither reads nor writes is a call
pub quietly_runs : (modes : Modes) (c : Code) (n : ℕ) (old new : Moment) (e : End) → new.outside ≡ old.outside → new.left ≡ old.left → new.pieces ≡ old.pieces → new.control.reader ≡ old.control.reader → RanQuietly modes c n old.core old.control new.core new.control e → ((rest : List ℕ) → RunGains modes c n (stood_for old.core old.control rest) old.bases new.bases e) → Runs modes c n old new e
quietly_runs modes c n old new e outside left pieces reader ran gained = λ rest h. (
  rest,
  subst (λ (l : Option (List ℕ)). IsRest (ahead old.control.reader.ended l) rest) left (subst (λ (r : ReaderState). IsRest (ahead r.ended new.left) rest) reader h),
  subst (λ (o : Seen). Ran modes c n (stood_for old.core old.control rest) old.outside o (stood_for new.core new.control rest) e) (sym outside) (ran old.outside rest),
  inl left,
  gained rest,
  subst (λ (p : Option ℕ). RunWrites modes c n (stood_for old.core old.control rest) old.pieces p e) (sym pieces)
      (quiet_run_writes modes c n (stood_for old.core old.control rest) (stood_for new.core new.control rest) old.pieces e (λ now. ran now rest)),
)

-- a call more that neither reads nor writes, of the same code
pub then_quietly : (modes : Modes) (c d : Code) (n j : ℕ) (old mid new : Moment) (e : End) → d ≡ c → Runs modes c n old mid Paused → new.outside ≡ mid.outside → new.left ≡ mid.left → new.pieces ≡ mid.pieces → new.control.reader ≡ mid.control.reader → RanQuietly modes d j mid.core mid.control new.core new.control e → ((rest : List ℕ) → RunGains modes d j (stood_for mid.core mid.control rest) mid.bases new.bases e) → Runs modes c (n + j) old new e
then_quietly modes c d n j old mid new e same ran outside left pieces reader q gained = runs_then modes c d n j (n + j) old mid new e same refl ran (quietly_runs modes d j mid new e outside left pieces reader q gained)
