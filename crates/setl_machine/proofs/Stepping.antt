-- A step does what its instruction does.
use Rattle.std.proofs.Common.{◌≡◌, ◌∙◌, ℕ, List, [], Option, None, Some, refl, sym, ap, subst, arith}
use Rattle.std.specs.Io.KnownBytes.{Appends}
use Rattle.setl_model_runs.specs.Run.{Next, Goes, Ends, settle, step}
use Rattle.setl_code.specs.declared.code.Instr as declared_instr
use Rattle.setl_code.specs.declared.code.Step as declared
use Rattle.setl_code.specs.Code.{Code, Instr}
use Rattle.setl_code.specs.Plain.{Variables, plain_instr, plain_step}
use Rattle.setl_code.specs.CodeCore.{CodeCore}
use Rattle.setl_code.specs.Machine.{do_step, fetch, machine}
use Rattle.setl_text.specs.code.Reads.{ReaderState, StaysHonest}
use Rattle.setl_machine_control.specs.Declaring.{Modes, tested}
use Rattle.setl_machine_control.specs.Answers.{start, next_of, Quiet}
use Rattle.setl_machine.specs.Outcome.{Seen, Steps}
use Rattle.setl_machine_control.specs.declared.end.End.{End}
use Rattle.setl_machine_control.specs.declared.end.End.TheVariants.{Done, Stopped, Spent, Paused, ReadFault, WriteFault, NoMemory, Stuck}
use Rattle.setl_machine.proofs.Stays.{appends_same, honest_same}

pub in_hand : (c : Code) (k : CodeCore) (xs : Variables) (s : declared.Step) (what : declared_instr.Instr) → fetch c k.now.body k.now.at ≡ Some (plain_step xs s) → s.what ≡ what → fetch c k.now.body k.now.at ≡ Some (s.line, plain_instr xs what)
in_hand c k xs s what h e = h ∙ ap (λ w. Some (s.line, plain_instr xs w)) e

pub step_is : (modes : Modes) (c : Code) (k : CodeCore) (line : ℕ) (i : Instr) → fetch c k.now.body k.now.at ≡ Some (line, i) → step (machine c) (tested modes) (start k) ≡ next_of modes c line i k
step_is modes c k line i h = ap (λ o. settle (machine c) (tested modes) (start k) (do_step c o k)) h

pub by_step : (modes : Modes) (c : Code) (k to : CodeCore) (line : ℕ) (i : Instr) (old new : Seen) (e : End) → fetch c k.now.body k.now.at ≡ Some (line, i) → Steps modes (next_of modes c line i k) old new to e → Steps modes (step (machine c) (tested modes) (start k)) old new to e
by_step modes c k to line i old new e h s = subst (λ x. Steps modes x old new to e) (sym (step_is modes c k line i h)) s

-- no step is in hand
pub no_step : (modes : Modes) (c : Code) (k : CodeCore) (now : Seen) → fetch c k.now.body k.now.at ≡ None → Steps modes (step (machine c) (tested modes) (start k)) now now k Stuck
no_step modes c k now h =
    subst (λ x. Steps modes x now now k Stuck) (sym (ap (λ o. settle (machine c) (tested modes) (start k) (do_step c o k)) h)) ((refl, ([], refl)), appends_same now.held, (refl, refl))

-- what neither reads nor writes does nothing to the outside
pub quiet_steps : (modes : Modes) (x : Next CodeCore) (to : CodeCore) (now : Seen) (e : End) → Quiet modes x to e → Steps modes x now now to e
quiet_steps modes x to now Done q = (q.0, subst (Appends now.held now.held) (sym q.1) (appends_same now.held), (refl, refl))
quiet_steps modes x to now (Stopped why line) q = (q.0, subst (Appends now.held now.held) (sym q.1) (appends_same now.held), (refl, refl))
quiet_steps modes x to now Spent q = (q.0, subst (Appends now.held now.held) (sym q.1) (appends_same now.held), (refl, refl))
quiet_steps modes x to now Paused q = (q.0, subst (Appends now.held now.held) (sym q.1) (appends_same now.held), (refl, refl))
quiet_steps modes x to now Stuck q = (q.0, subst (Appends now.held now.held) (sym q.1) (appends_same now.held), (refl, refl))
quiet_steps modes x to now NoMemory q = ((0, omega arith, appends_same now.held), (refl, refl))
quiet_steps modes (Goes s) to now ReadFault q = absurd q.0
quiet_steps modes (Ends d s) to now ReadFault q = absurd q.0
quiet_steps modes (Goes s) to now WriteFault q = absurd q.0
quiet_steps modes (Ends d s) to now WriteFault q = absurd q.0

no_write : (modes : Modes) (x : Next CodeCore) (to : CodeCore) → Quiet modes x to WriteFault → ⊥
no_write modes (Goes s) to q = q.0
no_write modes (Ends d s) to q = q.0

no_read : (modes : Modes) (x : Next CodeCore) (to : CodeCore) → Quiet modes x to ReadFault → ⊥
no_read modes (Goes s) to q = q.0
no_read modes (Ends d s) to q = q.0

pub quiet_no_write : (modes : Modes) (x : Next CodeCore) (to : CodeCore) (e : End) → Quiet modes x to e → e ≡ WriteFault → ⊥
quiet_no_write modes x to e q h = no_write modes x to (subst (Quiet modes x to) h q)

pub quiet_no_read : (modes : Modes) (x : Next CodeCore) (to : CodeCore) (e : End) → Quiet modes x to e → e ≡ ReadFault → ⊥
quiet_no_read modes x to e q h = no_read modes x to (subst (Quiet modes x to) h q)

-- where the reader and the input stay
pub stays_honest : (old new : ReaderState) (left : Option (List ℕ)) → new ≡ old → StaysHonest old.ended left new.ended left
stays_honest old new left e = subst (λ (r : ReaderState). StaysHonest old.ended left r.ended left) (sym e) (honest_same old.ended left)
