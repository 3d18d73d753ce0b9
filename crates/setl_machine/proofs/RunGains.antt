-- What steps make of the bases, by what their instructions do.
use Rattle.std.proofs.Common.{◌≡◌, ◌∙◌, ◌+◌, ℕ, Bool, true, List, Option, Some, None, Ok, Err, refl, sym, ap, subst}
use Rattle.std.specs.Prelude.{Result}
use Rattle.std.proofs.lemmas.Option.{same_Some}
use Rattle.setl_model.specs.Entered.{Base}
use Rattle.setl_model_runs.specs.Run.{Next, Goes, Ends, settle, step}
use Rattle.setl_code.specs.Code.{Code, Instr, Step}
use Rattle.setl_code.specs.CodeCore.{CodeCore}
use Rattle.setl_code.specs.Machine.{do_instr, do_step, fetch, machine}
use Rattle.setl_code_events.specs.Told.{events_of, EventsAre, EndsTellNothing}
use Rattle.setl_machine_control.specs.Declaring.{Modes, tested, AreOfMain, IsBare}
use Rattle.setl_text.specs.code.Reads.{ahead}
use Rattle.setl_machine_control.specs.Answers.{start, Answers, Quiet}
use Rattle.setl_machine_control.specs.Control.{stood_for, IsRest}
use Rattle.setl_machine_control.specs.declared.end.End.{End}
use Rattle.setl_machine_control.specs.declared.end.End.TheVariants.{Done, Stopped, Spent, Paused, ReadFault, WriteFault, NoMemory, Stuck}
use Rattle.setl_machine.specs.Gaining.{as_answer, bases_after, bases_by, Gains, GainsOrLeaves, StayBases, NextGains, RunGains, HandGains}
use Rattle.setl_machine.specs.Hearing.{events_told}
use Rattle.setl_machine.specs.Outcome.{Seen, Steps, Ran}
use Rattle.setl_machine.specs.Writing.{NextWrites}
use Rattle.setl_machine.proofs.Hearing.{silent}
use Rattle.setl_machine.proofs.Joining.{bases_in_parts, makes_join, makes_one}
use Rattle.setl_machine.proofs.Rounds.{Moment, StepDid}
use Rattle.setl_machine.proofs.Stepping.{quiet_steps}

-- ---- the instruction in hand

same_step : (o : Option Step) (line at : ℕ) (i j : Instr) (P : ℕ → Instr → Type 0) → o ≡ Some (line, i) → o ≡ Some (at, j) → P line i → P at j
same_step o line at i j P one two p =
    let s : ◌≡◌ {A = Step} (line, i) (at, j) = same_Some (line, i) (at, j) (sym one ∙ two) in
    subst (λ (q : Step). P q.0 q.1) s p

no_step : (o : Option Step) (line : ℕ) (i : Instr) → o ≡ Some (line, i) → o ≡ None → ⊥
no_step o line i is none = absurd (cc)

-- it is this one
pub hand_by : (modes : Modes) (c : Code) (line : ℕ) (i : Instr) (k d : CodeCore) (bs cs : List Base) (r : Result Bool End) → fetch c k.now.body k.now.at ≡ Some (line, i) → GainsOrLeaves modes c line i k d bs cs r → HandGains modes c k d bs cs r
hand_by modes c line i k d bs cs r is g = (
  λ at j f. same_step (fetch c k.now.body k.now.at) line at i j (λ l x. GainsOrLeaves modes c l x k d bs cs r) is f g,
  λ none. absurd (no_step (fetch c k.now.body k.now.at) line i is none),
)

gains_as : (modes : Modes) (c : Code) (line : ℕ) (i : Instr) (k d : CodeCore) (bs cs : List Base) (e : End) → Gains modes c line i k d bs cs e → GainsOrLeaves modes c line i k d bs cs (as_answer e)
gains_as modes c line i k d bs cs Paused g = g
gains_as modes c line i k d bs cs Done g = g
gains_as modes c line i k d bs cs (Stopped why at) g = g
gains_as modes c line i k d bs cs Spent g = g
gains_as modes c line i k d bs cs ReadFault g = g
gains_as modes c line i k d bs cs WriteFault g = g
gains_as modes c line i k d bs cs NoMemory g = g
gains_as modes c line i k d bs cs Stuck g = g

-- it is this one, and ended so
pub ended_gains : (modes : Modes) (c : Code) (line : ℕ) (i : Instr) (k d : CodeCore) (bs cs : List Base) (e : End) → fetch c k.now.body k.now.at ≡ Some (line, i) → Gains modes c line i k d bs cs e → HandGains modes c k d bs cs (as_answer e)
ended_gains modes c line i k d bs cs e is g = hand_by modes c line i k d bs cs (as_answer e) is (gains_as modes c line i k d bs cs e g)

-- where it goes on
goes_gains : EventsAre → (modes : Modes) (c : Code) (k d : CodeCore) (bs cs : List Base) → HandGains modes c k d bs cs (Ok true) → Answers modes (step (machine c) (tested modes) (start k)) d Paused → NextGains modes (step (machine c) (tested modes) (start k)) bs cs Paused
goes_gains are modes c k d bs cs g a = go (fetch c k.now.body k.now.at) refl a
  where
    on : (line : ℕ) (i : Instr) (x : Next CodeCore) → Gains modes c line i k d bs cs Paused → settle (machine c) (tested modes) (start k) (do_instr c line i k) ≡ x → Answers modes x d Paused → cs ≡ bases_after modes bs (events_told x)
    on line i (Goes s) t e a = t ∙ ap (bases_after modes bs) (sym (are c (tested modes) line i (start k) s e ∙ ap (events_of c line i k) a))
    on line i (Ends f s) t e a = absurd a

    go : (f : Option Step) → fetch c k.now.body k.now.at ≡ f → Answers modes (settle (machine c) (tested modes) (start k) (do_step c f k)) d Paused → cs ≡ bases_after modes bs (events_told (settle (machine c) (tested modes) (start k) (do_step c f k)))
    go None f a = absurd a
    go (Some (line, i)) f a = on line i (settle (machine c) (tested modes) (start k) (do_instr c line i k)) (g.0 line i f) refl a

-- where it ends the run
stayed : (modes : Modes) (c : Code) (k d : CodeCore) (bs cs : List Base) (e : End) → ((line : ℕ) (i : Instr) → Gains modes c line i k d bs cs e → cs ≡ bs) → (StayBases bs cs (Err e) → cs ≡ bs) → HandGains modes c k d bs cs (Err e) → cs ≡ bs
stayed modes c k d bs cs e by none g = go (fetch c k.now.body k.now.at) refl
  where
    go : (f : Option Step) → fetch c k.now.body k.now.at ≡ f → cs ≡ bs
    go None f = none (g.1 f)
    go (Some (line, i)) f = by line i (g.0 line i f)

ends_gains : EndsTellNothing → (modes : Modes) (c : Code) (k d : CodeCore) (old new : Seen) (bs cs : List Base) (e : End) → AreOfMain modes → IsBare c → (e ≡ Paused → ⊥) → HandGains modes c k d bs cs (Err e) → Steps modes (step (machine c) (tested modes) (start k)) old new d e → NextGains modes (step (machine c) (tested modes) (start k)) bs cs e
ends_gains nothing modes c k d old new bs cs e main bare ne g q = go e ne g q
  where
    after : (e : End) → (e ≡ Paused → ⊥) → cs ≡ bs → Answers modes (step (machine c) (tested modes) (start k)) d e → cs ≡ bases_after modes bs (events_told (step (machine c) (tested modes) (start k)))
    after e ne same a = same ∙ ap (bases_after modes bs) (sym (silent nothing modes c k d e main bare ne a))

    go : (e : End) → (e ≡ Paused → ⊥) → HandGains modes c k d bs cs (Err e) → Steps modes (step (machine c) (tested modes) (start k)) old new d e → NextGains modes (step (machine c) (tested modes) (start k)) bs cs e
    go Paused ne g q = absurd (ne refl)
    go Done ne g q = after Done ne (stayed modes c k d bs cs Done (λ line i h. h) (λ h. h) g) q.0
    go (Stopped why line) ne g q = after (Stopped why line) ne (stayed modes c k d bs cs (Stopped why line) (λ at i h. h) (λ h. h) g) q.0
    go Spent ne g q = after Spent ne (stayed modes c k d bs cs Spent (λ line i h. h) (λ h. h) g) q.0
    go Stuck ne g q = after Stuck ne (stayed modes c k d bs cs Stuck (λ line i h. h) (λ h. h) g) q.0
    go ReadFault ne g q = tt
    go WriteFault ne g q = tt
    go NoMemory ne g q = tt

-- however it goes
step_gains : EventsAre → EndsTellNothing → (modes : Modes) (c : Code) (k d : CodeCore) (old new : Seen) (bs cs : List Base) (e : End) → AreOfMain modes → IsBare c → HandGains modes c k d bs cs (as_answer e) → Steps modes (step (machine c) (tested modes) (start k)) old new d e → NextGains modes (step (machine c) (tested modes) (start k)) bs cs e
step_gains are nothing modes c k d old new bs cs e main bare g q = go e g q
  where
    ends : (e : End) → (e ≡ Paused → ⊥) → HandGains modes c k d bs cs (Err e) → Steps modes (step (machine c) (tested modes) (start k)) old new d e → NextGains modes (step (machine c) (tested modes) (start k)) bs cs e
    ends e ne g q = ends_gains nothing modes c k d old new bs cs e main bare ne g q

    go : (e : End) → HandGains modes c k d bs cs (as_answer e) → Steps modes (step (machine c) (tested modes) (start k)) old new d e → NextGains modes (step (machine c) (tested modes) (start k)) bs cs e
    go Paused g q = goes_gains are modes c k d bs cs g q.0
    go Done g q = ends Done (λ h. absurd (cc)) g q
    go (Stopped why line) g q = ends (Stopped why line) (λ h. absurd (cc)) g q
    go Spent g q = ends Spent (λ h. absurd (cc)) g q
    go Stuck g q = ends Stuck (λ h. absurd (cc)) g q
    go ReadFault g q = tt
    go WriteFault g q = tt
    go NoMemory g q = tt

-- a step with what it did to the outside, and the pieces that it handed over
pub step_did : EventsAre → EndsTellNothing → (modes : Modes) (c : Code) (old new : Moment) (e : End) → AreOfMain modes → IsBare c → ((rest' : List ℕ) → IsRest (ahead new.control.reader.ended new.left) rest' →
    (rest : List ℕ) × IsRest (ahead old.control.reader.ended old.left) rest × Steps modes (step (machine c) (tested modes) (start (stood_for old.core old.control rest))) old.outside new.outside (stood_for new.core new.control rest') e) →
    ((rest rest' : List ℕ) → HandGains modes c (stood_for old.core old.control rest) (stood_for new.core new.control rest') old.bases new.bases (as_answer e)) →
    ((rest : List ℕ) → NextWrites (step (machine c) (tested modes) (start (stood_for old.core old.control rest))) old.pieces new.pieces e) → StepDid modes c old new e
step_did are nothing modes c old new e main bare did gained wrote = λ rest' h.
    let a = did rest' h in
    (a.0, a.1, a.2, step_gains are nothing modes c (stood_for old.core old.control a.0) (stood_for new.core new.control rest') old.outside new.outside old.bases new.bases e main bare (gained a.0 rest') a.2, wrote a.0)

-- ---- runs

-- a step more, of the same code
pub goes_more : EventsAre → (modes : Modes) (c d : Code) (n : ℕ) (from mid to : CodeCore) (old now : Seen) (bs ms cs : List Base) → d ≡ c → Ran modes c n from old now mid Paused → RunGains modes c n from bs ms Paused →
    HandGains modes d mid to ms cs (Ok true) → Quiet modes (step (machine d) (tested modes) (start mid)) to Paused → RunGains modes c (n + 1) from bs cs Paused
goes_more are modes c d n from mid to old now bs ms cs same p a g q =
    let one = makes_one (bases_by modes) modes d mid ms cs Paused (goes_gains are modes d mid to ms cs g q.0) in
    makes_join (bases_by modes) (bases_in_parts modes) modes c n 1 from mid old now bs ms cs Paused p a (subst (λ x. RunGains modes x 1 mid ms cs Paused) same one)

pub ends_more : EndsTellNothing → (modes : Modes) (c d : Code) (n : ℕ) (from mid to : CodeCore) (old now : Seen) (bs ms cs : List Base) (e : End) → AreOfMain modes → IsBare d → (e ≡ Paused → ⊥) → d ≡ c → Ran modes c n from old now mid Paused → RunGains modes c n from bs ms Paused →
    HandGains modes d mid to ms cs (Err e) → Quiet modes (step (machine d) (tested modes) (start mid)) to e → RunGains modes c (n + 1) from bs cs e
ends_more nothing modes c d n from mid to old now bs ms cs e main bare ne same p a g q =
    let one = makes_one (bases_by modes) modes d mid ms cs e (ends_gains nothing modes d mid to now now ms cs e main bare ne g (quiet_steps modes (step (machine d) (tested modes) (start mid)) to now e q)) in
    makes_join (bases_by modes) (bases_in_parts modes) modes c n 1 from mid old now bs ms cs e p a (subst (λ x. RunGains modes x 1 mid ms cs e) same one)
