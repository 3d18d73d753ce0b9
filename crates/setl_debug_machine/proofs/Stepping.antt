-- What one step of the machine does beside the run of the code.
use Rattle.std.proofs.Common.{◌≡◌, ◌∙◌, refl, sym, ap, subst, ℕ, Bool, true, false, List, [], ◌∷◌, ◌++◌, map, Option, None, Some, Result, Ok, Err}
use Rattle.std.specs.Prelude.{IfOk, OnOk}
use Rattle.std.proofs.lemmas.List.{map-append}
use Rattle.std.specs.Global.{Vec}
use Rattle.setl_model_runs.specs.Events as run
use Rattle.setl_model_runs.specs.Run.{State, Next, Goes, Ends, Test, settle, step}
use Rattle.setl_model_runs.specs.Variable.{Global, Own, Bound}
use Rattle.setl_watch.specs.Notices.{noticed}
use Rattle.setl_watch.specs.code.NoticeOf.{notice_of}
use Rattle.setl_watch.specs.declared.event.Event.{Event}
use Rattle.setl_code.specs.Code.{Code, Instr, Step}
use Rattle.setl_code.specs.CodeCore.{CodeCore}
use Rattle.setl_code.specs.Machine.{machine, fetch, do_step}
use Rattle.setl_code.specs.Plain.{plain_code}
use Rattle.setl_code_declared.specs.Fitting.{Fitting, NoFormers}
use Rattle.setl_code_declared.specs.Laws.{RunsFit}
use Rattle.setl_code_events.specs.Told.{EventsAre, events_of}
use Rattle.setl_text.specs.code.Reads.{ahead}
use Rattle.setl_machine_control.specs.Answers.{start, said, Answers, IsLikely}
use Rattle.setl_machine_control.specs.Control.{stood_for, IsRest}
use Rattle.setl_machine_control.specs.Declaring.{Modes, DeclarationTable, modes_of, tested, AreOfMain, IsBare, Serves}
use Rattle.setl_machine_control.specs.declared.end.End.{End}
use Rattle.setl_machine_control.specs.declared.end.End.TheVariants.{Done, Stopped, Spent, Paused, ReadFault, WriteFault, NoMemory, Stuck}
use Rattle.setl_machine.specs.Hearing.{ended, Tells, TellsInHand}
use Rattle.setl_machine.specs.Outcome.{Seen, seen, Steps, StepsAdd, HasSameSlots, behind, all_behind}
use Rattle.setl_debug_machine.specs.code.Machines.{next_of, to_come, core_of, StandsAt, end_by, stepped_by, StepsTo, Writes}
use Rattle.setl_debug_machine.specs.declared.machine.Machine.{Machine}
use Rattle.setl_debug_machine.specs.declared.machine.Stepped.TheVariants.{Went}
use Rattle.setl_debug_machine.proofs.Reaching.{one_step}

-- ---- over cores

-- Where a step goes on, the state behind it has the machine's core, what was written is held, and the events were told.
record StepGoes (c : Code) (modes : Modes) (s : State CodeCore) (to : CodeCore) (out : List ℕ) (es : List Event) : Type 0 where
  next : State CodeCore
  goes : step (machine c) (tested modes) s ≡ Goes next
  core : next.core ≡ to
  written : next.out ≡ out
  told : map noticed next.events ≡ map noticed s.events ++ map notice_of es

events_told : EventsAre → (c : Code) (test : Test) (s u : State CodeCore) (es : List Event) → step (machine c) test s ≡ Goes u → ((line : ℕ) (i : Instr) → fetch c s.core.now.body s.core.now.at ≡ Some (line, i) → Tells c line i s.core u.core es) → map noticed u.events ≡ map noticed s.events ++ map notice_of es
events_told are c test s u es h tells = go (fetch c s.core.now.body s.core.now.at) refl h
  where
    go : (f : Option Step) → fetch c s.core.now.body s.core.now.at ≡ f → settle (machine c) test s (do_step c f s.core) ≡ Goes u → map noticed u.events ≡ map noticed s.events ++ map notice_of es
    go None f h = absurd (cc)
    go (Some (line, i)) f h =
        ap (map noticed) (are c test line i s u h)
        ∙ map-append noticed s.events (events_of c line i s.core u.core)
        ∙ ap (λ ns. map noticed s.events ++ ns) (sym (tells line i f))

goes_on : EventsAre → StepsAdd → (c : Code) (modes : Modes) (s : State CodeCore) (to : CodeCore) (old new : List ℕ) (es : List Event) → s.out ≡ old → Steps modes (step (machine c) (tested modes) (start s.core)) (seen (Some old) 0 0) (seen (Some new) 0 0) to Paused → ((line : ℕ) (i : Instr) → fetch c s.core.now.body s.core.now.at ≡ Some (line, i) → Tells c line i s.core to es) → StepGoes c modes s to new es
goes_on are add c modes s to old new es out h tells = go (step (machine c) (tested modes) (start s.core)) (add c (tested modes) s) h
  where
    go : (n : Next CodeCore) → step (machine c) (tested modes) s ≡ all_behind s n → Steps modes n (seen (Some old) 0 0) (seen (Some new) 0 0) to Paused → StepGoes c modes s to new es
    go (Ends e t) g h = absurd h.0
    go (Goes t) g h = record {
      next = behind s t;
      goes = g;
      core = h.0;
      written = ap (λ o. o ++ t.out) out ∙ sym h.1;
      told = events_told are c (tested modes) s (behind s t) es g (λ line i f. subst (λ k. Tells c line i s.core k es) (sym h.0) (tells line i f));
    }

-- Where a step ends the run, the machine has the slots of the last state.
record StepEnds (c : Code) (modes : Modes) (s : State CodeCore) (to : CodeCore) (e : run.End) : Type 0 where
  last : State CodeCore
  ends : step (machine c) (tested modes) s ≡ Ends e last
  same : HasSameSlots last.core to

same_slots : (a b : CodeCore) → IsLikely a b → HasSameSlots a b
same_slots a b (taken, e) = record { globals = sym (ap (λ (k : CodeCore). k.globals) e); own = sym (ap (λ (k : CodeCore). k.now.own) e); body = sym (ap (λ (k : CodeCore). k.now.body) e) }

ends_as : (c : Code) (modes : Modes) (s t : State CodeCore) (to : CodeCore) (e f : run.End) → step (machine c) (tested modes) s ≡ Ends e (behind s t) → e ≡ f → IsLikely t.core to → StepEnds c modes s to f
ends_as c modes s t to e f h same l = record { last = behind s t; ends = h ∙ ap (λ k. Ends k (behind s t)) same; same = same_slots t.core to l }

-- an answer with which a run ends
abbrev IsEnding : End → Type 0
IsEnding Paused = ⊥
IsEnding e = Unit {0}

ends_by : (c : Code) (modes : Modes) (s : State CodeCore) (n : Next CodeCore) (to : CodeCore) (e : End) → IsEnding e → step (machine c) (tested modes) s ≡ all_behind s n → Answers modes n to e → StepEnds c modes s to (end_by modes e)
ends_by c modes s (Ends f t) to Done y g a = ends_as c modes s t to f run.Done g a.0 a.1
ends_by c modes s (Ends f t) to (Stopped why line) y g a = ends_as c modes s t to f (end_by modes (Stopped why line)) g a.0 a.1
ends_by c modes s (Ends f t) to Spent y g a = ends_as c modes s t to f run.Spent g a.0 a.1
ends_by c modes s (Ends f t) to Stuck y g a = ends_as c modes s t to f run.Stuck g a.0 a.1
ends_by c modes s (Ends f t) to Paused y g a = absurd y
ends_by c modes s (Ends f t) to ReadFault y g a = absurd a
ends_by c modes s (Ends f t) to WriteFault y g a = absurd a
ends_by c modes s (Ends f t) to NoMemory y g a = absurd a
ends_by c modes s (Goes t) to Done y g a = absurd a
ends_by c modes s (Goes t) to (Stopped why line) y g a = absurd a
ends_by c modes s (Goes t) to Spent y g a = absurd a
ends_by c modes s (Goes t) to Stuck y g a = absurd a
ends_by c modes s (Goes t) to Paused y g a = absurd y
ends_by c modes s (Goes t) to ReadFault y g a = absurd a
ends_by c modes s (Goes t) to WriteFault y g a = absurd a
ends_by c modes s (Goes t) to NoMemory y g a = absurd a

-- ---- over machines

-- what a step of the machine does, by its contract
abbrev pub Did : Modes → (old new : Machine) → End → Type 0
Did modes old new e = (rest' : List ℕ) → IsRest (ahead new.control.reader.ended (Some new.input)) rest' →
    (rest : List ℕ) × IsRest (ahead old.control.reader.ended (Some old.input)) rest
    × Steps modes (step (machine (plain_code old.store.code)) (tested modes) (start (stood_for old.store.core old.control rest))) (seen (Some old.output) 0 0) (seen (Some new.output) 0 0) (stood_for new.store.core new.control rest') e

to_come_is : (ended : Bool) (left rest : List ℕ) → IsRest (ahead ended (Some left)) rest → rest ≡ to_come ended left
to_come_is true left rest h = sym h
to_come_is false left rest h = sym h

is_to_come : (ended : Bool) (left : List ℕ) → IsRest (ahead ended (Some left)) (to_come ended left)
is_to_come true left = refl
is_to_come false left = refl

here : (d : DeclarationTable) (s : State CodeCore) (old new : Machine) (e : End) → StandsAt d s old → Did (modes_of d) old new e → Steps (modes_of d) (step (machine (plain_code d.code)) (tested (modes_of d)) (start s.core)) (seen (Some old.output) 0 0) (seen (Some new.output) 0 0) (core_of new) e
here d s old new e at did =
    let modes = modes_of d in
    let before = seen (Some old.output) 0 0 in
    let after = seen (Some new.output) 0 0 in
    let r = did (to_come new.control.reader.ended new.input) (is_to_come new.control.reader.ended new.input) in
    let by_core : Steps modes (step (machine (plain_code old.store.code)) (tested modes) (start (core_of old))) before after (core_of new) e = subst (λ rest. Steps modes (step (machine (plain_code old.store.code)) (tested modes) (start (stood_for old.store.core old.control rest))) before after (core_of new) e) (to_come_is old.control.reader.ended old.input r.0 r.1) r.2 in
    let by_state : Steps modes (step (machine (plain_code old.store.code)) (tested modes) (start s.core)) before after (core_of new) e = subst (λ k. Steps modes (step (machine (plain_code old.store.code)) (tested modes) (start k)) before after (core_of new) e) (sym at.core) by_core in
    subst (λ c. Steps modes (step (machine (plain_code c)) (tested modes) (start s.core)) before after (core_of new) e) (sym at.serves.same) by_state

no_formers : (modes : Modes) → AreOfMain modes → NoFormers modes
no_formers [] h former name = refl
no_formers ((Global a, m) ∷ ms) h former name = no_formers ms h.1 former name
no_formers ((Own body a, m) ∷ ms) h former name = no_formers ms h.1 former name
no_formers ((Bound former' a, m) ∷ ms) h former name = absurd h.0

stands_then : RunsFit → (d : DeclarationTable) (s : State CodeCore) (old new : Machine) (es : List Event) → StandsAt d s old → new.store.code ≡ old.store.code → new.control.reader.fault ≡ None → (g : StepGoes (plain_code d.code) (modes_of d) s (core_of new) new.output es) → StandsAt d g.next new
stands_then fit d s old new es at code fault g =
    let fits : Fitting (modes_of d) s.core = subst (Fitting (modes_of d)) (sym at.core) at.serves.fitting in
    let fits_then : Fitting (modes_of d) g.next.core = fit (modes_of d) (plain_code d.code) 1 s g.next (no_formers (modes_of d) at.serves.main) fits (one_step (machine (plain_code d.code)) (tested (modes_of d)) s (Goes g.next) g.goes) in
    record {
      serves = record {
        same = at.serves.same ∙ sym code;
        bare = subst (λ c. IsBare (plain_code c)) (sym code) at.serves.bare;
        main = at.serves.main;
        fitting = subst (Fitting (modes_of d)) g.core fits_then;
      };
      no_fault = fault;
      core = g.core;
      out = g.written;
    }

-- the events of the step in hand
tells_here : (d : DeclarationTable) (s : State CodeCore) (old new : Machine) (events : Vec Event) → StandsAt d s old → TellsInHand old.store old.control new.store new.control (Ok events) → (line : ℕ) (i : Instr) → fetch (plain_code d.code) s.core.now.body s.core.now.at ≡ Some (line, i) → Tells (plain_code d.code) line i s.core (core_of new) events.items
tells_here d s old new events at tells line i f =
    let rest = to_come old.control.reader.ended old.input in
    let by_code : fetch (plain_code old.store.code) s.core.now.body s.core.now.at ≡ Some (line, i) = subst (λ c. fetch (plain_code c) s.core.now.body s.core.now.at ≡ Some (line, i)) at.serves.same f in
    let by_core : fetch (plain_code old.store.code) old.store.core.now.body old.store.core.now.at ≡ Some (line, i) = subst (λ (k : CodeCore). fetch (plain_code old.store.code) k.now.body k.now.at ≡ Some (line, i)) at.core by_code in
    let told : Tells (plain_code old.store.code) line i (core_of old) (core_of new) events.items = (tells line i by_core).1 rest (to_come new.control.reader.ended new.input) in
    let at_state : Tells (plain_code old.store.code) line i s.core (core_of new) events.items = subst (λ k. Tells (plain_code old.store.code) line i k (core_of new) events.items) (sym at.core) told in
    subst (λ c. Tells (plain_code c) line i s.core (core_of new) events.items) (sym at.serves.same) at_state

went : EventsAre → RunsFit → StepsAdd → (d : DeclarationTable) (s : State CodeCore) (old new : Machine) (events : Vec Event) → StandsAt d s old → Did (modes_of d) old new Paused → TellsInHand old.store old.control new.store new.control (Ok events) → new.store.code ≡ old.store.code → new.control.reader.fault ≡ None → StepsTo d s new (Went events)
went are fit add d s old new events at did tells code fault =
    let g = goes_on are add (plain_code d.code) (modes_of d) s (core_of new) old.output new.output events.items at.out (here d s old new Paused at did) (tells_here d s old new events at tells) in
    (g.next, g.goes, stands_then fit d s old new events.items at code fault g, g.told)

ends : StepsAdd → (d : DeclarationTable) (s : State CodeCore) (new : Machine) (e : End) → IsEnding e → Answers (modes_of d) (step (machine (plain_code d.code)) (tested (modes_of d)) (start s.core)) (core_of new) e → (u : State CodeCore) × (next_of d s ≡ Ends (end_by (modes_of d) e) u) × HasSameSlots u.core new.store.core
ends add d s new e y a =
    let g = ends_by (plain_code d.code) (modes_of d) s (step (machine (plain_code d.code)) (tested (modes_of d)) (start s.core)) (core_of new) e y (add (plain_code d.code) (tested (modes_of d)) s) a in
    (g.last, g.ends, record { globals = g.same.globals; own = g.same.own; body = g.same.body })

pub steps_to : EventsAre → RunsFit → StepsAdd → (d : DeclarationTable) (s : State CodeCore) (old new : Machine) (r : Result (Vec Event) End) → StandsAt d s old → Did (modes_of d) old new (ended r) → TellsInHand old.store old.control new.store new.control r → OnOk r (new.store.code ≡ old.store.code) → OnOk r (new.control.reader.fault ≡ None) → IfOk (stepped_by r) (StepsTo d s new)
steps_to are fit add d s old new (Ok events) at did tells code fault = went are fit add d s old new events at did tells code fault
steps_to are fit add d s old new (Err Done) at did tells code fault = ends add d s new Done tt (here d s old new Done at did).0
steps_to are fit add d s old new (Err (Stopped why line)) at did tells code fault = ends add d s new (Stopped why line) tt (here d s old new (Stopped why line) at did).0
steps_to are fit add d s old new (Err Spent) at did tells code fault = ends add d s new Spent tt (here d s old new Spent at did).0
steps_to are fit add d s old new (Err Stuck) at did tells code fault = ends add d s new Stuck tt (here d s old new Stuck at did).0
steps_to are fit add d s old new (Err Paused) at did tells code fault = tt
steps_to are fit add d s old new (Err ReadFault) at did tells code fault = tt
steps_to are fit add d s old new (Err WriteFault) at did tells code fault = tt
steps_to are fit add d s old new (Err NoMemory) at did tells code fault = tt

-- ---- what is written

pub writes : (modes : Modes) (old new : Machine) (r : Result (Vec Event) End) → Did modes old new (ended r) → OnOk (stepped_by r) (Writes old.output new.output)
writes modes old new r did = go r (did (to_come new.control.reader.ended new.input) (is_to_come new.control.reader.ended new.input))
  where
    n : List ℕ → Next CodeCore
    n rest = step (machine (plain_code old.store.code)) (tested modes) (start (stood_for old.store.core old.control rest))

    go : (r : Result (Vec Event) End) → (rest : List ℕ) × IsRest (ahead old.control.reader.ended (Some old.input)) rest × Steps modes (n rest) (seen (Some old.output) 0 0) (seen (Some new.output) 0 0) (core_of new) (ended r) → OnOk (stepped_by r) (Writes old.output new.output)
    go (Ok events) x = (said (n x.0), (x.2).1)
    go (Err Done) x = (said (n x.0), (x.2).1)
    go (Err (Stopped why line)) x = (said (n x.0), (x.2).1)
    go (Err Spent) x = (said (n x.0), (x.2).1)
    go (Err Stuck) x = (said (n x.0), (x.2).1)
    go (Err Paused) x = tt
    go (Err ReadFault) x = tt
    go (Err WriteFault) x = tt
    go (Err NoMemory) x = tt
