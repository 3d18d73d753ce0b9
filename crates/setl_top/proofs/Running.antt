-- A run of the machine as a run of what is run.
use Rattle.std.proofs.Common.{◌≡◌, ◌∙◌, ◌⊎◌, inl, inr, ℕ, zero, suc, Bool, true, false, List, [], ◌∷◌, ◌++◌, length, take, Option, None, Some, Result, Ok, Err, IfOk, OnErr, ◌&&◌, if◌then◌else◌, refl, sym, ap, subst, true≢false, append_assoc, arith}
use Rattle.std.proofs.lemmas.List.{append-nil}
use Rattle.std.specs.Result.{result_unwrap_or}
use Rattle.std.specs.Io.KnownBytes.{Appends, append_known}
use Rattle.setl_io.specs.Faults.{more}
use Rattle.setl_io.specs.Sink.{AppendsPart}
use Rattle.setl_text.specs.code.Reads.{TakesOff, StaysHonest, ahead}
use Rattle.setl_model_runs.specs.Events as run
use Rattle.setl_model_runs.specs.Run.{State, Next, Goes, Ends}
use Rattle.setl_model.specs.Entered.{Base}
use Rattle.setl_model.specs.Means.{first}
use Rattle.setl_model.specs.World.{World}
use Rattle.setl_model_runs.specs.Run as model_runs
use Rattle.setl_model_runs.specs.Variable.{Variable, Global, Own, Bound}
use Rattle.setl_code.specs.declared.code.Code.{Code as RustCode}
use Rattle.setl_code.specs.Plain.{plain_code}
use Rattle.setl_code.specs.Code.{Code}
use Rattle.setl_code.specs.CodeCore.{CodeCore}
use Rattle.setl_code.specs.CodeMeans.{code_first}
use Rattle.setl_code.specs.Machine.{machine}
use Rattle.setl_store.specs.Gained.{no_members}
use Rattle.setl_store.specs.Standing.{Standing, started}
use Rattle.setl_store_layout.specs.Layout.{layout, AreShown}
use Rattle.setl_store_layout.specs.Layout as shown
use Rattle.setl_machine_control.specs.Control.{ControlState, in_world, IsRest, kept_for, stood_for, world_of}
use Rattle.setl_machine_control.specs.Declaring.{Modes, tested, AreOfMain}
use Rattle.setl_machine_control.specs.Declaring as declaring
use Rattle.setl_machine.specs.Gaining.{NextGains, RunGains}
use Rattle.setl_machine.specs.Hearing.{events_told, Hears}
use Rattle.setl_machine.specs.Prints.{prints}
use Rattle.setl_machine.specs.Writing.{RunWrites}
use Rattle.setl_machine_layout.specs.Claims.{AllNameWithin, BasesStayAsMany, LaysOut, RunsLayOut}
use Rattle.setl_machine_control.specs.Answers.{IsLikely, kind_of, said, start}
use Rattle.setl_machine.specs.Outcome.{AtPrint, AtRead, Before, NoFault, EndsWriteNothing}
use Rattle.setl_machine_control.specs.Answers as answers
use Rattle.setl_machine.specs.Outcome as outcome
use Rattle.setl_machine_control.specs.declared.end.End.{End}
use Rattle.setl_machine_control.specs.declared.end.End.TheVariants as end
use Rattle.setl_machine_control.specs.declared.end.StopKind.{StopKind}
use Rattle.setl_top.specs.Watching.{headed}
use Rattle.setl_top.specs.code.CodeRuns.{is_own, front, last_dump, seen_of, RunsCode, DumpsCode, dumped, not_dumped, PutsDump, put, no_room, no_dump}
use Rattle.setl_top.specs.Headline.{IsInput, IsLeft}
use Rattle.setl_top.specs.Runnable.{Runnable, OfProgram, OfCode, bases_by, declared_by, IsAt}
use Rattle.setl_top.specs.code.Runs.{Streams, streams, counted, RunsTo, RunsInto, WritesInto, RunsToRead, RunsUpTo, Runs, TakesInput}
use Rattle.setl_watch.specs.Watches.{Watch, Watched, watched, told_all}
use Rattle.setl_top_words.specs.Words.{Options, dumps}
use Rattle.std.proofs.KnownBytes.{Appends-nil}
use Rattle.setl_top_status.specs.Seen.{Seen}
use Rattle.setl_top.proofs.Reaching.{ends_at}
use Rattle.setl_top.proofs.Stands.{coded, Taken, Came, Stands}

-- ---- what is left of the input

-- bytes that were taken ahead
taken_ahead : (taken bytes : List ℕ) (input left : Option (List ℕ)) → IsLeft input left bytes → IsLeft input left (taken ++ bytes)
taken_ahead taken bytes None left h = tt
taken_ahead taken bytes (Some i) None h = absurd (cc)
taken_ahead taken bytes (Some i) (Some l) h =
    let same : h.0 ++ l ≡ bytes = cc in
    (taken ++ h.0, ap Some (append_assoc taken h.0 l ∙ ap (λ xs. taken ++ xs) same))

-- what the code has of its input at an end is what the machine has, behind some bytes
left_of : (a k : CodeCore) (input left : Option (List ℕ)) → IsLikely a k → IsLeft input left k.world.input → IsLeft input left a.world.input
left_of a k input left same h =
    subst (IsLeft input left) (sym (ap (λ c. c.world.input) same.1)) (taken_ahead same.0 k.world.input input left h)

-- ---- ends

-- a run of the code ended so
record EndsAs (x : Next CodeCore) (k : CodeCore) (e : run.End) : Type 0 where
  pub state : State CodeCore
  pub is : x ≡ Ends e state
  pub likely : IsLikely state.core k

done : (modes : Modes) (x : Next CodeCore) (k : CodeCore) → answers.Answers modes x k end.Done → EndsAs x k run.Done
done modes (Goes s) k h = absurd h
done modes (Ends e s) k h = record { state = s; is = ap (λ f. Ends f s) h.0; likely = h.1 }

stopped : (modes : Modes) (x : Next CodeCore) (k : CodeCore) (why : StopKind) (line : ℕ) → answers.Answers modes x k (end.Stopped why line) → EndsAs x k (run.Stopped (kind_of modes why) line)
stopped modes (Goes s) k why line h = absurd h
stopped modes (Ends e s) k why line h = record { state = s; is = ap (λ f. Ends f s) h.0; likely = h.1 }

spent : (modes : Modes) (x : Next CodeCore) (k : CodeCore) → answers.Answers modes x k end.Spent → EndsAs x k run.Spent
spent modes (Goes s) k h = absurd h
spent modes (Ends e s) k h = record { state = s; is = ap (λ f. Ends f s) h.0; likely = h.1 }

stuck : (modes : Modes) (x : Next CodeCore) (k : CodeCore) → answers.Answers modes x k end.Stuck → EndsAs x k run.Stuck
stuck modes (Goes s) k h = absurd h
stuck modes (Ends e s) k h = record { state = s; is = ap (λ f. Ends f s) h.0; likely = h.1 }

-- ---- the input

-- the bytes of an input, or none where they aren't told
abbrev pub input_of : Option (List ℕ) → List ℕ
input_of None = []
input_of (Some left) = left

pub is_input : (a : Option (List ℕ)) → IsInput a (input_of a)
is_input None = tt
is_input (Some left) = refl

pub is_rest : (a : Option (List ℕ)) → IsRest a (input_of a)
is_rest None = tt
is_rest (Some left) = refl

pub input_of_rest : (a : Option (List ℕ)) (bytes : List ℕ) → IsRest a bytes → IsInput a bytes
input_of_rest None bytes h = h
input_of_rest (Some left) bytes h = h

-- what a reader keeps, and what it has still to come
pub kept_left : (kept : List ℕ) (ended : Bool) (input left : Option (List ℕ)) → TakesOff input left → StaysHonest false input ended left → IsLeft input left (kept ++ input_of (ahead ended left))
kept_left kept ended None left took honest = tt
kept_left kept ended (Some i) None took honest = absurd took.1
kept_left kept false (Some i) (Some l) took honest = (kept, refl)
kept_left kept true (Some i) (Some l) took honest = (kept, ap (λ xs. Some (kept ++ xs)) (honest (λ e. absurd (true≢false (sym e))) refl))

-- ---- gains

take_none : (n : ℕ) → take {A = ℕ} n [] ≡ []
take_none zero = refl
take_none (suc n) = refl

-- a part of a line behind what was written before
behind : (old new : Option (List ℕ)) (out more : List ℕ) → Appends (append_known old out) new more → Appends old new (out ++ more)
behind None new out more h = tt
behind (Some xs) None out more h = absurd h
behind (Some xs) (Some ys) out more h = h ∙ append_assoc xs out more

-- the dump of the declarations that count is that of all, where it is told at all
dump_counted : (based dump : Bool) (all : Modes) (text : Modes → List ℕ) → (if dump && based then text (if based then all else []) else []) ≡ (if dump && based then text all else [])
dump_counted true true all text = refl
dump_counted true false all text = refl
dump_counted false true all text = refl
dump_counted false false all text = refl

module _ (r : Runnable) (c : Code) (silent : EndsWriteNothing) (asked : Options) (s u : Streams) (input : List ℕ) (stands : Stands r c asked input) (known : IsInput s.input.held input) where
  abbrev from : CodeCore
  from = (code_first c input asked.turns).core

  -- a state before which fewer steps were done
  abbrev Early : ℕ → State CodeCore → List ℕ → Type 0
  Early n t line = Before (counted asked r) c n from t line

  came : (n : ℕ) (t : State CodeCore) (line : List ℕ) → Early n t line → Came r c asked input t
  came n t line b = (b.after, b.reached)

  -- what stands before the reports at an end of the program
  abbrev told_front : Next CodeCore → List ℕ
  told_front x = if dumps asked then last_dump (bases_by r) (counted asked r) x else []

  -- the run ended in the meaning's sense
  coming_to : (n : ℕ) (last : CodeCore) (e : run.End) → EndsAs (coded r c asked input n) last e → IsLeft s.input.held u.input.held last.world.input → Appends s.output.held u.output.held (said (coded r c asked input n)) → NoFault (seen_of s) (seen_of u) → u.output.calls ≡ more (prints (events_told (coded r c asked input n))) s.output.calls → (heard : Watched) → heard ≡ told_all (events_told (coded r c asked input n)) s.watchers → u.watchers ≡ headed (told_front (coded r c asked input n)) heard → RunsTo r asked s u e
  coming_to n last e x left gained count wrote heard told fronted =
      let there = stands.ends n e x.state x.is in
      let reach = ends_at (machine c) (Taken r c asked input) (silent c (counted asked r)) n (code_first c input asked.turns) x.state e x.is in
      record {
        input = input;
        known = known;
        out = x.state.out;
        means = there.means;
        at_end = subst (λ o. IsAt r input asked.turns asked.based o) reach.3 (stands.state reach.1 (reach.0, reach.2));
        left = subst (IsLeft s.input.held u.input.held) (sym there.left) (left_of x.state.core last s.input.held u.input.held x.likely left);
        gained = subst (Appends s.output.held u.output.held) (ap said x.is) gained;
        writes =
            wrote
            ∙ ap (λ y. more (prints (events_told y)) s.output.calls) x.is
            ∙ ap (λ es. more (prints es) s.output.calls) (sym there.events);
        input_count = count.1;
        out_count = count.0;
        told =
            fronted
            ∙ ap (λ h. headed (told_front (coded r c asked input n)) h) (told ∙ ap (λ y. told_all (events_told y) s.watchers) x.is ∙ ap (λ es. told_all es s.watchers) (sym there.events))
            ∙ ap (λ text. headed text (told_all there.means.events s.watchers))
            (ap told_front x.is
            ∙ dump_counted asked.based asked.dump (declared_by r) (λ ms. last_dump (bases_by r) ms (Ends e x.state))
            ∙ ap (λ text. if dumps asked then text else []) (sym there.dump));
      }

  -- no run is stuck
  not_stuck : (n : ℕ) (last : CodeCore) → EndsAs (coded r c asked input n) last run.Stuck → ⊥
  not_stuck n last x = stands.never n x.state x.is

  -- some of the line in hand was written, and the input is as it was there
  writing : (n : ℕ) (t : State CodeCore) (line : List ℕ) (last : CodeCore) → Early n t line → AtPrint c t.core → AppendsPart (append_known s.output.held t.out) u.output.held line → last.world.input ≡ t.core.world.input → IsLeft s.input.held u.input.held last.world.input → WritesInto r asked s u
  writing n t line last b next part same left =
      let there = stands.print t (came n t line b) next line b.says (omega (arith, part.1)) in
      record {
        into = record { input = input; known = known; out = t.out; line = line; n = part.0; still = there.still; at = there.at; part = part.1; gained = behind s.output.held u.output.held t.out (take part.0 line) part.2 };
        left = subst (IsLeft s.input.held u.input.held) (same ∙ there.same) left;
      }

  -- some of it was written
  breaking : (n : ℕ) (t : State CodeCore) (line : List ℕ) → Early n t line → AtPrint c t.core → AppendsPart (append_known s.output.held t.out) u.output.held line → RunsInto r asked s u
  breaking n t line b next part =
      let there = stands.print t (came n t line b) next line b.says (omega (arith, part.1)) in
      record { input = input; known = known; out = t.out; line = line; n = part.0; still = there.still; at = there.at; part = part.1; gained = behind s.output.held u.output.held t.out (take part.0 line) part.2 }

  -- a `read` was in hand
  reading : (n : ℕ) (t : State CodeCore) (line : List ℕ) → Early n t line → AtRead c t.core → Appends s.output.held u.output.held t.out → RunsToRead r asked s u
  reading n t line b next gained = record { input = input; known = known; out = t.out; at = stands.read t (came n t line b) next; gained = gained }

  -- nothing was written of what is in hand
  halting : (n : ℕ) (t : State CodeCore) (line : List ℕ) → Early n t line → Appends s.output.held u.output.held t.out → RunsUpTo r asked s u
  halting n t line b gained = record { input = input; known = known; out = t.out; at = stands.state t (came n t line b); gained = gained }

  -- at want of memory
  starving : (n : ℕ) (t : State CodeCore) (line : List ℕ) → Early n t line → (length line ≡ 0) ⊎ AtPrint c t.core → outcome.AppendsFront (append_known s.output.held t.out) u.output.held line → RunsInto r asked s u ⊎ RunsUpTo r asked s u
  starving n t [] b h front =
      let none : take front.0 [] ≡ [] = take_none front.0 in
      inr (halting n t [] b (subst (Appends s.output.held u.output.held) (ap (λ xs. t.out ++ xs) none ∙ append-nil t.out) (behind s.output.held u.output.held t.out (take front.0 []) front.2)))
  starving n t (byte ∷ line) b (inl none) front = absurd (omega (arith, none))
  starving n t (byte ∷ line) b (inr next) front = inl (breaking n t (byte ∷ line) b next (front.0, omega (arith, front.1), front.2))

module _ (r : Runnable) (c : Code) (silent : EndsWriteNothing) (asked : Options) (stands : (input : List ℕ) → Stands r c asked input) (s u : Streams) (heard : Watched) where
  -- the streams before the dump was told
  abbrev mid : Streams
  mid = streams u.input u.output heard

  -- the machine's run
  abbrev Ran : End → Type 0
  Ran e = RunsCode c (counted asked r) asked.turns s mid e

  -- with the dump before its reports
  abbrev Fronted : (e : End) → Ran e → Type 0
  Fronted e x = u.watchers ≡ headed (front (dumps asked) e (last_dump (bases_by r) (counted asked r) (coded r c asked x.input x.steps))) heard

  -- it is one of what is run
  runs_so : (e : End) (x : Ran e) → Fronted e x → Runs r asked s u e
  runs_so end.Done x f =
      coming_to r c silent asked s u x.input (stands x.input) x.known x.steps x.last run.Done (done (counted asked r) (coded r c asked x.input x.steps) x.last x.ran.0) x.left x.ran.1 x.ran.2 x.wrote heard x.heard f
  runs_so (end.Stopped why line) x f =
      coming_to r c silent asked s u x.input (stands x.input) x.known x.steps x.last (run.Stopped (kind_of (counted asked r) why) line) (stopped (counted asked r) (coded r c asked x.input x.steps) x.last why line x.ran.0) x.left x.ran.1 x.ran.2 x.wrote heard x.heard f
  runs_so end.Spent x f =
      coming_to r c silent asked s u x.input (stands x.input) x.known x.steps x.last run.Spent (spent (counted asked r) (coded r c asked x.input x.steps) x.last x.ran.0) x.left x.ran.1 x.ran.2 x.wrote heard x.heard f
  runs_so end.ReadFault x f = (reading r c silent asked s u x.input (stands x.input) x.known x.steps x.ran.0 x.ran.1 x.ran.2 x.ran.3 x.ran.4, x.ran.5, x.ran.6)
  runs_so end.WriteFault x f = (writing r c silent asked s u x.input (stands x.input) x.known x.steps x.ran.0 x.ran.1 x.last x.ran.2 x.ran.3 x.ran.4 x.ran.7 x.left, x.ran.5, x.ran.6)
  runs_so end.NoMemory x f =
      let quiet : NoFault (seen_of s) (seen_of u) = x.ran.5 in
      (starving r c silent asked s u x.input (stands x.input) x.known x.steps x.ran.0 x.ran.1 x.ran.2 x.ran.3 x.ran.4, quiet.1, quiet.0)
  runs_so end.Paused x f = x.whole refl
  runs_so end.Stuck x f = not_stuck r c silent asked s u x.input (stands x.input) x.known x.steps x.last (stuck (counted asked r) (coded r c asked x.input x.steps) x.last x.ran.0)

  -- a run that came to its end reached its last state, whatever is told of it
  ended : (e : run.End) (n : ℕ) (input : List ℕ) (last : CodeCore) → IsInput s.input.held input → EndsAs (coded r c asked input n) last e → Appends s.output.held u.output.held (said (coded r c asked input n)) → RunsUpTo r asked s u
  ended e n input last known x gained =
      let reach = ends_at (machine c) (Taken r c asked input) (silent c (counted asked r)) n (code_first c input asked.turns) x.state e x.is in
      record {
        input = input;
        known = known;
        out = x.state.out;
        at = subst (λ o. IsAt r input asked.turns asked.based o) reach.3 ((stands input).state reach.1 (reach.0, reach.2));
        gained = subst (Appends s.output.held u.output.held) (ap said x.is) gained;
      }

  -- where memory was refused for the dump, it was broken off there
  undumped : (e : End) → is_own e ≡ true → Ran e → Runs r asked s u end.NoMemory
  undumped end.Done own x = (inr (ended run.Done x.steps x.input x.last x.known (done (counted asked r) (coded r c asked x.input x.steps) x.last x.ran.0) x.ran.1), x.ran.2.1, x.ran.2.0)
  undumped (end.Stopped why line) own x = (inr (ended (run.Stopped (kind_of (counted asked r) why) line) x.steps x.input x.last x.known (stopped (counted asked r) (coded r c asked x.input x.steps) x.last why line x.ran.0) x.ran.1), x.ran.2.1, x.ran.2.0)
  undumped end.Spent own x = (inr (ended run.Spent x.steps x.input x.last x.known (spent (counted asked r) (coded r c asked x.input x.steps) x.last x.ran.0) x.ran.1), x.ran.2.1, x.ran.2.0)
  undumped end.ReadFault own x = absurd (true≢false (sym own))
  undumped end.WriteFault own x = absurd (true≢false (sym own))
  undumped end.NoMemory own x = absurd (true≢false (sym own))
  undumped end.Paused own x = absurd (true≢false (sym own))
  undumped end.Stuck own x = absurd (true≢false (sym own))

  -- it takes nothing of its input, or takes it at a `read`
  takes : (e : End) → Ran e → TakesInput r asked s u
  takes e x =
      elim x.reads [
        | inl same ↦ inl same
        | inr b ↦ inr (record { input = x.input; known = x.known; out = b.0.out; more = b.4; taken = x.took.0; at = (stands x.input).read b.0 (b.2.after, b.2.reached) b.3; gained = b.5; consumed = x.took.1 })
      ]

module _ (r : Runnable) (c : Code) (silent : EndsWriteNothing) (asked : Options) (stands : (input : List ℕ) → Stands r c asked input) (s u : Streams) where
  -- the run with its dump
  abbrev Dumps : End → Type 0
  Dumps e = DumpsCode (bases_by r) c (counted asked r) asked.turns (dumps asked) s u e

  dumped_runs : (e : End) → Dumps e → Runs r asked s u e
  dumped_runs _ (dumped e heard x f) = runs_so r c silent asked stands s u heard e x f
  dumped_runs _ (not_dumped e heard own x) = undumped r c silent asked stands s u heard e own x

  dumped_takes : (e : End) → Dumps e → TakesInput r asked s u
  dumped_takes _ (dumped e heard x f) = takes r c silent asked stands s u heard e x
  dumped_takes _ (not_dumped e heard own x) = takes r c silent asked stands s u heard e x

  -- ---- where memory may have been refused first

  pub all_runs : {F : Type 0} (x : Result End F) → IfOk x Dumps → IfOk x (Runs r asked s u)
  all_runs (Ok e) h = dumped_runs e h
  all_runs (Err e) h = h

  pub all_takes : {F : Type 0} (x : Result End F) → IfOk x Dumps → OnErr x (u.input ≡ s.input) → TakesInput r asked s u
  all_takes (Ok e) h same = dumped_takes e h
  all_takes (Err e) h same = inl (ap (λ (i : Seen (List ℕ)). i.held) same)

-- the same names and declarations
pub runs_by : {F : Type 0} (c : Code) (names others : List (List ℕ)) (modes more : Modes) (turns : ℕ) (dump : Bool) (s u : Streams) (x : Result End F) → names ≡ others → modes ≡ more → IfOk x (DumpsCode names c modes turns dump s u) → IfOk x (DumpsCode others c more turns dump s u)
runs_by c names others modes more turns dump s u x named is h = subst (λ ms. IfOk x (DumpsCode others c ms turns dump s u)) is (subst (λ ns. IfOk x (DumpsCode ns c modes turns dump s u)) named h)

-- nothing was written at the first state
first_at : (r : Runnable) (asked : Options) (input : List ℕ) → IsAt r input asked.turns asked.based []
first_at (OfProgram names p) asked input = record { state = first p input asked.turns; reached = (0, refl); printed = refl }
first_at (OfCode names c modes) asked input = record { state = code_first c input asked.turns; reached = (0, refl); printed = refl }

-- nothing was done
pub not_begun : (r : Runnable) (asked : Options) (s u : Streams) → u.output.held ≡ s.output.held → RunsInto r asked s u ⊎ RunsUpTo r asked s u
not_begun r asked s u same = inr (record {
  input = input_of s.input.held;
  known = is_input s.input.held;
  out = [];
  at = first_at r asked (input_of s.input.held);
  gained = subst (λ o. Appends s.output.held o []) (sym same) (Appends-nil s.output.held);
})

-- a run that wasn't begun is one that was broken off at its first state
pub runs_or : {F : Type 0} (r : Runnable) (asked : Options) (s u : Streams) (x : Result End F) (e : End) → e ≡ result_unwrap_or x end.NoMemory → IfOk x (Runs r asked s u) → OnErr x (u.input ≡ s.input) → OnErr x (u.output ≡ s.output) → Runs r asked s u e
runs_or r asked s u (Ok d) e is h unread same = subst (Runs r asked s u) (sym is) h
runs_or r asked s u (Err d) e is h unread same =
    let none = not_begun r asked s u (ap (λ (o : Seen (List ℕ)). o.held) same) in
    subst (Runs r asked s u) (sym is) (none, ap (λ (i : Seen (List ℕ)). i.faults) unread, ap (λ (o : Seen (List ℕ)). o.faults) same)

-- so it is neither paused nor stuck
pub not_paused : (r : Runnable) (asked : Options) (s u : Streams) (e : End) → Runs r asked s u e → e ≡ end.Paused → ⊥
not_paused r asked s u e h is = subst (Runs r asked s u) is h

pub not_at_stuck : (r : Runnable) (asked : Options) (s u : Streams) (e : End) → Runs r asked s u e → e ≡ end.Stuck → ⊥
not_at_stuck r asked s u e h is = subst (Runs r asked s u) is h

-- the same watchers, which have reported nothing
pub heard_from : (P : Streams → Type 0) (input output : Seen (List ℕ)) (ws xs : List Watch) (reports : List ℕ) → ws ≡ xs → reports ≡ [] → P (streams input output (watched ws reports)) → P (streams input output (watched xs []))
heard_from P input output ws xs reports same none h =
    subst (λ t. P (streams input output (watched xs t))) none
    (subst (λ ys. P (streams input output (watched ys reports))) same h)

-- ---- from what the machine tells

module _ (modes : Modes) (turns : ℕ) where
  -- a control that read nothing yet
  abbrev fresh : ControlState
  fresh = record { turns = turns; atom = 1; eof = false; reader = record { kept = []; ended = false; fault = None } }

  -- what the machine tells of a run, whatever is still to come of the input behind it
  abbrev pub Told : (old : Standing) → ControlState → (s u : Streams) → (new : Standing) → ControlState → End → Type 0
  Told old first s u new control e = (rest' : List ℕ) → IsRest (ahead control.reader.ended u.input.held) rest' →
      (rest : List ℕ) × IsRest (ahead first.reader.ended s.input.held) rest
      × (n : ℕ) × outcome.Ran modes (plain_code old.code) n (stood_for old.core first rest) (seen_of s) (seen_of u) (stood_for new.core control rest') e
      × outcome.ReadsOnly modes (plain_code old.code) n (stood_for old.core first rest) s.output.held u.output.held s.input.held u.input.held
      × Hears modes (plain_code old.code) n (stood_for old.core first rest) s.watchers u.watchers e
      × RunGains modes (plain_code old.code) n (stood_for old.core first rest) old.bases new.bases e
      × RunWrites modes (plain_code old.code) n (stood_for old.core first rest) s.output.calls u.output.calls e

  -- It ran a code whose store told so many bases at first, and the store is this at the end.
  pub record CodeRan (count : ℕ) (code : RustCode) (new : Standing) (s u : Streams) (e : End) : Type 0 where
    pub runs : RunsCode (plain_code code) modes turns s u e
    pub world : World
    pub stands : runs.last ≡ in_world world new.core
    pub gains : RunGains modes (plain_code code) runs.steps (code_first (plain_code code) runs.input turns).core (no_members count) new.bases e

  told_fresh : (count : ℕ) (code : RustCode) (s u : Streams) (new : Standing) (control : ControlState) (e : End) → Told (started count code) fresh s u new control e → (e ≡ end.Paused → ⊥) → TakesOff s.input.held u.input.held → StaysHonest false s.input.held control.reader.ended u.input.held → CodeRan count code new s u e
  told_fresh count code s u new control e told whole took honest =
      let rest : List ℕ = input_of (ahead control.reader.ended u.input.held) in
      let r = told rest (is_rest (ahead control.reader.ended u.input.held)) in
      record {
        runs = record {
          input = r.0;
          known = input_of_rest s.input.held r.0 r.1;
          steps = r.2;
          last = stood_for new.core control rest;
          ran = r.3;
          reads = r.4;
          left = kept_left (kept_for control.reader.fault control.reader.kept) control.reader.ended s.input.held u.input.held took honest;
          took = took;
          whole = whole;
          heard = r.5;
          wrote = r.7;
        };
        world = world_of control rest;
        stands = refl;
        gains = r.6;
      }

  -- a whole run of the machine from a store that was started and a new control
  pub code_ran : (count : ℕ) (code : RustCode) (store : Standing) (first : ControlState) (s u : Streams) (new : Standing) (control : ControlState) (e : End) → store ≡ started count code → first ≡ fresh → Told store first s u new control e → (e ≡ end.Paused → ⊥) → TakesOff s.input.held u.input.held → StaysHonest first.reader.ended s.input.held control.reader.ended u.input.held → CodeRan count code new s u e
  code_ran count code store first s u new control e begun fresh_one told whole took honest =
      told_fresh count code s u new control e (subst (λ c. Told (started count code) c s u new control e) fresh_one (subst (λ t. Told t first s u new control e) begun told)) whole took
      (subst (λ c. StaysHonest c.reader.ended s.input.held control.reader.ended u.input.held) fresh_one honest)

  -- ---- its dump

  module _ (names : List (List ℕ)) (count : ℕ) (code : RustCode) (new : Standing) (s : Streams) (input output : Seen (List ℕ)) (ws : List Watch) where
    -- with these reports
    abbrev at : List ℕ → Streams
    at reports = streams input output (watched ws reports)

    abbrev DumpsAt : Bool → List ℕ → End → Type 0
    DumpsAt dump reports e = DumpsCode names (plain_code code) modes turns dump s (at reports) e

    -- nothing stands before the reports
    bare_front : (e : End) (text : List ℕ) → front false e text ≡ []
    bare_front end.Done text = refl
    bare_front (end.Stopped why line) text = refl
    bare_front end.Spent text = refl
    bare_front end.ReadFault text = refl
    bare_front end.WriteFault text = refl
    bare_front end.NoMemory text = refl
    bare_front end.Paused text = refl
    bare_front end.Stuck text = refl

    foreign_front : (dump : Bool) (e : End) (text : List ℕ) → is_own e ≡ false → front dump e text ≡ []
    foreign_front dump end.Done text other = absurd (true≢false other)
    foreign_front dump (end.Stopped why line) text other = absurd (true≢false other)
    foreign_front dump end.Spent text other = absurd (true≢false other)
    foreign_front dump end.ReadFault text other = refl
    foreign_front dump end.WriteFault text other = refl
    foreign_front dump end.NoMemory text other = refl
    foreign_front dump end.Paused text other = refl
    foreign_front dump end.Stuck text other = refl

    own_front : (e : End) (text : List ℕ) → is_own e ≡ true → front true e text ≡ text
    own_front end.Done text own = refl
    own_front (end.Stopped why line) text own = refl
    own_front end.Spent text own = refl
    own_front end.ReadFault text own = absurd (true≢false (sym own))
    own_front end.WriteFault text own = absurd (true≢false (sym own))
    own_front end.NoMemory text own = absurd (true≢false (sym own))
    own_front end.Paused text own = absurd (true≢false (sym own))
    own_front end.Stuck text own = absurd (true≢false (sym own))

    -- a run whose dump isn't asked for
    pub no_dump_asked : (reports : List ℕ) (e : End) → CodeRan count code new s (at reports) e → DumpsAt false reports e
    no_dump_asked reports e x = dumped e (watched ws reports) x.runs (sym (ap (λ text. headed text (watched ws reports)) (bare_front e _)))

    -- the dump of the store is that of the last state
    is_laid : RunsLayOut → AllNameWithin count modes → (u : Streams) (e : End) (x : CodeRan count code new s u e) → is_own e ≡ true → layout names modes new ≡ last_dump names modes (model_runs.run (machine (plain_code code)) (tested modes) x.runs.steps (start (code_first (plain_code code) x.runs.input turns).core))
    is_laid lays within u e x own = go e own (lays names modes count (plain_code code) x.runs.steps (code_first (plain_code code) x.runs.input turns).core (seen_of s) (seen_of u) x.world new e within (subst (λ k. outcome.Ran modes (plain_code code) x.runs.steps (code_first (plain_code code) x.runs.input turns).core (seen_of s) (seen_of u) k e) x.stands x.runs.ran) x.gains)
      where
        last : Next CodeCore
        last = model_runs.run (machine (plain_code code)) (tested modes) x.runs.steps (start (code_first (plain_code code) x.runs.input turns).core)

        go : (e : End) → is_own e ≡ true → LaysOut names modes last new e → layout names modes new ≡ last_dump names modes last
        go end.Done own h = h
        go (end.Stopped why line) own h = h
        go end.Spent own h = h
        go end.ReadFault own h = absurd (true≢false (sym own))
        go end.WriteFault own h = absurd (true≢false (sym own))
        go end.NoMemory own h = absurd (true≢false (sym own))
        go end.Paused own h = absurd (true≢false (sym own))
        go end.Stuck own h = absurd (true≢false (sym own))

    -- a run whose dump was put before the reports, or wasn't
    pub dump_asked : RunsLayOut → AllNameWithin count modes → (before after : List ℕ) (e d : End) → CodeRan count code new s (at before) e → PutsDump (layout names modes new) e before after d → DumpsAt true after d
    dump_asked lays within before after e _ x (put own is) =
        dumped e (watched ws before) x.runs
        (ap (λ text. watched ws text) is
        ∙ ap (λ text. headed text (watched ws before)) (is_laid lays within (at before) e x own ∙ sym (own_front e _ own)))
    dump_asked lays within before after e _ x (no_room own) = not_dumped e (watched ws before) own x.runs
    dump_asked lays within before after e _ x (no_dump other is) =
        dumped e (watched ws before) x.runs
        (ap (λ text. watched ws text) is ∙ sym (ap (λ text. headed text (watched ws before)) (foreign_front true e _ other)))

    -- its store shows the declared variables
    pub can_show : BasesStayAsMany → AllNameWithin count modes → AreOfMain modes → (u : Streams) (e : End) → CodeRan count code new s u e → is_own e ≡ true → AreShown (length new.bases) modes
    can_show many within main u e x own = subst (λ n. AreShown n modes) (sym (as_many e own x.gains)) (all_shown modes within main)
      where
        last : Next CodeCore
        last = model_runs.run (machine (plain_code code)) (tested modes) x.runs.steps (start (code_first (plain_code code) x.runs.input turns).core)

        as_many : (e : End) → is_own e ≡ true → NextGains modes last (no_members count) new.bases e → length new.bases ≡ count
        as_many end.Done own h = ap (λ (bs : List Base). length bs) h ∙ many modes count (events_told last)
        as_many (end.Stopped why line) own h = ap (λ (bs : List Base). length bs) h ∙ many modes count (events_told last)
        as_many end.Spent own h = ap (λ (bs : List Base). length bs) h ∙ many modes count (events_told last)
        as_many end.ReadFault own h = absurd (true≢false (sym own))
        as_many end.WriteFault own h = absurd (true≢false (sym own))
        as_many end.NoMemory own h = absurd (true≢false (sym own))
        as_many end.Paused own h = absurd (true≢false (sym own))
        as_many end.Stuck own h = absurd (true≢false (sym own))

        of_main : (x : Variable) → declaring.IsOfMain x → shown.IsOfMain x
        of_main (Global name) h = tt
        of_main (Own zero name) h = tt
        of_main (Own (suc n) name) h = h
        of_main (Bound former name) h = h

        all_shown : (ms : Modes) → AllNameWithin count ms → AreOfMain ms → AreShown count ms
        all_shown [] w h = tt
        all_shown (m ∷ ms) w h = ((of_main m.0 h.0, w.0), all_shown ms w.1 h.1)
