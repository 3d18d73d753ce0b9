-- Calls in a row, with what watchers heard of them.
use Rattle.std.proofs.Common.{◌≡◌, ◌∙◌, inl, ◌+◌, ℕ, List, [], ◌∷◌, length, map, Option, None, Some, refl, sym, ap, subst, arith}
use Rattle.setl_model_runs.specs.Events as run
use Rattle.setl_model_runs.specs.Run.{Store, State, Next, Goes, Ends, settle, step}
use Rattle.setl_model_runs.specs.Run as runs
use Rattle.setl_model.specs.Calls.{bindings}
use Rattle.setl_watch.specs.Notices.{noticed}
use Rattle.setl_watch.specs.code.NoticeOf.{notice_of}
use Rattle.setl_watch.specs.Watches.{Watched, watched, told_each, told_all, ToldInParts}
use Rattle.setl_watch.specs.declared.event.Event.{Event}
use Rattle.setl_code.specs.Code.{Code, Instr, Step, CallBody}
use Rattle.setl_code.specs.CodeCore.{CodeCore}
use Rattle.setl_code.specs.Machine.{do_instr, do_step, fetch, machine}
use Rattle.setl_code_events.specs.Told.{events_of, EventsAre, AllFit, BindingsFit, EndsTellNothing}
use Rattle.setl_text.specs.code.Reads.{ahead}
use Rattle.setl_machine_control.specs.Control.{stood_for, IsRest}
use Rattle.setl_machine_control.specs.Declaring.{Modes, tested, AreOfMain, IsBare}
use Rattle.setl_machine.specs.Hearing.{events_told, Hears, Tells}
use Rattle.setl_machine_control.specs.Answers.{start, Answers}
use Rattle.setl_machine.specs.Gaining.{bases_by, RunGains}
use Rattle.setl_machine.specs.Outcome.{Seen, Ran, ReadsOnly}
use Rattle.setl_machine.specs.Writing.{pieces_by, RunWrites}
use Rattle.setl_machine_control.specs.declared.end.End.{End}
use Rattle.setl_machine_control.specs.declared.end.End.TheVariants.{Done, Stopped, Spent, Paused, ReadFault, WriteFault, NoMemory, Stuck}
use Rattle.setl_machine.proofs.Declared.{AllTaken, TakesAll, parameters_taken}
use Rattle.setl_machine.proofs.RanLaws.{ran_join, reads_join}
use Rattle.setl_machine.proofs.Rounds.{Moment, Runs, runs_give_up}
use Rattle.setl_machine.proofs.Joining.{bases_in_parts, made, makes_join}
use Rattle.setl_machine.proofs.Prints.{pieces_in_parts}
use Rattle.setl_machine.proofs.RunLaws.{run_one}
use Rattle.setl_machine.proofs.Stays.{ran_none}

-- what a call of at most so many steps did, and what watchers heard, where these bytes were and are still to come
abbrev Is : Modes → Code → ℕ → Moment → Moment → Watched → Watched → End → (rest rest' : List ℕ) → Type 0
Is modes c n old new h h' e rest rest' =
    Ran modes c n (stood_for old.core old.control rest) old.outside new.outside (stood_for new.core new.control rest') e
    × ReadsOnly modes c n (stood_for old.core old.control rest) old.outside.held new.outside.held old.left new.left
    × Hears modes c n (stood_for old.core old.control rest) h h' e
    × RunGains modes c n (stood_for old.core old.control rest) old.bases new.bases e
    × RunWrites modes c n (stood_for old.core old.control rest) old.pieces new.pieces e

-- the same whatever is left to come then
abbrev pub Heard : Modes → Code → ℕ → Moment → Moment → Watched → Watched → End → Type 0
Heard modes c n old new h h' e = (rest' : List ℕ) → IsRest (ahead new.control.reader.ended new.left) rest' →
    (rest : List ℕ) × IsRest (ahead old.control.reader.ended old.left) rest × Is modes c n old new h h' e rest rest'

-- of some number of steps
abbrev pub SomeHeard : Modes → Code → Moment → Moment → Watched → Watched → End → Type 0
SomeHeard modes c old new h h' e = (rest' : List ℕ) → IsRest (ahead new.control.reader.ended new.left) rest' →
    (rest : List ℕ) × IsRest (ahead old.control.reader.ended old.left) rest
    × (n : ℕ) × Ran modes c n (stood_for old.core old.control rest) old.outside new.outside (stood_for new.core new.control rest') e
    × ReadsOnly modes c n (stood_for old.core old.control rest) old.outside.held new.outside.held old.left new.left
    × Hears modes c n (stood_for old.core old.control rest) h h' e
    × RunGains modes c n (stood_for old.core old.control rest) old.bases new.bases e
    × RunWrites modes c n (stood_for old.core old.control rest) old.pieces new.pieces e

-- the same without watchers
abbrev pub SomeRan : Modes → Code → Moment → Moment → End → Type 0
SomeRan modes c old new e = (rest' : List ℕ) → IsRest (ahead new.control.reader.ended new.left) rest' →
    (rest : List ℕ) × IsRest (ahead old.control.reader.ended old.left) rest
    × (n : ℕ) × Ran modes c n (stood_for old.core old.control rest) old.outside new.outside (stood_for new.core new.control rest') e
    × ReadsOnly modes c n (stood_for old.core old.control rest) old.outside.held new.outside.held old.left new.left
    × RunGains modes c n (stood_for old.core old.control rest) old.bases new.bases e
    × RunWrites modes c n (stood_for old.core old.control rest) old.pieces new.pieces e

-- ---- calls in a row

is_join : ToldInParts → (modes : Modes) (c : Code) (n j : ℕ) (old mid new : Moment) (h h1 h2 : Watched) (e : End) (r r1 r2 : List ℕ) → Is modes c n old mid h h1 Paused r r1 → Is modes c j mid new h1 h2 e r1 r2 → Is modes c (n + j) old new h h2 e r r2
is_join parts modes c n j old mid new h h1 h2 e r r1 r2 a b =
    let from = stood_for old.core old.control r in
    let there = stood_for mid.core mid.control r1 in
    let to = stood_for new.core new.control r2 in (
      ran_join modes c n j from there to old.outside mid.outside new.outside e a.0 b.0,
      reads_join modes c n j from there to old.outside mid.outside new.outside e old.left mid.left new.left a.0 b.0 a.1 b.1,
      makes_join told_all parts modes c n j from there old.outside mid.outside h h1 h2 e a.0 a.2 b.2,
      makes_join (bases_by modes) (bases_in_parts modes) modes c n j from there old.outside mid.outside old.bases mid.bases new.bases e a.0 a.3 b.3,
      makes_join pieces_by pieces_in_parts modes c n j from there old.outside mid.outside old.pieces mid.pieces new.pieces e a.0 a.4 b.4,
    )

-- one more, of the same code
pub heard_on : ToldInParts → (modes : Modes) (c d : Code) (n : ℕ) (old mid new : Moment) (h h1 h2 : Watched) (e : End) → d ≡ c → Heard modes c n old mid h h1 Paused → Heard modes d 1 mid new h1 h2 e → Heard modes c (n + 1) old new h h2 e
heard_on parts modes c d n old mid new h h1 h2 e same p q = λ rest' i.
    let b = subst (λ x. Heard modes x 1 mid new h1 h2 e) same q rest' i in
    let a = p b.0 b.1 in
    (a.0, a.1, is_join parts modes c n 1 old mid new h h1 h2 e a.0 b.0 rest' a.2 b.2)

-- a call that watchers are told of, and then one without watchers
none_told : (es : List run.Event) (reports : List ℕ) → told_all es (watched [] reports) ≡ watched [] reports
none_told [] reports = refl
none_told (e ∷ es) reports = none_told es reports

hears_none : (modes : Modes) (c : Code) (n : ℕ) (k : CodeCore) (h : Watched) (e : End) → h.watchers ≡ [] → Hears modes c n k h h e
hears_none modes c n k h e none = made told_all all h h same e
  where
    all : Next CodeCore
    all = runs.run (machine c) (tested modes) n (start k)

    same : h ≡ told_all (events_told all) h
    same = subst (λ ws. watched ws h.reports ≡ told_all (events_told all) (watched ws h.reports)) (sym none) (sym (none_told (events_told all) h.reports))

pub heard_then : ToldInParts → (modes : Modes) (c d : Code) (n : ℕ) (old mid new : Moment) (h h1 : Watched) (e : End) → d ≡ c → h1.watchers ≡ [] → Heard modes c n old mid h h1 Paused → SomeRan modes d mid new e → SomeHeard modes c old new h h1 e
heard_then parts modes c d n old mid new h h1 e same none p q = λ rest' i.
    let b = subst (λ x. SomeRan modes x mid new e) same q rest' i in
    let a = p b.0 b.1 in
    let m = b.2 in
    let both = is_join parts modes c n m old mid new h h1 h1 e a.0 b.0 rest' a.2 (b.3, b.4, hears_none modes c m (stood_for mid.core mid.control b.0) h1 e none, b.5, b.6) in
    (a.0, a.1, n + m, both.0, both.1, both.2, both.3, both.4)

pub some_heard : (modes : Modes) (c : Code) (n : ℕ) (old new : Moment) (h h' : Watched) (e : End) → Heard modes c n old new h h' e → SomeHeard modes c old new h h' e
some_heard modes c n old new h h' e p = λ rest' i. let a = p rest' i in (a.0, a.1, n, (a.2).0, (a.2).1, (a.2).2, (a.2).3, (a.2).4)

-- no step
pub heard_none : (modes : Modes) (c : Code) (now : Moment) (h : Watched) → Heard modes c 0 now now h h Paused
heard_none modes c now h = λ rest' i. (rest', i, (ran_none modes c (stood_for now.core now.control rest') now.outside, inl refl, refl, refl, refl))

-- memory was refused where another call came to
pub heard_gives_up : (modes : Modes) (c : Code) (n : ℕ) (old new : Moment) (h h1 h2 : Watched) → Heard modes c n old new h h1 Paused → SomeHeard modes c old new h h2 NoMemory
heard_gives_up modes c n old new h h1 h2 p = λ rest' i.
    let q : Runs modes c n old new Paused = λ r j. let a = p r j in (a.0, a.1, (a.2).0, (a.2).1, (a.2).3, (a.2).4) in
    let b = runs_give_up modes c n old new q rest' i in
    (b.0, b.1, n + 1, b.2, b.3, tt, tt, tt)

-- ---- one step

-- a step that goes on told its events
goes_telling : EventsAre → (modes : Modes) (c : Code) (k d : CodeCore) (es : List Event) → ((line : ℕ) (i : Instr) → fetch c k.now.body k.now.at ≡ Some (line, i) → Tells c line i k d es) → Answers modes (step (machine c) (tested modes) (start k)) d Paused → map noticed (events_told (step (machine c) (tested modes) (start k))) ≡ map notice_of es
goes_telling are modes c k d es tells a = go (fetch c k.now.body k.now.at) refl a
  where
    on : (line : ℕ) (i : Instr) (x : Next CodeCore) → Tells c line i k d es → settle (machine c) (tested modes) (start k) (do_instr c line i k) ≡ x → Answers modes x d Paused → map noticed (events_told x) ≡ map notice_of es
    on line i (Goes s) t e a = ap (map noticed) (are c (tested modes) line i (start k) s e ∙ ap (events_of c line i k) a) ∙ sym t
    on line i (Ends f s) t e a = absurd a

    go : (f : Option Step) → fetch c k.now.body k.now.at ≡ f → Answers modes (settle (machine c) (tested modes) (start k) (do_step c f k)) d Paused → map noticed (events_told (settle (machine c) (tested modes) (start k) (do_step c f k))) ≡ map notice_of es
    go None f a = absurd a
    go (Some (line, i)) f a = on line i (settle (machine c) (tested modes) (start k) (do_instr c line i k)) (tells line i f) refl a

-- the parameters of procedures take every value
all_fit : (modes : Modes) (xs : List Store) → AllTaken modes xs → AllFit (tested modes) xs
all_fit modes [] h = tt
all_fit modes (x ∷ xs) h = (h.0, all_fit modes xs h.1)

pub bindings_fit : (modes : Modes) (c : Code) → AreOfMain modes → IsBare c → (i : Instr) → BindingsFit c (tested modes) i
bindings_fit modes c main bare (CallBody n) = λ b e vs. all_fit modes (bindings n b.parameters vs) (subst (TakesAll modes n vs) e (parameters_taken modes c main bare n vs))
bindings_fit modes c main bare i = tt

-- a step that ends the run told nothing
pub ends_silent : EndsTellNothing → (modes : Modes) (c : Code) (k : CodeCore) (e : run.End) (s : State CodeCore) → AreOfMain modes → IsBare c → step (machine c) (tested modes) (start k) ≡ Ends e s → s.events ≡ []
ends_silent nothing modes c k e s main bare h = go (fetch c k.now.body k.now.at) h
  where
    go : (f : Option Step) → settle (machine c) (tested modes) (start k) (do_step c f k) ≡ Ends e s → s.events ≡ []
    go None h = sym (ap events_told h)
    go (Some (line, i)) h = nothing c (tested modes) line i (start k) e s (bindings_fit modes c main bare i) h

pub silent : EndsTellNothing → (modes : Modes) (c : Code) (k to : CodeCore) (e : End) → AreOfMain modes → IsBare c → (e ≡ Paused → ⊥) → Answers modes (step (machine c) (tested modes) (start k)) to e → events_told (step (machine c) (tested modes) (start k)) ≡ []
silent nothing modes c k to e main bare ne a = go (step (machine c) (tested modes) (start k)) e refl ne a
  where
    go : (x : Next CodeCore) (e : End) → step (machine c) (tested modes) (start k) ≡ x → (e ≡ Paused → ⊥) → Answers modes x to e → events_told x ≡ []
    go (Ends f s) e h ne a = ends_silent nothing modes c k f s main bare h
    go (Goes s) Paused h ne a = absurd (ne refl)
    go (Goes s) e h ne a = absurd a

-- Where it goes on, watchers were told its events.
pub heard_paused : EventsAre → (modes : Modes) (c : Code) (old new : Moment) (es : List Event) (h h' : Watched) → Runs modes c 1 old new Paused → ((line : ℕ) (i : Instr) → fetch c old.core.now.body old.core.now.at ≡ Some (line, i) → (rest rest' : List ℕ) → Tells c line i (stood_for old.core old.control rest) (stood_for new.core new.control rest') es) → h' ≡ told_each (map notice_of es) h → Heard modes c 1 old new h h' Paused
heard_paused are modes c old new es h h' p tells told = λ rest' i.
    let a = p rest' i in
    let k = stood_for old.core old.control a.0 in
    let d = stood_for new.core new.control rest' in
    let one = run_one (machine c) (tested modes) (start k) in
    let at : Answers modes (step (machine c) (tested modes) (start k)) d Paused = subst (λ x. Answers modes x d Paused) one (a.2).0 in
    let events = goes_telling are modes c k d es (λ line i f. tells line i f a.0 rest') at in
    (a.0, a.1, (a.2, a.3, told ∙ ap (λ ns. told_each ns h) (sym events ∙ ap (λ x. map noticed (events_told x)) (sym one)), a.4, a.5))

-- Where it ends the run, they were told nothing.
hears_ended : EndsTellNothing → (modes : Modes) (c : Code) (k to : CodeCore) (old new : Seen) (h : Watched) (e : End) → AreOfMain modes → IsBare c → (e ≡ Paused → ⊥) → Ran modes c 1 k old new to e → Hears modes c 1 k h h e
hears_ended nothing modes c k to old new h e main bare ne r = go e ne r
  where
    same : (e : End) → (e ≡ Paused → ⊥) → Answers modes (runs.run (machine c) (tested modes) 1 (start k)) to e → h ≡ told_all (events_told (runs.run (machine c) (tested modes) 1 (start k))) h
    same e ne a =
        let one = run_one (machine c) (tested modes) (start k) in
        sym (ap (λ es. told_all es h) (ap events_told one ∙ silent nothing modes c k to e main bare ne (subst (λ x. Answers modes x to e) one a)))

    go : (e : End) → (e ≡ Paused → ⊥) → Ran modes c 1 k old new to e → Hears modes c 1 k h h e
    go Done ne r = same Done ne r.0
    go (Stopped why line) ne r = same (Stopped why line) ne r.0
    go Spent ne r = same Spent ne r.0
    go Stuck ne r = same Stuck ne r.0
    go Paused ne r = absurd (ne refl)
    go ReadFault ne r = tt
    go WriteFault ne r = tt
    go NoMemory ne r = tt

pub heard_ended : EndsTellNothing → (modes : Modes) (c : Code) (old new : Moment) (h : Watched) (e : End) → AreOfMain modes → IsBare c → (e ≡ Paused → ⊥) → Runs modes c 1 old new e → Heard modes c 1 old new h h e
heard_ended nothing modes c old new h e main bare ne p = λ rest' i.
    let a = p rest' i in
    (a.0, a.1, (a.2, a.3, hears_ended nothing modes c (stood_for old.core old.control a.0) (stood_for new.core new.control rest') old.outside new.outside h e main bare ne a.2, a.4, a.5))

pub no_items : {X Y : Type 0} (f : X → Y) (xs : List X) → length xs ≡ 0 → map f xs ≡ []
no_items f [] h = refl
no_items f (x ∷ xs) h = absurd (omega (arith, h))
