-- What steps and runs hand over, by what they say: each line that is printed has a byte.
use Rattle.std.proofs.Common.{◌≡◌, ◌⊎◌, inl, inr, ◌∙◌, ◌+◌, ◌<◌, ◌≤◌, ℕ, zero, suc, List, [], ◌∷◌, length, map, Option, Some, sym, ap, subst, arith}
use Rattle.std.proofs.lemmas.List.{length-append}
use Rattle.std.proofs.lemmas.Option.{same_Some}
use Rattle.std.specs.Io.KnownBytes.{Appends}
use Rattle.setl_value.specs.Datum.{Datum}
use Rattle.setl_io.specs.Faults.{more}
use Rattle.setl_text.specs.Texts.{spaced, argument_text, print_line}
use Rattle.setl_model_runs.specs.Run.{State, Next, Goes, Ends, and_then, settle, step, run}
use Rattle.setl_code.specs.Code.{Code, Instr, Step, PrintTop, ReadOne}
use Rattle.setl_code.specs.CodeCore.{Popped, Pops, Lacks, popped, CodeCore}
use Rattle.setl_code.specs.Machine.{do_step, fetch, machine, on_popped, print_values}
use Rattle.setl_machine_control.specs.Declaring.{Modes, tested}
use Rattle.setl_machine_control.specs.Answers.{start, said, next_of, Quiet}
use Rattle.setl_machine_control.specs.declared.end.End.{End}
use Rattle.setl_machine_control.specs.declared.end.End.TheVariants.{Done, Stopped, Spent, Paused, ReadFault, WriteFault, NoMemory, Stuck}
use Rattle.setl_machine.specs.Hearing.{events_told}
use Rattle.setl_machine.specs.Outcome.{Seen, seen, AtPrint, Ran, all_behind}
use Rattle.setl_machine.specs.Writing.{prints, pieces_by, NextWrites, RunWrites}
use Rattle.setl_machine.proofs.Joining.{made}
use Rattle.setl_machine.proofs.Prints.{prints_both}
use Rattle.setl_machine.proofs.RunLaws.{step_behind}
use Rattle.setl_machine.proofs.Silence.{prints_nothing}
use Rattle.setl_machine.proofs.Stepping.{step_is}

-- ---- a byte for each line

pub line_some : (vs : List (Option Datum)) → 0 < length (print_line vs)
line_some vs = let l : length (print_line vs) ≡ length (spaced (map argument_text vs)) + 1 = length-append (spaced (map argument_text vs)) (10 ∷ []) in omega (arith, l)

-- no more lines were printed than bytes were written
abbrev Spoken : Next CodeCore → Type 0
Spoken x = prints (events_told x) ≤ length (said x)

spoken_behind : (a : State CodeCore) (x : Next CodeCore) → Spoken (Goes a) → Spoken x → Spoken (all_behind a x)
spoken_behind a (Goes t) h k = omega (arith, h, k, prints_both a.events t.events, length-append a.out t.out)
spoken_behind a (Ends e t) h k = omega (arith, h, k, prints_both a.events t.events, length-append a.out t.out)

printed : (modes : Modes) (c : Code) (k : CodeCore) (p : Popped) → Spoken (settle (machine c) (tested modes) (start k) (on_popped p (λ vs xs. print_values vs xs k)))
printed modes c k Lacks = omega arith
printed modes c k (Pops vs xs) = line_some vs

spoken_step : (modes : Modes) (c : Code) (k : CodeCore) → Spoken (step (machine c) (tested modes) (start k))
spoken_step modes c k = go (prints_nothing modes c k)
  where
    go : (prints (events_told (step (machine c) (tested modes) (start k))) ≡ 0) ⊎ AtPrint c k → Spoken (step (machine c) (tested modes) (start k))
    go (inl h) = omega (arith, h)
    go (inr print) = subst (λ o. Spoken (settle (machine c) (tested modes) (start k) (do_step c o k))) (sym print.2) (printed modes c k (popped print.1 [] k.now.operands))

spoken_on : (modes : Modes) (c : Code) (a : State CodeCore) → Spoken (Goes a) → Spoken (step (machine c) (tested modes) a)
spoken_on modes c a h = subst Spoken (sym (step_behind (machine c) (tested modes) a)) (spoken_behind a (step (machine c) (tested modes) (start a.core)) h (spoken_step modes c a.core))

spoken_then : (f : State CodeCore → Next CodeCore) → ((t : State CodeCore) → Spoken (Goes t) → Spoken (f t)) → (x : Next CodeCore) → Spoken x → Spoken (and_then x f)
spoken_then f then (Goes t) h = then t h
spoken_then f then (Ends e t) h = h

spoken_from : (modes : Modes) (c : Code) (n : ℕ) (a : State CodeCore) → Spoken (Goes a) → Spoken (run (machine c) (tested modes) n a)
spoken_from modes c zero a h = h
spoken_from modes c (suc n) a h = spoken_then (run (machine c) (tested modes) n) (spoken_from modes c n) (step (machine c) (tested modes) a) (spoken_on modes c a h)

-- ---- nothing is handed over

-- where nothing was printed
unprinted : (x : Next CodeCore) (pieces : Option ℕ) (e : End) → prints (events_told x) ≡ 0 → NextWrites x pieces pieces e
unprinted x pieces e h = made pieces_by x pieces pieces (sym (ap (λ n. more n pieces) h)) e

-- where nothing was said
unsaid : (x : Next CodeCore) (pieces : Option ℕ) (e : End) → Spoken x → said x ≡ [] → NextWrites x pieces pieces e
unsaid x pieces e spoken h = let none : prints (events_told x) ≡ 0 = omega (arith, spoken, ap length h) in unprinted x pieces e none

-- by a step that neither reads nor writes
pub quiet_writes : (modes : Modes) (c : Code) (k to : CodeCore) (line : ℕ) (i : Instr) (pieces : Option ℕ) (e : End) → fetch c k.now.body k.now.at ≡ Some (line, i) → Quiet modes (next_of modes c line i k) to e → NextWrites (step (machine c) (tested modes) (start k)) pieces pieces e
quiet_writes modes c k to line i pieces e f q = go e (subst (λ x. Quiet modes x to e) (sym (step_is modes c k line i f)) q)
  where
    next : Next CodeCore
    next = step (machine c) (tested modes) (start k)

    same : (e : End) → said next ≡ [] → NextWrites next pieces pieces e
    same e h = unsaid next pieces e (spoken_step modes c k) h

    go : (e : End) → Quiet modes next to e → NextWrites next pieces pieces e
    go Done q = same Done q.1
    go (Stopped why line) q = same (Stopped why line) q.1
    go Spent q = same Spent q.1
    go Paused q = same Paused q.1
    go Stuck q = same Stuck q.1
    go ReadFault q = tt
    go WriteFault q = tt
    go NoMemory q = tt

-- by a read
pub read_writes : (modes : Modes) (c : Code) (k : CodeCore) (line : ℕ) (pieces : Option ℕ) (e : End) → fetch c k.now.body k.now.at ≡ Some (line, ReadOne) → NextWrites (step (machine c) (tested modes) (start k)) pieces pieces e
read_writes modes c k line pieces e f = go (prints_nothing modes c k)
  where
    go : (prints (events_told (step (machine c) (tested modes) (start k))) ≡ 0) ⊎ AtPrint c k → NextWrites (step (machine c) (tested modes) (start k)) pieces pieces e
    go (inl h) = unprinted (step (machine c) (tested modes) (start k)) pieces e h
    go (inr print) =
        let same : ◌≡◌ {A = Step} (line, ReadOne) (print.0, PrintTop print.1) = same_Some (line, ReadOne) (print.0, PrintTop print.1) (sym f ∙ print.2) in
        let instr : ReadOne ≡ PrintTop print.1 = ap (λ (s : Step). s.1) same in
        absurd (cc)

-- by steps that neither read nor write
pub quiet_run_writes : (modes : Modes) (c : Code) (n : ℕ) (from to : CodeCore) (pieces : Option ℕ) (e : End) → ((now : Seen) → Ran modes c n from now now to e) → RunWrites modes c n from pieces pieces e
quiet_run_writes modes c n from to pieces e ran = go e (ran none)
  where
    none : Seen
    none = seen (Some []) 0 0

    all : Next CodeCore
    all = run (machine c) (tested modes) n (start from)

    same : (e : End) → Appends (Some []) (Some []) (said all) → NextWrites all pieces pieces e
    same e h = unsaid all pieces e (spoken_from modes c n (start from) (omega arith)) (sym h)

    go : (e : End) → Ran modes c n from none none to e → RunWrites modes c n from pieces pieces e
    go Done q = same Done q.1
    go (Stopped why line) q = same (Stopped why line) q.1
    go Spent q = same Spent q.1
    go Paused q = same Paused q.1
    go Stuck q = same Stuck q.1
    go ReadFault q = tt
    go WriteFault q = tt
    go NoMemory q = tt

-- ---- what the instruction in hand hands over

pub hand_writes : (modes : Modes) (c : Code) (k : CodeCore) (line : ℕ) (i : Instr) (pieces pieces' : Option ℕ) (e : End) → fetch c k.now.body k.now.at ≡ Some (line, i) → NextWrites (next_of modes c line i k) pieces pieces' e → NextWrites (step (machine c) (tested modes) (start k)) pieces pieces' e
hand_writes modes c k line i pieces pieces' e f h = subst (λ x. NextWrites x pieces pieces' e) (sym (step_is modes c k line i f)) h
