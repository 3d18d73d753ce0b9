-- A trial as an answer of the program.
use Rattle.std.proofs.Common.{◌≡◌, ◌^◌, ◌-◌, ℕ, Bool, true, List, [], ◌∷◌, ◌++◌, inl, Option, Some, refl, sym, subst, arith}
use Rattle.std.specs.Io.KnownBytes.{Appends}
use Rattle.setl_io.specs.Faults.{Rose}
use Rattle.setl_machine_control.specs.Answers.{kind_of}
use Rattle.setl_machine_control.specs.declared.end.End.{End}
use Rattle.setl_machine_control.specs.declared.end.End.TheVariants as end
use Rattle.setl_model.specs.Means.{Means}
use Rattle.setl_program.specs.Program.{Program}
use Rattle.setl_model_runs.specs.Events as run
use Rattle.setl_top.specs.Accepted.{Accepted}
use Rattle.setl_top.specs.Headline.{IsInput, IsTried, trial_output, Answers, trial_ended, in_trial, LeavesFilesAndInput, LoadsAsked, loads_none, Ended, Headline}
use Rattle.setl_top.specs.Headline as headline
use Rattle.setl_top.specs.Outside.{Outside}
use Rattle.setl_top.specs.Trials.{trial_source, trial_input, trial_line}
use Rattle.setl_top.specs.Runnable.{OfProgram}
use Rattle.setl_top.specs.code.Runs.{Streams, counted, RunsTo, Runs}
use Rattle.setl_top.specs.code.Tells.{TellsEnd}
use Rattle.setl_top.specs.code.Tries.{trial_options, RunEnds, TrialRuns, Tries, trial_refused, trial_done, trial_stopped, trial_spent, trial_starved}
use Rattle.setl_top_status.specs.Ends.{status_of, error_line}
use Rattle.setl_top_status.specs.Reasons.{reason_line}
use Rattle.setl_top_status.specs.Seen.{Seen, one_piece}
use Rattle.setl_top_status.specs.code.Tells.{Tells}
use Rattle.setl_top_status.specs.declared.status.Status.{Status}
use Rattle.setl_top_status.specs.declared.status.Status.TheVariants.{Done, Refused, Stopped, Spent}
use Rattle.setl_watch.specs.Watches.{watched}
use Rattle.setl_top_words.specs.Words.{Trial, Spells, OneCommand}
use Rattle.setl_top.proofs.Ends.{no_file, told_alone, starved, written_ends}

-- ---- runs in memory

run_so : (names : List (List ℕ)) (program : Program) (based : Bool) (s t : Streams) (input printed : List ℕ) → s.input.held ≡ Some input → s.output.held ≡ Some [] → t.output.held ≡ Some printed → (e : run.End) → RunsTo (OfProgram names program) (trial_options based) s t e → Means program input (2 ^ 63 - 1) based printed e
run_so names program based s t input printed i o n e x =
    let known : input ≡ x.input = subst (λ (k : Option (List ℕ)). IsInput k x.input) i x.known in
    let gained : printed ≡ [] ++ x.out = subst (λ (b : Option (List ℕ)). Appends (Some []) b x.out) n (subst (λ (a : Option (List ℕ)). Appends a t.output.held x.out) o x.gained) in
    subst (λ (k : List ℕ). Means program k (2 ^ 63 - 1) based printed e) (sym known)
    (subst (λ (k : List ℕ). Means program x.input (2 ^ 63 - 1) based k e) (sym gained) x.means.so.0)

no_rise : (before now : ℕ) → before ≡ 0 → now ≡ 0 → Rose before now → ⊥
no_rise before now b n h =
    let rose : Rose 0 0 = subst (λ (k : ℕ). Rose 0 k) n (subst (λ (k : ℕ). Rose k now) b h) in
    omega (arith, rose)

-- a run over an outside in memory, where no count of faults rises
pub run_in_memory : (names : List (List ℕ)) (program : Program) (based : Bool) (s t : Streams) (input printed : List ℕ) → s.input.held ≡ Some input → s.output.held ≡ Some [] → t.output.held ≡ Some printed → s.input.faults ≡ 0 → t.input.faults ≡ 0 → s.output.faults ≡ 0 → t.output.faults ≡ 0 → (e : End) → (e ≡ end.NoMemory → ⊥) → Runs (OfProgram names program) (trial_options based) s t e → RunEnds program input based printed e
run_in_memory names program based s t input printed i o n j k l m end.Done some x = run_so names program based s t input printed i o n run.Done x
run_in_memory names program based s t input printed i o n j k l m (end.Stopped why line) some x =
    run_so names program based s t input printed i o n (run.Stopped (kind_of (counted (trial_options based) (OfProgram names program)) why) line) x
run_in_memory names program based s t input printed i o n j k l m end.Spent some x = run_so names program based s t input printed i o n run.Spent x
run_in_memory names program based s t input printed i o n j k l m end.ReadFault some x = no_rise s.input.faults t.input.faults j k x.1
run_in_memory names program based s t input printed i o n j k l m end.WriteFault some x = no_rise s.output.faults t.output.faults l m x.1
run_in_memory names program based s t input printed i o n j k l m end.NoMemory some x = some refl
run_in_memory names program based s t input printed i o n j k l m end.Paused some x = x
run_in_memory names program based s t input printed i o n j k l m end.Stuck some x = x

-- such a run is neither paused nor stuck
pub not_paused : (program : Program) (input : List ℕ) (based : Bool) (printed : List ℕ) (e : End) → RunEnds program input based printed e → e ≡ end.Paused → ⊥
not_paused program input based printed e m is = subst (λ (x : End). RunEnds program input based printed x) is m

pub not_stuck : (program : Program) (input : List ℕ) (based : Bool) (printed : List ℕ) (e : End) → RunEnds program input based printed e → e ≡ end.Stuck → ⊥
not_stuck program input based printed e m is = subst (λ (x : End). RunEnds program input based printed x) is m

-- ---- what is told of a run

-- the run with declarations was done, and its line was written or not
pub done_then : (seed nodes : ℕ) (program : Program) (printed : List ℕ) (e : End) → Accepted trial_source program → RunEnds program (trial_input seed nodes) true printed e → e ≡ end.Done → TrialRuns seed nodes printed run.Done
done_then seed nodes program printed e a m is =
    record { program = program; accepted = a; means = subst (λ (x : End). RunEnds program (trial_input seed nodes) true printed x) is m }

-- it ended otherwise, and its error line was told or not
pub ended_then : (seed nodes : ℕ) (program : Program) (printed : List ℕ) (out out' err err' : Seen (List ℕ)) (e : End) (r : Status) → Accepted trial_source program → RunEnds program (trial_input seed nodes) true printed e → (e ≡ end.Done → ⊥) → out' ≡ out → TellsEnd program.modes (watched [] []) e err err' r → Tries seed nodes out out' err err' r
ended_then seed nodes program printed out out' err err' end.Done r a m other still t = absurd (other refl)
ended_then seed nodes program printed out out' err err' (end.Stopped why line) r a m other still t =
    trial_stopped printed (kind_of program.modes why) line r (record { program = program; accepted = a; means = m }) still t
ended_then seed nodes program printed out out' err err' end.Spent r a m other still t =
    trial_spent printed r (record { program = program; accepted = a; means = m }) still t
ended_then seed nodes program printed out out' err err' end.ReadFault r a m other still t = absurd m
ended_then seed nodes program printed out out' err err' end.WriteFault r a m other still t = absurd m
ended_then seed nodes program printed out out' err err' end.NoMemory r a m other still t = absurd m
ended_then seed nodes program printed out out' err err' end.Paused r a m other still t = absurd m
ended_then seed nodes program printed out out' err err' end.Stuck r a m other still t = absurd m

-- ---- the headline

module _ (one : OneCommand) (words : List (List ℕ)) (before after : Outside) (seed nodes : ℕ) (s : Spells words (Trial seed nodes)) (rest : LeavesFilesAndInput before after) where
  tried : (printed : List ℕ) (e : run.End) → TrialRuns seed nodes printed e → IsTried words (trial_line seed nodes printed) e
  tried printed e m = record { seed = seed; nodes = nodes; program = m.program; printed = printed; spelled = s; accepted = m.accepted; means = m.means; is_line = refl }

  answer : (printed : List ℕ) (e : run.End) (status : Status) → TrialRuns seed nodes printed e → status_of e ≡ Some status → Answers words before status (trial_output e (trial_line seed nodes printed)) (error_line e) before.input.held (one_piece (trial_output e (trial_line seed nodes printed)) before.output.calls)
  answer printed e status m how = trial_ended status (trial_line seed nodes printed) e (record { tried = tried printed e m; ends = how })

  no_load : LoadsAsked words before after
  no_load = loads_none (no_file one words before (Trial seed nodes) s (λ name f. f)) rest.files

  -- the last line was told, or not, and nothing was written
  silent : (status : Status) (line : List ℕ) → (Ended words before after status → Headline words before after status) → Answers words before status [] line before.input.held before.output.calls → after.output ≡ before.output → (r : Status) → Tells status line before.error_output after.error_output r → Headline words before after r
  silent status line ends a still r t = told_alone words before after status line ends a no_load (record { input = rest.input; output = still }) r t

  -- what a trial does makes its headline
  pub trial_ends : (r : Status) → Tries seed nodes before.output after.output before.error_output after.error_output r → Headline words before after r
  trial_ends _ (trial_refused reason ends why still t) =
      silent Refused (reason_line reason ++ 10 ∷ []) (λ e. e) (headline.trial_refused seed nodes (reason_line reason) s (record { reason = reason; refused = why; tells = refl })) still ends t
  trial_ends _ (trial_done printed ends m w) =
      let line : List ℕ = trial_line seed nodes printed in
      written_ends words before after line (answer printed run.Done Done m refl) (λ n. in_trial line n (tried printed run.Done m)) rest.input no_load ends w
  trial_ends _ (trial_stopped printed kind line ends m still t) =
      silent Stopped (error_line (run.Stopped kind line)) (λ e. e) (answer printed (run.Stopped kind line) Stopped m refl) still ends t
  trial_ends _ (trial_spent printed ends m still t) =
      silent Spent (error_line run.Spent) (λ e. e) (answer printed run.Spent Spent m refl) still ends t
  trial_ends _ (trial_starved still t) = starved words before after (inl no_load) (record { input = rest.input; output = still }) t
