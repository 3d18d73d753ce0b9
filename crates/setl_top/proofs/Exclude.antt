-- Which answers exclude which.
use Rattle.std.proofs.Common.{◌≡◌, ◌≤◌, ◌⊎◌, ◌↔◌, ◌∙◌, ◌^◌, ◌-◌, inl, inr, ℕ, zero, suc, Bool, true, List, [], ◌∷◌, ◌++◌, Option, Some, if◌then◌else◌, refl, sym, ap, ap₂, subst, arith}
use Rattle.std.specs.Io.KnownBytes.{Appends}
use Rattle.setl_io.specs.Faults.{more, one_more}
use Rattle.setl_io.specs.Files.{IsText}
use Rattle.setl_io.specs.Sink.{AppendsPart}
use Rattle.setl_machine.specs.Prints.{prints}
use Rattle.setl_model_runs.specs.Events.{Event, End}
use Rattle.setl_model_runs.specs.Events as events
use Rattle.setl_model_runs.specs.Run.{Machine, Test, State, Next, Goes, Ends, and_then, run, step}
use Rattle.setl_model.specs.Laws.{OneMeaning}
use Rattle.setl_model.specs.Core.{Core}
use Rattle.setl_model.specs.Dump.{layout}
use Rattle.setl_model.specs.Entered.{entered}
use Rattle.setl_model.specs.Means.{Means, first}
use Rattle.setl_model.specs.Step.{language, test_of}
use Rattle.setl_program.specs.Program.{Program}
use Rattle.setl_program.specs.ProgramOf.{program_of}
use Rattle.setl_tree.specs.declared.tree.Tree.{Tree}
use Rattle.setl_top.specs.Accepted.{IsProgram, Accepted, Refusal, IsRefusedFor}
use Rattle.setl_top.specs.Headline.{AnyRose, ReadCause, load_failed, script_failed, read_failed, InputLeft, untouched, script_taken, not_read, read_from, WriteCause, print_failed, session_failed, out_failed, err_failed, faulty_words, no_such_watcher, refused, checked, listed, advised, has_repr, code_refused, built, too_long_built, explained, no_fault, stop_told, script_refused, debugged, run_ended, trial_refused, trial_ended, Answers, Job, IsInput, IsToLoad, IsToRun, IsOfProgram, IsToRefuse, IsToDebug, IsTried, TellsRefusal, trial_output}
use Rattle.setl_top.specs.Laws.{IsComplete, FaultyWordsReadNothing, WordsExactly, RefusesExactly, RefusesCodeExactly, ChecksExactly, ListsExactly, AdvisesExactly, ExplainsExactly, TrialsReadNothing, TriesExactly, EndsExactly, TellsTexts, TellsText, AsksOf}
use Rattle.setl_top.specs.Explained.{IsExplained}
use Rattle.setl_top.specs.Listings.{IsListing}
use Rattle.setl_top_advice.specs.Advised.{IsAdvised, HasRepr, first_line, has_repr_line}
use Rattle.setl_top.specs.Outside.{Outside}
use Rattle.setl_top.specs.Trials.{trial_source, trial_input, trial_line}
use Rattle.setl_top.specs.Watching.{asked_for, IsThere, IsNoRequest, reports_of}
use Rattle.setl_top_status.specs.Ends.{status_of, error_line}
use Rattle.setl_top_status.specs.Lines.{BreaksIn, fault_line}
use Rattle.setl_top_status.specs.Reasons.{reason_line}
use Rattle.setl_top_status.specs.Seen.{Seen, SeenFiles, CountRose, CountStays}
use Rattle.setl_top_status.specs.declared.fault.Fault.{Fault}
use Rattle.setl_top_status.specs.declared.fault.Fault.TheVariants as fault
use Rattle.setl_top_status.specs.declared.status.Status.{Status}
use Rattle.setl_top_status.specs.declared.status.Status.TheVariants.{Done, Refused, Words, Stopped, Spent, ReadFault, WriteFault, NoMemory}
use Rattle.setl_top_words.specs.Words.{Options, Command, Run, Check, Code, Build, Advise, Explain, TellStop, Debug, Trial, Spells, HasFile, RunsFile, watched_by, OneCommand}
use Rattle.setl_top_words.specs.declared.reading.FileKind.{FileKind}
use Rattle.setl_top_words.specs.declared.reading.FileKind.TheVariants.{Source, CodeFile}
use Rattle.setl_code.specs.CodeCore.{CodeCore}
use Rattle.setl_code.specs.CodeMeans.{CodeMeans, code_first}
use Rattle.setl_code.specs.Machine.{machine}
use Rattle.setl_code_layout.specs.Layout.{code_layout}
use Rattle.setl_top_images.specs.CodeFiles.{IsFlawed, flaw_line}
use Rattle.setl_top_images.specs.Laws.{OneImage, OneFlaw, NotCodeAndFlawed}
use Rattle.setl_top.specs.Built.{CodeRefusal}
use Rattle.setl_top.specs.Runnable.{Runnable, OfProgram, OfCode, of_tree, of_image, Holds, Meant}
use Rattle.setl_top.proofs.OneReason.{FrontLaws, one_reason, one_program_tree, not_refused}

-- one fault of the error output was counted at what was being told, and one or none at the line of the fault
err_rose : (why : Fault) (text : List ℕ) (before after : Seen (List ℕ)) → why ≡ fault.Write → BreaksIn why text before after → one_more before.faults ≤ after.faults
err_rose fault.Read text before after w h = absurd h.count
err_rose fault.NoMemory text before after w h = absurd (cc)
err_rose fault.Write text before after w h = go h.tried.gained
  where
    go : (Appends h.then.held after.held (fault_line fault.Write) × CountStays h.then after) ⊎ (AppendsPart h.then.held after.held (fault_line fault.Write) × (CountRose h.then after ⊎ CountStays h.then after)) → one_more before.faults ≤ after.faults
    go (inl all) = omega (arith, h.count, all.1)
    go (inr part) = elim part.1 [ inl more ↦ omega (arith, h.count, more) | inr same ↦ omega (arith, h.count, same) ]

write_rose : (words : List (List ℕ)) (before after : Outside) (out : List ℕ) → WriteCause words before after out → AnyRose before after
write_rose words before after _ (print_failed out line n h) = inr (inl h.rose)
write_rose words before after _ (session_failed told n h) = inr (inl h.rose)
write_rose words before after _ (out_failed out h) = inr (inl h.rose)
write_rose words before after _ (err_failed out err h) = inr (inr (err_rose fault.Write err before.error_output after.error_output refl h.fails))

read_rose : (words : List (List ℕ)) (before after : Outside) (out : List ℕ) → ReadCause words before after out → AnyRose before after
read_rose words before after _ (load_failed h) = inl (inl (ap (λ (f : SeenFiles). f.faults) h.failed))
read_rose words before after _ (script_failed h) = inl (inr h.rose)
read_rose words before after _ (read_failed out h) = inl (inr h.rose)

pub complete : IsComplete
complete words before after Done h = inr h
complete words before after Refused h = inr h
complete words before after Words h = inr h
complete words before after Stopped h = inr h
complete words before after Spent h = inr h
complete words before after ReadFault h = inl (inl (read_rose words before after h.out h.cause))
complete words before after WriteFault h = inl (inl (write_rose words before after h.out h.cause))
complete words before after NoMemory h = inl (inr refl)

-- ---- the words

no_read : (words : List (List ℕ)) (before after : Outside) (out : List ℕ) → IsNoRequest words before.watchers → ReadCause words before after out → ⊥
no_read words before after _ faulty (load_failed h) = faulty h.asked.command h.asked.spelled h.asked.there
no_read words before after _ faulty (script_failed h) = faulty (Debug h.based h.asked.name) h.asked.spelled tt
no_read words before after _ faulty (read_failed out h) = faulty h.reading.asked.command h.reading.asked.spelled h.reading.asked.there

no_input : (words : List (List ℕ)) (before after : Outside) → IsNoRequest words before.watchers → InputLeft words before after → after.input ≡ before.input
no_input words before after faulty (untouched e) = e
no_input words before after faulty (script_taken p b taken a k) = absurd (faulty (Debug b a.name) a.spelled tt)
no_input words before after faulty (not_read k o n s there e) = absurd (faulty (Run k o n) s there)
no_input words before after faulty (read_from h) = absurd (faulty h.reading.asked.command h.reading.asked.spelled h.reading.asked.there)

pub faulty_reads_nothing : FaultyWordsReadNothing
faulty_reads_nothing words before after faulty = ((λ h. no_read words before after h.out faulty h.cause), no_input words before after faulty)

-- ---- the last state

module _ {C : Type 0} (m : Machine C) (test : Test) where
  -- a run has one end, and one last state
  same_end : (n k : ℕ) (s a b : State C) (e f : End) → run m test n s ≡ Ends e a → run m test k s ≡ Ends f b → (e ≡ f) × (a ≡ b)
  same_end zero k s a b e f h i = absurd (cc)
  same_end (suc n) zero s a b e f h i = absurd (cc)
  same_end (suc n) (suc k) s a b e f h i = go (step m test s) (λ t. same_end n k t a b e f) h i
    where
      go : (y : Next C) → ((t : State C) → run m test n t ≡ Ends e a → run m test k t ≡ Ends f b → (e ≡ f) × (a ≡ b)) → and_then y (run m test n) ≡ Ends e a → and_then y (run m test k) ≡ Ends f b → (e ≡ f) × (a ≡ b)
      go (Goes t) ih h i = ih t h i
      go (Ends g t) ih h i =
          let first : t ≡ a = cc in
          let second : t ≡ b = cc in
          let one : g ≡ e = cc in
          let other : g ≡ f = cc in
          (sym one ∙ other, sym first ∙ second)

-- so what is run has one output, one end, one list of events and one dump
one_meant : (r : Runnable) (input : List ℕ) (turns : ℕ) (based : Bool) (o o' : List ℕ) (e e' : End) (m : Meant r input turns based o e) (n : Meant r input turns based o' e') → (o ≡ o') × (e ≡ e') × (m.events ≡ n.events) × (m.dump ≡ n.dump)
one_meant (OfProgram names p) input turns based o o' e e' m n =
    let a : Means p input turns based o e = m.so.0 in
    let b : Means p input turns based o' e' = n.so.0 in
    let same = same_end (language p) (test_of p.modes based) a.steps b.steps (first p input turns) a.last b.last e e' a.ends b.ends in
    (sym a.written ∙ ap (λ (s : State Core). s.out) same.1 ∙ b.written, same.0, m.so.1 ∙ ap (λ (s : State Core). s.events) same.1 ∙ sym n.so.1, m.so.3 ∙ ap (λ (s : State Core). layout names p.modes s) same.1 ∙ sym n.so.3)
one_meant (OfCode names c modes) input turns based o o' e e' m n =
    let a : CodeMeans c modes input turns based o e = m.so.0 in
    let b : CodeMeans c modes input turns based o' e' = n.so.0 in
    let same = same_end (machine c) (test_of modes based) a.steps b.steps (code_first c input turns) a.last b.last e e' a.ends b.ends in
    (sym a.written ∙ ap (λ (s : State CodeCore). s.out) same.1 ∙ b.written, same.0, m.so.1 ∙ ap (λ (s : State CodeCore). s.events) same.1 ∙ sym n.so.1, m.so.3 ∙ ap (λ (s : State CodeCore). code_layout names modes (λ b. entered modes b s.events) s.core) same.1 ∙ sym n.so.3)

-- the input of the trial that a command asks for, and its line
abbrev input_for : Command → List ℕ
input_for (Run k o n) = []
input_for (Check n) = []
input_for (Code n) = []
input_for (Build n) = []
input_for (Advise n) = []
input_for (Explain n) = []
input_for (TellStop k) = []
input_for (Debug b n) = []
input_for (Trial a b) = trial_input a b

abbrev line_for : Command → List ℕ → List ℕ
line_for (Run k o n) printed = []
line_for (Check n) printed = []
line_for (Code n) printed = []
line_for (Build n) printed = []
line_for (Advise n) printed = []
line_for (Explain n) printed = []
line_for (TellStop k) printed = []
line_for (Debug b n) printed = []
line_for (Trial a b) printed = trial_line a b printed

-- commands by numbers
abbrev pub number_of : Command → ℕ
number_of (Run kind options name) = 1
number_of (Check name) = 2
number_of (Code name) = 3
number_of (Build name) = 4
number_of (Advise name) = 5
number_of (Explain name) = 6
number_of (TellStop stop) = 7
number_of (Debug based name) = 8
number_of (Trial seed nodes) = 9

module _ (one_command : OneCommand) where
  one_file : (c : Command) (n m : List ℕ) → HasFile c n → HasFile c m → n ≡ m
  one_file (Run k o a) n m f g = f ∙ sym g
  one_file (Check a) n m f g = f ∙ sym g
  one_file (Code a) n m f g = f ∙ sym g
  one_file (Build a) n m f g = f ∙ sym g
  one_file (Advise a) n m f g = f ∙ sym g
  one_file (Explain a) n m f g = f ∙ sym g
  one_file (TellStop k) n m f g = absurd f
  one_file (Debug b a) n m f g = f ∙ sym g
  one_file (Trial a b) n m f g = absurd f

  -- a run's file is its command's
  run_file : (c : Command) (kind : FileKind) (n : List ℕ) (turns : ℕ) (based dump : Bool) → RunsFile c kind n turns based dump → HasFile c n
  run_file (Run k o a) kind n turns based dump h = h.1
  run_file (Check a) kind n turns based dump h = absurd h
  run_file (Code a) kind n turns based dump h = absurd h
  run_file (Build a) kind n turns based dump h = absurd h
  run_file (Advise a) kind n turns based dump h = absurd h
  run_file (Explain a) kind n turns based dump h = absurd h
  run_file (TellStop k) kind n turns based dump h = absurd h
  run_file (Debug b a) kind n turns based dump h = absurd h
  run_file (Trial a b) kind n turns based dump h = absurd h

  -- what is to be run is what the command runs
  pub runs_so : (words : List (List ℕ)) (before : Outside) (job : Job) (c : Command) (a : IsToRun words before job) → Spells words c → RunsFile c a.kind a.name job.turns job.based job.dump
  runs_so words before job c a s =
      subst (λ d. RunsFile d a.kind a.name job.turns job.based job.dump) (one_command words a.command c a.spelled s) a.runs

  -- a command whose watcher is there isn't one whose watcher isn't
  pub not_there : (words : List (List ℕ)) (before : Outside) (c d : Command) → Spells words c → Spells words d → (IsThere (watched_by c) before.watchers → ⊥) → IsThere (watched_by d) before.watchers → ⊥
  not_there words before c d s t none there = none (subst (λ x. IsThere (watched_by x) before.watchers) (one_command words d c t s) there)

  -- a trial reads no file
  no_file : (words : List (List ℕ)) (c : Command) (name : List ℕ) (a b : ℕ) → Spells words (Trial a b) → Spells words c → HasFile c name → ⊥
  no_file words c name a b t s f = subst (λ d. HasFile d name) (one_command words c (Trial a b) s t) f

  -- two texts of one name are one
  one_text : (before : Outside) (texts : List ℕ → Option (List ℕ)) → TellsTexts before texts → (n m a b : List ℕ) → n ≡ m → IsText before.files.held n a → IsText before.files.held m b → a ≡ b
  one_text before texts t n m a b e h k =
      let p : texts n ≡ Some a = subst (λ x. IsText x n a) t h in
      let q : texts m ≡ Some b = subst (λ x. IsText x m b) t k in
      let r = ap texts e in
      cc

  pub told_text : (before : Outside) (texts : List ℕ → Option (List ℕ)) → TellsTexts before texts → (n a : List ℕ) → texts n ≡ Some a → IsText before.files.held n a
  told_text before texts t n a h = subst (λ x. IsText x n a) (sym t) h

  -- two commands of the same words have one source
  pub one_source : (words : List (List ℕ)) (before : Outside) (texts : List ℕ → Option (List ℕ)) → TellsTexts before texts → (c d : Command) (n m a b : List ℕ) → Spells words c → HasFile c n → IsText before.files.held n a → Spells words d → HasFile d m → IsText before.files.held m b → a ≡ b
  one_source words before texts t c d n m a b s f h s' f' h' =
      one_text before texts t n m a b (one_file c n m f (subst (λ x. HasFile x m) (one_command words d c s' s) f')) h h'

  -- ---- what an answer answers

  -- the number of the command that it answers
  abbrev number_by : {words : List (List ℕ)} {before : Outside} {status : Status} {out err : List ℕ} {left : Option (List ℕ)} {pieces : Option ℕ} → Answers words before status out err left pieces → ℕ
  number_by (faulty_words told n tells) = 0
  number_by (no_such_watcher c s none) = number_of c
  number_by (refused l it) = number_of it.asked.command
  number_by (code_refused l it) = number_of (Run CodeFile it.options it.name)
  number_by (checked it) = number_of (Check it.name)
  number_by (listed text a) = number_of (Code a.asked.name)
  number_by (built bytes a) = number_of (Build a.asked.name)
  number_by (too_long_built it long) = number_of (Build it.name)
  number_by (advised text a) = number_of (Advise a.asked.name)
  number_by (has_repr l it has) = number_of (Advise it.name)
  number_by (explained text a) = number_of (Explain a.name)
  number_by (no_fault it) = number_of (Explain it.name)
  number_by (stop_told k s) = number_of (TellStop k)
  number_by (script_refused l left it) = number_of (Debug it.based it.asked.name)
  number_by (debugged told left n a taken) = number_of (Debug a.session.based a.asked.asked.name)
  number_by (run_ended status out err left n r) = number_of r.asked.command
  number_by (trial_refused a b l s r) = number_of (Trial a b)
  number_by (trial_ended status line end a) = number_of (Trial a.tried.seed a.tried.nodes)

  -- words of a command are answered as it
  pub answers_it : (words : List (List ℕ)) (before : Outside) (status : Status) (out err : List ℕ) (left : Option (List ℕ)) (pieces : Option ℕ) (a : Answers words before status out err left pieces) (c : Command) → Spells words c → number_by a ≡ number_of c
  answers_it words before _ _ _ _ _ (faulty_words told n tells) c s = absurd (n c s)
  answers_it words before _ _ _ _ _ (no_such_watcher d t none) c s = ap number_of (one_command words d c t s)
  answers_it words before _ _ _ _ _ (refused l it) c s = ap number_of (one_command words it.asked.command c it.asked.spelled s)
  answers_it words before _ _ _ _ _ (code_refused l it) c s = ap number_of (one_command words (Run CodeFile it.options it.name) c it.spelled s)
  answers_it words before _ _ _ _ _ (checked it) c s = ap number_of (one_command words (Check it.name) c it.spelled s)
  answers_it words before _ _ _ _ _ (listed text a) c s = ap number_of (one_command words (Code a.asked.name) c a.asked.spelled s)
  answers_it words before _ _ _ _ _ (built bytes a) c s = ap number_of (one_command words (Build a.asked.name) c a.asked.spelled s)
  answers_it words before _ _ _ _ _ (too_long_built it long) c s = ap number_of (one_command words (Build it.name) c it.spelled s)
  answers_it words before _ _ _ _ _ (advised text a) c s = ap number_of (one_command words (Advise a.asked.name) c a.asked.spelled s)
  answers_it words before _ _ _ _ _ (has_repr l it has) c s = ap number_of (one_command words (Advise it.name) c it.spelled s)
  answers_it words before _ _ _ _ _ (explained text a) c s = ap number_of (one_command words (Explain a.name) c a.spelled s)
  answers_it words before _ _ _ _ _ (no_fault it) c s = ap number_of (one_command words (Explain it.name) c it.spelled s)
  answers_it words before _ _ _ _ _ (stop_told k t) c s = ap number_of (one_command words (TellStop k) c t s)
  answers_it words before _ _ _ _ _ (script_refused l left it) c s = ap number_of (one_command words (Debug it.based it.asked.name) c it.asked.spelled s)
  answers_it words before _ _ _ _ _ (debugged told left n a taken) c s = ap number_of (one_command words (Debug a.session.based a.asked.asked.name) c a.asked.asked.spelled s)
  answers_it words before _ _ _ _ _ (run_ended status out err left n r) c s = ap number_of (one_command words r.asked.command c r.asked.spelled s)
  answers_it words before _ _ _ _ _ (trial_refused a b l t r) c s = ap number_of (one_command words (Trial a b) c t s)
  answers_it words before _ _ _ _ _ (trial_ended status line end a) c s = ap number_of (one_command words (Trial a.tried.seed a.tried.nodes) c a.tried.spelled s)

  -- ---- faulty words

  is_words : {P : Type 0} (status : Status) → (status ≡ Words → ⊥) → (P → ⊥) → (status ≡ Words) ↔ P
  is_words status other none = ((λ e. absurd (other e)), λ p. absurd (none p))

  -- no run ends with the status of faulty words
  not_words : (end : End) (status : Status) → status_of end ≡ Some status → status ≡ Words → ⊥
  not_words events.Done status h e = absurd (cc)
  not_words (events.Stopped why line) status h e = absurd (cc)
  not_words events.Spent status h e = absurd (cc)
  not_words events.Stuck status h e = absurd (cc)

  pub words_only : WordsExactly
  words_only words before _ _ _ _ _ (faulty_words told n tells) = ((λ _ c s t. n c s), λ _. refl)
  words_only words before _ _ _ _ _ (no_such_watcher c s none) = ((λ _ d s' there. not_there words before c d s s' none there), λ _. refl)
  words_only words before _ _ _ _ _ (refused l it) = is_words Refused (λ e. absurd (cc)) (λ no. no it.asked.command it.asked.spelled it.asked.there)
  words_only words before _ _ _ _ _ (checked it) = is_words Done (λ e. absurd (cc)) (λ no. no (Check it.name) it.spelled tt)
  words_only words before _ _ _ _ _ (listed text a) = is_words Done (λ e. absurd (cc)) (λ no. no (Code a.asked.name) a.asked.spelled tt)
  words_only words before _ _ _ _ _ (code_refused l it) = is_words Refused (λ e. absurd (cc)) (λ no. no (Run CodeFile it.options it.name) it.spelled it.there)
  words_only words before _ _ _ _ _ (built bytes a) = is_words Done (λ e. absurd (cc)) (λ no. no (Build a.asked.name) a.asked.spelled tt)
  words_only words before _ _ _ _ _ (too_long_built it long) = is_words Refused (λ e. absurd (cc)) (λ no. no (Build it.name) it.spelled tt)
  words_only words before _ _ _ _ _ (advised text a) = is_words Done (λ e. absurd (cc)) (λ no. no (Advise a.asked.name) a.asked.spelled tt)
  words_only words before _ _ _ _ _ (has_repr l it has) = is_words Refused (λ e. absurd (cc)) (λ no. no (Advise it.name) it.spelled tt)
  words_only words before _ _ _ _ _ (explained text a) = is_words Refused (λ e. absurd (cc)) (λ no. no (Explain a.name) a.spelled tt)
  words_only words before _ _ _ _ _ (no_fault it) = is_words Done (λ e. absurd (cc)) (λ no. no (Explain it.name) it.spelled tt)
  words_only words before _ _ _ _ _ (stop_told k s) = is_words Done (λ e. absurd (cc)) (λ no. no (TellStop k) s tt)
  words_only words before _ _ _ _ _ (script_refused l left it) = is_words Refused (λ e. absurd (cc)) (λ no. no (Debug it.based it.asked.name) it.asked.spelled tt)
  words_only words before _ _ _ _ _ (debugged told left n a taken) = is_words Done (λ e. absurd (cc)) (λ no. no (Debug a.session.based a.asked.asked.name) a.asked.asked.spelled tt)
  words_only words before _ _ _ _ _ (run_ended status out err left n r) = is_words status (not_words r.end status r.ends) (λ no. no r.asked.command r.asked.spelled r.asked.there)
  words_only words before _ _ _ _ _ (trial_refused a b line s r) = is_words Refused (λ e. absurd (cc)) (λ no. no (Trial a b) s tt)
  words_only words before _ _ _ _ _ (trial_ended status line end a) = is_words status (not_words end status a.ends) (λ no. no (Trial a.tried.seed a.tried.nodes) a.tried.spelled tt)

  -- ---- refusals

  -- a source that is refused isn't run
  refused_not_held : FrontLaws → (c : Command) (kind : FileKind) (n bytes line : List ℕ) (turns : ℕ) (based dump : Bool) (r : Runnable) → TellsRefusal c → RunsFile c kind n turns based dump → Holds kind bytes r → Refusal bytes line → ⊥
  refused_not_held laws (Run Source o a) kind n bytes line turns based dump r tells runs holds why =
      let h = subst (λ k. Holds k bytes r) runs.0 holds in
      not_refused laws bytes why.reason why.refused h.0 h.1
  refused_not_held laws (Run CodeFile o a) kind n bytes line turns based dump r tells runs holds why = tells
  refused_not_held laws (Check a) kind n bytes line turns based dump r tells runs holds why = runs
  refused_not_held laws (Code a) kind n bytes line turns based dump r tells runs holds why = runs
  refused_not_held laws (Build a) kind n bytes line turns based dump r tells runs holds why = runs
  refused_not_held laws (Advise a) kind n bytes line turns based dump r tells runs holds why = runs
  refused_not_held laws (Explain a) kind n bytes line turns based dump r tells runs holds why = runs
  refused_not_held laws (TellStop k) kind n bytes line turns based dump r tells runs holds why = runs
  refused_not_held laws (Debug b a) kind n bytes line turns based dump r tells runs holds why = runs
  refused_not_held laws (Trial a b) kind n bytes line turns based dump r tells runs holds why = runs

  refused_not_run : FrontLaws → (words : List (List ℕ)) (before : Outside) (texts : List ℕ → Option (List ℕ)) → TellsTexts before texts → (job : Job) → IsToRun words before job → (c : Command) (name source line : List ℕ) → Spells words c → HasFile c name → TellsRefusal c → IsText before.files.held name source → Refusal source line → ⊥
  refused_not_run laws words before texts t job a c name source line s f tells h r =
      let sources = one_source words before texts t a.command c a.name name a.bytes source a.spelled (run_file a.command a.kind a.name job.turns job.based job.dump a.runs) a.text s f h in
      refused_not_held laws c a.kind a.name source line job.turns job.based job.dump job.runnable tells (runs_so words before job c a s) (subst (λ x. Holds a.kind x job.runnable) sources a.holds) r

  -- nor are bytes that are no code file
  code_not_run : NotCodeAndFlawed → (words : List (List ℕ)) (before : Outside) (texts : List ℕ → Option (List ℕ)) → TellsTexts before texts → (job : Job) → IsToRun words before job → (o : Options) (name bytes line : List ℕ) → Spells words (Run CodeFile o name) → IsText before.files.held name bytes → CodeRefusal bytes line → ⊥
  code_not_run not_both words before texts t job a o name bytes line s h r =
      let sources = one_source words before texts t a.command (Run CodeFile o name) a.name name a.bytes bytes a.spelled (run_file a.command a.kind a.name job.turns job.based job.dump a.runs) a.text s refl h in
      let runs = runs_so words before job (Run CodeFile o name) a s in
      let holds = subst (λ x. Holds CodeFile x job.runnable) sources (subst (λ k. Holds k a.bytes job.runnable) runs.0 a.holds) in
      not_both bytes holds.0 r.flaw holds.1 r.flawed

  -- a source is refused by one line
  one_line : FrontLaws → (source other line told : List ℕ) → source ≡ other → Refusal source line → Refusal other told → line ≡ told
  one_line laws source other line told f r q =
      let same = one_reason laws source r.reason q.reason r.refused (subst (λ x. IsRefusedFor x q.reason) (sym f) q.refused) in
      r.tells ∙ ap reason_line same ∙ sym q.tells

  -- words that ask this of a text, which is told, ask for no other
  pub one_loaded : (words : List (List ℕ)) (before : Outside) (c : Command) (name source : List ℕ) → Spells words c → HasFile c name → TellsText before name source → (d : Command) (n x : List ℕ) → Spells words d → HasFile d n → IsText before.files.held n x → x ≡ source
  one_loaded words before c name source s f text d n x t g h = one_source words before text.texts text.told d c n name x source t g h s f (told_text before text.texts text.told name source text.there)

  module _ (laws : FrontLaws) (words : List (List ℕ)) (before : Outside) (name source line : List ℕ) (load : IsToLoad words before name) (text : TellsText before name source) (r : Refusal source line) where
    -- a source that is refused is no program's
    no_program : (asks : List ℕ → Command) (it : IsOfProgram words before asks) → HasFile (asks it.name) it.name → ⊥
    no_program asks it f =
        let sources = one_loaded words before load.command name source load.spelled load.file text (asks it.name) it.name it.source it.spelled f it.text in
        not_refused laws source r.reason r.refused it.tree (subst (λ y. IsProgram y it.tree) sources it.is_program)

    -- nor is there a session over it
    no_session : (program : Program) (based : Bool) → IsToDebug words before program based → ⊥
    no_session program based a =
        let sources = one_loaded words before load.command name source load.spelled load.file text (Debug based a.name) a.name a.source a.spelled refl a.text in
        not_refused laws source r.reason r.refused a.accepted.tree (subst (λ y. IsProgram y a.accepted.tree) sources a.accepted.is_program)

  pub refused_only : FrontLaws → RefusesExactly
  refused_only laws words before name source line _ _ _ _ _ load y text r (faulty_words told n tells) = absurd (n load.command load.spelled)
  refused_only laws words before name source line _ _ _ _ _ load y text r (no_such_watcher d s none) = absurd (not_there words before d load.command s load.spelled none load.there)
  refused_only laws words before name source line _ _ _ _ _ load y text r (refused l it) =
      let sources = one_loaded words before load.command name source load.spelled load.file text it.asked.command it.name it.source it.asked.spelled it.asked.file it.text in
      (refl, refl, ap (λ z. z ++ 10 ∷ []) (one_line laws it.source source l line sources it.refusal r), refl)
  refused_only laws words before name source line _ _ _ _ _ load y text r (checked it) = absurd (no_program laws words before name source line load text r Check it refl)
  refused_only laws words before name source line _ _ _ _ _ load y text r (listed told a) = absurd (no_program laws words before name source line load text r Code a.asked refl)
  refused_only laws words before name source line _ _ _ _ _ load y text r (code_refused l it) = absurd (subst TellsRefusal (one_command words load.command (Run CodeFile it.options it.name) load.spelled it.spelled) y)
  refused_only laws words before name source line _ _ _ _ _ load y text r (built bytes a) = absurd (no_program laws words before name source line load text r Build a.asked refl)
  refused_only laws words before name source line _ _ _ _ _ load y text r (too_long_built it long) = absurd (no_program laws words before name source line load text r Build it refl)
  refused_only laws words before name source line _ _ _ _ _ load y text r (advised told a) = absurd (no_program laws words before name source line load text r Advise a.asked refl)
  refused_only laws words before name source line _ _ _ _ _ load y text r (has_repr l it has) = absurd (no_program laws words before name source line load text r Advise it refl)
  refused_only laws words before name source line _ _ _ _ _ load y text r (explained told a) = absurd (subst TellsRefusal (one_command words load.command (Explain a.name) load.spelled a.spelled) y)
  refused_only laws words before name source line _ _ _ _ _ load y text r (no_fault it) = absurd (no_program laws words before name source line load text r Explain it refl)
  refused_only laws words before name source line _ _ _ _ _ load y text r (stop_told k s) = absurd (subst TellsRefusal (one_command words load.command (TellStop k) load.spelled s) y)
  refused_only laws words before name source line _ _ _ _ _ load y text r (script_refused l left it) = absurd (no_session laws words before name source line load text r it.program it.based it.asked)
  refused_only laws words before name source line _ _ _ _ _ load y text r (debugged told left n a taken) = absurd (no_session laws words before name source line load text r a.session.program a.session.based a.asked.asked)
  refused_only laws words before name source line _ _ _ _ _ load y text r (run_ended status out err left n q) =
      absurd (refused_not_run laws words before text.texts text.told q.job q.asked load.command name source line load.spelled load.file y (told_text before text.texts text.told name source text.there) r)
  refused_only laws words before name source line _ _ _ _ _ load y text r (trial_refused a b l q x) = absurd (no_file words load.command name a b q load.spelled load.file)
  refused_only laws words before name source line _ _ _ _ _ load y text r (trial_ended status l end a) = absurd (no_file words load.command name a.tried.seed a.tried.nodes a.tried.spelled load.spelled load.file)

  -- bytes are refused by one line
  one_flaw_line : OneFlaw → (bytes other line told : List ℕ) → bytes ≡ other → CodeRefusal bytes line → CodeRefusal other told → line ≡ told
  one_flaw_line one bytes other line told same r q =
      let flaw = one bytes r.flaw q.flaw r.flawed (subst (λ x. IsFlawed x q.flaw) (sym same) q.flawed) in
      r.tells ∙ ap flaw_line flaw ∙ sym q.tells

  pub code_refused_only : OneFlaw → NotCodeAndFlawed → RefusesCodeExactly
  code_refused_only one not_both words before o bytes line _ _ _ _ _ ask there r (no_such_watcher d s none) = absurd (not_there words before d (Run CodeFile o ask.name) s ask.spelled none there)
  code_refused_only one not_both words before o bytes line _ _ _ _ _ ask there r (refused l it) = absurd (subst TellsRefusal (one_command words it.asked.command (Run CodeFile o ask.name) it.asked.spelled ask.spelled) it.tells)
  code_refused_only one not_both words before o bytes line _ _ _ _ _ ask there r (code_refused l it) =
      let sources = one_loaded words before (Run CodeFile o ask.name) ask.name bytes ask.spelled refl ask.text (Run CodeFile it.options it.name) it.name it.bytes it.spelled refl it.text in
      (refl, refl, ap (λ z. z ++ 10 ∷ []) (one_flaw_line one it.bytes bytes l line sources it.refusal r), refl)
  code_refused_only one not_both words before o bytes line _ _ _ _ _ ask there r (run_ended status out err left n q) =
      absurd (code_not_run not_both words before ask.text.texts ask.text.told q.job q.asked o ask.name bytes line ask.spelled (told_text before ask.text.texts ask.text.told ask.name bytes ask.text.there) r)
  code_refused_only one not_both words before o bytes line st out e left n ask there r a = let number = answers_it words before st out e left n a (Run CodeFile o ask.name) ask.spelled in absurd (omega (arith, number))

  -- ---- what is asked of a source

  module _ (words : List (List ℕ)) (before : Outside) (asks : List ℕ → Command) (source : List ℕ) (ask : AsksOf words before asks source) (file : HasFile (asks ask.name) ask.name) where
    -- another request of these words has this source
    pub same_source : (d : Command) (n x : List ℕ) → Spells words d → HasFile d n → IsText before.files.held n x → x ≡ source
    same_source d n x s f h = one_loaded words before (asks ask.name) ask.name source ask.spelled file ask.text d n x s f h

    -- a refusal is one of this source
    pub refused_so : (line : List ℕ) (it : IsToRefuse words before line) → IsRefusedFor source it.refusal.reason
    refused_so line it =
        subst (λ y. IsRefusedFor y it.refusal.reason) (same_source it.asked.command it.name it.source it.asked.spelled it.asked.file it.text) it.refusal.refused

    -- and a program has this source
    pub program_so : (others : List ℕ → Command) (it : IsOfProgram words before others) → HasFile (others it.name) it.name → IsProgram source it.tree
    program_so others it f = subst (λ y. IsProgram y it.tree) (same_source (others it.name) it.name it.source it.spelled f it.text) it.is_program

  -- ---- checks

  pub checks_only : FrontLaws → ChecksExactly
  checks_only laws words before source _ _ _ _ _ ask (no_such_watcher d s none) = absurd (not_there words before d (Check ask.name) s ask.spelled none tt)
  checks_only laws words before source _ _ _ _ _ ask (refused l it) =
      let why = refused_so words before Check source ask refl l it in
      (((λ (e : Refused ≡ Done). absurd (cc)), λ p. absurd (not_refused laws source it.refusal.reason why p.0 p.1)), refl, (λ (e : Refused ≡ Done). absurd (cc)), refl)
  checks_only laws words before source _ _ _ _ _ ask (checked it) =
      (((λ _. (it.tree, program_so words before Check source ask refl Check it refl)), (λ _. refl)), refl, (λ _. refl), refl)
  checks_only laws words before source _ _ _ _ _ ask (run_ended status out err left n q) = absurd (runs_so words before q.job (Check ask.name) q.asked ask.spelled)
  checks_only laws words before source st out e left n ask a = let number = answers_it words before st out e left n a (Check ask.name) ask.spelled in absurd (omega (arith, number))

  -- ---- listings

  pub lists_only : FrontLaws → ListsExactly
  lists_only laws words before source _ _ _ _ _ ask (no_such_watcher d s none) = absurd (not_there words before d (Code ask.name) s ask.spelled none tt)
  lists_only laws words before source _ _ _ _ _ ask (refused l it) =
      let why = refused_so words before Code source ask refl l it in
      let none = not_refused laws source it.refusal.reason why in
      (((λ (e : Refused ≡ Done). absurd (cc)), λ p. absurd (none p.0 p.1)), (λ tree p. absurd (none tree p)), inr (refl, refl), refl)
  lists_only laws words before source _ _ _ _ _ ask (listed text a) =
      let it = a.asked in
      let program = program_so words before Code source ask refl Code it refl in
      (((λ _. (it.tree, program)), (λ _. refl)), (λ tree p. (subst (λ y. IsListing y text) (one_program_tree laws source it.tree tree program p) a.is_listing, refl)), inl refl, refl)
  lists_only laws words before source _ _ _ _ _ ask (run_ended status out err left n q) = absurd (runs_so words before q.job (Code ask.name) q.asked ask.spelled)
  lists_only laws words before source st out e left n ask a = let number = answers_it words before st out e left n a (Code ask.name) ask.spelled in absurd (omega (arith, number))

  -- ---- advice

  -- a tree without declarations has none
  has_none : (tree : Tree) (line : List ℕ) → tree.modes ≡ [] → HasRepr tree line → ⊥
  has_none tree line bare has = let e = sym (ap first_line bare) ∙ has.first in absurd (cc)

  -- a tree has one first line with declarations
  one_repr : (one two : Tree) (line told : List ℕ) → one ≡ two → HasRepr one line → HasRepr two told → line ≡ told
  one_repr one two line told same h k =
      let lines : Some h.at ≡ Some k.at = sym h.first ∙ ap (λ (t : Tree). first_line t.modes) same ∙ k.first in
      let at : h.at ≡ k.at = cc in
      h.tells ∙ ap has_repr_line at ∙ sym k.tells

  pub advises_only : FrontLaws → AdvisesExactly
  advises_only laws words before source _ _ _ _ _ ask (no_such_watcher d s none) = absurd (not_there words before d (Advise ask.name) s ask.spelled none tt)
  advises_only laws words before source _ _ _ _ _ ask (refused l it) =
      let why = refused_so words before Advise source ask refl l it in
      let none = not_refused laws source it.refusal.reason why in
      (((λ (e : Refused ≡ Done). absurd (cc)), λ p. absurd (none p.0 p.1)), (λ tree p bare. absurd (none tree p)), (λ tree line p has. absurd (none tree p)), refl)
  advises_only laws words before source _ _ _ _ _ ask (advised text a) =
      let it = a.asked in
      let sources = same_source words before Advise source ask refl (Advise it.name) it.name it.source it.spelled refl it.text in
      let program = program_so words before Advise source ask refl Advise it refl in
      let is = subst (λ y. IsAdvised y it.tree text) sources a.is_advised in
      let one = one_program_tree laws source it.tree in (
        ((λ _. (it.tree, program, is.bare)), (λ _. refl)),
        (λ tree p bare. (subst (λ y. IsAdvised source y text) (one tree program p) is, refl)),
        (λ tree line p has. absurd (has_none tree line (ap (λ (y : Tree). y.modes) (sym (one tree program p)) ∙ is.bare) has)),
        refl,
      )
  advises_only laws words before source _ _ _ _ _ ask (has_repr l it has) =
      let program = program_so words before Advise source ask refl Advise it refl in
      let none : (other : Tree) → IsProgram source other → other.modes ≡ [] → ⊥ =
      λ other q bare. has_none it.tree l (ap (λ (y : Tree). y.modes) (one_program_tree laws source it.tree other program q) ∙ bare) has in (
        ((λ (e : Refused ≡ Done). absurd (cc)), λ q. absurd (none q.0 q.1 q.2)),
        (λ other q bare. absurd (none other q bare)),
        (λ other line q k. (refl, refl, ap (λ z. z ++ 10 ∷ []) (one_repr it.tree other l line (one_program_tree laws source it.tree other program q) has k))),
        refl,
      )
  advises_only laws words before source _ _ _ _ _ ask (run_ended status out err left n q) = absurd (runs_so words before q.job (Advise ask.name) q.asked ask.spelled)
  advises_only laws words before source st out e left n ask a = let number = answers_it words before st out e left n a (Advise ask.name) ask.spelled in absurd (omega (arith, number))

  -- ---- explanations

  pub explains_only : FrontLaws → ExplainsExactly
  explains_only laws words before source _ _ _ _ _ ask (no_such_watcher d s none) = absurd (not_there words before d (Explain ask.name) s ask.spelled none tt)
  explains_only laws words before source _ _ _ _ _ ask (refused l it) = absurd (subst TellsRefusal (one_command words it.asked.command (Explain ask.name) it.asked.spelled ask.spelled) it.tells)
  explains_only laws words before source _ _ _ _ _ ask (explained text a) =
      let sources = same_source words before Explain source ask refl (Explain a.name) a.name a.source a.spelled refl a.text_of in
      let why = subst (λ z. IsRefusedFor z a.reason) sources a.refused_for in
      let is = subst (λ z. IsExplained z a.reason text) sources a.is_explained in
      ((λ tree p. absurd (not_refused laws source a.reason why tree p)), (λ other q. (refl, subst (λ z. IsExplained source z text) (one_reason laws source a.reason other why q) is)), refl, refl)
  explains_only laws words before source _ _ _ _ _ ask (no_fault it) =
      let program = program_so words before Explain source ask refl Explain it refl in
      ((λ _ _. (refl, refl)), (λ why q. absurd (not_refused laws source why q it.tree program)), refl, refl)
  explains_only laws words before source _ _ _ _ _ ask (run_ended status out err left n q) = absurd (runs_so words before q.job (Explain ask.name) q.asked ask.spelled)
  explains_only laws words before source st out e left n ask a = let number = answers_it words before st out e left n a (Explain ask.name) ask.spelled in absurd (omega (arith, number))

  -- ---- runs

  -- a source has one program
  pub one_program : FrontLaws → (source : List ℕ) (p q : Program) → Accepted source p → Accepted source q → p ≡ q
  one_program laws source p q a b =
      a.meaning ∙ ap program_of (one_program_tree laws source a.tree b.tree a.is_program b.is_program) ∙ sym b.meaning

  one_input : (before : Outside) (input : List ℕ) → before.input.held ≡ Some input → (a b : List ℕ) → IsInput before.input.held a → IsInput before.input.held b → a ≡ b
  one_input before input t a b h k =
      let p : input ≡ a = subst (λ x. IsInput x a) t h in
      let q : input ≡ b = subst (λ x. IsInput x b) t k in
      sym p ∙ q

  one_turns : (c : Command) (k l : FileKind) (n m : List ℕ) (s t : ℕ) (a b d e : Bool) → RunsFile c k n s a d → RunsFile c l m t b e → (k ≡ l) × (s ≡ t) × (a ≡ b) × (d ≡ e)
  one_turns (Run f o x) k l n m s t a b d e h i = (h.0 ∙ sym i.0, h.2 ∙ sym i.2, h.3 ∙ sym i.3, h.4 ∙ sym i.4)
  one_turns (Check x) k l n m s t a b d e h i = absurd h
  one_turns (Code x) k l n m s t a b d e h i = absurd h
  one_turns (Build x) k l n m s t a b d e h i = absurd h
  one_turns (Advise x) k l n m s t a b d e h i = absurd h
  one_turns (Explain x) k l n m s t a b d e h i = absurd h
  one_turns (TellStop x) k l n m s t a b d e h i = absurd h
  one_turns (Debug f x) k l n m s t a b d e h i = absurd h
  one_turns (Trial x y) k l n m s t a b d e h i = absurd h

  -- bytes hold one thing
  one_runnable : FrontLaws → OneImage → (kind : FileKind) (bytes : List ℕ) (r q : Runnable) → Holds kind bytes r → Holds kind bytes q → r ≡ q
  one_runnable laws images Source bytes r q h k = h.2 ∙ ap of_tree (one_program_tree laws bytes h.0 k.0 h.1 k.1) ∙ sym k.2
  one_runnable laws images CodeFile bytes r q h k = h.2 ∙ ap of_image (images bytes h.0 k.0 h.1 k.1) ∙ sym k.2

  -- the words ask for one run
  one_job : FrontLaws → OneImage → (words : List (List ℕ)) (before : Outside) (texts : List ℕ → Option (List ℕ)) (input : List ℕ) → TellsTexts before texts → before.input.held ≡ Some input → (j k : Job) → IsToRun words before j → IsToRun words before k → j ≡ k
  one_job laws images words before texts input t i j k a b =
      let f = run_file a.command a.kind a.name j.turns j.based j.dump a.runs in
      let g = run_file b.command b.kind b.name k.turns k.based k.dump b.runs in
      let sources = one_source words before texts t a.command b.command a.name b.name a.bytes b.bytes a.spelled f a.text b.spelled g b.text in
      let left = one_input before input i j.input k.input a.input b.input in
      let runs = subst (λ c. RunsFile c b.kind b.name k.turns k.based k.dump) (one_command words b.command a.command b.spelled a.spelled) b.runs in
      let bounds = one_turns a.command a.kind b.kind a.name b.name j.turns k.turns j.based k.based j.dump k.dump a.runs runs in
      let here : Holds b.kind b.bytes j.runnable = subst (λ d. Holds d b.bytes j.runnable) bounds.0 (subst (λ y. Holds a.kind y j.runnable) sources a.holds) in
      let runnable = one_runnable laws images b.kind b.bytes j.runnable k.runnable here b.holds in
      let watchers : j.watchers ≡ k.watchers = a.watched ∙ ap (λ c. asked_for (watched_by c) before.watchers) (one_command words a.command b.command a.spelled b.spelled) ∙ sym b.watched in
      λ x. record { runnable = runnable x; input = left x; turns = bounds.1 x; based = bounds.2 x; dump = bounds.3 x; watchers = watchers x }

  -- the run that is asked for ends so, and these are its events and its dump
  record Ended (job : Job) (out : List ℕ) (end : End) (events : List Event) (dump : List ℕ) : Type 0 where
    pub means : Meant job.runnable job.input job.turns job.based out end
    pub told : means.events ≡ events
    pub dumped : means.dump ≡ dump

  pub ends_only : FrontLaws → OneImage → NotCodeAndFlawed → EndsExactly
  ends_only laws images not_both words before input job said end _ _ _ _ _ t i a m (faulty_words told n tells) = absurd (n a.command a.spelled)
  ends_only laws images not_both words before input job said end _ _ _ _ _ t i a m (no_such_watcher d s' none) = absurd (not_there words before d a.command s' a.spelled none a.there)
  ends_only laws images not_both words before input job said end _ _ _ _ _ t i a m (refused l it) = absurd (refused_not_run laws words before t.0 t.1 job a it.asked.command it.name it.source l it.asked.spelled it.asked.file it.tells it.text it.refusal)
  ends_only laws images not_both words before input job said end _ _ _ _ _ t i a m (code_refused l it) = absurd (code_not_run not_both words before t.0 t.1 job a it.options it.name it.bytes l it.spelled it.text it.refusal)
  ends_only laws images not_both words before input job said end _ _ _ _ _ t i a m (checked it) = absurd (runs_so words before job (Check it.name) a it.spelled)
  ends_only laws images not_both words before input job said end _ _ _ _ _ t i a m (listed text l) = absurd (runs_so words before job (Code l.asked.name) a l.asked.spelled)
  ends_only laws images not_both words before input job said end _ _ _ _ _ t i a m (built bytes l) = absurd (runs_so words before job (Build l.asked.name) a l.asked.spelled)
  ends_only laws images not_both words before input job said end _ _ _ _ _ t i a m (too_long_built it long) = absurd (runs_so words before job (Build it.name) a it.spelled)
  ends_only laws images not_both words before input job said end _ _ _ _ _ t i a m (advised text l) = absurd (runs_so words before job (Advise l.asked.name) a l.asked.spelled)
  ends_only laws images not_both words before input job said end _ _ _ _ _ t i a m (has_repr k it has) = absurd (runs_so words before job (Advise it.name) a it.spelled)
  ends_only laws images not_both words before input job said end _ _ _ _ _ t i a m (explained text l) = absurd (runs_so words before job (Explain l.name) a l.spelled)
  ends_only laws images not_both words before input job said end _ _ _ _ _ t i a m (no_fault it) = absurd (runs_so words before job (Explain it.name) a it.spelled)
  ends_only laws images not_both words before input job said end _ _ _ _ _ t i a m (stop_told k s') = absurd (runs_so words before job (TellStop k) a s')
  ends_only laws images not_both words before input job said end _ _ _ _ _ t i a m (script_refused l left it) = absurd (runs_so words before job (Debug it.based it.asked.name) a it.asked.spelled)
  ends_only laws images not_both words before input job said end _ _ _ _ _ t i a m (debugged told left n q taken) = absurd (runs_so words before job (Debug q.session.based q.asked.asked.name) a q.asked.asked.spelled)
  ends_only laws images not_both words before input job said end _ _ _ _ _ t i a m (trial_refused n k l q r) = absurd (runs_so words before job (Trial n k) a q)
  ends_only laws images not_both words before input job said end _ _ _ _ _ t i a m (trial_ended status l last b) = absurd (runs_so words before job (Trial b.tried.seed b.tried.nodes) a b.tried.spelled)
  ends_only laws images not_both words before input job said end _ _ _ _ _ t i a m (run_ended status out err left n r) =
      let same = one_job laws images words before t.0 input t.1 i r.job job r.asked a in
      let moved = subst (λ (j : Job). Ended j out r.end r.means.events r.means.dump) same (record { means = r.means; told = refl; dumped = refl }) in
      let both = one_meant job.runnable job.input job.turns job.based out said r.end end moved.means m in (
        sym (ap status_of both.1) ∙ r.ends,
        both.0,
        r.tells ∙ (λ x. (if (ap (λ (j : Job). j.dump) same) x then (sym moved.dumped ∙ both.3) x else []) ++ reports_of ((ap (λ (j : Job). j.watchers) same) x) ((sym moved.told ∙ both.2) x) ++ error_line (both.1 x)),
        r.writes ∙ ap (λ es. more (prints es) before.output.calls) (sym moved.told ∙ both.2),
      )

  -- ---- trials

  no_trial_read : (words : List (List ℕ)) (before after : Outside) (out : List ℕ) (a b : ℕ) → Spells words (Trial a b) → ReadCause words before after out → ⊥
  no_trial_read words before after _ a b s (load_failed h) = no_file words h.asked.command h.name a b s h.asked.spelled h.asked.file
  no_trial_read words before after _ a b s (script_failed h) = no_file words (Debug h.based h.asked.name) h.asked.name a b s h.asked.spelled refl
  no_trial_read words before after _ a b s (read_failed out h) = runs_so words before h.reading.job (Trial a b) h.reading.asked s

  pub trial_reads_nothing : TrialsReadNothing
  trial_reads_nothing words before after a b s h = no_trial_read words before after h.out a b s h.cause

  -- the words ask for one trial, whose run has one end
  one_trial : FrontLaws → OneMeaning → (words : List (List ℕ)) (l k : List ℕ) (e d : End) → IsTried words l e → IsTried words k d → (l ≡ k) × (e ≡ d)
  one_trial laws meaning words l k e d a b =
      let same = one_command words (Trial a.seed a.nodes) (Trial b.seed b.nodes) a.spelled b.spelled in
      let program = one_program laws trial_source a.program b.program a.accepted b.accepted in
      let moved = subst (λ (p : Program). Means p (trial_input a.seed a.nodes) (2 ^ 63 - 1) true a.printed e) program a.means in
      let there = subst (λ (i : List ℕ). Means b.program i (2 ^ 63 - 1) true a.printed e) (ap input_for same) moved in
      let both = meaning b.program (trial_input b.seed b.nodes) (2 ^ 63 - 1) true a.printed b.printed e d there b.means in
      (a.is_line ∙ ap₂ line_for same both.0 ∙ sym b.is_line, both.1)

  pub tries_only : FrontLaws → OneMeaning → TriesExactly
  tries_only laws meaning words before line end _ _ _ _ _ a (no_such_watcher d s none) = absurd (not_there words before d (Trial a.seed a.nodes) s a.spelled none tt)
  tries_only laws meaning words before line end _ _ _ _ _ a (refused l it) = absurd (no_file words it.asked.command it.name a.seed a.nodes a.spelled it.asked.spelled it.asked.file)
  tries_only laws meaning words before line end _ _ _ _ _ a (run_ended status out err left n q) = absurd (runs_so words before q.job (Trial a.seed a.nodes) q.asked a.spelled)
  tries_only laws meaning words before line end _ _ _ _ _ a (trial_refused n k l s r) = absurd (not_refused laws trial_source r.reason r.refused a.accepted.tree a.accepted.is_program)
  tries_only laws meaning words before line end _ _ _ _ _ a (trial_ended status l last b) =
      let same = one_trial laws meaning words l line last end b.tried a in
      (sym (ap status_of same.1) ∙ b.ends, ap₂ trial_output same.1 same.0, ap error_line same.1, refl)
  tries_only laws meaning words before line end st out e left n a b = let number = answers_it words before st out e left n b (Trial a.seed a.nodes) a.spelled in absurd (omega (arith, number))
