-- How the parts of a call make its headline.
use Rattle.std.proofs.Common.{◌≡◌, ◌⊎◌, inl, inr, ◌<◌, ℕ, List, [], ◌∷◌, ◌++◌, ◌∙◌, length, take, Option, Some, if◌then◌else◌, refl, sym, ap, subst, append_assoc}
use Rattle.std.specs.Io.KnownBytes.{Appends}
use Rattle.std.proofs.KnownBytes.{Appends-nil}
use Rattle.setl_io.specs.Files.{IsText}
use Rattle.setl_model_runs.specs.Events as run
use Rattle.setl_tree.specs.declared.tree.Tree.{Tree}
use Rattle.setl_machine_control.specs.Declaring.{Modes}
use Rattle.setl_machine_control.specs.Answers.{kind_of}
use Rattle.setl_machine_control.specs.declared.end.End.{End}
use Rattle.setl_machine_control.specs.declared.end.End.TheVariants as end
use Rattle.setl_top_status.specs.Ends.{status_of, error_line}
use Rattle.setl_top_status.specs.Lines.{TriesLine, fault_line}
use Rattle.setl_top_status.specs.Reasons.{reason_line}
use Rattle.setl_top_status.specs.Seen.{Seen, CountRose, CountStays, LoadsOnce, FailsOnce, LoadsAtMost, one_piece}
use Rattle.setl_top_status.specs.code.Tells.{Tells, whole, failed, starved as starved_in, no_memory}
use Rattle.setl_top_status.specs.code.Writes.{Written, all_written, write_failed, write_starved, no_text}
use Rattle.setl_top_status.specs.declared.fault.Fault.TheVariants as fault
use Rattle.setl_top_status.specs.declared.status.Status.{Status}
use Rattle.setl_top_status.specs.declared.status.Status.TheVariants.{Done, Refused, Words, Stopped, Spent}
use Rattle.setl_explain_words.specs.Texts.{stop_text}
use Rattle.setl_explain_words.specs.declared.stop.Stop.{Stop}
use Rattle.setl_top_status.specs.code.Loads.{failed_read, starved_read}
use Rattle.setl_top_status.specs.declared.reason.Reason.{Reason}
use Rattle.setl_top_status.specs.declared.reason.Reason.TheVariants as reason
use Rattle.setl_top.specs.Accepted.{IsRefusedFor}
use Rattle.setl_top.specs.Explained.{IsExplained}
use Rattle.setl_top.specs.code.Explains.{WritesExplanation, explained_so, starved_of, ExplainsText, no_fault_in, refused_for, not_known, Explains, of_text, of_long, not_there, refused_if_done}
use Rattle.setl_top.specs.code.Lists.{Lists, listed_so, not_listed}
use Rattle.setl_top.specs.code.Loads.{Loaded, NotLoaded, not_accepted, not_read, no_room, Checks, checked_so, not_checked}
use Rattle.setl_top.specs.code.Runs.{Streams, streams, counted, RunsTo, RunsInto, WritesInto, RunsToRead, RunsUpTo, Runs, TakesInput}
use Rattle.setl_top.specs.code.Builds.{code_written, code_too_long, code_starved, Builds, built_so, not_built}
use Rattle.setl_top.specs.code.Ready.{LoadedReady, NotReady, NotCode, flawed_so, unread_so}
use Rattle.setl_top.specs.declared.ready.Ready.{Ready}
use Rattle.setl_top.specs.Runnable.{Runnable}
use Rattle.setl_top_images.specs.CodeFiles.{flaw_line}
use Rattle.setl_top_images.specs.declared.images.Flaw.TheVariants.{TooLong}
use Rattle.setl_top_words.specs.declared.reading.FileKind.{FileKind}
use Rattle.setl_top_words.specs.declared.reading.FileKind.TheVariants.{Source, CodeFile}
use Rattle.setl_top.specs.code.Tells.{TellsEnd}
use Rattle.setl_top.specs.Headline.{Job, IsInput, IsToLoad, IsToRun, IsOfProgram, IsToList, IsToBuild, IsToExplain, IsAtRead, TellsRefusal, Answers, faulty_words, refused, code_refused, checked, listed, built, too_long_built, explained, no_fault, stop_told, run_ended, UpToWrite, no_program, at_state, in_print, in_write, in_listing, in_code_file, in_explanation, in_stop, load_failed, read_failed, no_such_watcher, LeavesRest, LoadsAsked, loads_it, loads_none, IsQuiet, at_work, untold, at_end, Ended, ReadFailed, WriteFailed, MemoryFailed, print_failed, out_failed, err_failed, InputLeft, not_read as run_not_read, read_from, Headline}
use Rattle.setl_top.specs.Outside.{Outside}
use Rattle.setl_top.specs.Watching.{asked_for, headed, IsThere, no_watcher_line, all_told, reports_of}
use Rattle.setl_watch.specs.Watches.{Watched, watched, all_reported, told_all}
use Rattle.setl_top_words.specs.Words.{Options, dumps, IsFaulty, Spells, HasFile, watched_by, Command, Run, Check, Code, Build, Explain, TellStop, OneCommand}
use Rattle.setl_top_words.specs.Told.{TellsFaulty}

-- the last line of an end was told, or not
pub told : (words : List (List ℕ)) (before after : Outside) (status : Status) (out err : List ℕ) → (Ended words before after status → Headline words before after status) → Answers words before status out err after.input.held after.output.calls → Appends before.output.held after.output.held out → IsQuiet words before after → (r : Status) → Tells status err before.error_output after.error_output r → Headline words before after r
told words before after status out err ends a o q _ (whole h p k s) =
    ends (record { out = out; err = err; answer = a; out_gained = o; err_gained = h; quiet = q; told = k; piece = p; silent = s })
told words before after status out err ends a o q _ (failed h) =
    record { out = out; cause = err_failed out err (record { status = status; answer = a; fails = h; quiet = q }); out_gained = o }
told words before after status out err ends a o q _ (starved_in h) =
    record { out = out; cause = at_end status out err a h; out_gained = o; files = inl q.files; input = q.input; output = q.output }
told words before after status out err ends a o q _ (no_memory h) =
    record { out = out; cause = untold status out err a h; out_gained = o; files = inl q.files; input = q.input; output = q.output }

-- ---- where the input and the output are as before

-- nothing was added, where nothing changed
pub appends_same : (a b : Seen (List ℕ)) → b ≡ a → Appends a.held b.held []
appends_same a b e = subst (λ (c : Seen (List ℕ)). Appends a.held c.held []) (sym e) (Appends-nil a.held)

-- and no fault was counted
pub count_same : {A : Type 0} (a b : Seen A) → b ≡ a → CountStays a b
count_same {A = A} a b e = ap (λ (c : Seen A). c.faults) e

-- what was held is held
pub held_same : {A : Type 0} (a b : Seen A) → b ≡ a → b.held ≡ a.held
held_same {A = A} a b e = ap (λ (c : Seen A). c.held) e

-- nor was a call or a piece
pub calls_same : {A : Type 0} (a b : Seen A) → b ≡ a → b.calls ≡ a.calls
calls_same {A = A} a b e = ap (λ (c : Seen A). c.calls) e

-- an answer with this count of pieces, where the input is as before
answer_there : (words : List (List ℕ)) (before after : Outside) (status : Status) (out err : List ℕ) (pieces : Option ℕ) → Answers words before status out err before.input.held pieces → after.input ≡ before.input → after.output.calls ≡ pieces → Answers words before status out err after.input.held after.output.calls
answer_there words before after status out err pieces a same count =
    subst (Answers words before status out err after.input.held) (sym count)
    (subst (λ left. Answers words before status out err left pieces) (sym (held_same before.input after.input same)) a)

-- and where the output is, too
answer_where : (words : List (List ℕ)) (before after : Outside) (status : Status) (out err : List ℕ) → Answers words before status out err before.input.held before.output.calls → LeavesRest before after → Answers words before status out err after.input.held after.output.calls
answer_where words before after status out err a rest = answer_there words before after status out err before.output.calls a rest.input (calls_same before.output after.output rest.output)

pub quiet_where : (words : List (List ℕ)) (before after : Outside) → LoadsAsked words before after → LeavesRest before after → IsQuiet words before after
quiet_where words before after f rest =
    record { files = f; input = count_same before.input after.input rest.input; output = count_same before.output after.output rest.output }

-- ---- the one load

-- the file that a command has was loaded
pub loads : (words : List (List ℕ)) (before after : Outside) (command : Command) (name : List ℕ) → Spells words command → HasFile command name → IsThere (watched_by command) before.watchers → LoadsOnce name before.files after.files → LoadsAsked words before after
loads words before after command name s f there once = loads_it name (record { command = command; spelled = s; file = f; there = there }) once

-- or memory was refused before
pub loads_at_most : (words : List (List ℕ)) (before after : Outside) (command : Command) (name : List ℕ) → Spells words command → HasFile command name → IsThere (watched_by command) before.watchers → LoadsAtMost name before.files after.files → LoadsAsked words before after ⊎ (after.files ≡ before.files)
loads_at_most words before after command name s f there (inl once) = inl (loads words before after command name s f there once)
loads_at_most words before after command name s f there (inr same) = inr same

-- it failed
pub load_fails : (words : List (List ℕ)) (before after : Outside) (command : Command) (name : List ℕ) → Spells words command → HasFile command name → IsThere (watched_by command) before.watchers → LeavesRest before after → FailsOnce name before.files after.files → TriesLine (fault_line fault.Read) before.error_output after.error_output → ReadFailed words before after
load_fails words before after command name s f there rest once h = record {
  out = [];
  cause = load_failed (record { name = name; asked = record { command = command; spelled = s; file = f; there = there }; failed = once; input = rest.input; output = rest.output });
  out_gained = appends_same before.output after.output rest.output;
  tried = h;
}

-- words that spell a command without a file ask for none
pub no_file : OneCommand → (words : List (List ℕ)) (before : Outside) (command : Command) → Spells words command → ((name : List ℕ) → HasFile command name → ⊥) → (name : List ℕ) → IsToLoad words before name → ⊥
no_file one words before command s none name a = none name (subst (λ (c : Command). HasFile c name) (one words a.command command a.spelled s) a.file)

-- ---- where nothing is written

-- the last line was told, or not
pub told_alone : (words : List (List ℕ)) (before after : Outside) (status : Status) (err : List ℕ) → (Ended words before after status → Headline words before after status) → Answers words before status [] err before.input.held before.output.calls → LoadsAsked words before after → LeavesRest before after → (r : Status) → Tells status err before.error_output after.error_output r → Headline words before after r
told_alone words before after status err ends a f rest r t =
    told words before after status [] err ends (answer_where words before after status [] err a rest) (appends_same before.output after.output rest.output) (quiet_where words before after f rest) r t

-- memory was refused before anything was told
pub starved : (words : List (List ℕ)) (before after : Outside) → LoadsAsked words before after ⊎ (after.files ≡ before.files) → LeavesRest before after → TriesLine (fault_line fault.NoMemory) before.error_output after.error_output → MemoryFailed words before after
starved words before after f rest h = record {
  out = [];
  cause = at_work [] no_program h;
  out_gained = appends_same before.output after.output rest.output;
  files = f;
  input = count_same before.input after.input rest.input;
  output = count_same before.output after.output rest.output;
}

-- what is told of faulty words was told, or not
pub faulty_ends : (words : List (List ℕ)) (before after : Outside) (text : List ℕ) → IsFaulty words → TellsFaulty words text → after.files ≡ before.files → LeavesRest before after → (r : Status) → Tells Words text before.error_output after.error_output r → Headline words before after r
faulty_ends words before after text h tells f rest r t =
    told_alone words before after Words text (λ e. e) (faulty_words text h tells) (loads_none (λ name a. h a.command a.spelled) f) rest r t

-- what is told where the watcher that is asked for isn't there was told, or not
pub no_watcher_ends : OneCommand → (words : List (List ℕ)) (before after : Outside) (command : Command) → Spells words command → (IsThere (watched_by command) before.watchers → ⊥) → after.files ≡ before.files → LeavesRest before after → (r : Status) → Tells Words no_watcher_line before.error_output after.error_output r → Headline words before after r
no_watcher_ends one words before after command s none f rest r t =
    let unasked : (name : List ℕ) → IsToLoad words before name → ⊥ = λ name a. none (subst (λ (c : Command). IsThere (watched_by c) before.watchers) (one words a.command command a.spelled s) a.there) in
    told_alone words before after Words no_watcher_line (λ e. e) (no_such_watcher command s none) (loads_none unasked f) rest r t

-- a source wasn't loaded
pub not_loaded : (words : List (List ℕ)) (before after : Outside) (command : Command) (name : List ℕ) → Spells words command → HasFile command name → TellsRefusal command → IsThere (watched_by command) before.watchers → LeavesRest before after → (r : Status) → NotLoaded name before.files after.files before.error_output after.error_output r → Headline words before after r
not_loaded words before after command name s f told_there there rest _ (not_accepted source reason r t why e h) =
    let line : List ℕ = reason_line reason in
    let load : IsToLoad words before name = record { command = command; spelled = s; file = f; there = there } in
    told_alone words before after Refused (line ++ 10 ∷ []) (λ e. e) (refused line (record { name = name; source = source; asked = load; tells = told_there; text = t; refusal = record { reason = reason; refused = why; tells = refl } })) (loads_it name load e) rest r h
not_loaded words before after command name s f told_there there rest _ (not_read once h) = load_fails words before after command name s f there rest once h
not_loaded words before after command name s f told_there there rest _ (no_room e h) = starved words before after (loads_at_most words before after command name s f there e) rest h

-- ---- runs

-- what is told of an end, behind a load that told nothing, with the same declarations and watchers
pub tells_then : (modes others : Modes) (h k : Watched) (e : End) (err mid err' : Seen (List ℕ)) (r : Status) → modes ≡ others → h ≡ k → mid ≡ err → TellsEnd modes h e mid err' r → TellsEnd others k e err err' r
tells_then modes others h k e err mid err' r same heard still told =
    subst (λ ms. TellsEnd ms k e err err' r) same
    (subst (λ x. TellsEnd modes x e err err' r) heard (subst (λ (o : Seen (List ℕ)). TellsEnd modes h e o err' r) still told))

-- what is told where a text stands before the reports
told_headed : (text : List ℕ) (h : Watched) (line : List ℕ) → all_told (headed text h) ++ line ≡ text ++ all_told h ++ line
told_headed text h line = ap (λ xs. xs ++ line) (append_assoc text h.reports (all_reported h.watchers))

-- the watchers of a run, before it
abbrev pub listening : Options → Outside → Watched
listening asked before = watched (asked_for asked.watch before.watchers) []

abbrev pub job_of : Options → Runnable → List ℕ → Outside → Job
job_of asked r input before = record { runnable = r; input = input; turns = asked.turns; based = asked.based; dump = dumps asked; watchers = asked_for asked.watch before.watchers }

module _ (words : List (List ℕ)) (before after : Outside) (heard : Watched) (kind : FileKind) (asked : Options) (name : List ℕ) (ready : Ready) (s : Spells words (Run kind asked name)) (there : IsThere asked.watch before.watchers) (l : LoadedReady kind before.files.held name ready) where
  abbrev from : Streams
  from = streams before.input before.output (listening asked before)

  abbrev to : Streams
  to = streams after.input after.output heard

  abbrev job : List ℕ → Job
  job input = job_of asked l.runnable input before

  -- what was loaded is to be run
  to_be_run : (input : List ℕ) → IsInput before.input.held input → IsToRun words before (job input)
  to_be_run input known = record {
    command = Run kind asked name;
    kind = kind;
    name = name;
    bytes = l.bytes;
    spelled = s;
    runs = (refl, refl, refl, refl, refl);
    text = l.text;
    holds = l.holds;
    input = known;
    there = there;
    watched = refl;
  }

  -- a run came to its end
  run_told : (end : run.End) (status : Status) → status_of end ≡ Some status → RunsTo l.runnable asked from to end → (Ended words before after status → Headline words before after status) → LoadsAsked words before after → (r : Status) → Tells status (all_told heard ++ error_line end) before.error_output after.error_output r → Headline words before after r
  run_told end status how x ends f r t =
      let a = to_be_run x.input x.known in
      let dump : List ℕ = if dumps asked then x.means.dump else [] in
      let reports : Watched = told_all x.means.events (listening asked before) in
      let line : List ℕ = dump ++ reports_of (job x.input).watchers x.means.events ++ error_line end in
      let first = subst (λ h. Tells status (all_told h ++ error_line end) before.error_output after.error_output r) x.told t in
      let same = subst (λ text. Tells status text before.error_output after.error_output r) (told_headed dump reports (error_line end)) first in
      told words before after status x.out line ends (run_ended status x.out line after.input.held after.output.calls (record { job = job x.input; asked = a; end = end; ends = how; means = x.means; writes = x.writes; leaves = x.left; tells = refl })) x.gained (record { files = f; input = x.input_count; output = x.out_count }) r same

  -- it was broken off
  run_unread : RunsToRead l.runnable asked from to → CountRose before.input after.input → CountStays before.output after.output → LoadsAsked words before after → TriesLine (fault_line fault.Read) before.error_output after.error_output → ReadFailed words before after
  run_unread x rose still f h = record {
    out = x.out;
    cause = read_failed x.out (record { rose = rose; reading = record { job = job x.input; asked = to_be_run x.input x.known; at = x.at }; files = f; output = still });
    out_gained = x.gained;
    tried = h;
  }

  run_unwritten : WritesInto l.runnable asked from to → CountRose before.output after.output → CountStays before.input after.input → LoadsAsked words before after → TriesLine (fault_line fault.Write) before.error_output after.error_output → WriteFailed words before after
  run_unwritten w rose still f h =
      let x = w.into in
      record {
        out = x.out ++ take x.n x.line;
        cause = print_failed x.out x.line x.n (record { rose = rose; printing = record { job = job x.input; asked = to_be_run x.input x.known; left = x.still; at = x.at }; part = x.part; leaves = w.left; files = f; input = still; tried = h });
        out_gained = x.gained;
      }

  run_starved : RunsInto l.runnable asked from to ⊎ RunsUpTo l.runnable asked from to → IsQuiet words before after → TriesLine (fault_line fault.NoMemory) before.error_output after.error_output → MemoryFailed words before after
  run_starved (inl x) quiet h = record {
    out = x.out ++ take x.n x.line;
    cause = at_work (x.out ++ take x.n x.line) (in_print x.out x.line x.n (record { job = job x.input; asked = to_be_run x.input x.known; left = x.still; at = x.at }) x.part) h;
    out_gained = x.gained;
    files = inl quiet.files;
    input = quiet.input;
    output = quiet.output;
  }
  run_starved (inr x) quiet h = record {
    out = x.out;
    cause = at_work x.out (at_state x.out (record { job = job x.input; asked = to_be_run x.input x.known; at = x.at })) h;
    out_gained = x.gained;
    files = inl quiet.files;
    input = quiet.input;
    output = quiet.output;
  }

  -- the run of what was loaded, and the line that tells its end
  pub run_ends : (e : End) → Runs l.runnable asked from to e → LoadsAsked words before after → (r : Status) → TellsEnd (counted asked l.runnable) heard e before.error_output after.error_output r → Headline words before after r
  run_ends end.Done x f r t = run_told run.Done Done refl x (λ y. y) f r t
  run_ends (end.Stopped why line) x f r t = run_told (run.Stopped (kind_of (counted asked l.runnable) why) line) Stopped refl x (λ y. y) f r t
  run_ends end.Spent x f r t = run_told run.Spent Spent refl x (λ y. y) f r t
  run_ends end.ReadFault x f r t = subst (Headline words before after) (sym t.0) (run_unread x.0 x.1 x.2 f t.1)
  run_ends end.WriteFault x f r t = subst (Headline words before after) (sym t.0) (run_unwritten x.0 x.1 x.2 f t.1)
  run_ends end.NoMemory x f r t = subst (Headline words before after) (sym t.0) (run_starved x.0 (record { files = f; input = x.1; output = x.2 }) t.1)
  run_ends end.Paused x f r t = absurd x
  run_ends end.Stuck x f r t = absurd x

  -- what it took of the input
  pub run_takes : TakesInput l.runnable asked from to → InputLeft words before after
  run_takes (inl same) = run_not_read kind asked name s there same
  run_takes (inr x) =
      let reading : IsAtRead words before x.out = record { job = job x.input; asked = to_be_run x.input x.known; at = x.at } in
      read_from (record { out = x.out; more = x.more; taken = x.taken; reading = reading; gained = x.gained; takes = x.consumed })

-- a code file wasn't made ready
not_code : (words : List (List ℕ)) (before after : Outside) (asked : Options) (name : List ℕ) → Spells words (Run CodeFile asked name) → IsThere asked.watch before.watchers → LeavesRest before after → (r : Status) → NotCode name before.files after.files before.error_output after.error_output r → Headline words before after r
not_code words before after asked name s there rest _ (flawed_so bytes flaw r t why e h) =
    told_alone words before after Refused (flaw_line flaw ++ 10 ∷ []) (λ x. x) (code_refused (flaw_line flaw) (record { options = asked; name = name; bytes = bytes; spelled = s; there = there; text = t; refusal = record { flaw = flaw; flawed = why; tells = refl } })) (loads words before after (Run CodeFile asked name) name s refl there e) rest r h
not_code words before after asked name s there rest _ (unread_so _ (failed_read once h)) = load_fails words before after (Run CodeFile asked name) name s refl there rest once h
not_code words before after asked name s there rest _ (unread_so _ (starved_read e h)) = starved words before after (loads_at_most words before after (Run CodeFile asked name) name s refl there e) rest h

-- what a file holds wasn't made ready
pub not_ready : (words : List (List ℕ)) (before after : Outside) (kind : FileKind) (asked : Options) (name : List ℕ) → Spells words (Run kind asked name) → IsThere asked.watch before.watchers → LeavesRest before after → (r : Status) → NotReady kind name before.files after.files before.error_output after.error_output r → Headline words before after r
not_ready words before after Source asked name s there rest r h = not_loaded words before after (Run Source asked name) name s refl tt there rest r h
not_ready words before after CodeFile asked name s there rest r h = not_code words before after asked name s there rest r h

-- ---- checks, listings, builds and trials

-- the words ask this of the file of a program that was loaded
abbrev of_program : (words : List (List ℕ)) (before : Outside) (asks : List ℕ → Command) (name : List ℕ) (tree : Tree) → Spells words (asks name) → Loaded before.files.held name tree → IsOfProgram words before asks
of_program words before asks name tree s l = record { name = name; source = l.source; tree = tree; spelled = s; text = l.text; is_program = l.is_program }

-- a check of a file, which leaves the input and the output alone
pub check_ends : (words : List (List ℕ)) (before after : Outside) (name : List ℕ) → Spells words (Check name) → LeavesRest before after → (r : Status) → Checks name before.files after.files before.error_output after.error_output r → Headline words before after r
check_ends words before after name s rest _ (checked_so tree l still) = record {
  out = [];
  err = [];
  answer = answer_where words before after Done [] [] (checked (of_program words before Check name tree s l)) rest;
  out_gained = appends_same before.output after.output rest.output;
  err_gained = appends_same before.error_output after.error_output still.same;
  quiet = quiet_where words before after (loads words before after (Check name) name s refl tt still.load) rest;
  told = count_same before.error_output after.error_output still.same;
  piece = calls_same before.error_output after.error_output still.same;
  silent = λ _. still.same;
}
check_ends words before after name s rest r (not_checked _ h) = not_loaded words before after (Check name) name s refl tt tt rest r h

-- a text that the answer is was written, or not
pub written_ends : (words : List (List ℕ)) (before after : Outside) (text : List ℕ) → Answers words before Done text [] before.input.held (one_piece text before.output.calls) → ((n : ℕ) → n < length text → UpToWrite words before (take n text)) → after.input ≡ before.input → LoadsAsked words before after → (r : Status) → Written text before.output after.output before.error_output after.error_output r → Headline words before after r
written_ends words before after text a part_of same files _ (all_written gained piece count still) = record {
  out = text;
  err = [];
  answer = answer_there words before after Done text [] (one_piece text before.output.calls) a same piece;
  out_gained = gained;
  err_gained = appends_same before.error_output after.error_output still;
  quiet = record { files = files; input = count_same before.input after.input same; output = count };
  told = count_same before.error_output after.error_output still;
  piece = calls_same before.error_output after.error_output still;
  silent = λ _. still;
}
written_ends words before after text a part_of same files _ (write_failed part rose h) = record {
  out = take part.0 text;
  cause = out_failed (take part.0 text) (record { rose = rose; writing = part_of part.0 part.1; files = files; input = same; tried = h });
  out_gained = part.2;
}
written_ends words before after text a part_of same files _ (write_starved part count h) = record {
  out = take part.0 text;
  cause = at_work (take part.0 text) (in_write (take part.0 text) (part_of part.0 part.1)) h;
  out_gained = part.2;
  files = inl files;
  input = count_same before.input after.input same;
  output = count;
}
written_ends words before after text a part_of same files _ (no_text none h) = starved words before after (inl files) (record { input = same; output = none }) h

-- a listing of a file, which leaves the input alone
pub list_ends : (words : List (List ℕ)) (before after : Outside) (name : List ℕ) → Spells words (Code name) → after.input ≡ before.input → (r : Status) → Lists name before.files after.files before.output after.output before.error_output after.error_output r → Headline words before after r
list_ends words before after name s same r (listed_so tree _ l files w) =
    let a : IsToList words before w.text = record { asked = of_program words before Code name tree s l; is_listing = w.is_listing } in
    written_ends words before after w.text (listed w.text a) (λ n. in_listing w.text n a) same (loads words before after (Code name) name s refl tt files) r w.written
list_ends words before after name s same r (not_listed _ h still) = not_loaded words before after (Code name) name s refl tt tt (record { input = same; output = still }) r h

-- a build of a file, which leaves the input alone
pub build_ends : (words : List (List ℕ)) (before after : Outside) (name : List ℕ) → Spells words (Build name) → after.input ≡ before.input → (r : Status) → Builds name before.files after.files before.output after.output before.error_output after.error_output r → Headline words before after r
build_ends words before after name s same r (built_so tree _ l files (code_written bytes _ is w)) =
    let a : IsToBuild words before bytes = record { asked = of_program words before Build name tree s l; is_built = is } in
    written_ends words before after bytes (built bytes a) (λ n. in_code_file bytes n a) same (loads words before after (Build name) name s refl tt files) r w
build_ends words before after name s same r (built_so tree _ l files (code_too_long _ long still t)) =
    told_alone words before after Refused (flaw_line TooLong ++ 10 ∷ []) (λ x. x) (too_long_built (of_program words before Build name tree s l) long) (loads words before after (Build name) name s refl tt files) (record { input = same; output = still }) r t
build_ends words before after name s same _ (built_so tree _ l files (code_starved still h)) = starved words before after (inl (loads words before after (Build name) name s refl tt files)) (record { input = same; output = still }) h
build_ends words before after name s same r (not_built _ h still) = not_loaded words before after (Build name) name s refl tt tt (record { input = same; output = still }) r h

-- ---- explanations

-- an explanation that was to be written, of a source that is refused
explanation_ends : (words : List (List ℕ)) (before after : Outside) (text : List ℕ) → IsToExplain words before text → after.input ≡ before.input → LoadsAsked words before after → (w : Status) → Written text before.output after.output before.error_output after.error_output w → (r : Status) → r ≡ refused_if_done w → Headline words before after r
explanation_ends words before after text a same files _ (all_written gained piece count still) r e = subst (Headline words before after) (sym e) (record {
  out = text;
  err = [];
  answer = answer_there words before after Refused text [] (one_piece text before.output.calls) (explained text a) same piece;
  out_gained = gained;
  err_gained = appends_same before.error_output after.error_output still;
  quiet = record { files = files; input = count_same before.input after.input same; output = count };
  told = count_same before.error_output after.error_output still;
  piece = calls_same before.error_output after.error_output still;
  silent = λ _. still;
})
explanation_ends words before after text a same files _ (write_failed part rose h) r e = subst (Headline words before after) (sym e) (record {
  out = take part.0 text;
  cause = out_failed (take part.0 text) (record { rose = rose; writing = in_explanation text part.0 a part.1; files = files; input = same; tried = h });
  out_gained = part.2;
})
explanation_ends words before after text a same files _ (write_starved part count h) r e = subst (Headline words before after) (sym e) (record {
  out = take part.0 text;
  cause = at_work (take part.0 text) (in_write (take part.0 text) (in_explanation text part.0 a part.1)) h;
  out_gained = part.2;
  files = inl files;
  input = count_same before.input after.input same;
  output = count;
})
explanation_ends words before after text a same files _ (no_text none h) r e = subst (Headline words before after) (sym e) (starved words before after (inl files) (record { input = same; output = none }) h)

module _ (words : List (List ℕ)) (before after : Outside) (name : List ℕ) (s : Spells words (Explain name)) (same : after.input ≡ before.input) where
  -- why a source is refused was to be written
  reason_ends : (source : List ℕ) (why : Reason) → IsText before.files.held name source → IsRefusedFor source why → ((text : List ℕ) → IsExplained source why text → IsToExplain words before text) → LoadsAsked words before after → (r : Status) → WritesExplanation source why before.output after.output before.error_output after.error_output r → Headline words before after r
  reason_ends source why t refused_so makes files r (explained_so text w _ is written e) = explanation_ends words before after text (makes text is) same files w written r e
  reason_ends source why t refused_so makes files _ (starved_of none h) = starved words before after (inl files) (record { input = same; output = none }) h

  to_explain : (source : List ℕ) (why : Reason) → IsText before.files.held name source → IsRefusedFor source why → (text : List ℕ) → IsExplained source why text → IsToExplain words before text
  to_explain source why t refused_so text is = record { name = name; source = source; reason = why; spelled = s; text_of = t; refused_for = refused_so; is_explained = is }

  -- a source was to be explained
  text_ends : (source : List ℕ) → IsText before.files.held name source → LoadsAsked words before after → (r : Status) → ExplainsText source before.output after.output before.error_output after.error_output r → Headline words before after r
  text_ends source t files _ (no_fault_in tree p none still) = record {
    out = [];
    err = [];
    answer = answer_where words before after Done [] [] (no_fault (record { name = name; source = source; tree = tree; spelled = s; text = t; is_program = p })) (record { input = same; output = none });
    out_gained = appends_same before.output after.output none;
    err_gained = appends_same before.error_output after.error_output still;
    quiet = quiet_where words before after files (record { input = same; output = none });
    told = count_same before.error_output after.error_output still;
    piece = calls_same before.error_output after.error_output still;
    silent = λ _. still;
  }
  text_ends source t files r (refused_for why _ refused_so w) = reason_ends source why t refused_so (to_explain source why t refused_so) files r w
  text_ends source t files _ (not_known none h) = starved words before after (inl files) (record { input = same; output = none }) h

  -- an explanation of a file, which leaves the input alone
  pub explain_ends : (r : Status) → Explains name before.files after.files before.output after.output before.error_output after.error_output r → Headline words before after r
  explain_ends r (of_text source _ t once w) = text_ends source t (loads words before after (Explain name) name s refl tt once) r w
  explain_ends r (of_long source _ t long once w) = reason_ends source reason.TooLong t long (to_explain source reason.TooLong t long) (loads words before after (Explain name) name s refl tt once) r w
  explain_ends _ (not_there (failed_read once h) none) = load_fails words before after (Explain name) name s refl tt (record { input = same; output = none }) once h
  explain_ends _ (not_there (starved_read most h) none) = starved words before after (loads_at_most words before after (Explain name) name s refl tt most) (record { input = same; output = none }) h

-- what a stop means was to be told
pub stop_ends : OneCommand → (words : List (List ℕ)) (before after : Outside) (stop : Stop) → Spells words (TellStop stop) → after.input ≡ before.input → after.files ≡ before.files → (r : Status) → Written (stop_text stop) before.output after.output before.error_output after.error_output r → Headline words before after r
stop_ends one words before after stop s same files r w =
    written_ends words before after (stop_text stop) (stop_told stop s) (λ n. in_stop stop n s) same (loads_none (no_file one words before (TellStop stop) s (λ name f. f)) files) r w
