-- How a session of the debugger makes its headline, and what it takes of the input.
use Rattle.std.proofs.Common.{◌≡◌, inl, ℕ, Bool, List, [], ◌∷◌, ◌++◌, take, refl, sym, subst}
use Rattle.setl_debug_script.specs.declared.command.Command.{Command as ScriptCommand}
use Rattle.setl_program.specs.ProgramOf.{program_of}
use Rattle.setl_tree.specs.declared.tree.Tree.{Tree}
use Rattle.setl_top_session.specs.Sessions.{IsTold}
use Rattle.setl_top_session.specs.code.Follows.{FollowsScript, followed, unwritten, starved}
use Rattle.setl_top_session.specs.code.Scripts.{TookScript, NoScript, not_spelled, unread_script, starved_script, refused_bytes, starved_of_script}
use Rattle.setl_top_status.specs.Lines.{TriesLine, fault_line}
use Rattle.setl_top_status.specs.Seen.{CountStays}
use Rattle.setl_top_status.specs.declared.fault.Fault.TheVariants as fault
use Rattle.setl_top_status.specs.declared.status.Status.{Status}
use Rattle.setl_top_status.specs.declared.status.Status.TheVariants.{Refused}
use Rattle.setl_top.specs.code.Debugs.{Debugs, debugged_so, no_script, not_debugged, session_of}
use Rattle.setl_top.specs.code.Loads.{Loaded}
use Rattle.setl_top.specs.Headline.{IsToDebug, IsDebuggedUpTo, script_refused, debugged, no_program, in_session, Answers, script_failed, session_failed, at_work, MemoryFailed, LoadsAsked, InputLeft, untouched, script_taken, Headline}
use Rattle.setl_top.specs.Outside.{Outside}
use Rattle.setl_top.specs.Requests.{IsToFollow}
use Rattle.setl_top_words.specs.Words.{Spells, Debug}
use Rattle.setl_top.proofs.Ends.{loads, told, appends_same, calls_same, count_same, not_loaded}

module _ (words : List (List ℕ)) (before after : Outside) (based : Bool) (name : List ℕ) (s : Spells words (Debug based name)) where
  -- there is to be a session over the program of the file
  to_debug : (tree : Tree) → Loaded before.files.held name tree → IsToDebug words before (program_of tree) based
  to_debug tree l = record { name = name; source = l.source; spelled = s; text = l.text; accepted = record { tree = tree; is_program = l.is_program; meaning = refl } }

  module _ (tree : Tree) (l : Loaded before.files.held name tree) (files : LoadsAsked words before after) where
    -- ---- a script that was read

    module _ (script : List ScriptCommand) (t : TookScript before.input after.input script) where
      to_follow : IsToFollow words before (session_of tree based script)
      to_follow = record { asked = to_debug tree l; bytes = t.bytes; input = t.taken.1 t.is_script.short; is_script = t.is_script }

      up_to : (count : ℕ) (text : List ℕ) → IsTold (session_of tree based script) (take count script) text → IsDebuggedUpTo words before text
      up_to count text is = record { session = session_of tree based script; asked = to_follow; count = count; tells = is }

      follow_ends : (r : Status) → FollowsScript (session_of tree based script) before.output after.output before.error_output after.error_output r → Headline words before after r
      unfolding to_follow up_to
      follow_ends _ (followed text is gained count still) = record {
        out = text;
        err = [];
        answer = debugged text after.input.held after.output.calls (record { session = session_of tree based script; asked = to_follow; tells = is }) t.taken.0;
        out_gained = gained;
        err_gained = appends_same before.error_output after.error_output still;
        quiet = record { files = files; input = t.count; output = count };
        told = count_same before.error_output after.error_output still;
        piece = calls_same before.error_output after.error_output still;
        silent = λ _. still;
      }
      follow_ends _ (unwritten count text n is part gained rose h) = record {
        out = take n text;
        cause = session_failed text n (record { rose = rose; telling = up_to count text is; part = part; taken = t.taken.0; files = files; input = t.count; tried = h });
        out_gained = gained;
      }
      follow_ends _ (starved count text n is part gained still h) = record {
        out = take n text;
        cause = at_work (take n text) (in_session text n (up_to count text is) part) h;
        out_gained = gained;
        files = inl files;
        input = t.count;
        output = still;
      }

    -- ---- a script that wasn't

    module _ (none : after.output ≡ before.output) where
      starved_of : CountStays before.input after.input → TriesLine (fault_line fault.NoMemory) before.error_output after.error_output → MemoryFailed words before after
      starved_of count h = record {
        out = [];
        cause = at_work [] no_program h;
        out_gained = appends_same before.output after.output none;
        files = inl files;
        input = count;
        output = count_same before.output after.output none;
      }

      script_ends : (r : Status) → NoScript before.input after.input before.error_output after.error_output r → Headline words before after r
      script_ends r (not_spelled bytes _ taken count (refused_bytes line _ why t)) =
          let answer : Answers words before Refused [] (line ++ 10 ∷ []) after.input.held before.output.calls = script_refused line after.input.held (record { program = program_of tree; based = based; bytes = bytes; asked = to_debug tree l; taken = taken; refusal = why }) in
          told words before after Refused [] (line ++ 10 ∷ []) (λ e. e) (subst (Answers words before Refused [] (line ++ 10 ∷ []) after.input.held) (sym (calls_same before.output after.output none)) answer) (appends_same before.output after.output none) (record { files = files; input = count; output = count_same before.output after.output none }) r t
      script_ends _ (not_spelled bytes _ taken count (starved_of_script h)) = starved_of count h
      script_ends _ (unread_script taken c rose h) = record {
        out = [];
        cause = script_failed (record { program = program_of tree; based = based; asked = to_debug tree l; rose = rose; files = files; output = none });
        out_gained = appends_same before.output after.output none;
        tried = h;
      }
      script_ends _ (starved_script taken c count h) = starved_of count h

    -- what it took of the input
    script_takes : (r : Status) → NoScript before.input after.input before.error_output after.error_output r → InputLeft words before after
    script_takes _ (not_spelled bytes _ taken count h) = script_taken (program_of tree) based bytes (to_debug tree l) taken.0
    script_takes _ (unread_script taken c rose h) = script_taken (program_of tree) based taken (to_debug tree l) c
    script_takes _ (starved_script taken c count h) = script_taken (program_of tree) based taken (to_debug tree l) c

  -- ---- the session

  pub debug_ends : (r : Status) → Debugs based name before.files after.files before.input after.input before.output after.output before.error_output after.error_output r → Headline words before after r
  debug_ends r (debugged_so tree script _ l once t h) = follow_ends tree l (loads words before after (Debug based name) name s refl tt once) script t r h
  debug_ends r (no_script tree _ l once h none) = script_ends tree l (loads words before after (Debug based name) name s refl tt once) none r h
  debug_ends r (not_debugged _ h same none) = not_loaded words before after (Debug based name) name s refl tt tt (record { input = same; output = none }) r h

  pub debug_takes : (r : Status) → Debugs based name before.files after.files before.input after.input before.output after.output before.error_output after.error_output r → InputLeft words before after
  debug_takes r (debugged_so tree script _ l once t h) = script_taken (program_of tree) based t.bytes (to_debug tree l) t.taken.0
  debug_takes r (no_script tree _ l once h none) = script_takes tree l (loads words before after (Debug based name) name s refl tt once) r h
  debug_takes r (not_debugged _ h same none) = untouched same
