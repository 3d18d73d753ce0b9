-- What a session of the debugger answers.
use Rattle.std.proofs.Common.{◌≡◌, ◌∙◌, ◌≤◌, ◌^◌, ℕ, Bool, true, List, [], ◌∷◌, ◌++◌, length, Option, None, Some, codes, decimal, refl, sym, ap, subst, arith}
use Rattle.std.proofs.lemmas.List.{length-append}
use Rattle.std.specs.Io.KnownBytes.{Consumes}
use Rattle.setl_program.specs.ProgramOf.{program_of}
use Rattle.setl_top.specs.Accepted.{IsProgram}
use Rattle.setl_top.specs.Headline.{no_such_watcher, refused, script_refused, debugged, run_ended}
use Rattle.setl_top.specs.Laws.{DebugsExactly}
use Rattle.setl_top_session.specs.Laws.{NotScriptAndRefused, OneRefusal}
use Rattle.setl_top_session.specs.Sessions.{Session, IsTold, IsScript, IsAll, TakesScript, ScriptRefusal, long_script, faulty_line}
use Rattle.setl_top_status.specs.declared.status.Status.TheVariants.{Done, Refused}
use Rattle.setl_top_words.specs.Words.{Command, Run, Check, Code, Build, Advise, Explain, TellStop, Debug, Trial, OneCommand}
use Rattle.setl_top.proofs.Exclude.{answers_it, not_there, runs_so, same_source, refused_so}
use Rattle.setl_top.proofs.OneReason.{FrontLaws, one_program_tree, not_refused}

-- what was taken off an input begins it
shorter : (input : List ℕ) (left : Option (List ℕ)) (bytes : List ℕ) → Consumes (Some input) left bytes → length bytes ≤ length input
shorter input None bytes c = absurd c
shorter input (Some ys) bytes c = omega (arith, ap length c, length-append bytes ys)

-- the input is refused as what was taken of it
over_input : (input : List ℕ) (left : Option (List ℕ)) (bytes line : List ℕ) → TakesScript (Some input) left bytes → ScriptRefusal bytes line → ScriptRefusal input line
over_input input left bytes _ taken (long_script long) = long_script (omega (arith, long, shorter input left bytes taken.0))
over_input input left bytes _ taken (faulty_line n short f) =
    let same : input ≡ bytes = taken.1 short in
    subst (λ (b : List ℕ). ScriptRefusal b (codes "script line " ++ decimal n)) (sym same) (faulty_line n short f)

-- whether declarations count in the session that a command asks for
abbrev counts_in : Command → Bool
counts_in (Run k o n) = true
counts_in (Check n) = true
counts_in (Code n) = true
counts_in (Build n) = true
counts_in (Advise n) = true
counts_in (Explain n) = true
counts_in (TellStop k) = true
counts_in (Debug b n) = b
counts_in (Trial a b) = true

module _ (one_command : OneCommand) where
  pub debugs_only : FrontLaws → NotScriptAndRefused → OneRefusal → DebugsExactly
  debugs_only laws not_both one_line words before input based source tree _ _ _ _ _ ask i p (no_such_watcher d s none) = absurd (not_there one_command words before d (Debug based ask.name) s ask.spelled none tt)
  debugs_only laws not_both one_line words before input based source tree _ _ _ _ _ ask i p (refused l it) =
      absurd (not_refused laws source it.refusal.reason (refused_so one_command words before (Debug based) source ask refl l it) tree p)
  debugs_only laws not_both one_line words before input based source tree _ _ _ _ _ ask i p (script_refused l left it) =
      let moved = over_input input left it.bytes l (subst (λ y. TakesScript y left it.bytes) i it.taken) it.refusal in (
        ((λ (e : Refused ≡ Done). absurd (cc)), λ is. absurd (not_both input is.0 l is.1 moved)),
        (λ (e : Refused ≡ Done). absurd (cc)),
        (λ line other. (refl, refl, ap (λ z. z ++ 10 ∷ []) (one_line input l line moved other))),
      )
  debugs_only laws not_both one_line words before input based source tree _ _ _ _ _ ask i p (debugged told left n a taken) =
      let asked = a.asked.asked in
      let all : input ≡ a.asked.bytes = subst (λ y. IsAll y a.asked.bytes) i a.asked.input in
      let is : IsScript input a.session.script = subst (λ b. IsScript b a.session.script) (sym all) a.asked.is_script in
      let sources = same_source one_command words before (Debug based) source ask refl (Debug a.session.based asked.name) asked.name asked.source asked.spelled refl asked.text in
      let trees = one_program_tree laws source asked.accepted.tree tree (subst (λ y. IsProgram y asked.accepted.tree) sources asked.accepted.is_program) p in
      let program : a.session.program ≡ program_of tree = asked.accepted.meaning ∙ ap program_of trees in
      let counted : a.session.based ≡ based = ap counts_in (one_command words (Debug a.session.based asked.name) (Debug based ask.name) asked.spelled ask.spelled) in
      let tells = subst (λ (q : Session). IsTold q a.session.script told) (λ j. record { program = program j; based = counted j; script = a.session.script }) a.tells in (
        ((λ _. (a.session.script, is)), (λ _. refl)),
        (λ _. (a.session.script, is, tells, refl)),
        (λ line other. absurd (not_both input a.session.script line is other)),
      )
  debugs_only laws not_both one_line words before input based source tree _ _ _ _ _ ask i p (run_ended status out err left n q) = absurd (runs_so one_command words before q.job (Debug based ask.name) q.asked ask.spelled)
  debugs_only laws not_both one_line words before input based source tree st out e left n ask i p a = let number = answers_it one_command words before st out e left n a (Debug based ask.name) ask.spelled in absurd (omega (arith, number))
