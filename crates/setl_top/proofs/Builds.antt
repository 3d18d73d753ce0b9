-- What a build answers.
use Rattle.std.proofs.Common.{◌≡◌, inl, inr, refl, subst, arith}
use Rattle.setl_top.specs.Built.{IsBuilt, IsLongCode}
use Rattle.setl_top.specs.Headline.{no_such_watcher, refused, built, too_long_built, run_ended}
use Rattle.setl_top.specs.Laws.{BuildsExactly}
use Rattle.setl_top_status.specs.declared.status.Status.TheVariants.{Done, Refused}
use Rattle.setl_top_words.specs.Words.{Build, OneCommand}
use Rattle.setl_top.proofs.Exclude.{answers_it, not_there, runs_so, refused_so, program_so}
use Rattle.setl_top.proofs.OneReason.{FrontLaws, one_program_tree, not_refused}

module _ (one_command : OneCommand) where
  pub builds_only : FrontLaws → BuildsExactly
  builds_only laws words before source _ _ _ _ _ ask (no_such_watcher d s none) = absurd (not_there one_command words before d (Build ask.name) s ask.spelled none tt)
  builds_only laws words before source _ _ _ _ _ ask (refused l it) =
      let why = refused_so one_command words before Build source ask refl l it in
      ((λ (e : Refused ≡ Done). absurd (cc)), (λ tree p. absurd (not_refused laws source it.refusal.reason why tree p)), inr (refl, refl), refl)
  builds_only laws words before source _ _ _ _ _ ask (built bytes a) =
      let it = a.asked in
      let program = program_so one_command words before Build source ask refl Build it refl in
      ((λ _. (it.tree, program)), (λ tree p. inl (refl, subst (λ y. IsBuilt y bytes) (one_program_tree laws source it.tree tree program p) a.is_built, refl)), inl refl, refl)
  builds_only laws words before source _ _ _ _ _ ask (too_long_built it long) =
      let program = program_so one_command words before Build source ask refl Build it refl in
      ((λ (e : Refused ≡ Done). absurd (cc)), (λ other q. inr (refl, refl, subst IsLongCode (one_program_tree laws source it.tree other program q) long, refl)), inr (refl, refl), refl)
  builds_only laws words before source _ _ _ _ _ ask (run_ended status out err left n q) = absurd (runs_so one_command words before q.job (Build ask.name) q.asked ask.spelled)
  builds_only laws words before source st out e left n ask a = let number = answers_it one_command words before st out e left n a (Build ask.name) ask.spelled in absurd (omega (arith, number))
