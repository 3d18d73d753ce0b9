-- The laws over the language.
use Rattle.std.proofs.Common.{◌≡◌, Bool, true, false, refl, [], ◌∷◌, ◌++◌, sym, ap, ◌∙◌, subst}
use Rattle.setl_model_runs.specs.Variable.{is_variable, value_in, with_value}
use Rattle.setl_model_runs.specs.VariableLaws.{same_variable, value_elsewhere}
use Rattle.setl_model_runs.specs.Events.{Printed}
use Rattle.setl_model_runs.specs.Run.{State, Goes, settle, step, and_then}
use Rattle.setl_model_runs.specs.RunLaws.{runs_join}
use Rattle.setl_model.specs.Core.{Core}
use Rattle.setl_model.specs.Step.{language, test_of}
use Rattle.setl_model.specs.Means.{first}
use Rattle.setl_model.specs.Laws.{StoresChangeOneVariable, OneStep, OneMeaning, StepsGrow, IsFront, ReachedOutputIsFront, PrintInHandIsFront, DeclarationsOnlyCut, DeclarationsChangeNothing}
use Rattle.setl_model.proofs.Runs.{ends_alike, GrowsTo, step_grows, passed_is_front, tested_is_front, fitting_is_whole}

pub one_step : OneStep
one_step p based a b c h k = cc

pub one_meaning : OneMeaning
one_meaning p input turns based o o' e e' h k =
    let same = ends_alike Core (language p) (test_of p.modes based) h.steps k.steps (first p input turns) h.last k.last e e' h.ends k.ends in
    let last : h.last ≡ k.last = cc in
    (sym h.written ∙ ap (λ s. s.out) last ∙ k.written, cc)

pub steps_grow : StepsGrow
steps_grow p based a b h = subst (GrowsTo Core (language p) a) h (step_grows Core (language p) (test_of p.modes based) a)

pub reached_is_front : ReachedOutputIsFront
reached_is_front p input turns based s o e r h =
    subst (IsFront s.out) h.written (passed_is_front Core (language p) (test_of p.modes based) r.0 h.steps (first p input turns) s h.last e r.1 h.ends)

pub print_in_hand : PrintInHandIsFront
print_in_hand p input turns based s line o e r print h =
    let after : State Core = record { core = print.to; out = s.out ++ line; events = s.events ++ Printed line ∷ [] } in
    let goes : step (language p) (test_of p.modes based) s ≡ Goes after = ap (settle (language p) (test_of p.modes based) s) print.writes in
    let reached = runs_join (language p) (test_of p.modes based) r.0 1 (first p input turns) s (Goes after) r.1 (ap (λ x. and_then x Goes) goes) in
    subst (IsFront (s.out ++ line)) h.written (passed_is_front Core (language p) (test_of p.modes based) reached.0 h.steps (first p input turns) after h.last e reached.1 h.ends)

pub declarations_only_cut : DeclarationsOnlyCut
declarations_only_cut p input turns o o' e e' h k =
    subst (λ x. IsFront x o') h.written (subst (IsFront h.last.out) k.written (tested_is_front Core (language p) (test_of p.modes true) h.steps k.steps (first p input turns) h.last k.last e e' h.ends k.ends))

pub declarations_change_nothing : DeclarationsChangeNothing
declarations_change_nothing p input turns o e fits h =
    record {
      steps = h.steps;
      last = h.last;
      ends = fitting_is_whole Core (language p) (test_of p.modes true) h.steps (first p input turns) h.last e fits h.ends;
      written = h.written;
    }

pub elsewhere : StoresChangeOneVariable
elsewhere e x y v other = go (is_variable x y) refl
  where
    go : (t : Bool) → is_variable x y ≡ t → value_in (with_value e x v) y ≡ value_in e y
    go true h = absurd (other (same_variable x y h))
    go false h = value_elsewhere e x y v h
