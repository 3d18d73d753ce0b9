-- The states of the run of a code file's code are its own.
use Rattle.std.proofs.Common.{◌≡◌, ◌∙◌, ◌<◌, ℕ, List, [], length, Some, refl, ap, arith}
use Rattle.setl_model_runs.specs.Events.{End, Stuck}
use Rattle.setl_model_runs.specs.Run.{State, Goes, Ends, settle, step}
use Rattle.setl_code.specs.Code.{Code, PrintTop}
use Rattle.setl_code.specs.CodeCore.{Popped, Pops, Lacks, popped, CodeCore}
use Rattle.setl_code.specs.CodeMeans.{CodeMeans}
use Rattle.setl_code_layout.specs.Layout.{code_layout}
use Rattle.setl_model.specs.Entered.{entered}
use Rattle.setl_code.specs.Machine.{machine, fetch, do_step, on_popped, print_values}
use Rattle.setl_machine_control.specs.Answers.{said, start}
use Rattle.setl_machine_control.specs.Declaring.{Modes}
use Rattle.setl_machine.specs.Outcome.{AtPrint}
use Rattle.setl_top.specs.Moments.{CodePrints}
use Rattle.setl_top.specs.Runnable.{OfCode}
use Rattle.setl_top.proofs.Reaching.{said_at_print}
use Rattle.setl_top.proofs.Stands.{coded, as_meant, Taken, EndsThere, Stands}
use Rattle.setl_top_words.specs.Words.{Options}

module _ (names : List (List ℕ)) (c : Code) (modes : Modes) (asked : Options) (input : List ℕ) where
  -- where operands lack, nothing is said
  silent_at_lack : (k : CodeCore) (line n : ℕ) → fetch c k.now.body k.now.at ≡ Some (line, PrintTop n) → popped n [] k.now.operands ≡ Lacks → said (step (machine c) (Taken (OfCode names c modes) c asked input) (start k)) ≡ []
  silent_at_lack k line n next ops =
      ap (λ f. said (settle (machine c) (Taken (OfCode names c modes) c asked input) (start k) (do_step c f k))) next
      ∙ ap (λ f. said (settle (machine c) (Taken (OfCode names c modes) c asked input) (start k) (on_popped f (λ us ys. print_values us ys k)))) ops

  -- a print that says something has its operands
  prints_there : (k : CodeCore) (line : List ℕ) → AtPrint c k → line ≡ said (step (machine c) (Taken (OfCode names c modes) c asked input) (start k)) → 0 < length line → CodePrints c k line
  prints_there k line next says some = go (popped next.1 [] k.now.operands) refl
    where
      go : (o : Popped) → popped next.1 [] k.now.operands ≡ o → CodePrints c k line
      go Lacks is = absurd (omega (arith, some, ap length (says ∙ silent_at_lack k next.0 next.1 next.2 is)))
      go (Pops vs xs) is = record {
        place = next.0;
        count = next.1;
        in_hand = next.2;
        values = vs;
        others = xs;
        operands = is;
        prints = says ∙ said_at_print c (Taken (OfCode names c modes) c asked input) k next.0 next.1 vs xs next.2 is;
      }

  at_end : (n : ℕ) (e : End) (s : State CodeCore) → coded (OfCode names c modes) c asked input n ≡ Ends e s → EndsThere (OfCode names c modes) c asked input s e
  at_end n e s is =
      let code : CodeMeans c modes input asked.turns asked.based s.out e = record { steps = n; last = s; ends = as_meant (OfCode names c modes) c asked input n (Ends e s) is; written = refl } in
      record { means = record { events = s.events; left = s.core.world.input; dump = code_layout names modes (λ b. entered modes b s.events) s.core; so = (code, refl, refl, refl) }; events = refl; left = refl; dump = refl }

  pub code_stands : ((out : List ℕ) → CodeMeans c modes input asked.turns asked.based out Stuck → ⊥) → Stands (OfCode names c modes) c asked input
  code_stands never = record {
    state = λ s came. record { state = s; reached = (came.0, as_meant (OfCode names c modes) c asked input came.0 (Goes s) came.1); printed = refl };
    read = λ s came next. record { state = s; reached = (came.0, as_meant (OfCode names c modes) c asked input came.0 (Goes s) came.1); printed = refl; in_hand = record { place = next.0; in_hand = next.1 } };
    print = λ s came next line says some. record {
      still = s.core.world.input;
      at = (record { state = s; reached = (came.0, as_meant (OfCode names c modes) c asked input came.0 (Goes s) came.1); printed = refl; in_hand = prints_there s.core line next says some }, refl);
      same = refl;
    };
    ends = at_end;
    never = λ n s is. never s.out (record { steps = n; last = s; ends = as_meant (OfCode names c modes) c asked input n (Ends Stuck s) is; written = refl });
  }
