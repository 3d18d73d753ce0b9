-- Worked rows of states that are the same: a program that reads a value and prints it in a procedure.
use Rattle.std.specs.Prelude.{◌≡◌, ℕ, true, false, Bool, List, [], ◌∷◌, codes, cond, Option, Some, None, refl}
use Rattle.setl_value.specs.Datum.{Datum, text}
use Rattle.setl_tree.specs.declared.tree.Passing.TheVariants.{Rd}
use Rattle.setl_model_runs.specs.Variable.{Variable, Own, is_variable, value_in}
use Rattle.setl_model_runs.specs.Events.{Done}
use Rattle.setl_model_runs.specs.Run.{State, Goes, run}
use Rattle.setl_program.specs.Program.{Name, Call, more_exprs, no_expr, rd_argument, no_argument, Perform, Print, Read, Stop, more_stmts, no_stmt, Program}
use Rattle.setl_model.specs.Core.{Core}
use Rattle.setl_model.specs.Step.{language, test_of}
use Rattle.setl_model.specs.Means.{Means, first}
use Rattle.setl_code.specs.Code.{PrintTop}
use Rattle.setl_code.specs.CodeCore.{There, held_in, CodeCore}
use Rattle.setl_code.specs.CodeCore.{Activation as CodeActivation}
use Rattle.setl_code.specs.CodeOf.{code_of}
use Rattle.setl_code.specs.Machine.{machine}
use Rattle.setl_code.specs.CodeMeans.{CodeMeans, code_first}
use Rattle.setl_code_simulation.specs.States.{Alike, BodyAtWork, SameState, bodies_at_work, IsBody, SameActivations, IsNext, ReadsAlike, with_arguments, PrintsAlike}

-- program q; read(y); p(y); proc p(a); print(a); stop; end proc; end program;
-- with `read` in line 1, the call in line 2, `print` in line 4 and `stop` in line 5
abbrev pub y : Variable
y = Own 0 (codes "y")

abbrev pub a : Variable
a = Own 1 (codes "a")

abbrev pub program : Program
program = record {
  name = codes "q";
  vars = [];
  main = more_stmts 1 (Read (y ∷ [])) (more_stmts 2 (Perform (Call 0 (rd_argument (Name y) no_argument))) no_stmt);
  end_line = 2;
  procedures =
      record {
        name = codes "p";
        parameters = record { passing = Rd; name = codes "a"; line = 3 } ∷ [];
        body = more_stmts 4 (Print (more_exprs (Name a) no_expr)) (more_stmts 5 Stop no_stmt);
        end_line = 6;
      }
      ∷ [];
  modes = [];
}

abbrev pub letter : Option Datum
letter = Some (text (codes "x"))

-- the input `'x'`
abbrev pub input : List ℕ
input = codes "'x'"

-- so many steps of the meaning and of the code, with that input and one turn
abbrev MeaningAfter : ℕ → State Core → Type 0
MeaningAfter n t = run (language program) (test_of [] true) n (first program input 1) ≡ Goes t

abbrev CodeAfter : ℕ → State CodeCore → Type 0
CodeAfter n s = run (machine (code_of program)) (test_of [] true) n (code_first (code_of program) input 1) ≡ Goes s

-- the numbers of the bodies
main_is_0 : IsBody (code_of program) 0 None
main_is_0 = tt

p_is_1 : IsBody (code_of program) 1 (Some (codes "p"))
p_is_1 = refl

p_isnt_0 : IsBody (code_of program) 0 (Some (codes "p")) → ⊥
p_isnt_0 h = h

main_isnt_1 : IsBody (code_of program) 1 None → ⊥
main_isnt_1 h = h

-- in the procedure, at its `print`: the parameter has the value, and so has the variable that it was read into
abbrev pub at_print : List BodyAtWork
at_print = record { procedure = Some (codes "p"); own = (a, letter) ∷ [] } ∷ record { procedure = None; own = (y, letter) ∷ [] } ∷ []

abbrev meaning_at_print : (t : State Core) × MeaningAfter 14 t × (bodies_at_work t.core.shared.own t.core.work ≡ at_print)
meaning_at_print = (_, refl, refl)

abbrev code_at_print : (s : State CodeCore) × CodeAfter 5 s × IsNext (code_of program) s.core 4 (PrintTop 1) × (s.core.now.body ≡ 1) × (s.core.now.own ≡ (a, There letter) ∷ [])
code_at_print = (_, refl, refl, refl, refl)

-- a cell that was stored, and an environment with the variable
abbrev one_cell : (x z : Variable) (v : Option Datum) → held_in ((x, There v) ∷ []) z ≡ There (value_in ((x, v) ∷ []) z)
one_cell x z v = go (is_variable x z)
  where
    go : (b : Bool) → cond b (There v) (There None) ≡ There (cond b v None)
    go true = refl
    go false = refl

abbrev printing : PrintsAlike program input 1 true code_at_print.0 4 1
printing = record {
  there = record {
    state = meaning_at_print.0;
    reached = (14, refl);
    same = record {
      core = record {
        world = refl;
        globals = λ z. refl;
        activations = (record { body = refl; values = λ z. one_cell a z letter }, (record { body = tt; values = λ z. one_cell y z letter }, tt));
      };
      out = refl;
      events = refl;
    };
  };
  values = letter ∷ [];
  others = [];
  operands = refl;
  in_hand = record { to = _; writes = refl };
  of_line = with_arguments;
}

-- at the `stop`, where both end: in the procedure, with the same values, and with nothing left of the input and of the turns
abbrev meaning_ends : Means program input 1 true (codes "x\n") Done
meaning_ends = record { steps = 30; last = _; ends = refl; written = refl }

abbrev code_ends : CodeMeans (code_of program) [] input 1 true (codes "x\n") Done
code_ends = record { steps = 20; last = _; ends = refl; written = refl }

ending : SameState (code_of program) code_ends.last meaning_ends.last
ending = record {
  core = record {
    world = refl;
    globals = λ z. refl;
    activations = (record { body = refl; values = λ z. one_cell a z letter }, (record { body = tt; values = λ z. one_cell y z letter }, tt));
  };
  out = refl;
  events = refl;
}

nothing_left : (code_ends.last.core.world.input ≡ []) × (code_ends.last.core.world.left ≡ 0)
nothing_left = (refl, refl)

-- a cell that wasn't stored yet, and an environment without the variable
abbrev no_value : (x z : Variable) → held_in ((x, There None) ∷ []) z ≡ There (value_in [] z)
no_value x z = go (is_variable x z)
  where
    go : (b : Bool) → cond b (There None) (There None) ≡ There None
    go true = refl
    go false = refl

-- at the `read`, before anything is done
reading : ReadsAlike program input 1 true (code_first (code_of program) input 1) 1
reading = record {
  there = record {
    state = first program input 1;
    reached = (0, refl);
    same = record {
      core = record { world = refl; globals = λ z. refl; activations = (record { body = tt; values = λ z. no_value y z }, tt) };
      out = refl;
      events = refl;
    };
  };
  in_hand = record { line = 1; variable = y; others = []; rest = _; in_hand = refl };
  line_same = refl;
  stores = refl;
}

-- other values, another body or another number of activations aren't the same
not_the_value : Alike ((y, There None) ∷ []) ((y, letter) ∷ []) → ⊥
not_the_value h = let one = h y in cc

not_the_number : (w : CodeActivation) → SameActivations (code_of program) (w ∷ []) at_print → ⊥
not_the_number w h = h.1
