-- The code of an expression has at most nine times as many steps as the expression is large.
use Rattle.std.proofs.Common.{◌≤◌, ℕ, ◌+◌, ◌*◌, List, [], ◌∷◌, length, length-append, Some, None, arith}
use Rattle.setl_model_runs.specs.Variable.{Variable}
use Rattle.setl_program.specs.declared.kinds.Quantifier.{Quantifier}
use Rattle.setl_program.specs.declared.kinds.Quantifier.TheVariants.{Exists, Forall, NotExists}
use Rattle.setl_program.specs.Program.{Slots, Binding, Member, Components, Point, Expr, Literal, Undefined, Name, Apply, Connect, Choose, Former, Selection, Quantified, Call, Newat, Eof, Ok, Exprs, no_expr, more_exprs, Iterators, no_iterator, more_iterators, Condition, no_condition, only_if, Arguments, no_argument, rd_argument, wr_argument, rw_argument}
use Rattle.setl_model.specs.Slots.{variables_in}
use Rattle.setl_model.specs.Iterations.{bound_by, all_bound}
use Rattle.setl_code.specs.Piece.{Laid, nothing}
use Rattle.setl_code.specs.Generated.{store_slots, bind, clear, set_by, negated, expr, exprs, iterators, condition, arguments}
use Rattle.setl_code_few.proofs.Sizes.{binding_size, binds, size, sizes, inner, condition_size, passed, values}
use Rattle.setl_code_few.proofs.Pieces.{Small, within, s_empty, s_step, s_out, s_join, s_ending}

-- ---- stores

pub store_small : (xs : Slots) (line at : ℕ) → Small (store_slots line xs at) (length xs)
store_small [] line at = s_empty
store_small (None ∷ xs) line at = within (s_join s_step (store_small xs line _)) (omega arith)
store_small (Some x ∷ xs) line at = within (s_join s_step (store_small xs line _)) (omega arith)

bind_small : (b : Binding) (line at : ℕ) → Small (bind line b at) (binding_size b)
bind_small (Member k x) line at = within (s_join s_step s_empty) (omega arith)
bind_small (Components k xs) line at = within (s_join s_step (store_small xs line _)) (omega arith)
bind_small (Point y x) line at = within (s_join s_step (s_join s_step s_empty)) (omega arith)

clear_small : (xs : List Variable) (line at : ℕ) → Small (clear line xs at) (2 * length xs)
clear_small [] line at = within s_empty (omega arith)
clear_small (x ∷ xs) line at = within (s_join s_step (s_join s_step (clear_small xs line _))) (omega arith)

pub variables_few : (xs : Slots) → length (variables_in xs) ≤ length xs
variables_few [] = omega arith
variables_few (None ∷ xs) = let rest = variables_few xs in omega (arith, rest)
variables_few (Some x ∷ xs) = let rest = variables_few xs in omega (arith, rest)

bound_few : (b : Binding) → length (variables_in (bound_by b)) ≤ binding_size b
bound_few (Member k x) = omega arith
bound_few (Components k xs) = let some = variables_few xs in omega (arith, some)
bound_few (Point y x) = omega arith

all_bound_few : (is : Iterators) → length (all_bound is) ≤ binds is
all_bound_few no_iterator = omega arith
all_bound_few (more_iterators b es rest) =
    let here = bound_few b in
    let later = all_bound_few rest in
    let both = length-append (variables_in (bound_by b)) (all_bound rest) in
    omega (arith, here, later, both)

-- ---- expressions

negated_small : (q : Quantifier) (line at : ℕ) → Small (negated line q at) 1
negated_small Exists line at = within s_empty (omega arith)
negated_small Forall line at = s_step
negated_small NotExists line at = within s_empty (omega arith)

set_few : (all : Arguments) → length (set_by all) ≤ passed all
set_few no_argument = omega arith
set_few (rd_argument e rest) = set_few rest
set_few (wr_argument x rest) = let later = set_few rest in omega (arith, later)
set_few (rw_argument x rest) = let later = set_few rest in omega (arith, later)

mutual
  pub expr_small : (e : Expr) (line at : ℕ) → Small (expr line e at) (9 * size e)
  expr_small (Literal d) line at = within s_step (omega arith)
  expr_small Undefined line at = within s_step (omega arith)
  expr_small (Name x) line at = within s_step (omega arith)
  expr_small (Apply o es) line at = within (s_join (exprs_small es line at) s_step) (omega arith)
  expr_small (Connect k a b) line at = within (s_join (expr_small a line at) (s_join s_step (s_join (expr_small b line _) s_step))) (omega arith)
  expr_small (Choose t a b) line at = within (s_join (expr_small t line at) (s_join s_step (s_join (expr_small a line _) (s_join s_step (expr_small b line _))))) (omega arith)
  expr_small (Former k e is t) line at =
      within (s_join s_step (iterators_small is _ line _ _ (9 * condition_size t + (1 + (9 * size e + 2))) (λ a to. within (s_join (condition_small t line to a) (s_join (expr_small e line _) (s_join s_step s_step))) (omega arith)))) (omega arith)
  expr_small (Selection k b es c) line at =
      within (s_join s_step (s_join (exprs_small es line _) (s_join s_step (s_join s_step (s_join (s_join s_step (bind_small b line _)) (s_join (expr_small c line _) (s_join (s_join s_step (s_join s_step s_step)) (s_join s_step s_step)))))))) (omega arith)
  expr_small (Quantified q is c) line at =
      let bound = all_bound_few is in
      within
      (s_join
      (s_ending (iterators_small is _ line at _ (9 * size c + 5) (λ a to. within (s_join (expr_small c line to) (s_join (negated_small q line _) (s_join s_step (s_join s_step (s_join s_step s_out))))) (omega arith))))
      (s_join (clear_small (all_bound is) line _) s_step))
      (omega (arith, bound))
  expr_small (Call f all) line at =
      let few = set_few all in
      within (s_join (arguments_small all line at) (s_join s_step (store_small (set_by all) line _))) (omega (arith, few))
  expr_small Newat line at = within s_step (omega arith)
  expr_small Eof line at = within s_step (omega arith)
  expr_small Ok line at = within s_step (omega arith)

  pub exprs_small : (es : Exprs) (line at : ℕ) → Small (exprs line es at) (9 * sizes es)
  exprs_small no_expr line at = within s_empty (omega arith)
  exprs_small (more_exprs e rest) line at = within (s_join (expr_small e line at) (exprs_small rest line _)) (omega arith)

  pub iterators_small : (is : Iterators) (inside : ℕ → Laid) (line at back m : ℕ) → ((a to : ℕ) → Small (inside a to) m) → Small (iterators line nothing is inside back at) (2 * binds is + (9 * inner is + m))
  iterators_small no_iterator inside line at back m h = within (h back at) (omega arith)
  iterators_small (more_iterators b es rest) inside line at back m h =
      within (s_join (exprs_small es line at) (s_join s_step (s_join s_step (s_join (s_join s_empty (bind_small b line _)) (iterators_small rest inside line _ _ m h))))) (omega arith)

  pub condition_small : (t : Condition) (line at a : ℕ) → Small (condition line t a at) (9 * condition_size t + 1)
  condition_small no_condition line at a = within s_empty (omega arith)
  condition_small (only_if c) line at a = within (s_join (expr_small c line at) s_step) (omega arith)

  arguments_small : (all : Arguments) (line at : ℕ) → Small (arguments line all at) (9 * values all + passed all)
  arguments_small no_argument line at = within s_empty (omega arith)
  arguments_small (rd_argument e rest) line at = within (s_join (expr_small e line at) (arguments_small rest line _)) (omega arith)
  arguments_small (wr_argument x rest) line at = within (s_join s_step (arguments_small rest line _)) (omega arith)
  arguments_small (rw_argument x rest) line at = within (s_join s_step (arguments_small rest line _)) (omega arith)
