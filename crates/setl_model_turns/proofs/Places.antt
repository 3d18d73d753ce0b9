-- Steps of updates.
use Rattle.std.proofs.Common.{◌≡◌, refl, ℕ, List, [], ◌∷◌, Some, None}
use Rattle.std.specs.Prelude.{◌≤◌, reverse}
use Rattle.setl_operators_table.specs.Outcome.{Outcome}
use Rattle.setl_program.specs.Program.{Selectors, no_selector, round_selector, brace_selector, Place, no_stmt}
use Rattle.setl_model_runs.specs.Variable.{Variable, Global, Own, Bound}
use Rattle.setl_model.specs.Core.{Execute, Result, Selected, Change, Puts, Combines, Takes, Dropping, Frame, InStmt, Storing, Core, read_variable}
use Rattle.setl_model.specs.Places.{Taken, TakesOut, IsEmpty, CannotTake, take_out, take_from, store_whole, update, select, change_place}
use Rattle.setl_model_turns.specs.Laws.{with_turns}
use Rattle.setl_operators_turns.specs.Outcomes.{Keeps}
use Rattle.setl_model_turns.specs.PlaceLaws.{parts_keep, wholes_keep, combined_keep}
use Rattle.setl_model_turns.proofs.Moves.{GoesOn, Follows, storing, after_outcome}

-- what a variable holds doesn't rest on the turns
same_variable : (x : Variable) (c : Core) (n : ℕ) → read_variable x (with_turns n c).shared ≡ read_variable x c.shared
same_variable (Global name) c n = refl
same_variable (Own body name) c n = refl
same_variable (Bound former name) c n = refl

taking_from : (t : Taken) (line : ℕ) (x : Variable) (at : List Selected) (target : Variable) (work : List Frame) → GoesOn (take_from t line x at target work)
taking_from (TakesOut small v) line x at target work c n h =
    rw (same_variable x c n) (after_outcome _ _ _ line _ (λ new. storing line x new (Result None) (Storing ((target, v) ∷ []) ∷ InStmt line Dropping ∷ work)) (wholes_keep at (read_variable x c.shared) (Some small) c.shared.world.left n h) c n h)
taking_from IsEmpty line x at target work c n h = (n, h, refl)
taking_from (CannotTake fault) line x at target work c n h = refl

storing_whole : (left : ℕ) (o o' : Outcome) (line : ℕ) (x : Variable) (work : List Frame) → Keeps left o o' → (c : Core) (n : ℕ) → c.shared.world.left ≤ n → Follows (store_whole o line x work c) (store_whole o' line x work (with_turns n c))
storing_whole left o o' line x work k c n h = after_outcome left o o' line _ (λ new. storing line x new (Execute no_stmt) work) k c n h

updating : (change : Change) (line : ℕ) (x : Variable) (at : List Selected) (work : List Frame) → GoesOn (update change line x at work)
updating (Puts v) line x at work c n h =
    rw (same_variable x c n) (storing_whole _ _ _ line x work (wholes_keep at (read_variable x c.shared) v c.shared.world.left n h) c n h)
updating (Combines o v) line x at work c n h =
    rw (same_variable x c n) (storing_whole _ _ _ line x work (combined_keep o v at (read_variable x c.shared) c.shared.world.left n h) c n h)
updating (Takes k target) line x at work c n h =
    rw (same_variable x c n) (after_outcome _ _ _ line _ (λ part. taking_from (take_out k part) line x at target work) (parts_keep at (read_variable x c.shared) c.shared.world.left n h) c n h)

pub selecting : (rest : Selectors) (line : ℕ) (x : Variable) (change : Change) (got : List Selected) (work : List Frame) → GoesOn (select line x change got rest work)
selecting no_selector line x change got work c n h = updating change line x (reverse got) work c n h
selecting (round_selector e rest) line x change got work c n h = (n, h, refl)
selecting (brace_selector e rest) line x change got work c n h = (n, h, refl)

pub changing : (line : ℕ) (p : Place) (change : Change) (work : List Frame) → GoesOn (change_place line p change work)
changing line p change work c n h = selecting p.selectors line p.variable change [] work c n h
