-- Steps of updates.
use Rattle.std.specs.Prelude.{ℕ, List, [], ◌∷◌, reverse, Option, Some, None}
use Rattle.setl_value.specs.Datum.{Datum, tuple, set, element_list, part_list, set_of, tuple_of}
use Rattle.setl_model_runs.specs.Variable.{Variable}
use Rattle.setl_operators_table.specs.declared.Operator.TheVariants.{Get, Images, Put, PutImages}
use Rattle.setl_operators_table.specs.Outcome.{Fault, OmFault, KindFault, Outcome, Gives, then_with}
use Rattle.setl_operators_table.specs.Operators.{op_of}
use Rattle.setl_value.specs.WellFormed.{trim}
use Rattle.setl_program.specs.declared.kinds.Taking.{Taking}
use Rattle.setl_program.specs.declared.kinds.Taking.TheVariants.{TakeLeast, TakeFirst, TakeLast}
use Rattle.setl_program.specs.Program.{Selectors, no_selector, round_selector, brace_selector, Place, no_stmt}
use Rattle.setl_model_runs.specs.Run.{Move}
use Rattle.setl_model.specs.Core.{Execute, Evaluate, Result, Selected, Round, Brace, Change, Puts, Combines, Takes, RoundSelector, BraceSelector, Dropping, Frame, InStmt, Storing, Core, read_variable}
use Rattle.setl_model.specs.World.{stop}
use Rattle.setl_model.specs.Moves.{go, store_or_bind, with_outcome}

-- ---- parts at selectors

-- the part at one selector, and the whole with another part there
abbrev pub part_of : Selected → Option Datum → ℕ → Outcome
part_of (Round x) from left = op_of Get (from ∷ x ∷ []) left
part_of (Brace x) from left = op_of Images (from ∷ x ∷ []) left

abbrev pub with_part_at : Selected → Option Datum → Option Datum → ℕ → Outcome
with_part_at (Round x) from v left = op_of Put (from ∷ x ∷ v ∷ []) left
with_part_at (Brace x) from v left = op_of PutImages (from ∷ x ∷ v ∷ []) left

-- the part at several selectors, the outermost first
abbrev pub part_at_all : List Selected → Option Datum → ℕ → Outcome
part_at_all [] v left = Gives v 0
part_at_all (s ∷ ss) v left = then_with (part_of s v left) left (λ part now. part_at_all ss part now)

-- the new whole where the part at these selectors becomes v; the part itself isn't read
abbrev pub with_part_at_all : List Selected → Option Datum → Option Datum → ℕ → Outcome
with_part_at_all [] whole v left = Gives v 0
with_part_at_all (s ∷ []) whole v left = with_part_at s whole v left
with_part_at_all (s ∷ ss) whole v left =
    then_with (part_of s whole left) left (λ part now. then_with (with_part_at_all ss part v now) now (λ new later. with_part_at s whole new later))

-- the new whole where the part at these selectors is combined with v: the parts are read from the outermost inwards,
-- then comes the operator, then the new parts are put from the innermost outwards
abbrev pub combined : List Selected → Option Datum → (Option Datum → ℕ → Outcome) → ℕ → Outcome
combined [] whole f left = f whole left
combined (s ∷ ss) whole f left =
    then_with (part_of s whole left) left (λ part now. then_with (combined ss part f now) now (λ new later. with_part_at s whole new later))

-- ---- taking out

-- What a set or tuple is without one that is taken out, and that one; or it has none; or why it has none.
pub data Taken : Type 0 where
  TakesOut : (left_over : Datum) (taken : Option Datum) → Taken
  IsEmpty : Taken
  CannotTake : Fault → Taken

abbrev pub take_least : List Datum → Taken
take_least [] = IsEmpty
take_least (d ∷ ds) = TakesOut (set_of ds) (Some d)

abbrev pub take_first : List (Option Datum) → Taken
take_first [] = IsEmpty
take_first (p ∷ ps) = TakesOut (tuple_of (trim ps)) p

-- the components in reverse order
abbrev pub take_last : List (Option Datum) → Taken
take_last [] = IsEmpty
take_last (p ∷ ps) = TakesOut (tuple_of (trim (reverse ps))) p

abbrev pub take_out : Taking → Option Datum → Taken
take_out TakeLeast (Some (set ms)) = take_least (element_list ms)
take_out TakeFirst (Some (tuple ps)) = take_first (part_list ps)
take_out TakeLast (Some (tuple ps)) = take_last (reverse (part_list ps))
take_out k None = CannotTake OmFault
take_out k (Some d) = CannotTake KindFault

-- ---- steps

-- the smaller value is stored in the place first, then what was taken in its variable; of an empty source `om` is
-- stored in that variable alone
abbrev pub take_from : Taken → ℕ → Variable → List Selected → Variable → List Frame → Core → Move Core
take_from (TakesOut small v) line x at target work c =
    with_outcome (with_part_at_all at (read_variable x c.shared) (Some small) c.shared.world.left) line c
    (λ new d. store_or_bind line x new (Result None) (Storing ((target, v) ∷ []) ∷ InStmt line Dropping ∷ work) d)
take_from IsEmpty line x at target work c =
    go (Result None) (Storing ((target, None) ∷ []) ∷ InStmt line Dropping ∷ work) c
take_from (CannotTake fault) line x at target work c = stop fault line

-- the new whole value of a variable is stored
abbrev pub store_whole : Outcome → ℕ → Variable → List Frame → Core → Move Core
store_whole o line x work c = with_outcome o line c (λ new d. store_or_bind line x new (Execute no_stmt) work d)

-- once the right side and the selectors have results: reads the variable, makes its new whole value and stores it
abbrev pub update : Change → ℕ → Variable → List Selected → List Frame → Core → Move Core
update (Puts v) line x at work c = store_whole (with_part_at_all at (read_variable x c.shared) v c.shared.world.left) line x work c
update (Combines o v) line x at work c =
    store_whole (combined at (read_variable x c.shared) (λ part now. op_of o (part ∷ v ∷ []) now) c.shared.world.left) line x work c
update (Takes k target) line x at work c =
    with_outcome (part_at_all at (read_variable x c.shared) c.shared.world.left) line c (λ part d. take_from (take_out k part) line x at target work d)

-- the next selector of a place from left to right, or the update
abbrev pub select : ℕ → Variable → Change → List Selected → Selectors → List Frame → Core → Move Core
select line x change got no_selector work c = update change line x (reverse got) work c
select line x change got (round_selector e rest) work c = go (Evaluate e) (InStmt line (RoundSelector x change got rest) ∷ work) c
select line x change got (brace_selector e rest) work c = go (Evaluate e) (InStmt line (BraceSelector x change got rest) ∷ work) c

-- a place with what is done to it
abbrev pub change_place : ℕ → Place → Change → List Frame → Core → Move Core
change_place line p change work c = select line p.variable change [] p.selectors work c
