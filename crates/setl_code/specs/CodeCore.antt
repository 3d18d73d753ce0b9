-- The state of the stack machine.
use Rattle.setl_program.specs.declared.kinds.Collection.{Collection}
use Rattle.std.specs.Prelude.{ℕ, zero, suc, List, [], ◌∷◌, ◌++◌, map, cond, Option, Some, None}
use Rattle.setl_value.specs.Datum.{Datum}
use Rattle.setl_model_runs.specs.Variable.{Variable, Global, Own, Bound, is_variable}
use Rattle.setl_model.specs.Collections.{collection}
use Rattle.setl_model.specs.Calls.{parameter}
use Rattle.setl_model.specs.World.{World, Holding}
use Rattle.setl_model.specs.Core.{Item}
use Rattle.setl_code.specs.Code.{Body}

-- What a slot holds: a value or `om`, or nothing, since it was taken.
pub data Held : Type 0 where
  There : Option Datum → Held
  Gone : Held

-- Variables with what they hold, in the order of their slots.
abbrev pub Cells : Type 0
Cells = List (Variable × Held)

abbrev pub held_in : Cells → Variable → Held
held_in [] x = There None
held_in (s ∷ ss) x = cond (is_variable s.0 x) s.1 (held_in ss x)

-- no write changes the order
abbrev pub with_held : Cells → Variable → Held → Cells
with_held [] x h = (x, h) ∷ []
with_held (s ∷ ss) x h = cond (is_variable s.0 x) ((x, h) ∷ ss) (s ∷ with_held ss x h)

-- every variable is `om`
abbrev pub cleared : List Variable → Cells
cleared xs = map (λ x. (x, There None)) xs

-- the variables of a body by slots
abbrev pub variables_of : ℕ → Body → List Variable
variables_of n b = map (parameter n) b.parameters ++ b.names

-- An operand: a result, the items that an iterator or an iterator of pairs still gives, or a collection begun, the
-- latest first.
pub data Operand : Type 0 where
  Result : Option Datum → Operand
  Iterator PairIterator : List Item → Operand
  Collecting : Collection → (got : List (Option Datum)) → Operand

-- a body at work, with its next step
pub record Activation : Type 0 where
  pub body : ℕ
  pub at : ℕ
  pub own : Cells
  pub operands : List Operand

-- What `ok` keeps.
pub record Copy : Type 0 where
  pub globals : Cells
  pub now : Activation
  pub callers : List Activation

-- The core: the activation at work, those that wait for it, the innermost first, and the copies, the latest first.
pub record CodeCore : Type 0 where
  pub globals : Cells
  pub now : Activation
  pub callers : List Activation
  pub kept : List Copy
  pub world : World

-- how the core holds its world
abbrev pub holding : Holding CodeCore
holding = record { world = λ k. k.world; put = λ w k. record k { world = w } }

abbrev pub held : Variable → CodeCore → Held
held (Global name) k = held_in k.globals (Global name)
held (Own body name) k = held_in k.now.own (Own body name)
held (Bound former name) k = held_in k.now.own (Bound former name)

-- the outermost activation: the last of those that wait, or the one at work where none waits
abbrev pub outermost : Activation → (callers : List Activation) → Activation
outermost a [] = a
outermost a (b ∷ bs) = outermost b bs

-- what a variable of the main program holds, whatever body is at work
abbrev pub main_held : Variable → CodeCore → Held
main_held (Global name) k = held_in k.globals (Global name)
main_held (Own body name) k = held_in (outermost k.now k.callers).own (Own body name)
main_held (Bound former name) k = held_in (outermost k.now k.callers).own (Bound former name)

abbrev pub write : Variable → Held → CodeCore → CodeCore
write (Global name) h k = record k { globals = with_held k.globals (Global name) h }
write (Own body name) h k = record k { now = record k.now { own = with_held k.now.own (Own body name) h } }
write (Bound former name) h k = record k { now = record k.now { own = with_held k.now.own (Bound former name) h } }

-- ---- operands

-- what an operand serves as; a collection serves as the set or tuple of what it holds
abbrev pub value_of : Operand → Option (Option Datum)
value_of (Result v) = Some v
value_of (Iterator items) = None
value_of (PairIterator items) = None
value_of (Collecting k got) = Some (Some (collection k got))

-- Results in their order, and the operands below them; or there are too few.
pub data Popped : Type 0 where
  Pops : (values : List (Option Datum)) (rest : List Operand) → Popped
  Lacks : Popped

abbrev pub pop_before : Option (Option Datum) → (Option Datum → Popped) → Popped
pop_before None f = Lacks
pop_before (Some v) f = f v

-- so many results, before these
abbrev pub popped : ℕ → List (Option Datum) → List Operand → Popped
popped zero vs xs = Pops vs xs
popped (suc n) vs [] = Lacks
popped (suc n) vs (o ∷ xs) = pop_before (value_of o) (λ v. popped n (v ∷ vs) xs)

-- without so many iterators on top
abbrev pub without_iterators : ℕ → List Operand → Option (List Operand)
without_iterators zero xs = Some xs
without_iterators (suc n) (Iterator items ∷ xs) = without_iterators n xs
without_iterators (suc n) (PairIterator items ∷ xs) = without_iterators n xs
without_iterators (suc n) xs = None
