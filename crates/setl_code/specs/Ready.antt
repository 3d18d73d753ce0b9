-- States that sound code goes through: the operands have the shape of their place, and no taken slot is read.
use Rattle.std.specs.Prelude.{◌≡◌, ℕ, suc, true, List, [], ◌∷◌, slice_get, Some, IsSome}
use Rattle.setl_model_runs.specs.Variable.{Variable, Global, Own, Bound}
use Rattle.setl_model.specs.Core.{Item, One, Two}
use Rattle.setl_code.specs.Code.{Instr, Body, Code}
use Rattle.setl_code.specs.Piece.{Is}
use Rattle.setl_code.specs.CodeCore.{Gone, Cells, held_in, Operand, Result, Iterator, PairIterator, Collecting, Activation, Copy, CodeCore, held}
use Rattle.setl_code.specs.Shapes.{Kind, AResult, ACollection, AnIterator, APairIterator, Shape, all_serve, results, handed, outs}
use Rattle.setl_code.specs.Sound.{shape_at, is_read, ReadLater, SoundBody, Sound}

-- ---- operands

abbrev pub AllSingle : List Item → Type 0
AllSingle [] = Unit {0}
AllSingle (One v ∷ items) = AllSingle items
AllSingle (Two v w ∷ items) = ⊥

abbrev pub AllPairs : List Item → Type 0
AllPairs [] = Unit {0}
AllPairs (One v ∷ items) = ⊥
AllPairs (Two v w ∷ items) = AllPairs items

abbrev pub HasKind : Operand → Kind → Type 0
HasKind (Result v) AResult = Unit {0}
HasKind (Collecting k got) AResult = Unit {0}
HasKind (Collecting k got) ACollection = Unit {0}
HasKind (Iterator items) AnIterator = AllSingle items
HasKind (PairIterator items) APairIterator = AllPairs items
HasKind o k = ⊥

-- the operands have these kinds, one by one
abbrev pub HaveShape : List Operand → Shape → Type 0
HaveShape [] [] = Unit {0}
HaveShape (o ∷ os) (k ∷ ks) = HasKind o k × HaveShape os ks
HaveShape os ks = ⊥

-- ---- activations

-- a variable that lies in an activation
abbrev pub IsOwn : Variable → Type 0
IsOwn (Global name) = ⊥
IsOwn (Own body name) = Unit {0}
IsOwn (Bound former name) = Unit {0}

-- An activation at a step that is reached, with the operands for it once so many results are pushed. None of its
-- variables that are taken is read before it is written.
pub record AtWork (c : Code) (declared : List Variable) (a : Activation) (pushed : ℕ) : Type 0 where
  pub body : Body
  pub is : slice_get c.bodies a.body ≡ Some body
  pub sound : SoundBody c declared a.body body
  pub shape : Shape
  pub reached : shape_at sound.table a.at ≡ Some shape
  pub below : Shape
  pub operands : HaveShape a.operands below
  pub fits : all_serve (results pushed below) shape ≡ true
  pub taken : (x : Variable) → IsOwn x → held_in a.own x ≡ Gone → ReadLater a.body body x a.at → ⊥

-- Activations that wait for a body of this number, the innermost first; none waits for the main program.
abbrev pub Waiting : Code → List Variable → ℕ → List Activation → Type 0
Waiting c declared n [] = n ≡ 0
Waiting c declared n (a ∷ others) = (b : Body) × (slice_get c.bodies n ≡ Some b) × AtWork c declared a (suc (handed b.parameters)) × Waiting c declared a.body others

-- no slot is taken
abbrev pub Whole : Cells → Type 0
Whole cells = (x : Variable) → held_in cells x ≡ Gone → ⊥

-- the copies lack the result of their `ok`
abbrev pub AllKept : Code → List Variable → List Copy → Type 0
AllKept c declared [] = Unit {0}
AllKept c declared (k ∷ ks) = Whole k.globals × AtWork c declared k.now 1 × Waiting c declared k.now.body k.callers × AllKept c declared ks

-- A state of sound code from which no run is stuck.
pub record Ready (c : Code) (declared : List Variable) (k : CodeCore) : Type 0 where
  pub sound : Sound c declared
  pub globals : Whole k.globals
  pub now : AtWork c declared k.now 0
  pub callers : Waiting c declared k.now.body k.callers
  pub kept : AllKept c declared k.kept

-- What the step in hand finds: its instruction takes operands of their shape, and reads no variable that is taken.
pub record Finds (c : Code) (k : CodeCore) : Type 0 where
  pub body : Body
  pub has : slice_get c.bodies k.now.body ≡ Some body
  pub line : ℕ
  pub instr : Instr
  pub is : Is body.steps k.now.at line instr
  pub shape : Shape
  pub operands : HaveShape k.now.operands shape
  pub takes : IsSome (outs c.bodies instr (suc k.now.at) shape)
  pub reads : (x : Variable) → is_read k.now.body body instr x ≡ true → held x k ≡ Gone → ⊥
