-- Sound code: no operand is ever missing or of a wrong kind, no taken slot is read, and each way round takes a turn.
-- Closed code: what it names is there. And few enough of everything.
use Rattle.std.specs.Prelude.{◌≡◌, ℕ, zero, suc, ◌<◌, ◌^◌, Bool, true, false, ◌&&◌, ◌||◌, not, List, [], ◌∷◌, ◌++◌, length, slice_get, Option, Some, None}
use Rattle.std.specs.List.{Contains}
use Rattle.setl_model_runs.specs.Variable.{Variable, Global, is_variable}
use Rattle.setl_tree.specs.declared.tree.Passing.{Passing}
use Rattle.setl_tree.specs.declared.tree.Passing.TheVariants.{Rd, Wr, Rw}
use Rattle.setl_program.specs.Program.{Parameter}
use Rattle.setl_program.specs.Updating.{is_updating}
use Rattle.setl_model.specs.Calls.{parameter}
use Rattle.setl_code.specs.Code.{Alteration, Putting, Combining, TakingOut, Instr, Load, Take, StoreIn, Alter, Decides, Unless, Jump, NextOr, CallBody, ReturnTop, GoBack, StopRun, Step, Body, Code}
use Rattle.setl_code.specs.Piece.{Is}
use Rattle.setl_code.specs.Names.{is_among}
use Rattle.setl_code.specs.CodeCore.{variables_of}
use Rattle.setl_code.specs.Shapes.{Shape, all_serve, Outs, outs, successors, free_successors}

-- ---- shapes

-- The shape at each step, where the step is reached.
abbrev pub Table : Type 0
Table = List (Option Shape)

-- the shape at a step, if it is reached
abbrev pub shape_at : Table → ℕ → Option Shape
shape_at [] at = None
shape_at (s ∷ ss) zero = s
shape_at (s ∷ ss) (suc at) = shape_at ss at

abbrev pub says : Option Shape → Shape → Bool
says None s = false
says (Some t) s = all_serve s t

abbrev pub all_said : Table → List (ℕ × Shape) → Bool
all_said table [] = true
all_said table (o ∷ os) = says (shape_at table o.0) o.1 && all_said table os

-- the step doesn't lack an operand, and the table says the shapes where it leads
abbrev pub is_fine : Table → Outs → Bool
is_fine table None = false
is_fine table (Some os) = all_said table os

-- ---- last reads

abbrev pub is_back : Passing → Bool
is_back Rd = false
is_back Wr = true
is_back Rw = true

-- whether an instruction reads a variable; a return reads the parameters that it hands back
abbrev pub is_handed : ℕ → List Parameter → Variable → Bool
is_handed n [] x = false
is_handed n (p ∷ ps) x = (is_back p.passing && is_variable (parameter n p) x) || is_handed n ps x

abbrev pub is_read : ℕ → Body → Instr → Variable → Bool
is_read n b (Load y) x = is_variable y x
is_read n b (Take y) x = is_variable y x
is_read n b (Alter a y ks) x = is_variable y x
is_read n b ReturnTop x = is_handed n b.parameters x
is_read n b i x = false

abbrev pub is_written : Instr → Variable → Bool
is_written (StoreIn y) x = is_variable y x
is_written i x = false

-- A path from this step reaches a read of a variable before a write of it.
pub data ReadLater (n : ℕ) (b : Body) (x : Variable) : ℕ → Type 0 where
  reads : {at line : ℕ} {i : Instr} → Is b.steps at line i → is_read n b i x ≡ true → ReadLater n b x at
  later : {at line to : ℕ} {i : Instr} → Is b.steps at line i → is_written i x ≡ false → Contains (successors i (suc at)) to → ReadLater n b x to → ReadLater n b x at

-- a variable that isn't of the whole program and isn't declared may be taken
abbrev pub may_take : List Variable → Variable → Bool
may_take declared (Global name) = false
may_take declared x = not (is_among declared x)

-- ---- the whole

-- no instruction calls the main program or returns from it
abbrev pub StaysBelow : ℕ → Instr → Type 0
StaysBelow n (CallBody m) = 0 < m
StaysBelow n ReturnTop = 0 < n
StaysBelow n i = Unit {0}

abbrev pub height_at : List ℕ → ℕ → ℕ
height_at [] at = 0
height_at (h ∷ hs) zero = h
height_at (h ∷ hs) (suc at) = height_at hs at

-- each of these places is lower
abbrev pub AllLower : List ℕ → ℕ → List ℕ → Type 0
AllLower hs h [] = Unit {0}
AllLower hs h (to ∷ tos) = (height_at hs to < h) × AllLower hs h tos

-- A body of sound code, with its number.
pub record SoundBody (c : Code) (declared : List Variable) (n : ℕ) (b : Body) : Type 0 where
  pub below : (at line : ℕ) (i : Instr) → Is b.steps at line i → StaysBelow n i
  -- a table of shapes that each step keeps
  pub table : Table
  pub whole : length table ≡ length b.steps
  pub starts : shape_at table 0 ≡ Some []
  pub fine : (at line : ℕ) (i : Instr) (s : Shape) → Is b.steps at line i → shape_at table at ≡ Some s → is_fine table (outs c.bodies i (suc at) s) ≡ true
  -- heights that fall at each step without a turn
  pub heights : List ℕ
  pub falls : (at line : ℕ) (i : Instr) → Is b.steps at line i → AllLower heights (height_at heights at) (free_successors i (suc at))
  -- what is taken isn't read before it is written
  pub takes : (at line : ℕ) (x : Variable) → Is b.steps at line (Take x) → (may_take declared x ≡ true) × (ReadLater n b x (suc at) → ⊥)

-- Code that never lacks an operand, reads no taken slot, and takes a turn on each way round.
pub record Sound (c : Code) (declared : List Variable) : Type 0 where
  pub bodies : (n : ℕ) (b : Body) → slice_get c.bodies n ≡ Some b → SoundBody c declared n b
  pub main : 0 < length c.bodies

-- ---- what is named exists

abbrev pub may_alter : Alteration → Bool
may_alter Putting = true
may_alter (Combining o) = is_updating o
may_alter (TakingOut k) = true

-- a variable has a slot among the variables of the whole program or of the body
abbrev pub HasSlot : Code → ℕ → Body → Variable → Type 0
HasSlot c n b x = is_among (c.vars ++ variables_of n b) x ≡ true

-- what an instruction names is there
abbrev pub Names : Code → ℕ → Body → Instr → Type 0
Names c n b (Load x) = HasSlot c n b x
Names c n b (Take x) = HasSlot c n b x
Names c n b (StoreIn x) = HasSlot c n b x
Names c n b (Alter a x ks) = HasSlot c n b x × (may_alter a ≡ true)
Names c n b (Decides k to) = to < length b.steps
Names c n b (Unless to) = to < length b.steps
Names c n b (Jump to) = to < length b.steps
Names c n b (NextOr to) = to < length b.steps
Names c n b (CallBody m) = m < length c.bodies
Names c n b i = Unit {0}

abbrev pub is_last : Instr → Bool
is_last (Jump to) = true
is_last ReturnTop = true
is_last GoBack = true
is_last StopRun = true
is_last i = false

abbrev pub ends_body : Option Step → Bool
ends_body None = false
ends_body (Some s) = is_last s.1

abbrev pub last_step : List Step → Option Step
last_step [] = None
last_step (s ∷ []) = Some s
last_step (s ∷ ss) = last_step ss

-- A body of closed code, with its number.
pub record ClosedBody (c : Code) (n : ℕ) (b : Body) : Type 0 where
  pub names : (at line : ℕ) (i : Instr) → Is b.steps at line i → Names c n b i
  pub last : ends_body (last_step b.steps) ≡ true

-- Code in which each slot, step and body that is named is there, and each body ends.
pub record Closed (c : Code) : Type 0 where
  pub bodies : (n : ℕ) (b : Body) → slice_get c.bodies n ≡ Some b → ClosedBody c n b

-- Code whose bodies, steps and slots have numbers of 32 bits.
pub record Few (c : Code) (declared : List Variable) : Type 0 where
  pub bodies : (n : ℕ) (b : Body) → slice_get c.bodies n ≡ Some b → (length b.steps < 2 ^ 32) × (length (variables_of n b) < 2 ^ 32)
  pub counts : (length c.bodies < 2 ^ 32) × (length c.vars < 2 ^ 32) × (length declared < 2 ^ 32)
