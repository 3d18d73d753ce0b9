-- What a state of marked code has alike with a state of the code: all but some variables that were taken.
use Rattle.std.specs.Prelude.{◌≡◌, ℕ, true, List, [], ◌∷◌, ◌⊎◌, slice_get, Some}
use Rattle.setl_model_runs.specs.Variable.{Variable}
use Rattle.setl_model_runs.specs.Run.{State, Next, Goes, Ends}
use Rattle.setl_code.specs.Code.{Body, Code}
use Rattle.setl_code.specs.CodeCore.{Held, Gone, Cells, held_in, Activation, Copy, CodeCore}
use Rattle.setl_code.specs.Sound.{ReadLater, may_take}

-- which variables may lack what they hold, by the number of a body and a place in it
-- a variable that may be taken
abbrev pub Takeable : List Variable → ℕ → ℕ → Variable → Type 0
Takeable declared n at x = may_take declared x ≡ true

-- and that no path from the place reads before it writes it
abbrev pub Dead : List Variable → Code → ℕ → ℕ → Variable → Type 0
Dead declared c n at x = (may_take declared x ≡ true) × ((b : Body) → slice_get c.bodies n ≡ Some b → ReadLater n b x at → ⊥)

-- the same, or nothing where it may be lacking
abbrev pub SameOrGone : Type 0 → Held → Held → Type 0
SameOrGone lacks h g = (g ≡ h) ⊎ ((g ≡ Gone) × lacks)

abbrev pub AlikeCells : (Variable → Type 0) → Cells → Cells → Type 0
AlikeCells lacks own marked = (x : Variable) → SameOrGone (lacks x) (held_in own x) (held_in marked x)

-- the same body at the same place with the same operands, and with such cells
pub record AlikeActivation (lacks : ℕ → ℕ → Variable → Type 0) (a m : Activation) : Type 0 where
  pub same : m ≡ record a { own = m.own }
  pub own : AlikeCells (lacks a.body a.at) a.own m.own

abbrev pub AlikeActivations : (ℕ → ℕ → Variable → Type 0) → List Activation → List Activation → Type 0
AlikeActivations lacks [] [] = Unit {0}
AlikeActivations lacks (a ∷ more) (m ∷ others) = AlikeActivation lacks a m × AlikeActivations lacks more others
AlikeActivations lacks more others = ⊥

pub record AlikeCopy (lacks : ℕ → ℕ → Variable → Type 0) (c m : Copy) : Type 0 where
  pub globals : m.globals ≡ c.globals
  pub now : AlikeActivation lacks c.now m.now
  pub callers : AlikeActivations lacks c.callers m.callers

abbrev pub AlikeCopies : (ℕ → ℕ → Variable → Type 0) → List Copy → List Copy → Type 0
AlikeCopies lacks [] [] = Unit {0}
AlikeCopies lacks (c ∷ older) (m ∷ others) = AlikeCopy lacks c m × AlikeCopies lacks older others
AlikeCopies lacks older others = ⊥

-- The same world and the same variables of the whole program, and activations and copies that are alike.
pub record AlikeCore (lacks : ℕ → ℕ → Variable → Type 0) (k m : CodeCore) : Type 0 where
  pub globals : m.globals ≡ k.globals
  pub world : m.world ≡ k.world
  pub now : AlikeActivation lacks k.now m.now
  pub callers : AlikeActivations lacks k.callers m.callers
  pub kept : AlikeCopies lacks k.kept m.kept

-- and the same was written and told
pub record AlikeState (lacks : ℕ → ℕ → Variable → Type 0) (s t : State CodeCore) : Type 0 where
  pub core : AlikeCore lacks s.core t.core
  pub out : t.out ≡ s.out
  pub events : t.events ≡ s.events

-- both go on, and then only variables lack that aren't read before they are written, or both end alike
abbrev pub AlikeNext : List Variable → Code → Next CodeCore → Next CodeCore → Type 0
AlikeNext declared c (Goes s) (Goes t) = AlikeState (Dead declared c) s t
AlikeNext declared c (Ends e s) (Ends f t) = (f ≡ e) × AlikeState (Takeable declared) s t
AlikeNext declared c x y = ⊥
