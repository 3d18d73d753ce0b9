-- The dump of a store, and of which declared variables there is one.
use Rattle.std.specs.Prelude.{ℕ, zero, suc, List}
use Rattle.std.specs.List.{AllByRecursion}
use Rattle.setl_model_runs.specs.Variable.{Variable, Global, Own, Bound}
use Rattle.setl_modes.specs.Modes.{Mode}
use Rattle.setl_code_layout.specs.Layout.{code_layout, members_of, NamesWithin}
use Rattle.setl_store.specs.Standing.{Standing}

-- the dump of its core over the members that it tells, with the names of the bases and the modes of the variables in the order
-- of their declarations
abbrev pub layout : List (List ℕ) → List (Variable × Mode) → Standing → List ℕ
layout names modes s = code_layout names modes (members_of s.bases) s.core

-- ---- what can be shown

-- it is a variable that all bodies see or one of the main body's own
abbrev pub IsOfMain : Variable → Type 0
IsOfMain (Global name) = Unit {0}
IsOfMain (Own zero name) = Unit {0}
IsOfMain (Own (suc n) name) = ⊥
IsOfMain (Bound former name) = ⊥

-- such a variable with such a mode
abbrev pub IsShown : ℕ → Variable × Mode → Type 0
IsShown count m = IsOfMain m.0 × NamesWithin count m.1

abbrev pub AreShown : ℕ → List (Variable × Mode) → Type 0
AreShown count modes = AllByRecursion (IsShown count) modes
