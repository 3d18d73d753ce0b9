-- Bases as the code looks them up, and modes without their attributes.
use Rattle.std.specs.Prelude.{◌≡◌, ℕ, suc, [], ◌∷◌, Option, Some, None, bytes_eq, cond}
use Rattle.std.specs.Global.{Vec}
use Rattle.indexmap.specs.IndexMap.{IndexMap}
use Rattle.setl_tree.specs.declared.mode.Attribute.{Attribute}
use Rattle.setl_tree.specs.declared.mode.Core.{Core, fold-Core}
use Rattle.setl_names.specs.ByName.{value_at}
use Rattle.setl_modes.specs.Modes.{Mode}
use Rattle.setl_modes.specs.Declarations.{Name, Bases, core_step, mode_step}

-- the number of the first base of a name, where they are counted from n
abbrev pub number_from : ℕ → Bases → Name → Option ℕ
number_from n [] x = None
number_from n (b ∷ bs) x = cond (bytes_eq b.0 x) (Some n) (number_from (suc n) bs x)

-- the table gives the number of the first base of each name
abbrev pub Finds : {S : Type 0} → IndexMap (Vec ℕ) ℕ S → Bases → Type 0
Finds table bases = (x : Name) → value_at table x ≡ number_from 0 bases x

-- what a mode without its attribute means
abbrev pub core_mode : Core → Option Attribute → Bases → Mode
core_mode = fold-Core (Option Attribute → Bases → Mode) (Bases → Mode) core_step mode_step
