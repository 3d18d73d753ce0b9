-- Forms that stand over bases, and bases that are lengthened by what is stored.
use Rattle.std.specs.Prelude.{◌≡◌, ℕ, List, [], ◌∷◌, Option, Some, None}
use Rattle.setl_value.specs.Datum.{Datum}
use Rattle.setl_modes.specs.Modes.{Mode}
use Rattle.setl_rep_bases.specs.Bases.{BasesState}
use Rattle.setl_rep_forms.specs.declared.held.Held.{Held}
use Rattle.setl_rep_plain.specs.Standing.{IsHeldOver}
use Rattle.setl_rep_entering.specs.Entering.{AreLengthened}

abbrev pub AreHeldOver : BasesState → List Held → Type 0
AreHeldOver bs [] = Unit {0}
AreHeldOver bs (h ∷ hs) = IsHeldOver bs h × AreHeldOver bs hs

-- ---- a store of a value or `om`

-- `om` has no places
abbrev pub AreLengthenedBy : Mode → Option Datum → (instance : ℕ) → BasesState → BasesState → Type 0
AreLengthenedBy m None n bs cs = cs ≡ bs
AreLengthenedBy m (Some d) n bs cs = AreLengthened m d n bs cs
