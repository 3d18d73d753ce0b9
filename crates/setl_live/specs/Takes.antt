-- Takes that are last uses.
use Rattle.std.specs.Prelude.{◌≡◌, ◌↔◌, IsTrue, ℕ, suc, ◌+◌, Bool, true, false, ◌&&◌, not, List, map, length, get_or, slice_get, Option, Some}
use Rattle.setl_model_runs.specs.Variable.{Variable, Global}
use Rattle.setl_code.specs.declared.code.Slot.TheVariants as slot
use Rattle.setl_code.specs.declared.code.Instr.{Instr}
use Rattle.setl_code.specs.declared.code.Instr.TheVariants as i
use Rattle.setl_code.specs.declared.code.Step.{Step}
use Rattle.setl_code.specs.declared.code.Body.{Body}
use Rattle.setl_code.specs.Code as plain
use Rattle.setl_code.specs.Piece.{Is}
use Rattle.setl_code.specs.Sound.{ReadLater, may_take}
use Rattle.setl_code.specs.Plain.{own_variables, plain_body}
use Rattle.setl_code.specs.MayRun.{StepsFit, Differ}
use Rattle.setl_live.specs.Slots.{OnlyMain, TellsDeclared}

-- what is taken may be taken and isn't read before it is written, as sound code has it, `SoundBody`
abbrev pub TakesLast : List Variable → ℕ → plain.Body → Type 0
TakesLast declared n b = (at line : ℕ) (x : Variable) → Is b.steps at line (plain.Take x) → (may_take declared x ≡ true) × (ReadLater n b x (suc at) → ⊥)

-- An answer tells whether the takes of a body are last uses. A table tells which own slots of the main program are declared.
abbrev pub TellsTakes : Bool → List Variable → List (List ℕ) → ℕ → Body → List Bool → Type 0
TellsTakes so declared vars n b table =
    OnlyMain declared → (n ≡ 0 → TellsDeclared declared (Some b) table)
    → Differ (own_variables n b.parameters b.names) → StepsFit (length vars) (length b.parameters + length b.names) b.steps
    → IsTrue so ↔ TakesLast declared n (plain_body (map Global vars) n b)

-- ---- how the code finds it

-- whether an instruction, if it takes a slot, takes an own one that isn't refused and isn't read later
abbrev pub is_right : (last : Bool) → (refused : List Bool) → Instr → Bool
is_right last refused (i.Take (slot.Own k)) = last && not (get_or refused k false)
is_right last refused (i.Take (slot.Global k)) = false
is_right last refused what = true

abbrev pub AreRight : (marks refused : List Bool) → List Step → Type 0
AreRight marks refused steps = (at : ℕ) (s : Step) → slice_get steps at ≡ Some s → is_right (get_or marks at false) refused s.what ≡ true

pub record WrongTake (marks refused : List Bool) (steps : List Step) : Type 0 where
  pub at : ℕ
  pub step : Step
  pub is : slice_get steps at ≡ Some step
  pub wrong : is_right (get_or marks at false) refused step.what ≡ false
