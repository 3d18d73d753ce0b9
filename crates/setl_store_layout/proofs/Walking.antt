-- Lines one behind the other.
use Rattle.std.proofs.Common.{◌≡◌, ℕ, suc, ◌<◌, List, [], ◌∷◌, length, map, get_or, Result, Ok, Err, sym, subst, arith, zero}
use Rattle.std.specs.Prelude.{OnOk}
use Rattle.setl_code.specs.CodeCore.{CodeCore}
use Rattle.setl_code_layout.specs.Layout.{variable_lines}
use Rattle.setl_modes.specs.declared.mode.NamedMode.{NamedMode}
use Rattle.setl_modes_dump.specs.Dump.{Bases}
use Rattle.setl_program.specs.declared.program.Declared.{Declared}
use Rattle.setl_program.specs.code.Plain.{plain_declared}
use Rattle.setl_store_layout.specs.Layout.{AreShown, IsShown}

-- what follows of an answer
pub on_ok : {V E P Q : Type 0} (r : Result V E) → (P → Q) → OnOk r P → OnOk r Q
on_ok (Ok v) f p = f p
on_ok (Err e) f p = p

abbrev pub names_of : List NamedMode → List (List ℕ)
names_of bs = map (λ (b : NamedMode). b.name) bs

abbrev pub declared_lines : Bases → CodeCore → List Declared → List ℕ
declared_lines told k ds = variable_lines told (map plain_declared ds) k

-- a declared variable that can be shown
pub shown_at : (count : ℕ) (ds : List Declared) (n : ℕ) (d : Declared) → n < length ds → d ≡ get_or ds n d → AreShown count (map plain_declared ds) → IsShown count (plain_declared d)
shown_at count [] n d h is all = absurd (omega (arith, h))
shown_at count (e ∷ ds) zero d h is all = subst (λ (x : Declared). IsShown count (plain_declared x)) (sym is) all.0
shown_at count (e ∷ ds) (suc n) d h is all = shown_at count ds n d (omega (arith, h)) is all.1
