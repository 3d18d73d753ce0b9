-- Files in memory.
use Rattle.std.specs.Prelude.{◌≡◌, ◌⊎◌, ◌↔◌, ℕ, List, ◌∷◌, Bool, ◌||◌, is_none, IsTrue, refl}
use Rattle.std.specs.Coded.{Coded, code_by, coded×, coded_list, coded_ℕ}
use Rattle.std.specs.FinMap.{get}
use Rattle.setl_io.specs.code.Plan.{Plan, plan_code, is_to_fail, after_call}
use Rattle.setl_io.specs.code.TextMap.{TextMap, text_map_code}
use Rattle.setl_io.specs.declared.outside.Load.{Load}
use Rattle.setl_io.specs.declared.outside.Load.TheVariants.{Failed, NoMemory}

-- the texts by name, the names that were asked for, the latest first, and which calls fail
pub record MemFilesState : Type 0 where
  pub texts : TextMap
  pub asked : List (List ℕ)
  pub plan : Plan

-- files are stored as their parts
abbrev pub mem_files_code : Coded MemFilesState
mem_files_code = code_by (TextMap × (List (List ℕ) × Plan)) (coded× text_map_code (coded× (coded_list (coded_list coded_ℕ)) plan_code)) (λ f. (f.texts, (f.asked, f.plan))) (λ q. record { texts = q.0; asked = q.1.0; plan = q.1.1 }) (λ _. refl)

-- the load of this name is a fault: the call is to fail, or the text is missing
abbrev pub load_fails : MemFilesState → List ℕ → Bool
load_fails files name = is_to_fail files.plan || is_none (get files.texts name)

-- after a load of this name whose name was noted
abbrev pub after_load : MemFilesState → List ℕ → MemFilesState
after_load files name = record { texts = files.texts; asked = name ∷ files.asked; plan = after_call files.plan (load_fails files name) }

-- the load was noted and counted, and failed where it is to; or memory for its name was refused, and nothing else happened
abbrev pub LoadsNoted : MemFilesState → List ℕ → MemFilesState → Load → Type 0
LoadsNoted old name new load = ((new ≡ after_load old name) × ((load ≡ Failed) ↔ IsTrue (load_fails old name))) ⊎ ((new ≡ old) × (load ≡ NoMemory))
