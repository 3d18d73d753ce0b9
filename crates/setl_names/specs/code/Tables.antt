-- The table of procedures as the code keeps it.
use Rattle.std.specs.Prelude.{◌≡◌, ℕ, List}
use Rattle.std.specs.Global.{Vec}
use Rattle.std.specs.Option.{option_map}
use Rattle.indexmap.specs.IndexMap.{IndexMap}
use Rattle.setl_tree.specs.declared.tree.Proc.{Proc}
use Rattle.setl_tree.specs.declared.tree.Param.{Param}
use Rattle.setl_names.specs.ByName.{value_at}
use Rattle.setl_names.specs.Names.{Name}
use Rattle.setl_names.specs.Procedures.{found_from}

-- the table gives the place of each procedure, where the places are counted from n, and its parameters, by its name
abbrev pub Finds : {T S : Type 0} → IndexMap (Vec ℕ) T S → (T → ℕ × List Param) → ℕ → List Proc → Type 0
Finds table found n procs = (x : Name) → option_map found (value_at table x) ≡ found_from n procs x
