-- What a fault of the code says.
use Rattle.std.specs.Prelude.{ℕ, List, ⊤}
use Rattle.setl_debug_script.specs.Scripts.{IsFirstFault}
use Rattle.setl_debug_script.specs.declared.fault.ScriptFault.{ScriptFault}
use Rattle.setl_debug_script.specs.declared.fault.ScriptFault.TheVariants.{Line, NoMemory}

-- the number is that of the first faulty line; of want of memory nothing is said
abbrev pub Tells : List (List ℕ) → ScriptFault → Type 0
Tells lines (Line n) = IsFirstFault lines n
Tells lines NoMemory = ⊤
