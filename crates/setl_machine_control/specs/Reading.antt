-- What a read makes of a world.
use Rattle.std.specs.Prelude.{◌≡◌, ℕ, List, ◌∷◌, ◌++◌, Option, Result, Ok, Err}
use Rattle.setl_value.specs.code.DatumOf.{part}
use Rattle.setl_value.specs.declared.Value.{Value}
use Rattle.setl_text.specs.Reading.{NotForm, TooWide, TooDeep, read_denotation}
use Rattle.setl_text.specs.declared.ReadFault.{ReadFault}
use Rattle.setl_text.specs.declared.ReadFault.TheVariants as read
use Rattle.setl_model.specs.World.{World}
use Rattle.setl_code.specs.CodeCore.{Result as Holds, CodeCore}
use Rattle.setl_code.specs.Machine.{next, push_read}
use Rattle.setl_machine_control.specs.Control.{in_world}

-- the same but for bytes of the input that were taken ahead
abbrev pub IsBefore : World → World → Type 0
IsBefore w v = (taken : List ℕ) × (w ≡ record v { input = taken ++ v.input })

-- What a read makes of a world: a value is pushed, whatever the core is, or the bytes are at fault. Of a failed input and
-- of want of memory nothing is told.
abbrev pub TakesIn : World → World → Result (Option Value) ReadFault → Type 0
TakesIn w v (Ok value) = (line : ℕ) (k : CodeCore) → push_read (read_denotation w.input) line (in_world w k) ≡ next (Holds (part value) ∷ k.now.operands) (in_world v k)
TakesIn w v (Err read.Form) = (read_denotation w.input ≡ NotForm) × IsBefore w v
TakesIn w v (Err read.Wide) = (read_denotation w.input ≡ TooWide) × IsBefore w v
TakesIn w v (Err read.Deep) = (read_denotation w.input ≡ TooDeep) × IsBefore w v
TakesIn w v (Err read.Source) = Unit {0}
TakesIn w v (Err read.NoMemory) = Unit {0}
