-- What a function that reads gives.
use Rattle.std.specs.Prelude.{◌≡◌, ⊤, Option, Some, None, Result, Ok, Err}
use Rattle.setl_image_codec.specs.declared.fault.ImageFault.{ImageFault}
use Rattle.setl_image_codec.specs.declared.fault.ImageFault.TheVariants.{Bad, NoMemory}

abbrev pub Fails : {Y : Type 0} → ImageFault → Option Y → Type 0
Fails Bad read = read ≡ None
Fails NoMemory read = ⊤

-- The result, seen by `view`, is what reading gives, unless memory ran out.
abbrev pub Gives : {X Y : Type 0} → (X → Y) → Result X ImageFault → Option Y → Type 0
Gives view (Ok x) read = read ≡ Some (view x)
Gives view (Err e) read = Fails e read
