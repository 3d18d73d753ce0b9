-- What images stand for, as plain data.
use Rattle.std.specs.Prelude.{⊤, List, map, Result, Ok, Err}
use Rattle.setl_modes.specs.declared.mode.NamedMode.{NamedMode}
use Rattle.setl_modes.specs.declared.mode.ModeTable.{ModeTable}
use Rattle.setl_modes.specs.Modes.{Mode, mode_of}
use Rattle.setl_image_codec.specs.declared.fault.ImageFault.{ImageFault}
use Rattle.setl_image_codec.specs.declared.fault.ImageFault.TheVariants.{Bad, NoMemory}
use Rattle.setl_image_format.specs.ImageCodec as format
use Rattle.setl_image.specs.declared.image.Image.{Image}

-- a name with its mode
abbrev pub named_of : NamedMode → format.Named
named_of d = (d.name, mode_of d.mode)

-- the modes of bases, by their numbers
abbrev pub modes_of : List NamedMode → List Mode
modes_of bases = map (λ (b : format.Named). b.1) (map named_of bases)

-- bases and declared variables
abbrev pub table_of : ModeTable → List format.Named × List format.Named
table_of t = (map named_of t.bases, map named_of t.vars)

abbrev pub image_of : Image → format.Image
image_of i = record { code = i.code; bases = (table_of i.modes).0; vars = (table_of i.modes).1 }

-- this holds where the answer is that bytes are bad
abbrev pub IfBad : {X : Type 0} → Result X ImageFault → Type 0 → Type 0
IfBad (Ok x) P = ⊤
IfBad (Err Bad) P = P
IfBad (Err NoMemory) P = ⊤
