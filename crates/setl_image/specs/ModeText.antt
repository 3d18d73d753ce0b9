-- The bytes of a mode, by the mode alone.
use Rattle.std.specs.Prelude.{ℕ, List, [], ◌∷◌, ◌++◌}
use Rattle.setl_modes.specs.Modes.{Mode, General, Integers, Strings, Booleans, Atoms, Elements, Sets, Tuples, SingleMaps, MultiMaps}
use Rattle.setl_image_codec.specs.Numbers.{number}
use Rattle.setl_image_format.specs.ModeCodec.{form_place}

abbrev pub mode_text : Mode → List ℕ
mode_text General = 0 ∷ []
mode_text Integers = 1 ∷ []
mode_text Strings = 2 ∷ []
mode_text Booleans = 3 ∷ []
mode_text Atoms = 4 ∷ []
mode_text (Elements k m) = 5 ∷ number.write k
mode_text (Sets f m) = 6 ∷ form_place f ∷ mode_text m
mode_text (Tuples m) = 7 ∷ mode_text m
mode_text (SingleMaps f d r) = 8 ∷ form_place f ∷ (mode_text d ++ mode_text r)
mode_text (MultiMaps f d s) = 9 ∷ form_place f ∷ (mode_text d ++ mode_text s)
