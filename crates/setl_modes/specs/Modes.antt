-- What the declarations of variables say, as plain data.
use Rattle.std.specs.Prelude.{ℕ}
use Rattle.setl_modes.specs.declared.mode.Form.{Form}
use Rattle.setl_modes.specs.declared.mode.Mode.{Mode as ModeCode, fold-Mode}
use Rattle.setl_modes.specs.declared.mode.Mode.TheOpen.{Mode-F}

-- What a declaration says of the values of a variable. A base has a number, counted from 0, and a mode.
pub data Mode : Type 0 where
  General Integers Strings Booleans Atoms : Mode
  Elements : (base : ℕ) → Mode → Mode
  Sets : Form → Mode → Mode
  Tuples : Mode → Mode
  -- smap(d) r and mmap{d} s
  SingleMaps MultiMaps : Form → Mode → Mode → Mode

-- the mode that a Rust value stands for
abbrev mode_step : Mode-F Mode → Mode
mode_step Mode-F.General = General
mode_step Mode-F.Int = Integers
mode_step Mode-F.Str = Strings
mode_step Mode-F.Boolean = Booleans
mode_step Mode-F.Atom = Atoms
mode_step (Mode-F.Elmt base m) = Elements base m
mode_step (Mode-F.Set form m) = Sets form m
mode_step (Mode-F.Tuple m) = Tuples m
mode_step (Mode-F.Smap form d r) = SingleMaps form d r
mode_step (Mode-F.Mmap form d s) = MultiMaps form d s

abbrev pub mode_of : ModeCode → Mode
mode_of = fold-Mode Mode mode_step
