-- What the composite modes stand for.
use Rattle.std.specs.Prelude.{◌≡◌, ℕ}
use Rattle.std.proofs.Common.{ap, sym, ◌∙◌}
use Rattle.setl_modes.specs.declared.mode.Form.{Form}
use Rattle.setl_modes.specs.declared.mode.Mode.{Mode as ModeCode, fold-roll-Mode}
use Rattle.setl_modes.specs.declared.mode.Mode.TheOpen.{Mode-F}
use Rattle.setl_modes.specs.declared.mode.Mode.TheVariants as code
use Rattle.setl_modes.specs.Modes.{Mode, Elements, Sets, Tuples, MultiMaps, mode_of}

pub of_elmt : (base : ℕ) (m : ModeCode) → mode_of (code.Elmt base m) ≡ Elements base (mode_of m)
of_elmt base m = ap mode_of (sym (code.rolls-Elmt base m)) ∙ fold-roll-Mode Mode _ (Mode-F.Elmt base m)

pub of_tuple : (m : ModeCode) → mode_of (code.Tuple m) ≡ Tuples (mode_of m)
of_tuple m = ap mode_of (sym (code.rolls-Tuple m)) ∙ fold-roll-Mode Mode _ (Mode-F.Tuple m)

pub of_set : (form : Form) (m : ModeCode) → mode_of (code.Set form m) ≡ Sets form (mode_of m)
of_set form m = ap mode_of (sym (code.rolls-Set form m)) ∙ fold-roll-Mode Mode _ (Mode-F.Set form m)

pub of_map : (form : Form) (d s : ModeCode) → mode_of (code.Mmap form d s) ≡ MultiMaps form (mode_of d) (mode_of s)
of_map form d s = ap mode_of (sym (code.rolls-Mmap form d s)) ∙ fold-roll-Mode Mode _ (Mode-F.Mmap form d s)
