-- What the modes of sets and of tuples stand for.
use Rattle.std.specs.Prelude.{◌≡◌}
use Rattle.std.proofs.Common.{ap, sym, ◌∙◌}
use Rattle.setl_modes.specs.declared.mode.Form.{Form}
use Rattle.setl_modes.specs.declared.mode.Mode.{Mode as ModeCode, fold-roll-Mode}
use Rattle.setl_modes.specs.declared.mode.Mode.TheOpen.{Mode-F}
use Rattle.setl_modes.specs.declared.mode.Mode.TheVariants as code
use Rattle.setl_modes.specs.Modes.{Mode, Sets, Tuples, mode_of}

pub of_set : (form : Form) (m : ModeCode) → mode_of (code.Set form m) ≡ Sets form (mode_of m)
of_set form m = ap mode_of (sym (code.rolls-Set form m)) ∙ fold-roll-Mode Mode _ (Mode-F.Set form m)

pub of_tuple : (m : ModeCode) → mode_of (code.Tuple m) ≡ Tuples (mode_of m)
of_tuple m = ap mode_of (sym (code.rolls-Tuple m)) ∙ fold-roll-Mode Mode _ (Mode-F.Tuple m)
