-- What the composite modes stand for, and that each takes the empty set.
use Rattle.std.specs.Prelude.{◌≡◌, true, []}
use Rattle.std.proofs.Common.{ap, sym, ◌∙◌}
use Rattle.setl_value.specs.Datum.{set_of}
use Rattle.setl_modes.specs.declared.mode.Form.{Form}
use Rattle.setl_modes.specs.declared.mode.Mode.{Mode as ModeCode, fold-roll-Mode}
use Rattle.setl_modes.specs.declared.mode.Mode.TheOpen.{Mode-F}
use Rattle.setl_modes.specs.declared.mode.Mode.TheVariants as code
use Rattle.setl_modes.specs.Fits.{datum_fits}
use Rattle.setl_modes.specs.Modes.{Mode, Sets, Tuples, SingleMaps, MultiMaps, mode_of}

pub of_tuple : (m : ModeCode) → mode_of (code.Tuple m) ≡ Tuples (mode_of m)
of_tuple m = ap mode_of (sym (code.rolls-Tuple m)) ∙ fold-roll-Mode Mode _ (Mode-F.Tuple m)

of_set : (form : Form) (m : ModeCode) → mode_of (code.Set form m) ≡ Sets form (mode_of m)
of_set form m = ap mode_of (sym (code.rolls-Set form m)) ∙ fold-roll-Mode Mode _ (Mode-F.Set form m)

of_smap : (form : Form) (d r : ModeCode) → mode_of (code.Smap form d r) ≡ SingleMaps form (mode_of d) (mode_of r)
of_smap form d r = ap mode_of (sym (code.rolls-Smap form d r)) ∙ fold-roll-Mode Mode _ (Mode-F.Smap form d r)

of_mmap : (form : Form) (d s : ModeCode) → mode_of (code.Mmap form d s) ≡ MultiMaps form (mode_of d) (mode_of s)
of_mmap form d s = ap mode_of (sym (code.rolls-Mmap form d s)) ∙ fold-roll-Mode Mode _ (Mode-F.Mmap form d s)

pub set_empty : (form : Form) (m : ModeCode) → datum_fits (mode_of (code.Set form m)) (set_of []) ≡ true
set_empty form m = ap (λ k. datum_fits k (set_of [])) (of_set form m)

pub smap_empty : (form : Form) (d r : ModeCode) → datum_fits (mode_of (code.Smap form d r)) (set_of []) ≡ true
smap_empty form d r = ap (λ k. datum_fits k (set_of [])) (of_smap form d r)

pub mmap_empty : (form : Form) (d s : ModeCode) → datum_fits (mode_of (code.Mmap form d s)) (set_of []) ≡ true
mmap_empty form d s = ap (λ k. datum_fits k (set_of [])) (of_mmap form d s)
