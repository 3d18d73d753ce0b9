use Rattle.std.proofs.Common.{◌∙◌, List, ap}
use Rattle.setl_modes.specs.declared.mode.NamedMode.{NamedMode}
use Rattle.setl_image_modes.specs.SoundModes.{bases_fit, vars_fit, modes_of}
use Rattle.setl_image_modes.proofs.Telling.{sound_then, sound_else}
use Rattle.setl_image_modes.proofs.rules.modes_are_sound.Goals as goal

pub returns-then-bases : goal.returns-then-bases
returns-then-bases c =
    sound_then c.args.table.now.bases c.args.table.now.vars c.bases_fit-bases.result c.vars_fit-vars.result (c.bases_fit-bases.ensures ∙ ap bases_fit c.as_slice.ensures)
    (c.vars_fit-vars.ensures ∙ ap (λ (bs : List NamedMode). vars_fit (modes_of bs) c.as_slice-3.result.now) c.as_slice-2.ensures ∙ ap (vars_fit (modes_of c.args.table.now.bases)) c.as_slice-3.ensures) c.if-bases.true

pub returns-else-bases : goal.returns-else-bases
returns-else-bases c =
    sound_else c.args.table.now.bases c.args.table.now.vars c.bases_fit-bases.result c.vars_fit-vars.result (c.bases_fit-bases.ensures ∙ ap bases_fit c.as_slice.ensures)
    (c.vars_fit-vars.ensures ∙ ap (λ (bs : List NamedMode). vars_fit (modes_of bs) c.as_slice-3.result.now) c.as_slice-2.ensures ∙ ap (vars_fit (modes_of c.args.table.now.bases)) c.as_slice-3.ensures) c.if-bases.false
