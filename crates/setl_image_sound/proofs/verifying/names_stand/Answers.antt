use Rattle.std.proofs.Common.{◌∙◌}
use Rattle.setl_image_sound.proofs.Assembling.{bases_no, vars_no, once_of, all_by}
use Rattle.setl_image_sound.proofs.verifying.names_stand.Goals as goal

pub returns-then-not-bases : goal.returns-then-not-bases
returns-then-not-bases c = bases_no c.args.image.now c.in_ok-bases.bases c.as_slice.result.now c.as_slice.ensures c.in_ok-bases.ensures c.if-not-bases.true

pub returns-then-not-vars_differ : goal.returns-then-not-vars_differ
returns-then-not-vars_differ c = vars_no c.args.image.now c.in_ok-vars_differ.vars_differ c.as_slice-2.result.now c.as_slice-2.ensures c.in_ok-vars_differ.ensures c.if-not-vars_differ.true

pub returns : goal.returns
returns c =
    all_by c.all_stand.result c.args.image.now c.args.vars.now c.requires.vars
    (once_of c.as_slice.result.now c.args.image.now.modes.bases c.in_ok-bases.bases c.as_slice.ensures c.in_ok-bases.ensures c.if-not-bases.false)
    (once_of c.as_slice-2.result.now c.args.image.now.modes.vars c.in_ok-vars_differ.vars_differ c.as_slice-2.ensures c.in_ok-vars_differ.ensures c.if-not-vars_differ.false)
    c.all_stand.ensures
