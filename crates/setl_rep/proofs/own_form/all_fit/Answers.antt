use Rattle.std.proofs.Common.{◌∙◌, arith}
use Rattle.setl_modes.specs.Fits.{datum_fits}
use Rattle.setl_modes.specs.Modes.{mode_of}
use Rattle.setl_rep.proofs.Ready.{all_in_set, none_left}
use Rattle.setl_rep.proofs.own_form.all_fit.Goals as goal

pub returns : goal.returns
returns c = λ yes.
    let p = datum_fits (mode_of c.args.k.now) in
    all_in_set c.sets_have_their_members.ensures.lists p c.args.base.now c.args.list.now
    (c.loop-n.invariant ∙ none_left p c.args.base.now c.args.list.now c.loop-n.n-index (omega (arith, c.loop-n-test.false, c.loop-n.auto.n-index-end)))
