use Rattle.std.proofs.Common.{◌≡◌, ◌∙◌, sym, subst}
use Rattle.setl_value.specs.code.DatumOf.{datum}
use Rattle.setl_modes.specs.Modes.{Elements}
use Rattle.setl_rep_bases.specs.Bases.{named, with_entered}
use Rattle.setl_rep_entering.specs.Entering.{AreLengthened}
use Rattle.setl_rep_entering.proofs.enter.enter_element.Goals as goal

pub returns-clause-lengthened : goal.returns-clause-lengthened
returns-clause-lengthened c =
    let bs = c.args.bases.now in
    let n = c.args.instance in
    let d = datum c.args.v.now in
    let same : c.enter.new.self ≡ with_entered bs (named bs n c.args.b) d =
    c.in_ok-enter.ensures.entered ∙ (λ k. with_entered bs (c.named-base.ensures k) (datum (c.in_ok-copy.ensures.same k)))
    in
    λ m. subst (AreLengthened (Elements c.args.b m) d n bs) (sym same) (c.elements_are_entered.ensures.entered m d n c.args.b bs c.requires.there)
