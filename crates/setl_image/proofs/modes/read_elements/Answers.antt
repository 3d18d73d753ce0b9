use Rattle.std.proofs.Common.{length, refl, Some, sym, ap, ◌∙◌}
use Rattle.std.proofs.lemmas.Option.{slice_get_read}
use Rattle.setl_modes.specs.Modes.{mode_of}
use Rattle.setl_image.proofs.ModeSteps.{elements_read, of_elements}
use Rattle.setl_image.proofs.modes.read_elements.Goals as goal

pub returns : goal.returns
returns c =
    elements_read c.args.bases.now c.args.bytes.now c.in_ok-k.rest.now c.in_ok-k.k c.in-Some.base.now (mode_of c.in_ok-members.members) c.in_ok-k.ensures (slice_get_read c.args.bases.now (length c.args.bases.now) c.in_ok-k.k c.in-Some.base.now refl c.in-Some.ensures.lookup.3.0 c.in-Some.ensures.lookup.1) c.in_ok-members.ensures
    ∙ ap (λ t. Some (t, c.in_ok-k.rest.now)) (sym (of_elements c.in_ok-k.k c.in_ok-members.members))
