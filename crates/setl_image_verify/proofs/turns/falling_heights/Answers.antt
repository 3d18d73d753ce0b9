use Rattle.std.proofs.Common.{◌∙◌}
use Rattle.setl_image_verify.proofs.Ways.{seen_so}
use Rattle.setl_image_verify.proofs.turns.falling_heights.Goals as goal

pub returns : goal.returns
returns c xs = seen_so c.heights.result (λ hs. hs.items) xs c.args.steps.now c.deref.result.now (c.deref.ensures.value ∙ c.in_ok-ways.ensures) c.heights.ensures
