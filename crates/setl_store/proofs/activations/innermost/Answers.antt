use Rattle.std.proofs.Common.{length, refl}
use Rattle.setl_store.proofs.Lists.{innermost_is}
use Rattle.setl_store.proofs.activations.innermost.Goals as goal

pub returns : goal.returns
returns c =
    let acts = c.args.environment.now.now.activations in
    innermost_is acts c.activation.result.now (length acts) c.requires refl (rw c.activations.ensures at c.activation.ensures)
