use Rattle.std.proofs.Common.{sym, ap, arith, ◌+◌}
use Rattle.setl_store.specs.Flat.{slots_in}
use Rattle.setl_store.proofs.Lists.{innermost_is}
use Rattle.setl_store.proofs.store.own_place.Goals as goal

pub returns : goal.returns
returns c = ap (λ n. n + c.args.k) (sym (ap slots_in (innermost_is c.args.environment.now.now.activations c.activation.result.now c.activations.result c.requires.some c.activations.ensures c.activation.ensures)))

pub overflow_add-result : goal.overflow_add-result
overflow_add-result c = omega (arith, ap slots_in (innermost_is c.args.environment.now.now.activations c.activation.result.now c.activations.result c.requires.some c.activations.ensures c.activation.ensures), c.slots-slots.ensures, c.requires.there)
