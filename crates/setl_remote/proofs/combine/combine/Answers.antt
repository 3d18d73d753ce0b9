use Rattle.std.proofs.Common.{◌≡◌, length, arith}
use Rattle.std.specs.Prelude.{max}
use Rattle.setl_remote.proofs.Combining.{made_bits}
use Rattle.setl_remote.proofs.combine.combine.Goals as goal

pub returns-clause-bits : goal.returns-clause-bits
returns-clause-bits c =
    let len : length c.loop-i.words.items ≡ max (length c.args.x.now) (length c.args.y.now) = omega arith in
    made_bits c.args.operation c.args.x.now c.args.y.now c.loop-i.words.items len (λ k. (c.type_inv.y k).fits) c.loop-i.invariant.2
