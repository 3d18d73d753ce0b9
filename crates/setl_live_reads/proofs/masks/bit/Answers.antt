use Rattle.std.proofs.Common.{◌≡◌, ◌-◌, ◌<◌, arith}
use Rattle.setl_live_reads.proofs.Bits.{one_bit}
use Rattle.setl_live_reads.proofs.masks.bit.Goals as goal

pub returns-clause-others : goal.returns-clause-others
returns-clause-others c k small is =
    let within : c.args.slot - c.args.base < 64 = omega arith in
    let same : k ≡ c.args.slot - c.args.base = one_bit (c.args.slot - c.args.base) k within is in
    omega arith
