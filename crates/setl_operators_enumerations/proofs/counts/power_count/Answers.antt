use Rattle.std.proofs.Common.{arith, ◌^◌, ◌≤◌}
use Rattle.std.proofs.Math.Nat.{pow-le-pow_right}
use Rattle.std.proofs.lemmas.Nat.{one_shl}
use Rattle.setl_operators_enumerations.proofs.counts.power_count.Goals.{then-n-ge64-via-then-n-ge64, then-n-ge64-via-else-n-ge64+then-turns-n}
use Rattle.setl_operators_enumerations.proofs.counts.power_count.Goals as goal

pub returns-then-n-ge64 : goal.returns-then-n-ge64
returns-then-n-ge64 c =
    elim c.then-n-ge64.branch [
      | then-n-ge64-via-then-n-ge64 w ↦ (let p : 2 ^ 64 ≤ 2 ^ c.args.n = pow-le-pow_right {n = 2} (omega arith) {i = 64} {j = c.args.n} (omega arith) in omega arith)
      | then-n-ge64-via-else-n-ge64+then-turns-n w ↦ omega (arith, one_shl c.args.n 64 w.if-n-ge64.false)
    ]
