use Rattle.std.proofs.Common.{◌≡◌, None, arith, subst, sym}
use Rattle.setl_operators_enumerations.proofs.Binomials.{diagonal, diagonal_next}
use Rattle.setl_operators_enumerations.specs.Counts.{IsCount, choose}
use Rattle.setl_operators_enumerations.proofs.counts.subset_count.Goals as goal

pub returns-then-turns-eq0 : goal.returns-then-turns-eq0
returns-then-turns-eq0 c = omega (arith, diagonal c.args.m c.args.n 0 (omega arith) c.requires)

pub returns-in_err-count : goal.returns-in_err-count
returns-in_err-count c =
    let d = diagonal_next c.args.m c.args.n c.loop-i.i (omega arith) c.requires in
    let h = c.in_err-count.ensures in
    let r : c.from_residual.result ≡ None = c.from_residual.ensures in
    subst (λ o. IsCount o c.args.turns (choose c.args.m c.args.n)) (sym r) (omega (arith, d, h))
