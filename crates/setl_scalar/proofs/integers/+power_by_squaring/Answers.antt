use Rattle.std.proofs.Common.{◌/◌, arith, rules, ◌∙◌, FitsSigned}
use Rattle.std.specs.Int.{w128}
use Rattle.std.proofs.lemmas.Result.{err_from_is_err_and}
use Rattle.std.proofs.lemmas.Int.{to_z-of_z}
use Rattle.setl_scalar.proofs.Powers.{refused, refused_square, even_power, odd_power}
use Rattle.setl_scalar.proofs.integers.+power_by_squaring.Goals as goal

pub returns-in_err-root : goal.returns-in_err-root
returns-in_err-root t c =
    let p = err_from_is_err_and c.from_residual.result c.from_residual.ensures.1 in
    let base : FitsSigned w128 c.args.base = c.ranges.base in
    rw (p.1, p.2) (refused c.args.base (c.args.exponent / 2) c.args.exponent _ (omega arith) (simp to_z-of_z at c.in_err-root.ensures))

pub returns-in_err-square : goal.returns-in_err-square
returns-in_err-square t c =
    let p = err_from_is_err_and c.from_residual-in_err-square.result c.from_residual-in_err-square.ensures.1 in
    let base : FitsSigned w128 c.args.base = c.ranges.base in
    let root : FitsSigned w128 c.in_ok-root.root = search rules in
    rw (p.1, p.2) (refused_square c.args.base (c.args.exponent / 2) c.args.exponent c.in_ok-root.root _ (omega arith)
    (simp to_z-of_z at c.in_ok-root.ensures) (simp to_z-of_z at c.in_err-square.ensures))

pub returns-then-exponent-eq0-2 : goal.returns-then-exponent-eq0-2
returns-then-exponent-eq0-2 t c =
    let base : FitsSigned w128 c.args.base = c.ranges.base in
    let root : FitsSigned w128 c.in_ok-root.root = search rules in
    let square : FitsSigned w128 c.in_ok-square.square = search rules in
    simp to_z-of_z (even_power c.args.base (c.args.exponent / 2) c.args.exponent c.in_ok-root.root c.in_ok-square.square (omega arith)
    (simp to_z-of_z at c.in_ok-root.ensures) (simp to_z-of_z at c.in_ok-square.ensures))

pub returns-else-exponent-eq0-2 : goal.returns-else-exponent-eq0-2
returns-else-exponent-eq0-2 t c =
    let base : FitsSigned w128 c.args.base = c.ranges.base in
    let root : FitsSigned w128 c.in_ok-root.root = search rules in
    let square : FitsSigned w128 c.in_ok-square.square = search rules in
    (simp to_z-of_z at c.mul-else-exponent-eq0-2.ensures)
    ∙ odd_power c.args.base (c.args.exponent / 2) c.args.exponent c.in_ok-root.root c.in_ok-square.square (omega arith)
    (simp to_z-of_z at c.in_ok-root.ensures) (simp to_z-of_z at c.in_ok-square.ensures)
