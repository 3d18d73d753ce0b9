use Rattle.std.proofs.Common.{◌≡◌, Ok, sym, ◌∙◌, subst}
use Rattle.std.proofs.lemmas.Int.{to_z-of_z}
use Rattle.std.specs.Int.{w128}
use Rattle.setl_tuple.specs.Tuples.{repeat_of}
use Rattle.setl_operators_arithmetic.proofs.Rows.{tuple_copied}
use Rattle.setl_operators_arithmetic.proofs.numbers.tuple_copies.Goals as goal

pub returns-in-Ok : goal.returns-in-Ok
returns-in-Ok c =
    let e = to_z-of_z w128 c.args.n c.ranges.n in
    let copied = subst (λ z. repeat_of c.args.t.now z ≡ Ok c.in-Ok.s) e c.in-Ok.ensures.copied in
    tuple_copied c.args.turns c.args.n c.args.t.now c.in-Ok.s c.in_ok-charged.charged copied (sym e ∙ c.in_ok-charged.ensures.0) c.in_ok-charged.ensures.1
