use Rattle.std.proofs.Common.{ap, subst, arith, length}
use Rattle.std.proofs.lemmas.Int.{ints, to_z-of_z}
use mir.Syntax.{w128}
use mir.Val.{SFits}
use Rattle.setl_operators_table.specs.code.Answers.{Tells}
use Rattle.setl_operators_collections.proofs.Letters.{letter_row, past_row}
use Rattle.setl_operators_collections.proofs.selections.letter.Goals as goal

pub returns-then-i-bytes : goal.returns-then-i-bytes
returns-then-i-bytes c = past_row c.args.t.now c.args.i (omega (arith, ints, ap length c.bytes.ensures))

pub returns : goal.returns
returns c =
    let fits : SFits w128 c.args.i = c.ranges.i in
    let told = simp to_z-of_z at c.letters.ensures in
    subst (Tells c.letters.result) (letter_row c.args.t.now c.args.i (omega (arith, ints, ap length c.bytes.ensures))) told
