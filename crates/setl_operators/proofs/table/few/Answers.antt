use Rattle.std.proofs.Common.{◌≡◌, ◌∷◌, [], ◌∙◌, ap, sym, subst, arith, length, map}
use Rattle.setl_value.specs.code.DatumOf.{part}
use Rattle.setl_operators_table.specs.code.Answers.{Tells}
use Rattle.setl_operators_table.specs.Operators.{op_of}
use Rattle.setl_operators.proofs.Counts.{one_operand, two_operands}
use Rattle.setl_operators.proofs.table.few.Goals as goal

pub op_one-requires : goal.op_one-requires
op_one-requires c =
    let n : length c.args.args.items ≡ 1 = omega arith in
    one_operand c.args.what (length c.args.args.items) c.requires.few c.requires.count n

pub returns-then-len-eq1 : goal.returns-then-len-eq1
returns-then-len-eq1 c =
    let e = ap (λ p. p ∷ []) c.lend.ensures ∙ sym (ap (map part) c.any_one-a.ensures) in
    subst (λ vs. Tells c.op_one.result (op_of c.args.what vs c.args.turns)) e c.op_one.ensures

pub any_two-a-requires : goal.any_two-a-requires
any_two-a-requires c = (two_operands c.args.what (length c.args.args.items) c.requires.few c.requires.count (λ e. c.if-len-eq1.false (c.len.ensures ∙ c.args.args.ok.0 ∙ e))).0

pub op_pair-requires : goal.op_pair-requires
op_pair-requires c = (two_operands c.args.what (length c.args.args.items) c.requires.few c.requires.count (λ e. c.if-len-eq1.false (c.len.ensures ∙ c.args.args.ok.0 ∙ e))).1
