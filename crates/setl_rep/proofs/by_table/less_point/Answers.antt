use Rattle.std.proofs.Common.{◌∙◌, map, ap, sym}
use Rattle.setl_operators_table.specs.declared.Operator.TheVariants.{Lessf}
use Rattle.setl_operators_table.specs.Operators.{op_of}
use Rattle.setl_operators_table.specs.Outcome.{Gives}
use Rattle.setl_rep_plain.specs.Standing.{held_value}
use Rattle.setl_rep.proofs.by_table.less_point.Goals as goal

pub returns-clause-told : goal.returns-clause-told
returns-clause-told c =
    let bs = c.args.bases.now in
    ap (λ hs. op_of Lessf (map (held_value bs) hs) c.args.turns) c.both-f.ensures
    ∙ c.in_ok-without_point.ensures.less.value c.args.turns
    ∙ ap (λ n. Gives (held_value bs c.in_ok-without_point.field-0.held) n) (sym c.in_ok-without_point.ensures.charge)
