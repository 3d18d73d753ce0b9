use Rattle.std.proofs.Common.{arith, ap, sym, ◌∙◌, map}
use Rattle.std.proofs.lemmas.Bool.{ltb-true}
use Rattle.setl_value.specs.Datum.{depth, tuple_of}
use Rattle.setl_value.specs.code.DatumOf.{part}
use Rattle.setl_value.specs.WellFormed.{trim}
use Rattle.setl_operators_table.specs.OutcomeLaws.{too_deep}
use Rattle.setl_operators_enumerations.proofs.Operands.{trim_depth}
use Rattle.setl_operators_enumerations.proofs.enumerations.enumerate_tuple.Goals as goal

pub returns-then-has_deep : goal.returns-then-has_deep
returns-then-has_deep c =
    let ps = map part c.args.operands.items in
    let h = ltb-true 500 _ (sym c.has_deep.ensures ∙ c.if-has_deep.true) in
    too_deep (tuple_of (trim ps)) (omega (arith, trim_depth ps, h, ap (λ l. depth (tuple_of (map part l))) c.as_slice.ensures.value))
