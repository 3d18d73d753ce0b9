use Rattle.std.proofs.Common.{arith, ap, sym, ◌∙◌, map}
use Rattle.std.specs.Option.{option_map}
use Rattle.std.proofs.lemmas.Bool.{ltb-true}
use Rattle.setl_value.specs.Datum.{depth, set_of}
use Rattle.setl_value.specs.code.DatumOf.{datum}
use Rattle.setl_set.specs.Sets.{set_from}
use Rattle.setl_map.specs.DepthLaws.{depth_set_from}
use Rattle.setl_operators_table.specs.Collections.{enumerate_set}
use Rattle.setl_operators_table.specs.OutcomeLaws.{too_deep}
use Rattle.setl_operators_enumerations.specs.ValueData.{value_data}
use Rattle.setl_operators_enumerations.proofs.enumerations.enumerate_set.Goals as goal

pub returns-then-are_deep : goal.returns-then-are_deep
returns-then-are_deep c =
    let ds = map datum c.in-Some.values.items in
    let h = ltb-true 500 _ (sym c.are_deep.ensures ∙ c.if-are_deep.true) in
    ap enumerate_set (c.in_ok-values.ensures ∙ ap (option_map value_data) c.in-Some.is) ∙ too_deep (set_of (set_from ds)) (omega (arith, depth_set_from ds, h, ap (λ l. depth (set_of (map datum l))) c.as_slice.ensures.value))
