use Rattle.std.proofs.Common.{subst, sym, ap, rules, FitsSigned, of_z}
use Rattle.std.specs.Int.{w128}
use Rattle.std.proofs.lemmas.Int.{wrapping_sub_is, to_z-of_z}
use Rattle.setl_value.specs.Datum.{int}
use Rattle.setl_value.specs.code.DatumOf.{datum}
use Rattle.setl_operators_table.specs.code.Answers.{Tells}
use Rattle.setl_operators_table.specs.RangeRows.{as_tuple, stepped_integers}
use Rattle.setl_operators_enumerations.proofs.RangeResults.{told_steps}
use Rattle.setl_operators_enumerations.proofs.ranges.tuple_step_to.Goals as goal

pub returns-in-Some : goal.returns-in-Some
returns-in-Some c =
    let a = c.args.a in
    let b = c.args.b in
    let end = c.in-Int.c in
    let fits : FitsSigned w128 end = search rules in
    subst (λ v. Tells c.tuple_of_integers.result (stepped_integers as_tuple c.args.turns (int a) (int b) (datum v))) (sym c.in-Int.is)
    (told_steps as_tuple c.args.turns _ _ _ a b end _ c.in-Some.n c.tuple_of_integers.result (to_z-of_z w128 a c.ranges.a) (to_z-of_z w128 b c.ranges.b) (to_z-of_z w128 end fits) c.ranges.a fits (λ e. c.if-a-b.false (ap (of_z w128) e)) (wrapping_sub_is w128 b a c.ranges.b c.ranges.a) c.in-Some.ensures c.tuple_of_integers.ensures)
