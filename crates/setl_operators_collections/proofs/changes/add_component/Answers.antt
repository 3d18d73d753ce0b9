use Rattle.std.proofs.Common.{ap, sym, ◌∙◌}
use Rattle.setl_value.specs.Datum.{tuple_of}
use Rattle.setl_value.specs.code.DatumOf.{datum}
use Rattle.setl_tuple.specs.Tuples.{with_of}
use Rattle.setl_operators_table.specs.Outcome.{within_depth}
use Rattle.setl_operators_table.specs.OutcomeLaws.{shallow, too_deep}
use Rattle.setl_operators_collections.proofs.Depths.{deep_last}
use Rattle.setl_operators_collections.proofs.Rows.{parts_back}
use Rattle.setl_operators_collections.proofs.changes.add_component.Goals as goal

pub returns-in-Ok-clause-changes : goal.returns-in-Ok-clause-changes
returns-in-Ok-clause-changes c =
    ap (λ l. within_depth (tuple_of (with_of l (datum c.args.v)))) (parts_back c.args.t.now) ∙ ap (λ l. within_depth (tuple_of l)) (sym c.in-Ok.ensures.added) ∙ shallow (tuple_of c.with.new.t) c.learn.ensures.1

pub returns-in-Err-Deep-clause-changes : goal.returns-in-Err-Deep-clause-changes
returns-in-Err-Deep-clause-changes c =
    let d = datum c.args.v in
    let ps = c.args.t.now in
    ap (λ l. within_depth (tuple_of (with_of l d))) (parts_back ps) ∙ too_deep (tuple_of (with_of ps d)) (deep_last ps d (c.in-Err-Deep.ensures.deep.0 cc))
