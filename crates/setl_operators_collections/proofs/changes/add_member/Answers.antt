use Rattle.std.proofs.Common.{ap, sym, ◌∙◌}
use Rattle.setl_value.specs.code.Body.{Members}
use Rattle.setl_value.specs.Datum.{set_of}
use Rattle.setl_value.specs.code.DatumOf.{datum}
use Rattle.setl_set.specs.Sets.{insert_datum}
use Rattle.setl_operators_table.specs.Outcome.{within_depth}
use Rattle.setl_operators_table.specs.OutcomeLaws.{shallow, too_deep}
use Rattle.setl_operators_collections.proofs.Depths.{deep_member}
use Rattle.setl_operators_collections.proofs.Rows.{members_back}
use Rattle.setl_operators_collections.proofs.changes.add_member.Goals as goal

pub returns-in-Ok-clause-changes : goal.returns-in-Ok-clause-changes
returns-in-Ok-clause-changes c =
    ap (λ l. within_depth (set_of (insert_datum (datum c.args.v) l))) (members_back (Members c.args.s.now)) ∙ ap (λ l. within_depth (set_of l)) (sym c.in-Ok.ensures.added) ∙ shallow (set_of (Members c.with.new.s)) c.learn.ensures.1

pub returns-in-Err-Deep-clause-changes : goal.returns-in-Err-Deep-clause-changes
returns-in-Err-Deep-clause-changes c =
    let d = datum c.args.v in
    let xs = Members c.args.s.now in
    ap (λ l. within_depth (set_of (insert_datum d l))) (members_back xs) ∙ too_deep (set_of (insert_datum d xs)) (deep_member d xs (c.in-Err-Deep.ensures.deep.0 cc))
