use Rattle.std.proofs.Common.{ap, sym, ◌∙◌}
use Rattle.setl_value.specs.code.Body.{Members}
use Rattle.setl_value.specs.code.DatumOf.{datum}
use Rattle.setl_set.specs.Sets.{remove_datum}
use Rattle.setl_operators_table.specs.Outcome.{set_value}
use Rattle.setl_operators_collections.proofs.Rows.{members_back}
use Rattle.setl_operators_collections.proofs.changes.remove_member.Goals as goal

pub returns-clause-changes : goal.returns-clause-changes
returns-clause-changes c =
    ap (λ l. set_value (remove_datum (datum c.args.v.now) l)) (members_back (Members c.args.s.now)) ∙ ap set_value (sym c.in_ok-less.ensures.removed)
