use Rattle.std.proofs.Common.{ap, sym, ◌∙◌}
use Rattle.std.specs.Prelude.{slice_get}
use Rattle.std.specs.Borrow.{Bor}
use Rattle.std.specs.Option.{option_map}
use Rattle.setl_value.specs.code.Body.{Members}
use Rattle.setl_value.specs.Datum.{Datum}
use Rattle.setl_value.specs.code.DatumOf.{datum}
use Rattle.setl_value.specs.declared.Value.{Value}
use Rattle.setl_store_iterator.proofs.Lists.{is_there}
use Rattle.setl_store_iterator.proofs.rests.member_at.Goals as goal

pub unreachable-requires : goal.unreachable-requires
unreachable-requires c =
    let ds = Members c.args.s.now in
    is_there ds c.args.at.index c.requires.inside
    (ap (λ o. option_map {T = Bor Value} {U = Datum} (λ v. datum v.now) o) (sym c.in_default.is) ∙ c.member.ensures ∙ ap (slice_get ds) c.requires.stands.1)
