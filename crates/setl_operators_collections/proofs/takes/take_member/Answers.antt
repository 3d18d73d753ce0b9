use Rattle.std.proofs.Common.{◌∙◌, sym, refl, true, Some}
use Rattle.setl_value.specs.code.Body.{Members}
use Rattle.setl_value.specs.code.DatumOf.{datum}
use Rattle.setl_operators_table.specs.declared.Taken.{Taken}
use Rattle.setl_operators_collections.proofs.Takings.{told, none_told, least_empty, least_taken}
use Rattle.setl_operators_collections.proofs.takes.take_member.Goals as goal

pub returns-then-len-eq0-clause-takes : goal.returns-then-len-eq0-clause-takes
returns-then-len-eq0-clause-takes c = none_told _ _ _ (least_empty (Members c.args.s.now) (sym c.len.ensures ∙ c.if-len-eq0.true)) refl refl

pub returns-clause-takes : goal.returns-clause-takes
returns-clause-takes c =
    let t : Taken = record { value = Some c.in_ok-least.least; stored = true } in
    told t _ _ (least_taken (Members c.args.s.now) (Members c.cut_at.new.self) (datum c.in_ok-least.least) c.in_ok-least.ensures.cut.0 c.in_ok-least.ensures.cut.1) refl
