use Rattle.std.proofs.Common.{◌∙◌, sym, refl}
use Rattle.setl_value.specs.code.DatumOf.{part}
use Rattle.setl_operators_collections.proofs.Takings.{told, none_told, first_empty, first_taken}
use Rattle.setl_operators_collections.proofs.takes.take_front.Goals as goal

pub returns-then-len-eq0-clause-takes : goal.returns-then-len-eq0-clause-takes
returns-then-len-eq0-clause-takes c = none_told _ _ _ (first_empty c.args.t.now (sym c.len.ensures ∙ c.if-len-eq0.true)) refl refl

pub returns-clause-takes : goal.returns-clause-takes
returns-clause-takes c = told _ _ _ (first_taken c.args.t.now c.cut_front.new.self (part c.in_ok-first.first) c.in_ok-first.ensures.cut) refl
