use Rattle.std.proofs.Common.{subst, ap, ◌∙◌, arith}
use Rattle.std.proofs.lemmas.Int.{ints}
use Rattle.setl_value.specs.code.Body.{Members}
use Rattle.setl_value.specs.Datum.{set_of}
use Rattle.setl_operators_table.specs.code.Answers.{Tells}
use Rattle.setl_operators_table.specs.Outcome.{within_depth}
use Rattle.setl_operators_enumerations.proofs.Outcomes.{some_none_of}
use Rattle.setl_operators_enumerations.proofs.subsets.some_subsets.Goals as goal

pub returns-then-n-len : goal.returns-then-n-len
returns-then-n-len c =
    subst (Tells c.shallow_set.result) (ap (λ l. within_depth (set_of l)) c.in_ok-new.ensures.empty ∙ some_none_of c.args.turns c.args.n (Members c.args.s.now) (omega (arith, ints))) c.shallow_set.ensures
