use Rattle.std.proofs.Common.{ap, sym, ◌∙◌}
use Rattle.setl_value.specs.code.Body.{Members}
use Rattle.setl_value.specs.code.DatumOf.{datum}
use Rattle.setl_model.specs.Iterations.{Starts, members, singles, values_of}
use Rattle.setl_store_iterator.proofs.Wholes.{set_values, tuple_values}
use Rattle.setl_store_iterator.proofs.starts.over_values.Goals as goal

pub returns-in_ok-over-in-Set : goal.returns-in_ok-over-in-Set
returns-in_ok-over-in-Set c = (
  ap (λ v. values_of (datum v)) c.in-Set.is ∙ set_values (Members c.in-Set.s)
      ∙ ap (λ b. Starts (members (Members b))) (sym c.in_ok-copy-in-Set.ensures.same) ∙ ap (λ s. Starts s.left) (sym c.in_ok-over-in-Set.ensures),
  ap (λ s. s.pairs) c.in_ok-over-in-Set.ensures,
)

pub returns-in_ok-over-in-Tuple : goal.returns-in_ok-over-in-Tuple
returns-in_ok-over-in-Tuple c = (
  ap (λ v. values_of (datum v)) c.in-Tuple.is ∙ tuple_values c.in-Tuple.t
      ∙ ap (λ t. Starts (singles t)) (sym c.in_ok-copy-in-Tuple.ensures.same) ∙ ap (λ s. Starts s.left) (sym c.in_ok-over-in-Tuple.ensures),
  ap (λ s. s.pairs) c.in_ok-over-in-Tuple.ensures,
)
