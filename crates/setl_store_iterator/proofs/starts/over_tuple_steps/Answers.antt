use Rattle.std.proofs.Common.{ap, sym, ◌∙◌, rules, map, FitsSigned}
use Rattle.std.specs.Int.{w128}
use Rattle.std.proofs.lemmas.Int.{to_z-of_z}
use Rattle.setl_value.specs.code.DatumOf.{part}
use Rattle.setl_operators_table.specs.Ranges.{step_from}
use Rattle.setl_model.specs.Iterations.{Starts}
use Rattle.setl_store_iterator.specs.Integers.{integers_left}
use Rattle.setl_store_iterator.proofs.IntegerSteps.{started_steps}
use Rattle.setl_store_iterator.proofs.starts.over_tuple_steps.Goals as goal

pub returns-in_err-a : goal.returns-in_err-a
returns-in_err-a c = let h = c.in_err-a.ensures (λ ds. ds) in search rules

pub returns : goal.returns
returns c =
    let a = c.in_ok-a.a in
    let b = c.in_ok-a.b in
    let z = c.in_ok-a.c in
    let f : FitsSigned w128 a = search rules in
    let g : FitsSigned w128 b = search rules in
    let h : FitsSigned w128 z = search rules in
    let e = c.stepped.ensures ∙ (λ i. step_from (to_z-of_z w128 a f i) (to_z-of_z w128 b g i) (to_z-of_z w128 z h i)) in (
      started_steps (λ ds. ds) (map part c.args.sources.now) a b z (integers_left c.stepped.result) c.in_ok-a.ensures e ∙ ap (λ s. Starts s.left) (sym c.in_ok-over.ensures),
      ap (λ s. s.pairs) c.in_ok-over.ensures,
    )
