use Rattle.std.proofs.Common.{◌∙◌, Some, ap}
use Rattle.std.proofs.lemmas.Int.{to_z-of_z}
use Rattle.std.specs.Int.{w128}
use Rattle.setl_value.specs.Datum.{int}
use Rattle.setl_rep.proofs.ByKernel.{gives}
use Rattle.setl_rep.proofs.by_kernel.size_of.Goals as goal

pub returns-in-Some-clause-value : goal.returns-in-Some-clause-value
returns-in-Some-clause-value c =
    let count = c.free.ensures.value c.args.bases.now ∙ ap (λ z. Some (int z)) (to_z-of_z w128 c.from.result (record { sfits = c.from.type_inv }) ∙ c.from.ensures) in
    λ left. gives c.args.bases.now c.free.result.held c.free.result.charged (c.in-Some.ensures.value left) count c.free.ensures.charge
