use Rattle.std.proofs.Common.{◌∙◌, ap, inl, inr, Some, None}
use Rattle.setl_value.specs.code.DatumOf.{datum}
use Rattle.setl_machine.proofs.Components.{component_there, component_behind}
use Rattle.setl_machine.proofs.iterating.component.Goals as goal

pub returns-in_ok-copy-in-Some : goal.returns-in_ok-copy-in-Some
returns-in_ok-copy-in-Some c =
    ap (λ v. Some (datum v)) c.in_ok-copy-in-Some.ensures.same ∙ component_there c.args.tuple.now c.args.at (Some (datum c.in-Some.value.now)) c.in-Some.ensures

pub returns-in-None : goal.returns-in-None
returns-in-None c =
    elim c.in-None.ensures [ inl h ↦ component_there c.args.tuple.now c.args.at None h | inr h ↦ component_behind c.args.tuple.now c.args.at h ]
