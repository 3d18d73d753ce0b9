use Rattle.std.proofs.Common.{◌∙◌, ◌-◌, length, ap}
use Rattle.std.specs.Prelude.{slice_get}
use Rattle.setl_code_events.specs.Notes.{own_told, slot_told}
use Rattle.setl_code_events.proofs.Names.{slot_param, slot_name}
use Rattle.setl_code_events.proofs.events.own_name.Goals as goal

pub returns-then-k-parameters : goal.returns-then-k-parameters
returns-then-k-parameters c =
    let b = c.args.body.now in
    slot_param c.as_slice-parameters.result.now b.names c.args.k c.index-parameters-k.result c.if-k-parameters.true ∙ ap (λ ps. slot_told ps b.names c.args.k) c.as_slice-parameters.ensures

pub returns-else-k-parameters : goal.returns-else-k-parameters
returns-else-k-parameters c =
    let b = c.args.body.now in
    let ps = c.as_slice-parameters.result.now in
    c.name_told.ensures ∙ ap (λ ns. own_told (slice_get ns (c.args.k - length ps))) c.as_slice.ensures ∙ slot_name ps b.names c.args.k c.if-k-parameters.false ∙ ap (λ ps. slot_told ps b.names c.args.k) c.as_slice-parameters.ensures
