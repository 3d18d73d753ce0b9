use Rattle.std.proofs.Common.{◌≡◌, ◌∙◌, ◌-◌, ℕ, ap, sym, subst, Ok}
use Rattle.std.specs.Prelude.{option_map, Result, IfOk}
use Rattle.std.proofs.lemmas.Result.{IfOk-weaker}
use Rattle.setl_value.specs.code.DatumOf.{part}
use Rattle.setl_operators_table.specs.declared.OpFault.{OpFault}
use Rattle.setl_code.specs.Plain.{plain_slot}
use Rattle.setl_store.specs.Standing.{variables}
use Rattle.setl_machine_control.specs.Settling.{StoresWhole, EndsUpdate}
use Rattle.setl_machine_control.specs.Control.{ControlState}
use Rattle.setl_machine_control.proofs.Ending.{ends_stored, declared_moved, slot_moved}
use Rattle.setl_machine_control.proofs.updating.end_update.Goals as goal

pub store_whole-requires : goal.store_whole-requires
store_whole-requires c = slot_moved c.args.store.now c.go_on.new.store c.args.target.slot c.go_on.ensures c.requires.there

pub returns-in-Ok-clause-did : goal.returns-in-Ok-clause-did
returns-in-Ok-clause-did c = λ modes declared.
    let old = c.args.store.now in
    let mid = c.go_on.new.store in
    let new = c.store_whole.new.store in
    let from = c.args.control.now in
    let to = c.charge-in-Ok.new.self in
    let slot = c.args.target.slot in
    let whole = part c.args.whole in
    let kept = option_map part c.args.kept in
    let charged : c.saturating_sub.result ≡ from.turns - c.in-Ok.left = c.saturating_sub.ensures ∙ ap (λ (d : ControlState). d.turns - c.in-Ok.left) c.charge.view_is in
    subst (λ (r : Result ℕ OpFault). IfOk c.store_whole.result (λ e. EndsUpdate modes r c.args.line (plain_slot (variables old.core) slot) whole kept old from new to e)) (sym c.in-Ok.is)
    (IfOk-weaker c.store_whole.result (λ e. StoresWhole modes c.args.line (plain_slot (variables mid.core) slot) whole kept mid new e) (λ e. EndsUpdate modes (Ok c.in-Ok.left) c.args.line (plain_slot (variables old.core) slot) whole kept old from new to e)
    (λ e s. ends_stored modes old mid new from to c.args.line c.in-Ok.left c.saturating_sub.result slot whole kept e c.go_on.ensures c.charge-in-Ok.ensures charged s)
    (c.store_whole.ensures.did modes (declared_moved modes old mid slot c.args.target.declared c.go_on.ensures declared)))
