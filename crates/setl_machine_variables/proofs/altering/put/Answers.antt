use Rattle.std.proofs.Common.{◌∙◌, true, sym, subst, Some}
use Rattle.std.proofs.lemmas.Result.{IfOk-weaker}
use Rattle.setl_value.specs.code.DatumOf.{part}
use Rattle.setl_model.specs.Places.{with_part_at_all}
use Rattle.setl_code.specs.Code.{Putting}
use Rattle.setl_code.specs.Plain.{plain_slot}
use Rattle.setl_store.specs.Standing.{variables}
use Rattle.setl_machine_updates.specs.Selectors.{selected}
use Rattle.std.specs.Prelude.{map, option_map}
use Rattle.setl_machine_updates.specs.Updates.{Updates}
use Rattle.setl_machine_control.specs.Settling.{EndsUpdate}
use Rattle.setl_machine_variables.specs.Altered.{Alters, TakesHeld}
use Rattle.setl_machine_control.specs.Declaring.{mode_by, Keeps}
use Rattle.setl_machine_control.specs.Gaining.{gained_by, BasesAre}
use Rattle.setl_machine_variables.specs.Gaining.{GainsIf}
use Rattle.setl_machine_variables.proofs.Gaining.{hand_gains, if_ok_both}
use Rattle.setl_machine_control.specs.Working.{PopsTop}
use Rattle.setl_machine_variables.proofs.Altered.{changed, held_slot, declared_here, taken_held}
use Rattle.setl_machine_variables.proofs.Parts.{put_sure}
use Rattle.setl_machine_variables.proofs.altering.put.Goals as goal

pub end_update-requires-clause-there : goal.end_update-requires-clause-there
end_update-requires-clause-there c =
    let old = c.args.store.now in
    let mid = c.pop_top.new.store in
    let pops : PopsTop old (Some c.in-Some.value) mid = rw c.in-Some.is at c.in_ok-value.ensures in
    let takes : TakesHeld (plain_slot (variables mid.core) c.args.target.slot) mid (Some c.in-Some-2.whole) c.take_held.new.store = rw c.in-Some-2.is at c.in_ok-whole.ensures in
    held_slot old mid c.take_held.new.store c.args.target.slot c.in-Some.value c.in-Some-2.whole pops takes c.requires.there

pub returns-clause-did : goal.returns-clause-did
returns-clause-did c = λ modes declared fitting.
    let old = c.args.store.now in
    let mid = c.pop_top.new.store in
    let gone = c.take_held.new.store in
    let new = c.end_update.new.store in
    let from = c.args.control.now in
    let to = c.end_update.new.control in
    let at = map selected c.args.at.now in
    let pops : PopsTop old (Some c.in-Some.value) mid = rw c.in-Some.is at c.in_ok-value.ensures in
    let takes : TakesHeld (plain_slot (variables mid.core) c.args.target.slot) mid (Some c.in-Some-2.whole) gone = rw c.in-Some-2.is at c.in_ok-whole.ensures in
    let whole = c.put_at-left.new.whole in
    let told : Updates (with_part_at_all at (part c.in-Some-2.whole) (part c.in-Some.value) c.turns.result) c.turns.result (part whole) c.put_at-left.result = c.put_at-left.ensures.updated in
    let updated : Updates (with_part_at_all at (part c.in-Some-2.whole) (part c.in-Some.value) from.turns) from.turns (part whole) c.put_at-left.result = subst (λ n. Updates (with_part_at_all at (part c.in-Some-2.whole) (part c.in-Some.value) n) n (part whole) c.put_at-left.result) c.turns.ensures told in
    let x = plain_slot (variables old.core) c.args.target.slot in
    let laws = c.learn_laws.ensures in
    let keeps : Keeps modes x (part c.in-Some-2.whole) (part whole) (option_map part c.in_ok-kept.kept) =
    c.in_ok-kept.ensures modes x (part whole)
    (λ sure. put_sure laws.parts laws.held modes old mid gone c.args.target.slot c.args.target.declared at c.in-Some.value c.in-Some-2.whole whole from.turns c.put_at-left.result declared fitting pops takes (sym c.decides_put-sure.ensures ∙ sure) laws.formed updated c.put_at-left.ensures.refused) in
    IfOk-weaker c.end_update.result
    (λ e. EndsUpdate modes c.put_at-left.result c.args.line (plain_slot (variables gone.core) c.args.target.slot) (part whole) (option_map part c.in_ok-kept.kept) gone from new to e)
    (λ e. Alters modes old from c.args.line Putting (plain_slot (variables old.core) c.args.target.slot) at new to e)
    (λ e f. changed modes old mid gone new from to c.args.line c.args.target.slot (λ w v left. with_part_at_all at w v left) c.in-Some.value c.in-Some-2.whole whole (option_map part c.in_ok-kept.kept) c.put_at-left.result e keeps pops takes updated c.put_at-left.ensures.refused f)
    (c.end_update.ensures.did modes (declared_here modes old mid gone c.args.target.slot c.in-Some.value c.in-Some-2.whole c.args.target.declared pops takes declared))

pub returns-clause-gained : goal.returns-clause-gained
returns-clause-gained c = λ modes declared.
    let old = c.args.store.now in
    let mid = c.pop_top.new.store in
    let gone = c.take_held.new.store in
    let new = c.end_update.new.store in
    let from = c.args.control.now in
    let to = c.end_update.new.control in
    let slot = c.args.target.slot in
    let d = c.args.target.declared in
    let pops : PopsTop old (Some c.in-Some.value) mid = rw c.in-Some.is at c.in_ok-value.ensures in
    let takes : TakesHeld (plain_slot (variables mid.core) slot) mid (Some c.in-Some-2.whole) gone = rw c.in-Some-2.is at c.in_ok-whole.ensures in
    let whole = part c.put_at-left.new.whole in
    let kept = option_map part c.in_ok-kept.kept in
    if_ok_both c.end_update.result
    (λ e. EndsUpdate modes c.put_at-left.result c.args.line (plain_slot (variables gone.core) slot) whole kept gone from new to e)
    (BasesAre (gained_by (mode_by d) whole gone.bases) gone.bases new.bases)
    (GainsIf true modes (plain_slot (variables old.core) slot) old new)
    (λ e u b. hand_gains modes old slot mid.core.now.operands (part c.in-Some-2.whole) whole kept gone new from to c.args.line c.put_at-left.result true e d (taken_held old mid slot c.in-Some-2.whole gone pops.1 takes) declared u b)
    (c.end_update.ensures.did modes (declared_here modes old mid gone slot c.in-Some.value c.in-Some-2.whole d pops takes declared)) c.end_update.ensures.gained
