use Rattle.std.proofs.Common.{ap}
use Rattle.std.specs.Prelude.{cond}
use Rattle.setl_code.specs.Plain.{plain_slot}
use Rattle.setl_store.specs.Standing.{Standing, variables}
use Rattle.setl_value.specs.code.DatumOf.{part}
use Rattle.setl_machine_control.specs.Declaring.{mode_by}
use Rattle.setl_machine_control.specs.Gaining.{gained_by}
use Rattle.setl_machine_control.proofs.Ending.{as_before}
use Rattle.setl_machine_control.proofs.updating.store_whole.Goals as goal

pub returns-in_ok-put_whole-in-Paused-clause-did : goal.returns-in_ok-put_whole-in-Paused-clause-did
returns-in_ok-put_whole-in-Paused-clause-did c = λ modes declared.
    let x = plain_slot (variables c.args.store.now.core) c.args.target.slot in
    (part c.settle-holds.result.holds, c.settle-holds.ensures.settles modes x declared, c.in_ok-put_whole-in-Paused.ensures.put)

pub returns-in_ok-set_slot-in_default : goal.returns-in_ok-set_slot-in_default
returns-in_ok-set_slot-in_default c =
    let old = c.args.store.now in
    let new = c.set_slot.new.self in
    let x = plain_slot (variables old.core) c.args.target.slot in
    record {
      did = λ modes declared. (part c.settle-holds.result.holds, c.settle-holds.ensures.settles modes x declared, ap (λ (s : Standing). record s { bases = old.bases }) c.in_ok-set_slot-in_default.ensures);
      gained =
          as_before (cond c.args.stored (gained_by (mode_by c.args.target.declared) (part c.args.whole) old.bases) old.bases) old.bases new.bases c.settle-holds.result.end c.in_default.not-Paused
          (ap (λ (s : Standing). s.bases) c.in_ok-set_slot-in_default.ensures);
    }
