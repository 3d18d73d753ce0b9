use Rattle.std.proofs.Common.{map}
use Rattle.setl_code.specs.Code.{Alter}
use Rattle.setl_code.specs.Plain.{plain_slot, plain_bracket, plain_alteration}
use Rattle.setl_store.specs.Standing.{variables}
use Rattle.setl_machine_control.specs.Declaring.{modes_of}
use Rattle.setl_machine.proofs.AtOnce.{went}
use Rattle.std.proofs.lemmas.Result.{IfOk-weaker}
use Rattle.setl_code.specs.Plain.{plain_code}
use Rattle.setl_machine_control.specs.Control.{stood_for}
use Rattle.setl_machine_variables.specs.Gaining.{stores_at, GainsIf}
use Rattle.setl_machine.specs.Gaining.{Gains}
use Rattle.setl_machine.proofs.Gaining.{alter_gains, gains_went}
use Rattle.setl_machine.proofs.at_once.alter_at_once.Goals as goal

pub returns-clause-did : goal.returns-clause-did
returns-clause-did c =
    let s = c.args.store.now in
    let what = Alter (plain_alteration c.args.what) (plain_slot (variables s.core) c.args.slot) (map plain_bracket c.args.brackets.now) in
    went (modes_of c.args.declarations.now) s c.update.new.store c.args.control.now c.update.new.control c.args.line what c.update.result c.went_on.result c.went_on.ensures c.update.ensures.did

pub returns-clause-gained : goal.returns-clause-gained
returns-clause-gained c = λ rest rest'.
    let s = c.args.store.now in
    let new = c.update.new.store in
    let from = c.args.control.now in
    let to = c.update.new.control in
    let modes = modes_of c.args.declarations.now in
    let a = plain_alteration c.args.what in
    let x = plain_slot (variables s.core) c.args.slot in
    let bs = map plain_bracket c.args.brackets.now in
    let k = stood_for s.core from rest in
    let d = stood_for new.core to rest' in
    gains_went modes (plain_code s.code) c.args.line (Alter a x bs) k d s.bases new.bases c.update.result c.went_on.result c.went_on.ensures
    (IfOk-weaker c.update.result (GainsIf (stores_at a x bs s.core from.turns) modes x s new) (Gains modes (plain_code s.code) c.args.line (Alter a x bs) k d s.bases new.bases)
    (λ e g. alter_gains modes c.requires.serves.main s new from to c.args.line a x bs rest rest' e g) c.update.ensures.gained)
