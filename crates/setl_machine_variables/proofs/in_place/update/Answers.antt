use Rattle.std.proofs.Common.{◌≡◌, map}
use Rattle.std.proofs.lemmas.Result.{IfOk-weaker}
use Rattle.setl_code.specs.Code.{Alter}
use Rattle.setl_code.specs.CodeCore.{held}
use Rattle.setl_code_events.specs.Told.{value_held}
use Rattle.setl_code.specs.Plain.{plain_slot, plain_bracket, plain_alteration}
use Rattle.setl_store.specs.Standing.{variables}
use Rattle.setl_value.specs.code.DatumOf.{datum}
use Rattle.setl_machine_control.specs.Declaring.{modes_of}
use Rattle.setl_machine_variables.proofs.Freely.{some_altered}
use Rattle.setl_machine_control.specs.declared.end.End.{End}
use Rattle.setl_machine_control.specs.declared.end.End.TheVariants.{Paused}
use Rattle.setl_machine_variables.specs.Gaining.{after_store, stores_at, GainsIf}
use Rattle.setl_machine_variables.proofs.Gaining.{nothing_entered}
use Rattle.setl_machine_control.specs.Laws.{works_alone_by}
use Rattle.setl_machine_variables.proofs.in_place.update.Goals as goal

pub put_in_place-requires-clause-some : goal.put_in_place-requires-clause-some
put_in_place-requires-clause-some c =
    let old = c.args.store.now in
    some_altered (modes_of c.args.declarations.now) (plain_alteration c.args.what) (plain_slot (variables old.core) c.args.slot) (map plain_bracket c.args.brackets.now) old.core (datum c.in-Some.value) c.in-Some.ensures.freely

pub returns-in-Some-clause-did : goal.returns-in-Some-clause-did
returns-in-Some-clause-did c =
    let old = c.args.store.now in
    let modes = modes_of c.args.declarations.now in
    let what = plain_alteration c.args.what in
    let x = plain_slot (variables old.core) c.args.slot in
    let bs = map plain_bracket c.args.brackets.now in
    works_alone_by modes old c.put_in_place.new.store c.args.control.now c.args.line (Alter what x bs) c.put_in_place.result (c.put_in_place.ensures.did modes c.args.line what bs c.in-Some.ensures.freely)

pub returns-in-Some-clause-gained : goal.returns-in-Some-clause-gained
returns-in-Some-clause-gained c =
    let old = c.args.store.now in
    let new = c.put_in_place.new.store in
    let modes = modes_of c.args.declarations.now in
    let x = plain_slot (variables old.core) c.args.slot in
    let stored = stores_at (plain_alteration c.args.what) x (map plain_bracket c.args.brackets.now) old.core c.args.control.now.turns in
    IfOk-weaker c.put_in_place.result (λ (e : End). e ≡ Paused) (GainsIf stored modes x old new)
    (λ e is. nothing_entered stored (after_store modes x old new) old.bases new.bases e (c.in-Some.ensures.entered (value_held (held x new.core))) c.put_in_place.ensures.bases is)
    c.put_in_place.ensures.going
