use Rattle.std.proofs.Common.{◌∙◌, ap, Some}
use Rattle.setl_code.specs.Plain.{plain_slot}
use Rattle.setl_store.specs.Standing.{Standing, variables}
use Rattle.setl_value.specs.code.DatumOf.{part}
use Rattle.setl_machine_control.specs.Declaring.{modes_of}
use Rattle.setl_machine_control.specs.Working.{PopsTop}
use Rattle.setl_machine_variables.proofs.Gaining.{put_gains}
use Rattle.setl_machine_variables.proofs.InForm.{taken_by}
use Rattle.setl_machine_variables.proofs.Storing.{store_goes, store_stops}
use Rattle.setl_machine_variables.proofs.variables.store_in.Goals as goal

pub returns-in-Some-refusal-clause-did : goal.returns-in-Some-refusal-clause-did
returns-in-Some-refusal-clause-did c =
    let old = c.args.store.now in
    let modes = modes_of c.args.declarations.now in
    let pops : PopsTop old (Some c.in-Some.value) c.pop_top.new.store = rw c.in-Some.is at c.in_ok-value.ensures in
    store_stops modes old c.pop_top.new.store c.go_on.new.store c.args.line c.in-Some-refusal.place c.args.slot c.in-Some.value pops (c.in-Some-refusal.ensures modes (plain_slot (variables old.core) c.args.slot) c.of_slot-declared.ensures) c.go_on.ensures

pub returns-in_ok-put-in-None-clause-did : goal.returns-in_ok-put-in-None-clause-did
returns-in_ok-put-in-None-clause-did c =
    let old = c.args.store.now in
    let mid = c.pop_top.new.store in
    let modes = modes_of c.args.declarations.now in
    let pops : PopsTop old (Some c.in-Some.value) mid = rw c.in-Some.is at c.in_ok-value.ensures in
    -- but for the bases
    let as_before : Standing → Standing = λ s. record s { bases = mid.bases } in
    store_goes modes old mid (as_before c.put.new.store) (as_before c.go_on-in-None.new.store) c.args.line c.args.slot c.in-Some.value pops (c.in-None.ensures modes (plain_slot (variables old.core) c.args.slot) c.of_slot-declared.ensures)
    (ap as_before c.in_ok-put-in-None.ensures) (ap as_before c.go_on-in-None.ensures)

pub returns-in_ok-put-in-None-clause-gained : goal.returns-in_ok-put-in-None-clause-gained
returns-in_ok-put-in-None-clause-gained c =
    let old = c.args.store.now in
    let mid = c.pop_top.new.store in
    let pops : PopsTop old (Some c.in-Some.value) mid = rw c.in-Some.is at c.in_ok-value.ensures in
    put_gains (modes_of c.args.declarations.now) old mid c.put.new.store c.go_on-in-None.new.store c.args.slot c.of_slot-declared.result (part c.in-Some.value) mid.core.now.operands pops.1 c.of_slot-declared.ensures c.in_ok-put-in-None.ensures c.go_on-in-None.ensures

pub returns-in-Some-refusal-clause-gained : goal.returns-in-Some-refusal-clause-gained
returns-in-Some-refusal-clause-gained c =
    let old = c.args.store.now in
    let pops : PopsTop old (Some c.in-Some.value) c.pop_top.new.store = rw c.in-Some.is at c.in_ok-value.ensures in
    ap (λ (s : Standing). s.bases) c.go_on.ensures ∙ ap (λ (s : Standing). s.bases) pops.1

pub put-requires-clause-fits : goal.put-requires-clause-fits
put-requires-clause-fits c =
    let x = plain_slot (variables c.args.store.now.core) c.args.slot in
    let modes = modes_of c.args.declarations.now in
    taken_by modes x c.of_slot-declared.result (part c.in-Some.value) c.of_slot-declared.ensures (c.in-None.ensures modes x c.of_slot-declared.ensures)
