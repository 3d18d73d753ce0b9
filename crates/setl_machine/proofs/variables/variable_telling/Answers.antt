use Rattle.std.proofs.Common.{◌∙◌, map, sym, subst}
use Rattle.setl_code.specs.declared.code.Instr.{Instr}
use Rattle.setl_code.specs.Code.{Alter}
use Rattle.setl_code.specs.Plain.{plain_code, plain_instr, plain_slot, plain_bracket, plain_alteration}
use Rattle.setl_store.specs.Standing.{variables}
use Rattle.setl_machine_control.specs.Control.{stood_for}
use Rattle.setl_machine_control.specs.Declaring.{modes_of}
use Rattle.setl_machine.specs.Gaining.{Gains}
use Rattle.setl_machine.specs.Hearing.{ended, DoesTelling}
use Rattle.setl_machine.proofs.variables.variable_telling.Goals as goal

pub returns-in-Store-clause-did : goal.returns-in-Store-clause-did
returns-in-Store-clause-did c =
    let s = c.args.store.now in
    let from = c.args.control.now in
    subst (λ (what : Instr). DoesTelling (modes_of c.args.declarations.now) s from c.args.line (plain_instr (variables s.core) what) c.store_telling.new.store from c.store_telling.result) (sym c.in-Store.is) (c.store_telling.ensures.did from)

pub returns-in-Alter-clause-did : goal.returns-in-Alter-clause-did
returns-in-Alter-clause-did c =
    let s = c.args.store.now in
    let modes = modes_of c.args.declarations.now in
    let from = c.args.control.now in
    let new = c.alter_telling.new.store in
    let to = c.alter_telling.new.control in
    let r = c.alter_telling.result in
    subst (λ (what : Instr). DoesTelling modes s from c.args.line (plain_instr (variables s.core) what) new to r) (sym c.in-Alter.is)
    (subst (λ bs. DoesTelling modes s from c.args.line (Alter (plain_alteration c.in-Alter.what) (plain_slot (variables s.core) c.in-Alter.slot) (map plain_bracket bs)) new to r) (c.as_slice.ensures ∙ c.get.ensures) c.alter_telling.ensures.did)

pub returns-in-Store-clause-gained : goal.returns-in-Store-clause-gained
returns-in-Store-clause-gained c = λ rest rest'.
    let s = c.args.store.now in
    let from = c.args.control.now in
    let new = c.store_telling.new.store in
    subst (λ (what : Instr). Gains (modes_of c.args.declarations.now) (plain_code s.code) c.args.line (plain_instr (variables s.core) what) (stood_for s.core from rest) (stood_for new.core from rest') s.bases new.bases (ended c.store_telling.result)) (sym c.in-Store.is) (c.store_telling.ensures.gained from rest rest')

pub returns-in-Alter-clause-gained : goal.returns-in-Alter-clause-gained
returns-in-Alter-clause-gained c = λ rest rest'.
    let s = c.args.store.now in
    let modes = modes_of c.args.declarations.now in
    let new = c.alter_telling.new.store in
    let k = stood_for s.core c.args.control.now rest in
    let d = stood_for new.core c.alter_telling.new.control rest' in
    let end = ended c.alter_telling.result in
    subst (λ (what : Instr). Gains modes (plain_code s.code) c.args.line (plain_instr (variables s.core) what) k d s.bases new.bases end) (sym c.in-Alter.is)
    (subst (λ bs. Gains modes (plain_code s.code) c.args.line (Alter (plain_alteration c.in-Alter.what) (plain_slot (variables s.core) c.in-Alter.slot) (map plain_bracket bs)) k d s.bases new.bases end) (c.as_slice.ensures ∙ c.get.ensures) (c.alter_telling.ensures.gained rest rest'))
