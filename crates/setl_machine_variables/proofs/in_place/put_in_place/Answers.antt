use Rattle.setl_value.specs.code.DatumOf.{datum}
use Rattle.setl_machine_variables.proofs.Freely.{altered_freely}
use Rattle.setl_machine_variables.proofs.in_place.put_in_place.Goals as goal

pub returns-clause-did : goal.returns-clause-did
returns-clause-did c = λ modes line what bs h.
    altered_freely modes c.args.store.now c.drop_top.new.self c.set_slot.new.self c.go_on.new.store line c.args.slot what bs (datum c.args.value) h c.in_ok-drop_top.ensures c.in_ok-set_slot.ensures c.go_on.ensures
