use Rattle.std.proofs.Common.{◌≡◌, ◌∙◌, rules}
use Rattle.setl_debug_machine.specs.declared.machine.Machine.{Machine}
use Rattle.setl_debug_machine.proofs.Starting.{stands_first}
use Rattle.setl_debug_machine.proofs.subject.started.Goals as goal

pub returns : goal.returns
returns c =
    let s = c.args.subject.now in
    let copied : c.in_ok-to_vec.field-0.items ≡ s.input.items = search rules in
    let m : Machine = record { store = c.in_ok-store.store; control = c.in_ok-control.control; input = c.new-input.result; output = c.in_ok-output.output } in
    stands_first c.declared_variables_fit.ensures.starts s.declarations s.code.now s.input.items c.args.turns m c.requires.ready.table c.requires.ready.bare c.requires.ready.main c.in_ok-store.ensures c.in_ok-control.ensures (c.new-input.ensures ∙ copied) c.in_ok-output.ensures
