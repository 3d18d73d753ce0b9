use Rattle.std.proofs.Common.{arith}
use Rattle.setl_machine_updates.proofs.Component.{component_changed, component_deepens, shallow_there}
use Rattle.setl_machine_updates.proofs.Parts.{answered}
use Rattle.setl_machine_updates.proofs.one_part.change_component.Goals as goal

pub change_at-requires-clause-grows : goal.change_at-requires-clause-grows
change_at-requires-clause-grows g c = λ d there r e left.
    let grown = c.requires.grows d (shallow_there c.args.t.now c.args.place c.args.i d c.requires.there there) r e left in
    (grown.0, omega (arith, grown.1))

pub returns-in-Some-clause-changed : goal.returns-in-Some-clause-changed
returns-in-Some-clause-changed g c =
    let k = answered _ c.in_ok-change_at.field-0 c.in-Some.answer c.in-Some.is c.in_ok-change_at.ensures.changed in
    component_changed _ _ c.args.t.now c.change_at.new.self c.args.place c.args.i k.0 k.1 c.in-Some.answer c.requires.there k.2 k.3 k.4 c.learn.ensures

pub returns-in-Some-clause-deeper : goal.returns-in-Some-clause-deeper
returns-in-Some-clause-deeper g c =
    let k = answered _ c.in_ok-change_at.field-0 c.in-Some.answer c.in-Some.is c.in_ok-change_at.ensures.changed in
    let grown = c.requires.grows k.0 (shallow_there c.args.t.now c.args.place c.args.i k.0 c.requires.there k.2) c.in-Some.answer k.1 k.3 in
    component_deepens _ _ c.args.t.now c.change_at.new.self c.args.i k.0 k.1 c.in-Some.answer k.2 k.3 k.4 grown.0
