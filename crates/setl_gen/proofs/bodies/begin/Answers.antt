use Rattle.std.proofs.Common.{map}
use Rattle.setl_program.specs.code.Plain.{plain_block, plain_variable}
use Rattle.setl_gen.specs.Bodies.{table_of}
use Rattle.setl_gen.proofs.BodyLemmas.{table_made, blank_made}
use Rattle.setl_gen.proofs.bodies.begin.Goals as goal

pub returns : goal.returns
returns c =
    let t0 = c.args.emitter.now.names in
    let ps = c.args.parameters.now in
    let b = plain_block c.args.statements.now in
    let xs = map (λ x. plain_variable x.now) c.as_slice.result.now in
    let t2 = c.note_all.new.self in
    let is = table_made t0 c.begin.new.self t2 c.args.body ps b c.new-all.result c.block.new.all xs c.in_ok-begin.ensures c.new-all.ensures c.in_ok-block.ensures c.as_slice.ensures c.in_ok-note_all.ensures in
    blank_made t2 (table_of t0.vars c.args.body ps b) c.new.result.items c.new-2.result is c.new.ensures.items c.new-2.ensures
