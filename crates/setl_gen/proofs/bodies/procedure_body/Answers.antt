use Rattle.setl_program.specs.code.Plain.{plain_block}
use Rattle.setl_code.specs.Generated.{procedure_code}
use Rattle.setl_gen_emitter.specs.Emitted.{held}
use Rattle.setl_gen.specs.Bodies.{table_of}
use Rattle.setl_gen.proofs.BodyLemmas.{procedure_laid, body_made, vars_kept}
use Rattle.setl_gen.proofs.bodies.procedure_body.Goals as goal

pub returns-clause-body : goal.returns-clause-body
returns-clause-body c =
    let p = c.args.p.now in
    let vars = c.args.emitter.now.names.vars in
    let b = plain_block p.body in
    let s = held c.put-2.new.self in
    let laid = procedure_laid vars c.args.n p c.as_slice.result.now c.as_slice-statements.result.now (held c.begin.new.emitter) (held c.block.new.emitter) (held c.put.new.self) s c.as_slice.ensures c.as_slice-statements.ensures c.in_ok-begin.ensures c.in_ok-block.ensures c.in_ok-put.ensures c.in_ok-put-2.ensures in
    body_made (table_of vars c.args.n p.parameters b) (procedure_code p.end_line b) p.name s laid c.finish.result c.finish.ensures.body

pub returns-clause-vars : goal.returns-clause-vars
returns-clause-vars c =
    let p = c.args.p.now in
    let vars = c.args.emitter.now.names.vars in
    let b = plain_block p.body in
    let s = held c.put-2.new.self in
    let laid = procedure_laid vars c.args.n p c.as_slice.result.now c.as_slice-statements.result.now (held c.begin.new.emitter) (held c.block.new.emitter) (held c.put.new.self) s c.as_slice.ensures c.as_slice-statements.ensures c.in_ok-begin.ensures c.in_ok-block.ensures c.in_ok-put.ensures c.in_ok-put-2.ensures in
    vars_kept (table_of vars c.args.n p.parameters b) (procedure_code p.end_line b) p.name s laid c.finish.result c.finish.new.emitter.names c.finish.ensures.vars
