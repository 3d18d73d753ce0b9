use Rattle.std.proofs.Common.{[], refl}
use Rattle.setl_program.specs.code.Plain.{plain_block}
use Rattle.setl_code.specs.Generated.{main_code}
use Rattle.setl_gen_emitter.specs.Emitted.{held}
use Rattle.setl_gen.specs.Bodies.{table_of}
use Rattle.setl_gen.proofs.BodyLemmas.{main_laid, body_made, vars_kept}
use Rattle.setl_gen.proofs.bodies.main_body.Goals as goal

pub returns-clause-body : goal.returns-clause-body
returns-clause-body c =
    let p = c.args.p.now in
    let vars = c.args.emitter.now.names.vars in
    let b = plain_block p.main in
    let s = held c.put.new.self in
    let laid = main_laid vars p [] c.as_slice-statements.result.now (held c.begin.new.emitter) (held c.block.new.emitter) s refl c.as_slice-statements.ensures c.in_ok-begin.ensures c.in_ok-block.ensures c.in_ok-put.ensures in
    body_made (table_of vars 0 [] b) (main_code p.end_line b) p.name s laid c.finish.result c.finish.ensures.body

pub returns-clause-vars : goal.returns-clause-vars
returns-clause-vars c =
    let p = c.args.p.now in
    let vars = c.args.emitter.now.names.vars in
    let b = plain_block p.main in
    let s = held c.put.new.self in
    let laid = main_laid vars p [] c.as_slice-statements.result.now (held c.begin.new.emitter) (held c.block.new.emitter) s refl c.as_slice-statements.ensures c.in_ok-begin.ensures c.in_ok-block.ensures c.in_ok-put.ensures in
    vars_kept (table_of vars 0 [] b) (main_code p.end_line b) p.name s laid c.finish.result c.finish.new.emitter.names c.finish.ensures.vars
