use Rattle.std.proofs.Common.{◌∙◌}
use Rattle.setl_program.specs.code.Plain.{selectors_of}
use Rattle.setl_code.specs.Generated as code
use Rattle.setl_gen.proofs.StmtRounds.{brackets_round, brackets_done}
use Rattle.setl_gen.proofs.places.brackets.Goals as goal

pub loop-s-preserved : goal.loop-s-preserved
loop-s-preserved c =
    brackets_round c.loop-s.written c.push.new.self c.args.selectors.now c.loop-s.s-index c.s-item.result c.bracket.result c.loop-s-test.true c.s-item.is c.in_ok-push.ensures.ok c.bracket.ensures
    ∙ c.loop-s.invariant

pub returns : goal.returns
returns c = brackets_done c.loop-s.written c.args.selectors.now c.loop-s.s-index (code.brackets (selectors_of c.args.selectors.now)) c.loop-s-test.false c.loop-s.invariant
