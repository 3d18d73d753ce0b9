use Rattle.std.proofs.Common.{rules}
use Rattle.setl_top_words.proofs.Order.{always}
use Rattle.setl_top_words.proofs.Commands.{run_is_faulty, spells_run}
use Rattle.setl_top_words.proofs.reading.read_run.Goals as goal

pub returns-in_err-given-clause-faulty : goal.returns-in_err-given-clause-faulty
returns-in_err-given-clause-faulty c =
    always _ (run_is_faulty c.args.kind _ c.args.name.now c.none.result c.none.ensures c.in_err-given.ensures.none)

pub returns-clause-plain : goal.returns-clause-plain
returns-clause-plain c =
    spells_run c.args.kind _ c.args.name.now c.none.result c.in_ok-given.given _ c.requires.file c.none.ensures c.in_ok-given.ensures.read (search rules)
