use Rattle.setl_value.specs.code.DatumOf.{datum}
use Rattle.setl_machine_updates.proofs.Takings.{back_taken}
use Rattle.setl_machine_updates.proofs.taking.take_back.Goals as goal

pub returns-clause-taken : goal.returns-clause-taken
returns-clause-taken c = back_taken (datum c.args.whole.now) c.take_last.result (datum c.take_last.new.whole) c.take_last.ensures.takes
