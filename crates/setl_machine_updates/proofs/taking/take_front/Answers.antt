use Rattle.setl_value.specs.code.DatumOf.{datum}
use Rattle.setl_machine_updates.proofs.Takings.{front_taken}
use Rattle.setl_machine_updates.proofs.taking.take_front.Goals as goal

pub returns-clause-taken : goal.returns-clause-taken
returns-clause-taken c = front_taken (datum c.args.whole.now) c.take_first.result (datum c.take_first.new.whole) c.learn.ensures c.take_first.ensures.takes
