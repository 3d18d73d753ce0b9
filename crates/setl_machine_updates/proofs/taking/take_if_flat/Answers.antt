use Rattle.std.proofs.Common.{ap}
use Rattle.setl_value.specs.code.DatumOf.{datum}
use Rattle.setl_machine_updates.proofs.Flattened.{taken_bound}
use Rattle.setl_machine_updates.proofs.taking.take_if_flat.Goals as goal

pub returns-in-Ok-clause-bound : goal.returns-in-Ok-clause-bound
returns-in-Ok-clause-bound c =
    taken_bound c.args.end (datum c.args.part.now) (datum c.take_value.new.whole) c.in-Ok.taken c.in-Ok.ensures.taken (λ n. ap datum (c.in-Ok.ensures.empty n))
