use Rattle.setl_value.specs.code.Body.{Members}
use Rattle.setl_value.specs.code.DatumOf.{datum}
use Rattle.setl_machine_updates.proofs.Flat.{lessened, lessened_depth}
use Rattle.setl_machine_updates.proofs.one_part.remove_from_flat.Goals as goal

pub returns-clause-removed : goal.returns-clause-removed
returns-clause-removed c = λ t. lessened (datum c.args.value.now) (Members c.args.s.now) (Members c.less.new.s) c.in_ok-less.ensures.removed

pub returns-clause-bound : goal.returns-clause-bound
returns-clause-bound c = lessened_depth (datum c.args.value.now) (Members c.args.s.now) (Members c.less.new.s) c.in_ok-less.ensures.removed
