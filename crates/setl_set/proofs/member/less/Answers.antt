use Rattle.std.proofs.Common.{◌∙◌}
use Rattle.setl_value.specs.code.Body.{Members}
use Rattle.setl_value.specs.code.DatumOf.{datum}
use Rattle.setl_value.specs.code.Places.{rank}
use Rattle.setl_set.proofs.Places.{rising_from_set, removed, remove_absent, absent, found_within}
use Rattle.setl_set.proofs.member.less.Goals as goal

pub returns-in_ok-cut_in-in-Ok-clause-removed : goal.returns-in_ok-cut_in-in-Ok-clause-removed
returns-in_ok-cut_in-in-Ok-clause-removed c =
    let ds = Members c.args.s.now in
    c.in_ok-cut_in-in-Ok.ensures.cut.1 ∙ removed ds (rank c.args.s.now c.in-Ok.place) (datum c.args.v.now) (rising_from_set ds c.learn.ensures) c.in-Ok.ensures.found

pub returns-in-Err-clause-removed : goal.returns-in-Err-clause-removed
returns-in-Err-clause-removed c =
    let ds = Members c.args.s.now in
    remove_absent (datum c.args.v.now) ds (absent (datum c.args.v.now) ds (rank c.args.s.now c.in-Err.field-0) c.in-Err.ensures.absent)

pub cut_in-requires-clause-there : goal.cut_in-requires-clause-there
cut_in-requires-clause-there c = found_within (Members c.args.s.now) (rank c.args.s.now c.in-Ok.place) (datum c.args.v.now) c.in-Ok.ensures.found
