use Rattle.std.proofs.Common.{◌+◌, sym, subst, true}
use Rattle.setl_value.specs.code.Body.{Members}
use Rattle.setl_value.specs.code.DatumOf.{datum}
use Rattle.setl_value.specs.code.Places.{rank}
use Rattle.setl_map.specs.code.Points.{IsBound}
use Rattle.setl_map.proofs.Bounds.{rising_from_set, from_point, past_leading}
use Rattle.setl_map.proofs.PairFacts.{all_pairs}
use Rattle.setl_map.proofs.pairs.count_from.Goals as goal

pub returns-clause-from : goal.returns-clause-from
returns-clause-from c =
    let ds = Members c.args.f.now in
    from_point (datum c.args.x.now) ds (rank c.args.f.now c.args.from) (all_pairs ds c.requires.map) c.requires.from

pub returns-clause-to : goal.returns-clause-to
returns-clause-to c =
    let ds = Members c.args.f.now in
    let x = datum c.args.x.now in
    let i = rank c.args.f.now c.args.from in
    let p = all_pairs ds c.requires.map in
    subst (λ n. IsBound true x ds (i + n)) (sym c.leading.ensures) (past_leading x ds i (rising_from_set ds c.learn.ensures) p (from_point x ds i p c.requires.from))
