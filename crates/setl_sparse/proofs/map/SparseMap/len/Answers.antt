use Rattle.std.proofs.Common.{length, ap, arith}
use Rattle.setl_sparse.proofs.Reading.{entry_count}
use Rattle.setl_sparse.proofs.map.SparseMap.len.Goals as goal

pub returns : goal.returns
returns g c =
    omega (arith, c.len.ensures, entry_count c.self.inside.numbers.keys c.self.inside.contents.items c.self.invariant.0, ap length c.self.view_is)
