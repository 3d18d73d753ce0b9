use Rattle.std.proofs.Common.{◌∙◌, Some, length, sym, ap, arith, slice_get}
use Rattle.std.proofs.lemmas.Option.{slice_get-get_or}
use Rattle.setl_sparse.proofs.Reading.{entry_at, entry_count}
use Rattle.setl_sparse.proofs.map.SparseMap.at.Goals as goal

pub index-requires : goal.index-requires
index-requires g c =
    omega (arith, entry_count c.self.inside.numbers.keys c.self.inside.contents.items c.self.invariant.0, ap length c.self.view_is, c.self.invariant.0, c.requires)

pub index-requires-2 : goal.index-requires-2
index-requires-2 g c =
    omega (arith, entry_count c.self.inside.numbers.keys c.self.inside.contents.items c.self.invariant.0, ap length c.self.view_is, c.requires)

pub returns : goal.returns
returns g c =
    ap (λ m. slice_get m c.args.i) (sym c.self.view_is)
    ∙ entry_at c.self.inside.numbers.keys c.self.inside.contents.items c.args.i c.index.result.now c.index-2.result.now c.index.ensures
    (slice_get-get_or c.self.inside.contents.items c.args.i c.index-2.result.now (omega (arith, entry_count c.self.inside.numbers.keys c.self.inside.contents.items c.self.invariant.0, ap length c.self.view_is, c.requires)) ∙ ap Some (sym c.index-2.ensures))
