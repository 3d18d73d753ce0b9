use Rattle.std.proofs.Common.{◌∙◌, sym, ap, subst, is_some}
use Rattle.std.specs.List.{IsAmong}
use Rattle.std.specs.Map.{values_of}
use Rattle.std.specs.Option.{option_copied}
use Rattle.setl_sparse.specs.Entries.{content_at}
use Rattle.setl_sparse.proofs.Tables.{no_content, content_by_place, content_among}
use Rattle.setl_sparse.proofs.map.SparseMap.get.Goals as goal

pub returns-in_err-place-clause-content : goal.returns-in_err-place-clause-content
returns-in_err-place-clause-content g c =
    ap option_copied c.from_residual.ensures
    ∙ sym (no_content c.self.inside.numbers.keys c.self.inside.contents.items c.args.block c.self.invariant.0 (sym c.get_index_of.ensures.found ∙ ap is_some c.in_err-place.was))
    ∙ ap (λ m. content_at m c.args.block) c.self.view_is

pub returns-clause-content : goal.returns-clause-content
returns-clause-content g c =
    sym (content_by_place c.self.inside.numbers.keys c.self.inside.contents.items c.in_ok-place.place c.args.block c.index.result.now c.self.invariant
    (sym c.get_index_of.ensures.index ∙ c.in_ok-place.was) c.index.ensures)
    ∙ ap (λ m. content_at m c.args.block) c.self.view_is

pub returns-clause-member : goal.returns-clause-member
returns-clause-member g c =
    subst (λ m. IsAmong (values_of m) c.index.result.now) c.self.view_is
    (content_among c.self.inside.numbers.keys c.self.inside.contents.items c.in_ok-place.place c.args.block c.index.result.now c.self.invariant.0
    (sym c.get_index_of.ensures.index ∙ c.in_ok-place.was) c.index.ensures)
