use Rattle.std.proofs.Common.{◌∙◌, Some, sym, ap, cond, is_some, nat_eq, slice_set}
use Rattle.std.specs.List.{zip}
use Rattle.std.specs.Map.{keys_of}
use Rattle.std.proofs.lemmas.List.{length-set}
use Rattle.std.proofs.lemmas.Map.Made.{keys_of-zip}
use Rattle.setl_sparse.specs.Entries.{content_at}
use Rattle.setl_sparse.proofs.Tables.{is_some-content, content_by_place, content_replaced_by_place}
use Rattle.setl_sparse.proofs.map.SparseMap.replace.Goals as goal

pub unwrap-place-requires : goal.unwrap-place-requires
unwrap-place-requires g c =
    c.get_index_of.ensures.found
    ∙ sym (is_some-content c.self.inside.numbers.keys c.self.inside.contents.items c.args.block c.self.invariant.0)
    ∙ ap (λ m. is_some (content_at m c.args.block)) c.self.view_is
    ∙ c.requires.there

pub returns-clause-old : goal.returns-clause-old
returns-clause-old g c =
    ap Some c.replace.ensures.value
    ∙ sym (content_by_place c.self.inside.numbers.keys c.self.inside.contents.items c.unwrap-place.result c.args.block c.index_mut.result.now c.self.invariant
    (sym c.get_index_of.ensures.index ∙ c.unwrap-place.ensures) c.index_mut.ensures.value)
    ∙ ap (λ m. content_at m c.args.block) c.self.view_is

pub returns-clause-new : goal.returns-clause-new
returns-clause-new g c q =
    ap (λ v. content_at (zip c.self.inside.numbers.keys (slice_set c.self.inside.contents.items c.unwrap-place.result v)) q) c.replace.ensures.after
    ∙ content_replaced_by_place c.self.inside.numbers.keys c.self.inside.contents.items c.unwrap-place.result c.args.block c.args.content c.self.invariant
    (sym c.get_index_of.ensures.index ∙ c.unwrap-place.ensures) q
    ∙ ap (λ m. cond (nat_eq c.args.block q) (Some c.args.content) (content_at m q)) c.self.view_is

pub returns-clause-places : goal.returns-clause-places
returns-clause-places g c =
    keys_of-zip c.self.inside.numbers.keys (slice_set c.self.inside.contents.items c.unwrap-place.result c.replace.new.dest)
    (length-set c.self.inside.contents.items c.unwrap-place.result c.replace.new.dest ∙ c.self.invariant.0)
    ∙ sym (keys_of-zip c.self.inside.numbers.keys c.self.inside.contents.items c.self.invariant.0)
    ∙ ap keys_of c.self.view_is
