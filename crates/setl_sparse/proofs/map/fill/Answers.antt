use Rattle.std.proofs.Common.{◌∙◌, Some, sym, ap, is_some, slice_set}
use Rattle.std.specs.List.{zip}
use Rattle.setl_sparse.specs.Entries.{content_at}
use Rattle.setl_sparse.proofs.Tables.{no_content, content_by_place, content_replaced_by_place}
use Rattle.setl_sparse.proofs.map.fill.Goals as goal

pub returns-in-Some-clause-old : goal.returns-in-Some-clause-old
returns-in-Some-clause-old g c =
    ap Some c.replace.ensures.value
    ∙ sym (content_by_place c.args.numbers.now.keys c.args.contents.now.items c.in-Some.place c.args.block c.index_mut.result.now c.requires
    (sym c.get_index_of.ensures.index ∙ c.in-Some.is) c.index_mut.ensures.value)

pub returns-in-Some-clause-ok : goal.returns-in-Some-clause-ok
returns-in-Some-clause-ok g c q =
    ap (λ v. content_at (zip c.args.numbers.now.keys (slice_set c.args.contents.now.items c.in-Some.place v)) q) c.replace.ensures.after
    ∙ content_replaced_by_place c.args.numbers.now.keys c.args.contents.now.items c.in-Some.place c.args.block c.args.content c.requires
    (sym c.get_index_of.ensures.index ∙ c.in-Some.is) q

pub returns-in_ok-push-in-None-clause-old : goal.returns-in_ok-push-in-None-clause-old
returns-in_ok-push-in-None-clause-old g c =
    sym (no_content c.args.numbers.now.keys c.args.contents.now.items c.args.block c.requires.0 (sym c.get_index_of.ensures.found ∙ ap is_some c.in-None.is))
