use Rattle.std.proofs.Common.{◌∙◌, sym, ap, is_some}
use Rattle.std.specs.Option.{option_map}
use Rattle.setl_sparse.proofs.Tables.{no_content, content_absent, content_by_place, content_removed}
use Rattle.setl_sparse.proofs.map.take_out.Goals as goal

pub returns-in_err-place-clause-old : goal.returns-in_err-place-clause-old
returns-in_err-place-clause-old g c =
    c.from_residual.ensures
    ∙ sym (no_content c.args.numbers.now.keys c.args.contents.now.items c.args.block c.requires.0 (sym c.swap_remove_full.ensures.found ∙ ap is_some c.in_err-place.was))

pub returns-in_err-place-clause-out : goal.returns-in_err-place-clause-out
returns-in_err-place-clause-out g c =
    content_absent c.args.numbers.now.keys c.args.contents.now.items c.args.block _ c.requires.0
    (sym c.swap_remove_full.ensures.found ∙ ap is_some c.in_err-place.was) c.in_err-place.ensures.unchanged

pub returns-clause-old : goal.returns-clause-old
returns-clause-old g c =
    sym (content_by_place c.args.numbers.now.keys c.args.contents.now.items c.in_ok-place.place c.args.block c.swap_remove.result c.requires
    (sym c.swap_remove_full.ensures.index ∙ ap (option_map (λ p. p.0)) c.in_ok-place.was) c.swap_remove.ensures.value)

pub returns-clause-out : goal.returns-clause-out
returns-clause-out g c =
    content_removed c.args.numbers.now.keys c.args.contents.now.items c.in_ok-place.place c.args.block c.swap_remove.result _ _ c.requires
    (sym c.swap_remove_full.ensures.index ∙ ap (option_map (λ p. p.0)) c.in_ok-place.was) c.swap_remove.ensures.value
    c.swap_remove_full.ensures.keys c.swap_remove.ensures.items c.swap_remove_full.ensures.unique c.swap_remove_full.ensures.updates.0
