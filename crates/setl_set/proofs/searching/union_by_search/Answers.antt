use Rattle.std.proofs.Common.{sym, ap, ◌∙◌}
use Rattle.setl_value.specs.code.Body.{Members}
use Rattle.setl_set.specs.Sets.{union_of}
use Rattle.setl_set.proofs.BySearch.{union_none}
use Rattle.setl_set.proofs.Places.{rising_from_set}
use Rattle.setl_set.proofs.searching.union_by_search.Goals as goal

pub returns : goal.returns
returns c =
    let ms = Members c.add_all.new.s in
    sym (union_none ms (rising_from_set ms c.learn.ensures)) ∙ c.in_ok-add_all.ensures ∙ ap (λ s. union_of (Members s) (Members c.args.small.now)) c.in_ok-s.ensures.same
