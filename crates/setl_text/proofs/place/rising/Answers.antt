use Rattle.std.proofs.lemmas.List.Filters.{dedup_is}
use Rattle.setl_text.proofs.Rising.{sorted_set}
use Rattle.setl_text.proofs.place.rising.Goals as goal

pub returns : goal.returns
returns c =
    sorted_set c.rising_lists_agree.ensures c.operations_have_their_members.ensures.gather c.args.values.items c.sort.new.self.items c.dedup.new.self.items
    c.in_ok-sort.ensures.permutation c.in_ok-sort.ensures.sorted (dedup_is _ _ _ c.dedup.ensures.filtered)
