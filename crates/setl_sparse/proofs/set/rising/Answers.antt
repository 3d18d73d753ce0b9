use Rattle.std.proofs.Common.{◌≡◌, ◌∙◌, subst}
use Rattle.std.specs.List.Sorted.{IsPermutation}
use Rattle.setl_sparse.proofs.Members.{rising_once_sorted}
use Rattle.setl_sparse.proofs.set.rising.Goals as goal

-- the sorted numbers are the table's
pub returns-clause-members : goal.returns-clause-members
returns-clause-members c =
    let copied : c.in_ok-numbers.numbers.items ≡ c.args.table.now.keys = c.in_ok-numbers.ensures.items_if_clones_equal (λ x y same. same) ∙ c.as_slice.ensures.keys in
    subst (λ ns. IsPermutation ns c.sort_unstable.new.self.items) copied c.sort_unstable.ensures.permutation

pub returns-clause-rising : goal.returns-clause-rising
returns-clause-rising c = rising_once_sorted c.args.table.now.keys _ c.as_slice.ensures.unique (returns-clause-members c) c.sort_unstable.ensures.sorted
