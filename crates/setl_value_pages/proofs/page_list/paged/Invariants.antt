use Rattle.std.proofs.Common.{◌≡◌, ◌≤◌, ◌++◌, length, map}
use Rattle.std.specs.List.{AllByRecursion}
use Rattle.std.specs.Vec.Iter.{into_iter_items}
use Rattle.setl_value_pages.specs.Exchange.{page_sizes}
use Rattle.setl_value_pages.specs.Pages.{IsPage, items, joined}
use Rattle.setl_value_pages.proofs.page_list.paged.Given as goal

abbrev pub invariant-loop-v : goal.invariant-loop-v
invariant-loop-v g l =
    AllByRecursion IsPage (map items l.list.items) × AllByRecursion (λ n. n ≡ l.most) (page_sizes (map items l.list.items)) × (length l.page.items ≤ l.most) × ((joined (map items l.list.items) ++ l.page.items) ++ into_iter_items l.v-iterator ≡ l.fn.members.items)
