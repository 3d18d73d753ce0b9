use Rattle.std.proofs.Common.{◌≡◌, ◌∙◌, ap, sym, subst, arith, map}
use Rattle.std.proofs.lemmas.List.Filters.{dedup_is}
use Rattle.setl_value.specs.Datum.{depth, set_of}
use Rattle.setl_value.specs.code.DatumOf.{datum}
use Rattle.setl_value.specs.Order.{IsRising}
use Rattle.setl_set.specs.Sets.{set_from}
use Rattle.setl_map.specs.DepthLaws.{depth_set_from}
use Rattle.setl_map.proofs.Gathering.{same_values, rising_dedup, deduped}
use Rattle.setl_map.proofs.gather.gathered.Goals as goal

pub from_rising-requires-clause-rising : goal.from_rising-requires-clause-rising
from_rising-requires-clause-rising c =
    let is = dedup_is same_values c.sort.new.self.items c.dedup.new.self.items c.dedup.ensures.filtered in
    subst (λ l. IsRising (map datum l)) (sym is) (rising_dedup c.sort.new.self.items c.in_ok-sort.ensures.sorted)

pub from_rising-requires-clause-shallow : goal.from_rising-requires-clause-shallow
from_rising-requires-clause-shallow c =
    let is = dedup_is same_values c.sort.new.self.items c.dedup.new.self.items c.dedup.ensures.filtered in
    let e : map datum c.dedup.new.self.items ≡ set_from (map datum c.args.values.items) = ap (map datum) is ∙ deduped c.rising_lists_agree.ensures c.tests_are_exact.ensures.membership c.operations_have_their_members.ensures.gather c.args.values.items c.sort.new.self.items c.in_ok-sort.ensures.permutation c.in_ok-sort.ensures.sorted in
    omega (arith, ap (λ l. depth (set_of l)) e, depth_set_from (map datum c.args.values.items), c.requires)

pub returns : goal.returns
returns c =
    let is = dedup_is same_values c.sort.new.self.items c.dedup.new.self.items c.dedup.ensures.filtered in
    c.in_ok-set.ensures.made ∙ ap (map datum) is
    ∙ deduped c.rising_lists_agree.ensures c.tests_are_exact.ensures.membership c.operations_have_their_members.ensures.gather c.args.values.items c.sort.new.self.items c.in_ok-sort.ensures.permutation c.in_ok-sort.ensures.sorted
