use Rattle.std.proofs.Common.{sym, subst}
use Rattle.std.proofs.lemmas.List.Filters.{dedup_is}
use Rattle.std.specs.List.Sorted.{IsStrictlySortedBy}
use Rattle.setl_rep_entering.specs.code.Finding.{place_cmp, HaveSamePlaces}
use Rattle.setl_rep_entering.proofs.Sorting.{same_place, have_same_places, places_sorted}
use Rattle.setl_rep_entering.proofs.places.sorted.Goals as goal

pub returns-clause-same : goal.returns-clause-same
returns-clause-same c =
    let is = dedup_is same_place c.sort.new.self.items c.dedup.new.self.items c.dedup.ensures.filtered in
    subst (HaveSamePlaces c.args.places.items) (sym is) (have_same_places c.instances_are_read.ensures.names c.args.places.items c.sort.new.self.items c.in_ok-sort.ensures.permutation)

pub returns-clause-rising : goal.returns-clause-rising
returns-clause-rising c =
    let is = dedup_is same_place c.sort.new.self.items c.dedup.new.self.items c.dedup.ensures.filtered in
    subst (IsStrictlySortedBy place_cmp) (sym is) (places_sorted c.sort.new.self.items c.in_ok-sort.ensures.sorted)
