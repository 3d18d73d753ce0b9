use Rattle.std.proofs.Common.{◌≤◌, ◌+◌, Bool, not, if◌then◌else◌, sym, subst, arith}
use Rattle.setl_value.specs.Datum.{Datum, elements_depth, elements_of}
use Rattle.setl_value.specs.Order.{IsRising}
use Rattle.setl_value.specs.code.Body.{Members}
use Rattle.setl_set.specs.Sets.{has_datum}
use Rattle.setl_set.proofs.BySearch.{depth_kept}
use Rattle.setl_set.proofs.Places.{rising_from_set}
use Rattle.setl_set.proofs.Results.{rising_filter}
use Rattle.setl_set.proofs.searching.chosen_by_search.Goals as goal

pub from_rising-requires-clause-rising : goal.from_rising-requires-clause-rising
from_rising-requires-clause-rising c =
    let ms = Members c.args.small.now in
    let p : Datum → Bool = λ x. if c.args.there then has_datum x (Members c.args.large.now) else not (has_datum x (Members c.args.large.now)) in
    subst IsRising (sym c.in_ok-chosen.ensures) (rising_filter p ms (rising_from_set ms c.learn.ensures))

pub from_rising-requires-clause-shallow : goal.from_rising-requires-clause-shallow
from_rising-requires-clause-shallow c =
    let ms = Members c.args.small.now in
    let p : Datum → Bool = λ x. if c.args.there then has_datum x (Members c.args.large.now) else not (has_datum x (Members c.args.large.now)) in
    subst (λ l. 1 + elements_depth (elements_of l) ≤ 500) (sym c.in_ok-chosen.ensures) (omega (arith, depth_kept 499 p ms (omega (arith, c.learn.ensures.1))))
