use Rattle.std.proofs.Common.{◌≡◌, ◌≤◌, ◌+◌, ◌<◌, ◌∙◌, ap, length, arith, sym, subst}
use Rattle.std.proofs.lemmas.List.{length-map}
use Rattle.std.specs.List.{AllByRecursion}
use Rattle.std.proofs.lemmas.List.Elements.{All-from_recursion}
use Rattle.setl_value.specs.code.Body.{Members}
use Rattle.setl_value.specs.Datum.{elements_depth, elements_of}
use Rattle.setl_value.specs.code.DatumOf.{datum}
use Rattle.setl_value.specs.Order.{IsRising}
use Rattle.setl_set.specs.code.Choice.{members_at}
use Rattle.setl_set.proofs.Chosen.{places_within, rising_at, depth_at}
use Rattle.setl_set.proofs.Places.{rising_from_set}
use Rattle.setl_set.proofs.power.add_chosen.Goals as goal

pub copies_at-requires : goal.copies_at-requires
copies_at-requires c =
    let n = length c.args.members.now in
    let same : length (Members c.args.s.now) ≡ n = ap length (sym c.requires.members) ∙ length-map c.args.members.now datum in
    All-from_recursion (λ i. i < n) c.args.places.now (subst (λ k. AllByRecursion (λ i. i < k) c.args.places.now) same (places_within 0 (length (Members c.args.s.now)) c.args.places.now c.requires.places))

pub from_rising-requires-clause-rising : goal.from_rising-requires-clause-rising
from_rising-requires-clause-rising c =
    let ds = Members c.args.s.now in
    subst IsRising (sym (c.in_ok-subset.ensures ∙ ap (λ l. members_at l c.args.places.now) c.requires.members)) (rising_at ds 0 (length ds) c.args.places.now (rising_from_set ds c.learn.ensures) c.requires.places)

pub from_rising-requires-clause-shallow : goal.from_rising-requires-clause-shallow
from_rising-requires-clause-shallow c =
    let ds = Members c.args.s.now in
    subst (λ l. 1 + elements_depth (elements_of l) ≤ 500) (sym (c.in_ok-subset.ensures ∙ ap (λ l. members_at l c.args.places.now) c.requires.members))
    (omega (arith, depth_at ds (length ds) c.args.places.now 499 c.requires.places (omega (arith, c.learn.ensures.1))))
