use Rattle.std.proofs.Common.{◌≡◌, ◌≤◌, ◌<◌, ◌+◌, ◌∷◌, ◌++◌, [], ◌∙◌, ap, sym, subst, arith, length, map}
use Rattle.std.proofs.lemmas.Result.{IfOk-weaker}
use Rattle.setl_value.specs.code.Body.{Members}
use Rattle.setl_value.specs.Datum.{elements_depth, elements_of, set_of}
use Rattle.setl_value.specs.code.DatumOf.{datum}
use Rattle.setl_value.specs.Order.{IsRising}
use Rattle.setl_set.specs.code.Choice.{ArePlaces}
use Rattle.setl_set.specs.Subsets.{set_of_sets, subsets_between}
use Rattle.setl_set.proofs.Choices.{choices_are}
use Rattle.setl_set.proofs.Chosen.{IsSearch, search_chooses, search_goes_back, search_ends, places_chosen, places_wider, last_below, full_at, nothing_chosen, given}
use Rattle.setl_set.proofs.Places.{rising_from_set}
use Rattle.setl_set.proofs.Results.{rising_set_from}
use Rattle.setl_set.proofs.Search.{steps, steps_back, steps_chosen}
use Rattle.setl_set.proofs.power.subsets.Goals as goal

pub overflow_add-next : goal.overflow_add-next
overflow_add-next c =
    let ds = Members c.args.s.now in
    let s : IsSearch c.args.least c.args.most ds (map datum c.loop-chosen.sets.items) (c.pop.new.self.items ++ c.in-Some.last ∷ []) c.loop-chosen.next =
    subst (λ l. IsSearch c.args.least c.args.most ds (map datum c.loop-chosen.sets.items) l c.loop-chosen.next) c.in-Some.ensures.items c.loop-chosen.invariant in
    omega (arith, last_below 0 c.in-Some.last c.loop-chosen.next c.pop.new.self.items s.places, c.loop-chosen.auto.next-fits)

pub loop-chosen-smaller-in-Some : goal.loop-chosen-smaller-in-Some
loop-chosen-smaller-in-Some c =
    subst (λ l. steps c.args.most c.len-size.result c.pop.new.self.items (c.in-Some.last + 1) < steps c.args.most c.len-size.result l c.loop-chosen.next)
    (sym c.in-Some.ensures.items) (steps_back c.args.most c.len-size.result c.pop.new.self.items c.in-Some.last c.loop-chosen.next)

pub loop-chosen-preserved-in-Some : goal.loop-chosen-preserved-in-Some
loop-chosen-preserved-in-Some c =
    let ds = Members c.args.s.now in
    let made = map datum c.loop-chosen.sets.items in
    let is = c.pop.new.self.items in
    let s : IsSearch c.args.least c.args.most ds made (is ++ c.in-Some.last ∷ []) c.loop-chosen.next =
    subst (λ l. IsSearch c.args.least c.args.most ds made l c.loop-chosen.next) c.in-Some.ensures.items c.loop-chosen.invariant in
    search_goes_back c.args.least c.args.most ds made is c.in-Some.last c.loop-chosen.next s
    (full_at c.args.least c.args.most c.len-size.result c.len.result (length ds) (length (is ++ c.in-Some.last ∷ [])) c.loop-chosen.next c.len-size.ensures
    (c.len.ensures ∙ c.loop-chosen.chosen.ok.0 ∙ ap length c.in-Some.ensures.items) c.if-is_full.ensures.full)

pub from_rising-requires-clause-rising : goal.from_rising-requires-clause-rising
from_rising-requires-clause-rising c =
    let l = c.args.least in
    let m = c.args.most in
    let ds = Members c.args.s.now in
    let made = map datum c.loop-chosen.sets.items in
    let none : c.loop-chosen.chosen.items ≡ [] = nothing_chosen c.loop-chosen.chosen.items (sym c.loop-chosen.chosen.ok.0 ∙ c.in-None.ensures.cases.0) in
    let full = full_at l m c.len-size.result c.len.result (length ds) 0 c.loop-chosen.next c.len-size.ensures (c.len.ensures ∙ c.in-None.ensures.cases.0) c.if-is_full.ensures.full in
    let whole : made ≡ set_of_sets (subsets_between l m ds) =
    search_ends l m ds made c.loop-chosen.next (subst (λ is. IsSearch l m ds made is c.loop-chosen.next) none c.loop-chosen.invariant) full ∙ choices_are l m ds (rising_from_set ds c.learn.ensures) in
    subst IsRising (sym whole) (rising_set_from (map set_of (subsets_between l m ds)))

pub from_rising-requires-clause-shallow : goal.from_rising-requires-clause-shallow
from_rising-requires-clause-shallow c =
    let l = c.args.least in
    let m = c.args.most in
    let ds = Members c.args.s.now in
    let made = map datum c.loop-chosen.sets.items in
    let none : c.loop-chosen.chosen.items ≡ [] = nothing_chosen c.loop-chosen.chosen.items (sym c.loop-chosen.chosen.ok.0 ∙ c.in-None.ensures.cases.0) in
    let full = full_at l m c.len-size.result c.len.result (length ds) 0 c.loop-chosen.next c.len-size.ensures (c.len.ensures ∙ c.in-None.ensures.cases.0) c.if-is_full.ensures.full in
    let whole : made ≡ set_of_sets (subsets_between l m ds) =
    search_ends l m ds made c.loop-chosen.next (subst (λ is. IsSearch l m ds made is c.loop-chosen.next) none c.loop-chosen.invariant) full ∙ choices_are l m ds (rising_from_set ds c.learn.ensures) in
    subst (λ a. 1 + elements_depth (elements_of a) ≤ 500) (sym whole) c.requires

pub returns-in-None : goal.returns-in-None
returns-in-None c =
    let l = c.args.least in
    let m = c.args.most in
    let ds = Members c.args.s.now in
    let made = map datum c.loop-chosen.sets.items in
    let none : c.loop-chosen.chosen.items ≡ [] = nothing_chosen c.loop-chosen.chosen.items (sym c.loop-chosen.chosen.ok.0 ∙ c.in-None.ensures.cases.0) in
    let full = full_at l m c.len-size.result c.len.result (length ds) 0 c.loop-chosen.next c.len-size.ensures (c.len.ensures ∙ c.in-None.ensures.cases.0) c.if-is_full.ensures.full in
    let whole : made ≡ set_of_sets (subsets_between l m ds) =
    search_ends l m ds made c.loop-chosen.next (subst (λ is. IsSearch l m ds made is c.loop-chosen.next) none c.loop-chosen.invariant) full ∙ choices_are l m ds (rising_from_set ds c.learn.ensures) in
    IfOk-weaker c.from_rising.result (λ p. Members p ≡ made) (λ p. Members p ≡ set_of_sets (subsets_between l m ds)) (λ p e. e ∙ whole) c.from_rising.ensures.made

pub add_chosen-requires-else-is_full-clause-places : goal.add_chosen-requires-else-is_full-clause-places
add_chosen-requires-else-is_full-clause-places c =
    let n = length (Members c.args.s.now) in
    subst (λ l. ArePlaces 0 l n) (sym (c.deref-else-is_full.ensures.value ∙ c.in_ok-push.ensures.items))
    (places_wider 0 (c.loop-chosen.next + 1) n (c.loop-chosen.chosen.items ++ c.loop-chosen.next ∷ []) (omega (arith, c.if-is_full.ensures.open.1, c.len-size.ensures))
    (places_chosen 0 c.loop-chosen.next c.loop-chosen.chosen.items c.loop-chosen.invariant.places))

pub loop-chosen-smaller : goal.loop-chosen-smaller
loop-chosen-smaller c =
    subst (λ l. steps c.args.most c.len-size.result l (c.loop-chosen.next + 1) < steps c.args.most c.len-size.result c.loop-chosen.chosen.items c.loop-chosen.next)
    (sym c.in_ok-push.ensures.items)
    (steps_chosen c.args.most c.len-size.result c.loop-chosen.chosen.items c.loop-chosen.next (omega (arith, c.if-is_full.ensures.open.0, c.len.ensures, c.loop-chosen.chosen.ok.0)) c.if-is_full.ensures.open.1)

pub loop-chosen-preserved : goal.loop-chosen-preserved
loop-chosen-preserved c =
    let l = c.args.least in
    let m = c.args.most in
    let ds = Members c.args.s.now in
    let made = map datum c.loop-chosen.sets.items in
    let is = c.loop-chosen.chosen.items in
    let more = map datum c.add_chosen-else-is_full.new.sets.items in
    let e : c.deref-else-is_full.result.now ≡ is ++ c.loop-chosen.next ∷ [] = c.deref-else-is_full.ensures.value ∙ c.in_ok-push.ensures.items in
    subst (λ js. IsSearch l m ds more js (c.loop-chosen.next + 1)) (sym c.in_ok-push.ensures.items)
    (search_chooses l m ds made more is c.loop-chosen.next c.loop-chosen.invariant (omega (arith, c.if-is_full.ensures.open.0, c.len.ensures, c.loop-chosen.chosen.ok.0)) (omega (arith, c.if-is_full.ensures.open.1, c.len-size.ensures))
    (subst (λ js. more ≡ made ++ given l ds js) e c.in_ok-add_chosen-2.ensures))
