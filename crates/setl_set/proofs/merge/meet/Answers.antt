use Rattle.std.proofs.Common.{◌≡◌, ◌∙◌, true, false}
use Rattle.std.proofs.lemmas.Result.{IfOk-weaker}
use Rattle.setl_value.specs.code.Body.{Members}
use Rattle.setl_set.specs.code.Merge.{IsMerge}
use Rattle.setl_set.specs.Sets.{meet_of}
use Rattle.setl_set.proofs.BySearch.{meet_turned}
use Rattle.setl_set.proofs.Merging.{is_meet}
use Rattle.setl_set.proofs.Places.{rising_from_set}
use Rattle.setl_set.proofs.merge.meet.Goals as goal

pub returns : goal.returns
returns c =
    let xs = Members c.args.a.now in
    let ys = Members c.args.b.now in
    IfOk-weaker c.merge.result (λ s. IsMerge (record { left = false; both = true; right = false }) xs ys (Members s)) (λ s. Members s ≡ meet_of xs ys) (λ s m. is_meet xs ys (Members s) (rising_from_set xs c.learn.ensures) m) c.merge.ensures

pub returns-then-is_small-2 : goal.returns-then-is_small-2
returns-then-is_small-2 c =
    let xs = Members c.args.a.now in
    let ys = Members c.args.b.now in
    IfOk-weaker c.chosen_by_search-then-is_small-2.result (λ s. Members s ≡ meet_of ys xs) (λ s. Members s ≡ meet_of xs ys)
    (λ s e. e ∙ meet_turned ys xs (rising_from_set ys c.learn-2.ensures) (rising_from_set xs c.learn.ensures)) c.chosen_by_search-then-is_small-2.ensures
