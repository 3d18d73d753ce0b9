use Rattle.std.proofs.Common.{◌≡◌, ◌∙◌, true}
use Rattle.std.proofs.lemmas.Result.{IfOk-weaker}
use Rattle.setl_value.specs.code.Body.{Members}
use Rattle.setl_set.specs.code.Merge.{IsMerge}
use Rattle.setl_set.specs.Sets.{union_of}
use Rattle.setl_set.proofs.BySearch.{union_turned}
use Rattle.setl_set.proofs.Merging.{is_union}
use Rattle.setl_set.proofs.merge.union.Goals as goal

pub returns : goal.returns
returns c =
    let xs = Members c.args.a.now in
    let ys = Members c.args.b.now in
    IfOk-weaker c.merge.result (λ s. IsMerge (record { left = true; both = true; right = true }) xs ys (Members s)) (λ s. Members s ≡ union_of xs ys) (λ s m. is_union xs ys (Members s) m) c.merge.ensures

pub returns-then-is_small-2 : goal.returns-then-is_small-2
returns-then-is_small-2 c =
    let xs = Members c.args.a.now in
    let ys = Members c.args.b.now in
    IfOk-weaker c.union_by_search-then-is_small-2.result (λ s. Members s ≡ union_of ys xs) (λ s. Members s ≡ union_of xs ys) (λ s e. e ∙ union_turned ys xs) c.union_by_search-then-is_small-2.ensures
