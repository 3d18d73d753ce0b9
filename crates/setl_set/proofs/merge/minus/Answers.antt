use Rattle.std.proofs.Common.{◌≡◌, true, false}
use Rattle.std.proofs.lemmas.Result.{IfOk-weaker}
use Rattle.setl_value.specs.code.Body.{Members}
use Rattle.setl_set.specs.code.Merge.{IsMerge}
use Rattle.setl_set.specs.Sets.{minus_of}
use Rattle.setl_set.proofs.Merging.{is_minus}
use Rattle.setl_set.proofs.Places.{rising_from_set}
use Rattle.setl_set.proofs.merge.minus.Goals as goal

pub returns : goal.returns
returns c =
    let xs = Members c.args.a.now in
    let ys = Members c.args.b.now in
    IfOk-weaker c.merge.result (λ s. IsMerge (record { left = true; both = false; right = false }) xs ys (Members s)) (λ s. Members s ≡ minus_of xs ys) (λ s m. is_minus xs ys (Members s) (rising_from_set xs c.learn.ensures) m) c.merge.ensures
