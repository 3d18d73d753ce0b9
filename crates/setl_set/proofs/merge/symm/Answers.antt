use Rattle.std.proofs.Common.{◌≡◌, true, false}
use Rattle.std.proofs.lemmas.Result.{IfOk-weaker}
use Rattle.setl_value.specs.code.Body.{Members}
use Rattle.setl_set.specs.code.Merge.{IsMerge}
use Rattle.setl_set.specs.Sets.{symm_of}
use Rattle.setl_set.proofs.Merging.{is_symm}
use Rattle.setl_set.proofs.merge.symm.Goals as goal

pub returns : goal.returns
returns c =
    let xs = Members c.args.a.now in
    let ys = Members c.args.b.now in
    IfOk-weaker c.merge.result (λ s. IsMerge (record { left = true; both = false; right = true }) xs ys (Members s)) (λ s. Members s ≡ symm_of xs ys) (λ s m. is_symm xs ys (Members s) m) c.merge.ensures
