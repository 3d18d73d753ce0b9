use Rattle.std.proofs.Common.{◌≡◌, ◌<◌, ◌∙◌, Err, subst, ap}
use Rattle.std.specs.Prelude.{◌↔◌}
use Rattle.std.specs.Result.{IfOk}
use Rattle.setl_value.specs.code.Body.{Members}
use Rattle.setl_value.specs.Datum.{depth, set_of}
use Rattle.setl_set.specs.Subsets.{set_of_sets, subsets_between, pow_of}
use Rattle.setl_set.specs.declared.SetFault.TheVariants.{Deep}
use Rattle.setl_set.proofs.Depths.{pow_is}
use Rattle.setl_set.proofs.power.pow.Goals as goal

pub returns-clause-all : goal.returns-clause-all
returns-clause-all c =
    let ds = Members c.args.s.now in
    let e : set_of_sets (subsets_between 0 c.len.result ds) ≡ pow_of ds = ap (λ n. set_of_sets (subsets_between 0 n ds)) c.len.ensures ∙ pow_is ds in
    subst (λ a. IfOk c.sized.result (λ p. Members p ≡ a)) e c.sized.ensures.all

pub returns-clause-deep : goal.returns-clause-deep
returns-clause-deep c =
    let ds = Members c.args.s.now in
    let e : set_of_sets (subsets_between 0 c.len.result ds) ≡ pow_of ds = ap (λ n. set_of_sets (subsets_between 0 n ds)) c.len.ensures ∙ pow_is ds in
    subst (λ a. (c.sized.result ≡ Err Deep) ↔ (500 < depth (set_of a))) e c.sized.ensures.deep
