use Rattle.std.proofs.Common.{arith, ◌∙◌}
use Rattle.std.proofs.lemmas.Bool.Decides.{nat_tests}
use Rattle.setl_value.specs.code.Body.{Members}
use Rattle.setl_value.specs.code.DatumOf.{datum}
use Rattle.setl_map.proofs.MapResults.{depth_all_pairs}
use Rattle.setl_map.proofs.maps.are_deep.Goals as goal

pub returns-then-len-ne0 : goal.returns-then-len-ne0
returns-then-len-ne0 c =
    let d = depth_all_pairs (datum c.args.x.now) (Members c.args.s.now) (λ n. c.if-len-ne0.true (c.len.ensures ∙ n)) in
    grind (arith, nat_tests)
