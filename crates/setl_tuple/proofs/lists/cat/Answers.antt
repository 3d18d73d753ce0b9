use Rattle.std.proofs.Common.{◌≡◌, ◌∙◌, ◌++◌, ap, arith, map}
use Rattle.std.proofs.lemmas.Result.{IfOk-weaker}
use Rattle.setl_value.specs.code.DatumOf.{part}
use Rattle.setl_value.specs.WellFormed.{trim}
use Rattle.setl_tuple.proofs.Depths.{greatest, greatest-append}
use Rattle.setl_tuple.proofs.Trimmed.{trimmed_tuple, trimmed-append, trim-trimmed}
use Rattle.setl_tuple.proofs.lists.cat.Goals as goal

pub of-requires : goal.of-requires
of-requires c =
    let a = c.args.a.now in
    let b = c.args.b.now in
    let first = c.in_ok-push_all.ensures ∙ ap (λ l. map part l ++ a) c.in_ok-parts.ensures.items in
    let both = c.in_ok-push_all-2.ensures ∙ ap (λ l. l ++ b) first in
    record { shallow = omega (arith, ap greatest both, greatest-append a b, c.learn.ensures.1, c.learn-2.ensures.1) }

pub returns : goal.returns
returns c =
    let a = c.args.a.now in
    let b = c.args.b.now in
    let first = c.in_ok-push_all.ensures ∙ ap (λ l. map part l ++ a) c.in_ok-parts.ensures.items in
    let both = c.in_ok-push_all-2.ensures ∙ ap (λ l. l ++ b) first in
    let kept = trim-trimmed (a ++ b) (trimmed-append a b (trimmed_tuple a c.learn.ensures) (trimmed_tuple b c.learn-2.ensures)) in
    record { joined = IfOk-weaker c.of.result (λ t. t ≡ trim (map part c.push_all-2.new.parts.items)) (λ t. t ≡ a ++ b) (λ t e. e ∙ ap trim both ∙ kept) c.of.ensures.trimmed }
