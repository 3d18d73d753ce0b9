use Rattle.std.proofs.Common.{◌≡◌, ◌∙◌, ap}
use Rattle.std.specs.FinSet as set
use Rattle.setl_remote.specs.Words.{has_bit, members}
use Rattle.setl_remote.specs.Operation.{keeps}
use Rattle.setl_remote.proofs.Combining.{made_members}
use Rattle.setl_remote.proofs.bits.combined.Goals as goal

pub returns : goal.returns
returns c n =
    let xs = c.a.inside.words.value.items in
    let ys = c.b.inside.words.value.items in
    let first : c.as_slice.result.now ≡ xs = c.as_slice.ensures.value ∙ ap (λ v. v.items) c.deref.ensures in
    let second : c.as_slice-2.result.now ≡ ys = c.as_slice-2.ensures.value ∙ ap (λ v. v.items) c.deref-2.ensures in
    let words : c.in_ok-new.field-0.value.items ≡ c.in_ok-words.words.items = ap (λ v. v.items) c.in_ok-new.ensures.ok in
    ap (λ ws. set.contains (members ws) n) words
    ∙ made_members c.args.operation xs ys c.in_ok-words.words.items c.args.a.now c.args.b.now c.a.view_is c.b.view_is
    (λ q. c.in_ok-words.ensures.bits q ∙ (λ i. keeps c.args.operation (has_bit (first i) q) (has_bit (second i) q))) n
