use Rattle.std.proofs.Common.{◌≡◌, ◌∙◌, ◌++◌, sym, subst}
use Rattle.std.specs.List.{All}
use Rattle.setl_scalar.proofs.Copies.{plain_append}
use Rattle.setl_scalar.proofs.texts.cat.Goals as goal

pub from_bytes-requires : goal.from_bytes-requires
from_bytes-requires c =
    let a = c.args.a.now in
    let b = c.args.b.now in
    let e : c.in_ok-bytes.bytes.items ≡ a ++ b = c.in_ok-bytes.ensures ∙ (λ j. c.bytes.ensures j ++ c.bytes-2.ensures j) in
    subst (All (λ d. (d ≡ 10) → ⊥)) (sym e) (plain_append a b c.learn.ensures c.learn-2.ensures)
