use Rattle.std.proofs.Common.{◌≡◌, ◌∙◌, ap, sym, subst}
use Rattle.std.specs.List.{All}
use Rattle.setl_value.specs.Copies.{copies}
use Rattle.setl_scalar.proofs.Copies.{plain_copies}
use Rattle.setl_scalar.proofs.texts.repeat.Goals as goal

pub from_bytes-requires : goal.from_bytes-requires
from_bytes-requires c =
    let n = c.unsigned_abs.result in
    let e : c.in_ok-bytes.bytes.items ≡ copies n c.args.a.now = c.in_ok-bytes.ensures ∙ ap (copies n) c.bytes.ensures in
    subst (All (λ b. (b ≡ 10) → ⊥)) (sym e) (plain_copies n c.args.a.now c.learn.ensures)
