use Rattle.std.proofs.Common.{◌∙◌, ◌-◌, ◌*◌, ◌/◌, ◌%◌, ◌^◌, ap, arith, slice_set}
use Rattle.std.specs.Prelude.{bit_and}
use Rattle.setl_remote.specs.Words.{has_bit}
use Rattle.setl_remote.proofs.Writing.{turned_off, with_default}
use Rattle.setl_remote.proofs.words.turn_off.Goals as goal

pub returns-then-i-len-clause-off : goal.returns-then-i-len-clause-off
returns-then-i-len-clause-off c q =
    let items = c.args.words.now.items in
    let n = c.args.block in
    ap (λ w. has_bit (slice_set items (n / 64) (bit_and w (18446744073709551615 - 1 * 2 ^ (n % 64) % 18446744073709551616))) q)
    (with_default items (n / 64) c.index_mut.result.now (omega arith) c.index_mut.ensures.value)
    ∙ turned_off items n (omega arith) q
