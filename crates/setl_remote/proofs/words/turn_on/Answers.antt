use Rattle.std.proofs.Common.{◌∙◌, ◌*◌, ◌/◌, ◌%◌, ◌^◌, true, ap, slice_set}
use Rattle.std.specs.Prelude.{bit_or}
use Rattle.setl_remote.specs.Words.{has_bit}
use Rattle.setl_remote.proofs.Writing.{turned_on, with_default, writes_after}
use Rattle.setl_remote.proofs.words.turn_on.Goals as goal

pub returns-clause-ok : goal.returns-clause-ok
returns-clause-ok c =
    let items = c.lengthen.new.words.items in
    let n = c.args.block in
    writes_after n true c.args.words.now.items items _ c.lengthen.ensures.same (λ q.
    ap (λ w. has_bit (slice_set items (n / 64) (bit_or w (1 * 2 ^ (n % 64) % 18446744073709551616))) q)
    (with_default items (n / 64) c.index_mut.result.now c.in_ok-lengthen.ensures.long c.index_mut.ensures.value)
    ∙ turned_on items n c.in_ok-lengthen.ensures.long q)
