use Rattle.std.proofs.Common.{◌∙◌, ◌<◌, ◌≤◌, length, sym, ap, arith}
use Rattle.std.specs.Prelude.{count_ones, slice_index}
use Rattle.std.specs.List.{sum_by}
use Rattle.std.proofs.lemmas.List.Sums.{sum_by_more}
use Rattle.std.proofs.lemmas.List.{take_all}
use Rattle.setl_remote.proofs.Counts.{len-members, ones_small}
use Rattle.setl_remote.proofs.words.count.Goals as goal

pub loop-word-preserved : goal.loop-word-preserved
loop-word-preserved c =
    let below : c.loop-word.word-index < length c.args.words.now = omega arith in
    let more = sum_by_more count_ones c.args.words.now c.loop-word.word-index 0 below in
    let small = ones_small (slice_index c.args.words.now c.loop-word.word-index) (c.type_inv.words c.loop-word.word-index).fits in
    (omega arith, omega arith)

pub returns : goal.returns
returns c =
    let end : length c.args.words.now ≤ c.loop-word.word-index = omega arith in
    c.loop-word.invariant.0 ∙ ap (sum_by count_ones) (take_all c.loop-word.word-index c.args.words.now end) ∙ sym (len-members c.args.words.now (λ k. (c.type_inv.words k).fits))
