use Rattle.std.proofs.Common.{codes}
use Rattle.setl_value.specs.code.Body.{Members}
use Rattle.setl_rep_layout.proofs.ByModes.{sparse_of_set}
use Rattle.setl_rep_layout.proofs.Words.{on_ok, two_parts}
use Rattle.setl_rep_layout.proofs.values.push_sparse_set.Goals as goal

pub returns : goal.returns
returns c =
    let text = sparse_of_set c.numbers_stand_for_members.ensures.tested c.args.base.now c.in_ok-numbers.numbers (Members c.args.s.now) c.learn.ensures c.in_ok-numbers.ensures in
    on_ok c.push_numbers.result (λ e. two_parts _ _ _ (codes "sparse") _ _ c.in_ok-extend_from_slice.ensures.items text e) c.push_numbers.ensures
