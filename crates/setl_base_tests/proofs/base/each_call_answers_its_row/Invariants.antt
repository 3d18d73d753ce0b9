use Rattle.std.proofs.Common.{◌≡◌, ◌≤◌, length}
use Rattle.setl_base_tests.proofs.base.each_call_answers_its_row.Given as goal

abbrev pub invariant-loop-row : goal.invariant-loop-row
invariant-loop-row g l = record {
  cuts : l.b.cuts ≤ l.row-index;
  few : length l.row-items ≡ 16;
}
