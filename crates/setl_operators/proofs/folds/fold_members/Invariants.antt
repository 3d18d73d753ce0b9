use Rattle.std.proofs.Common.{◌≡◌, ◌-◌, ◌≤◌, map, Some}
use Rattle.setl_value.specs.code.Body.{Members}
use Rattle.setl_value.specs.code.DatumOf.{part}
use Rattle.setl_operators_table.specs.Folds.{fold_on, fold_list}
use Rattle.setl_operators_table.specs.Outcome.{adding}
use Rattle.setl_operators.specs.Combinations.{combination}
use Rattle.setl_operators.proofs.folds.fold_members.Given as goal

-- the outcome of the whole is that of the rest from what stands now, with the charge so far
abbrev pub invariant-loop-v : goal.invariant-loop-v
invariant-loop-v l =
    (l.answer.charged ≤ l.turns)
    × (adding l.answer.charged (fold_on (combination l.by) (part l.answer.value) (map Some l.v-iterator) (l.turns - l.answer.charged)) ≡ fold_list (combination l.by) (map Some (Members l.s)) l.turns)
