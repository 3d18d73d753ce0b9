use Rattle.std.proofs.Common.{◌≡◌, ◌-◌, ◌≤◌, drop}
use Rattle.setl_value.specs.code.DatumOf.{part}
use Rattle.setl_operators_table.specs.Folds.{fold_on, fold_list}
use Rattle.setl_operators_table.specs.Outcome.{adding}
use Rattle.setl_operators.specs.Combinations.{combination}
use Rattle.setl_operators.proofs.folds.fold_components.Given as goal

-- the outcome of the whole is that of the rest from what stands now, with the charge so far
abbrev pub invariant-loop-i : goal.invariant-loop-i
invariant-loop-i l =
    (l.answer.charged ≤ l.turns)
    × (adding l.answer.charged (fold_on (combination l.by) (part l.answer.value) (drop l.i l.t) (l.turns - l.answer.charged)) ≡ fold_list (combination l.by) l.t l.turns)
