-- The worked rows of loops and iterators, by computation.
use Rattle.std.proofs.Common.{refl}
use Rattle.std.specs.Fmt.{digits}
use Rattle.setl_model.specs.Table.{AllHold}
use Rattle.setl_model.specs.worked.Loops.{source_rows, pattern_rows, loop_rows, jump_rows, while_rows, choice_rows}
use Rattle.setl_model.proofs.ByRunning.{table_holds}

pub source_rows_hold : AllHold source_rows
unfolding digits
source_rows_hold = table_holds source_rows refl

pub pattern_rows_hold : AllHold pattern_rows
unfolding digits
pattern_rows_hold = table_holds pattern_rows refl

pub loop_rows_hold : AllHold loop_rows
unfolding digits
loop_rows_hold = table_holds loop_rows refl

pub jump_rows_hold : AllHold jump_rows
unfolding digits
jump_rows_hold = table_holds jump_rows refl

pub while_rows_hold : AllHold while_rows
unfolding digits
while_rows_hold = table_holds while_rows refl

pub choice_rows_hold : AllHold choice_rows
unfolding digits
choice_rows_hold = table_holds choice_rows refl
