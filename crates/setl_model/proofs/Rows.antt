-- The worked programs, by computation.
use Rattle.std.proofs.Common.{◌≡◌, true, [], refl}
use Rattle.std.specs.Prelude.{codes}
use Rattle.std.specs.Fmt.{digits}
use Rattle.setl_model_runs.specs.Events.{Done}
use Rattle.setl_text.specs.Texts.{print_line}
use Rattle.setl_model.specs.Means.{Means}
use Rattle.setl_model.specs.Samples.{mixed_values, nested_values, empty_program, growing_set, copied_set, several_lines}

pub empty : Means empty_program [] 0 true [] Done
empty = record { steps = 1; last = _; ends = refl; written = refl }

pub growing : Means growing_set [] 0 true (codes "{1 2 3 5} 7\n") Done
unfolding digits
growing = record { steps = 40; last = _; ends = refl; written = refl }

pub copied : Means copied_set [] 0 true (codes "{1 2} {1}\n") Done
unfolding digits
copied = record { steps = 40; last = _; ends = refl; written = refl }

pub several : Means several_lines [] 0 true (codes "\n{} 10 *\n") Done
unfolding digits
several = record { steps = 40; last = _; ends = refl; written = refl }

-- The worked texts.

pub mixed_text : print_line mixed_values ≡ codes "{1 2 3} [1 * 2] it's\n"
unfolding digits
mixed_text = refl

pub nested_text : print_line nested_values ≡ codes "{true -7 'it''s' #7} [] * false\n"
unfolding digits
nested_text = refl
