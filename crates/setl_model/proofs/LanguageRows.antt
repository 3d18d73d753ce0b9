-- The worked programs of the whole language, by computation.
use Rattle.std.proofs.Common.{true, false, [], refl}
use Rattle.std.specs.Prelude.{codes}
use Rattle.std.specs.Fmt.{digits}
use Rattle.setl_model_runs.specs.Events.{Done, Spent, Stopped, Wide, Form, Unfit, Nothing}
use Rattle.setl_program.specs.Source.{f, s}
use Rattle.setl_model.specs.Means.{Means}
use Rattle.setl_model.specs.LanguageSamples.{images_of_a_map, too_wide, fail_alone, counting, reading, emptied_set, passed_in_and_out, taken_back, enumeration_or_former, arithmetic, folds, subsets, long_range, declared_set, declared_map, queens, taken_apart, nested_places, undeclared_own}

pub images_of_a_map_row : Means images_of_a_map [] 9 true (codes "* {2 3} 5 {}\n") Done
unfolding digits
images_of_a_map_row = record { steps = 3000; last = _; ends = refl; written = refl }

pub too_wide_row : Means too_wide [] 9 true [] (Stopped Wide 2)
unfolding digits
too_wide_row = record { steps = 3000; last = _; ends = refl; written = refl }

pub fail_alone_row : Means fail_alone [] 9 true [] (Stopped Nothing 2)
unfolding digits
fail_alone_row = record { steps = 3000; last = _; ends = refl; written = refl }

pub counting_row : Means counting [] 3 true (codes "1\n2\n3\n") Spent
unfolding digits
counting_row = record { steps = 3000; last = _; ends = refl; written = refl }

pub all_counted_row : Means counting [] 5 true (codes "1\n2\n3\n4\n5\n") Done
unfolding digits
all_counted_row = record { steps = 3000; last = _; ends = refl; written = refl }

pub reading_row : Means reading (codes "{1 [2 'a']} 7\n") 0 true (codes "{1 [2 'a']} 7 * true\n") Done
unfolding digits
reading_row = record { steps = 3000; last = _; ends = refl; written = refl }

pub reading_stops_row : Means reading (codes "{1 [2") 0 true [] (Stopped Form 2)
unfolding digits
reading_stops_row = record { steps = 3000; last = _; ends = refl; written = refl }

pub emptied_set_row : Means emptied_set [] 3 true (codes "{} 3\n") Done
unfolding digits
emptied_set_row = record { steps = 3000; last = _; ends = refl; written = refl }

pub passed_in_and_out_row : Means passed_in_and_out [] 1 true (codes "2\n") Done
unfolding digits
passed_in_and_out_row = record { steps = 3000; last = _; ends = refl; written = refl }

pub taken_back_row : Means taken_back [] 2 true (codes "1\n2\n") Done
unfolding digits
taken_back_row = record { steps = 3000; last = _; ends = refl; written = refl }

pub enumeration_or_former_row : Means enumeration_or_former [] 1 true (codes "{true} {}\n") Done
unfolding digits
enumeration_or_former_row = record { steps = 3000; last = _; ends = refl; written = refl }

pub arithmetic_row : Means arithmetic [] 0 true (codes "-3 1 1 1024\n") Done
unfolding digits
arithmetic_row = record { steps = 3000; last = _; ends = refl; written = refl }

pub folds_row : Means folds [] 4 true (codes "10 * 9\n") Done
unfolding digits
folds_row = record { steps = 3000; last = _; ends = refl; written = refl }

pub subsets_row : Means subsets [] 7 true (codes "{{} {1} {1 2} {2}} {{1 2} {1 3} {2 3}}\n") Done
unfolding digits
subsets_row = record { steps = 3000; last = _; ends = refl; written = refl }

pub long_range_row : Means long_range [] 10 true [] Spent
unfolding digits
long_range_row = record { steps = 3000; last = _; ends = refl; written = refl }

pub declared_set_row : Means declared_set [] 0 true (codes "{1}\n") (Stopped (Unfit s) 4)
unfolding digits
declared_set_row = record { steps = 3000; last = _; ends = refl; written = refl }

pub undeclared_set_row : Means declared_set [] 0 false (codes "{1}\n{1 'a'}\n") Done
unfolding digits
undeclared_set_row = record { steps = 3000; last = _; ends = refl; written = refl }

pub declared_map_row : Means declared_map [] 0 true (codes "{}\n{[1 5]}\n") (Stopped (Unfit f) 4)
unfolding digits
declared_map_row = record { steps = 3000; last = _; ends = refl; written = refl }

pub queens_row : Means queens [] 200 true (codes "[2 4 1 3]\n") Done
unfolding digits
queens_row = record { steps = 3000; last = _; ends = refl; written = refl }

pub taken_apart_row : Means taken_apart [] 0 true (codes "1 2 1 2 []\n") Done
unfolding digits
taken_apart_row = record { steps = 3000; last = _; ends = refl; written = refl }

pub nested_places_row : Means nested_places [] 9 true (codes "1 7\n2 9\n2 *\n2 5\n") Done
unfolding digits
nested_places_row = record { steps = 3000; last = _; ends = refl; written = refl }

pub undeclared_own_row : Means undeclared_own [] 1 true (codes "1\n") Done
unfolding digits
undeclared_own_row = record { steps = 3000; last = _; ends = refl; written = refl }
