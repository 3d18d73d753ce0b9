-- The worked programs, by computation.
use Rattle.std.proofs.Common.{◌≡◌, ℕ, true, List, Option, Some, None, refl, ap}
use Rattle.std.specs.Fmt.{digits}
use Rattle.setl_model_runs.specs.Events.{End}
use Rattle.setl_model_runs.specs.Run.{State, Next, Goes, Ends, run}
use Rattle.setl_model.specs.Core.{Core}
use Rattle.setl_model.specs.Means.{first}
use Rattle.setl_model.specs.Step.{language, test_of}
use Rattle.setl_code.specs.CodeOf.{code_of}
use Rattle.setl_code.specs.Worked.{CodeRow, IsListed, Runs, IsMeant, AllAreListed, AllRun, AllAreMeant, worked_codes, calls, counting, emptied_set, enumeration_or_former, fail_alone, folds, former, images_of_a_map, loops, nested_places, passed_in_and_out, quantifiers, queens, one_assignment, reading, two_bodies, subsets, taken_apart, taken_back, too_wide, undeclared_own, updates}
use Rattle.setl_code.proofs.ByRunning.{found, by_running}
use Rattle.setl_code.proofs.ByRounds.{holds_by_rounds}

-- ---- the run of the meaning up to a bound

abbrev ending : Next Core → Option (List ℕ × End)
ending (Goes s) = None
ending (Ends e s) = Some (s.out, e)

abbrev meant : CodeRow → Option (List ℕ × End)
meant r = ending (run (language r.program) (test_of r.program.modes true) 20000 (first r.program r.input 300))

from_ending : (n : Next Core) (o : List ℕ) (e : End) → ending n ≡ Some (o, e) → (l : State Core) × (n ≡ Ends e l) × (l.out ≡ o)
from_ending (Goes s) o e h = cc
from_ending (Ends f s) o e h =
    let both : ◌≡◌ {A = List ℕ × End} (s.out, f) (o, e) = cc in
    (s, ap (λ p. Ends p.1 s) both, ap (λ p. p.0) both)

by_meaning : (r : CodeRow) → meant r ≡ Some (r.out, r.end) → IsMeant r
by_meaning r h =
    let at_end = from_ending (run (language r.program) (test_of r.program.modes true) 20000 (first r.program r.input 300)) r.out r.end h in
    record { steps = 20000; last = at_end.0; ends = at_end.1; written = at_end.2 }

by_code : (r : CodeRow) → found (code_of r.program) r.program.modes r.input 300 true ≡ Some (r.out, r.end) → Runs r
by_code r h = by_running (code_of r.program) r.program.modes r.input 300 true r.out r.end h

calls_listed : IsListed calls
unfolding digits
calls_listed = refl

calls_runs : found (code_of calls.program) calls.program.modes calls.input 300 true ≡ Some (calls.out, calls.end)
unfolding digits
calls_runs = refl

calls_meant : meant calls ≡ Some (calls.out, calls.end)
unfolding digits
calls_meant = refl

calls_sound : holds_by_rounds (code_of calls.program) ≡ true
calls_sound = refl

counting_listed : IsListed counting
unfolding digits
counting_listed = refl

counting_runs : found (code_of counting.program) counting.program.modes counting.input 300 true ≡ Some (counting.out, counting.end)
unfolding digits
counting_runs = refl

counting_meant : meant counting ≡ Some (counting.out, counting.end)
unfolding digits
counting_meant = refl

counting_sound : holds_by_rounds (code_of counting.program) ≡ true
counting_sound = refl

emptied_set_listed : IsListed emptied_set
unfolding digits
emptied_set_listed = refl

emptied_set_runs : found (code_of emptied_set.program) emptied_set.program.modes emptied_set.input 300 true ≡ Some (emptied_set.out, emptied_set.end)
unfolding digits
emptied_set_runs = refl

emptied_set_meant : meant emptied_set ≡ Some (emptied_set.out, emptied_set.end)
unfolding digits
emptied_set_meant = refl

emptied_set_sound : holds_by_rounds (code_of emptied_set.program) ≡ true
emptied_set_sound = refl

enumeration_or_former_listed : IsListed enumeration_or_former
unfolding digits
enumeration_or_former_listed = refl

enumeration_or_former_runs : found (code_of enumeration_or_former.program) enumeration_or_former.program.modes enumeration_or_former.input 300 true ≡ Some (enumeration_or_former.out, enumeration_or_former.end)
unfolding digits
enumeration_or_former_runs = refl

enumeration_or_former_meant : meant enumeration_or_former ≡ Some (enumeration_or_former.out, enumeration_or_former.end)
unfolding digits
enumeration_or_former_meant = refl

enumeration_or_former_sound : holds_by_rounds (code_of enumeration_or_former.program) ≡ true
enumeration_or_former_sound = refl

fail_alone_listed : IsListed fail_alone
unfolding digits
fail_alone_listed = refl

fail_alone_runs : found (code_of fail_alone.program) fail_alone.program.modes fail_alone.input 300 true ≡ Some (fail_alone.out, fail_alone.end)
unfolding digits
fail_alone_runs = refl

fail_alone_meant : meant fail_alone ≡ Some (fail_alone.out, fail_alone.end)
unfolding digits
fail_alone_meant = refl

fail_alone_sound : holds_by_rounds (code_of fail_alone.program) ≡ true
fail_alone_sound = refl

folds_listed : IsListed folds
unfolding digits
folds_listed = refl

folds_runs : found (code_of folds.program) folds.program.modes folds.input 300 true ≡ Some (folds.out, folds.end)
unfolding digits
folds_runs = refl

folds_meant : meant folds ≡ Some (folds.out, folds.end)
unfolding digits
folds_meant = refl

folds_sound : holds_by_rounds (code_of folds.program) ≡ true
folds_sound = refl

former_listed : IsListed former
unfolding digits
former_listed = refl

former_runs : found (code_of former.program) former.program.modes former.input 300 true ≡ Some (former.out, former.end)
unfolding digits
former_runs = refl

former_meant : meant former ≡ Some (former.out, former.end)
unfolding digits
former_meant = refl

former_sound : holds_by_rounds (code_of former.program) ≡ true
former_sound = refl

images_of_a_map_listed : IsListed images_of_a_map
unfolding digits
images_of_a_map_listed = refl

images_of_a_map_runs : found (code_of images_of_a_map.program) images_of_a_map.program.modes images_of_a_map.input 300 true ≡ Some (images_of_a_map.out, images_of_a_map.end)
unfolding digits
images_of_a_map_runs = refl

images_of_a_map_meant : meant images_of_a_map ≡ Some (images_of_a_map.out, images_of_a_map.end)
unfolding digits
images_of_a_map_meant = refl

images_of_a_map_sound : holds_by_rounds (code_of images_of_a_map.program) ≡ true
images_of_a_map_sound = refl

loops_listed : IsListed loops
unfolding digits
loops_listed = refl

loops_runs : found (code_of loops.program) loops.program.modes loops.input 300 true ≡ Some (loops.out, loops.end)
unfolding digits
loops_runs = refl

loops_meant : meant loops ≡ Some (loops.out, loops.end)
unfolding digits
loops_meant = refl

loops_sound : holds_by_rounds (code_of loops.program) ≡ true
loops_sound = refl

nested_places_listed : IsListed nested_places
unfolding digits
nested_places_listed = refl

nested_places_runs : found (code_of nested_places.program) nested_places.program.modes nested_places.input 300 true ≡ Some (nested_places.out, nested_places.end)
unfolding digits
nested_places_runs = refl

nested_places_meant : meant nested_places ≡ Some (nested_places.out, nested_places.end)
unfolding digits
nested_places_meant = refl

nested_places_sound : holds_by_rounds (code_of nested_places.program) ≡ true
nested_places_sound = refl

passed_in_and_out_listed : IsListed passed_in_and_out
unfolding digits
passed_in_and_out_listed = refl

passed_in_and_out_runs : found (code_of passed_in_and_out.program) passed_in_and_out.program.modes passed_in_and_out.input 300 true ≡ Some (passed_in_and_out.out, passed_in_and_out.end)
unfolding digits
passed_in_and_out_runs = refl

passed_in_and_out_meant : meant passed_in_and_out ≡ Some (passed_in_and_out.out, passed_in_and_out.end)
unfolding digits
passed_in_and_out_meant = refl

passed_in_and_out_sound : holds_by_rounds (code_of passed_in_and_out.program) ≡ true
passed_in_and_out_sound = refl

quantifiers_listed : IsListed quantifiers
unfolding digits
quantifiers_listed = refl

quantifiers_runs : found (code_of quantifiers.program) quantifiers.program.modes quantifiers.input 300 true ≡ Some (quantifiers.out, quantifiers.end)
unfolding digits
quantifiers_runs = refl

quantifiers_meant : meant quantifiers ≡ Some (quantifiers.out, quantifiers.end)
unfolding digits
quantifiers_meant = refl

quantifiers_sound : holds_by_rounds (code_of quantifiers.program) ≡ true
quantifiers_sound = refl

queens_listed : IsListed queens
unfolding digits
queens_listed = refl

queens_runs : found (code_of queens.program) queens.program.modes queens.input 300 true ≡ Some (queens.out, queens.end)
unfolding digits
queens_runs = refl

queens_meant : meant queens ≡ Some (queens.out, queens.end)
unfolding digits
queens_meant = refl

queens_sound : holds_by_rounds (code_of queens.program) ≡ true
queens_sound = refl

one_assignment_listed : IsListed one_assignment
unfolding digits
one_assignment_listed = refl

one_assignment_runs : found (code_of one_assignment.program) one_assignment.program.modes one_assignment.input 300 true ≡ Some (one_assignment.out, one_assignment.end)
unfolding digits
one_assignment_runs = refl

one_assignment_meant : meant one_assignment ≡ Some (one_assignment.out, one_assignment.end)
unfolding digits
one_assignment_meant = refl

one_assignment_sound : holds_by_rounds (code_of one_assignment.program) ≡ true
one_assignment_sound = refl

reading_listed : IsListed reading
unfolding digits
reading_listed = refl

reading_runs : found (code_of reading.program) reading.program.modes reading.input 300 true ≡ Some (reading.out, reading.end)
unfolding digits
reading_runs = refl

reading_meant : meant reading ≡ Some (reading.out, reading.end)
unfolding digits
reading_meant = refl

reading_sound : holds_by_rounds (code_of reading.program) ≡ true
reading_sound = refl

two_bodies_listed : IsListed two_bodies
unfolding digits
two_bodies_listed = refl

two_bodies_runs : found (code_of two_bodies.program) two_bodies.program.modes two_bodies.input 300 true ≡ Some (two_bodies.out, two_bodies.end)
unfolding digits
two_bodies_runs = refl

two_bodies_meant : meant two_bodies ≡ Some (two_bodies.out, two_bodies.end)
unfolding digits
two_bodies_meant = refl

two_bodies_sound : holds_by_rounds (code_of two_bodies.program) ≡ true
two_bodies_sound = refl

subsets_listed : IsListed subsets
unfolding digits
subsets_listed = refl

subsets_runs : found (code_of subsets.program) subsets.program.modes subsets.input 300 true ≡ Some (subsets.out, subsets.end)
unfolding digits
subsets_runs = refl

subsets_meant : meant subsets ≡ Some (subsets.out, subsets.end)
unfolding digits
subsets_meant = refl

subsets_sound : holds_by_rounds (code_of subsets.program) ≡ true
subsets_sound = refl

taken_apart_listed : IsListed taken_apart
unfolding digits
taken_apart_listed = refl

taken_apart_runs : found (code_of taken_apart.program) taken_apart.program.modes taken_apart.input 300 true ≡ Some (taken_apart.out, taken_apart.end)
unfolding digits
taken_apart_runs = refl

taken_apart_meant : meant taken_apart ≡ Some (taken_apart.out, taken_apart.end)
unfolding digits
taken_apart_meant = refl

taken_apart_sound : holds_by_rounds (code_of taken_apart.program) ≡ true
taken_apart_sound = refl

taken_back_listed : IsListed taken_back
unfolding digits
taken_back_listed = refl

taken_back_runs : found (code_of taken_back.program) taken_back.program.modes taken_back.input 300 true ≡ Some (taken_back.out, taken_back.end)
unfolding digits
taken_back_runs = refl

taken_back_meant : meant taken_back ≡ Some (taken_back.out, taken_back.end)
unfolding digits
taken_back_meant = refl

taken_back_sound : holds_by_rounds (code_of taken_back.program) ≡ true
taken_back_sound = refl

too_wide_listed : IsListed too_wide
unfolding digits
too_wide_listed = refl

too_wide_runs : found (code_of too_wide.program) too_wide.program.modes too_wide.input 300 true ≡ Some (too_wide.out, too_wide.end)
unfolding digits
too_wide_runs = refl

too_wide_meant : meant too_wide ≡ Some (too_wide.out, too_wide.end)
unfolding digits
too_wide_meant = refl

too_wide_sound : holds_by_rounds (code_of too_wide.program) ≡ true
too_wide_sound = refl

undeclared_own_listed : IsListed undeclared_own
unfolding digits
undeclared_own_listed = refl

undeclared_own_runs : found (code_of undeclared_own.program) undeclared_own.program.modes undeclared_own.input 300 true ≡ Some (undeclared_own.out, undeclared_own.end)
unfolding digits
undeclared_own_runs = refl

undeclared_own_meant : meant undeclared_own ≡ Some (undeclared_own.out, undeclared_own.end)
unfolding digits
undeclared_own_meant = refl

undeclared_own_sound : holds_by_rounds (code_of undeclared_own.program) ≡ true
undeclared_own_sound = refl

updates_listed : IsListed updates
unfolding digits
updates_listed = refl

updates_runs : found (code_of updates.program) updates.program.modes updates.input 300 true ≡ Some (updates.out, updates.end)
unfolding digits
updates_runs = refl

updates_meant : meant updates ≡ Some (updates.out, updates.end)
unfolding digits
updates_meant = refl

updates_sound : holds_by_rounds (code_of updates.program) ≡ true
updates_sound = refl

pub all_listed : AllAreListed worked_codes
all_listed = (calls_listed, (counting_listed, (emptied_set_listed, (enumeration_or_former_listed, (fail_alone_listed, (folds_listed, (former_listed, (images_of_a_map_listed, (loops_listed, (nested_places_listed, (passed_in_and_out_listed, (quantifiers_listed, (queens_listed, (one_assignment_listed, (reading_listed, (two_bodies_listed, (subsets_listed, (taken_apart_listed, (taken_back_listed, (too_wide_listed, (undeclared_own_listed, (updates_listed, tt))))))))))))))))))))))

pub all_run : AllRun worked_codes
all_run = (by_code calls calls_runs, (by_code counting counting_runs, (by_code emptied_set emptied_set_runs, (by_code enumeration_or_former enumeration_or_former_runs, (by_code fail_alone fail_alone_runs, (by_code folds folds_runs, (by_code former former_runs, (by_code images_of_a_map images_of_a_map_runs, (by_code loops loops_runs, (by_code nested_places nested_places_runs, (by_code passed_in_and_out passed_in_and_out_runs, (by_code quantifiers quantifiers_runs, (by_code queens queens_runs, (by_code one_assignment one_assignment_runs, (by_code reading reading_runs, (by_code two_bodies two_bodies_runs, (by_code subsets subsets_runs, (by_code taken_apart taken_apart_runs, (by_code taken_back taken_back_runs, (by_code too_wide too_wide_runs, (by_code undeclared_own undeclared_own_runs, (by_code updates updates_runs, tt))))))))))))))))))))))

pub all_meant : AllAreMeant worked_codes
all_meant = (by_meaning calls calls_meant, (by_meaning counting counting_meant, (by_meaning emptied_set emptied_set_meant, (by_meaning enumeration_or_former enumeration_or_former_meant, (by_meaning fail_alone fail_alone_meant, (by_meaning folds folds_meant, (by_meaning former former_meant, (by_meaning images_of_a_map images_of_a_map_meant, (by_meaning loops loops_meant, (by_meaning nested_places nested_places_meant, (by_meaning passed_in_and_out passed_in_and_out_meant, (by_meaning quantifiers quantifiers_meant, (by_meaning queens queens_meant, (by_meaning one_assignment one_assignment_meant, (by_meaning reading reading_meant, (by_meaning two_bodies two_bodies_meant, (by_meaning subsets subsets_meant, (by_meaning taken_apart taken_apart_meant, (by_meaning taken_back taken_back_meant, (by_meaning too_wide too_wide_meant, (by_meaning undeclared_own undeclared_own_meant, (by_meaning updates updates_meant, tt))))))))))))))))))))))
