-- The first fault of a call ends it.
use Rattle.std.proofs.Common.{◌≡◌, ◌⊎◌, ◌<◌, inl, inr, ℕ, List, refl, ap, arith}
use Rattle.setl_top.specs.Headline.{LoadsAsked, loads_it, loads_none, LoadFailed, ReadCause, load_failed, script_failed, read_failed, WriteCause, print_failed, session_failed, out_failed, err_failed}
use Rattle.setl_top.specs.Laws.{FailedLoadEnds, FailedReadEnds, FailedWriteEnds}
use Rattle.setl_top.specs.Outside.{Outside}
use Rattle.setl_top.proofs.Ends.{count_same}
use Rattle.setl_top_status.specs.Seen.{Seen, SeenFiles, CountStays}
use Rattle.setl_top_status.specs.declared.status.Status.TheVariants.{Done, Refused, Words, Stopped, Spent, ReadFault, WriteFault, NoMemory}

-- a count that is as before isn't greater
steady : {A : Type 0} (a b : Seen A) → CountStays a b → a.faults < b.faults → ⊥
steady {A = A} a b same more = omega (arith, same, more)

-- ---- a load

-- the one load of a call was no fault
well_loaded : (words : List (List ℕ)) (before after : Outside) → LoadsAsked words before after → before.files.faults < after.files.faults → ⊥
well_loaded words before after (loads_it name asked once) more = let same = ap (λ (f : SeenFiles). f.faults) once in omega (arith, same, more)
well_loaded words before after (loads_none unasked still) more = let same = ap (λ (f : SeenFiles). f.faults) still in omega (arith, same, more)

at_most_loaded : (words : List (List ℕ)) (before after : Outside) → LoadsAsked words before after ⊎ (after.files ≡ before.files) → before.files.faults < after.files.faults → ⊥
at_most_loaded words before after (inl load) more = well_loaded words before after load more
at_most_loaded words before after (inr still) more = let same = ap (λ (f : SeenFiles). f.faults) still in omega (arith, same, more)

load_read : (words : List (List ℕ)) (before after : Outside) (out : List ℕ) → ReadCause words before after out → before.files.faults < after.files.faults → LoadFailed words before after
load_read words before after _ (load_failed h) more = h
load_read words before after _ (script_failed h) more = absurd (well_loaded words before after h.files more)
load_read words before after _ (read_failed out h) more = absurd (well_loaded words before after h.files more)

load_write : (words : List (List ℕ)) (before after : Outside) (out : List ℕ) → WriteCause words before after out → LoadsAsked words before after
load_write words before after _ (print_failed out line n h) = h.files
load_write words before after _ (session_failed told n h) = h.files
load_write words before after _ (out_failed out h) = h.files
load_write words before after _ (err_failed out err h) = h.quiet.files

pub failed_load_ends : FailedLoadEnds
failed_load_ends words before after Done h more = absurd (well_loaded words before after h.quiet.files more)
failed_load_ends words before after Refused h more = absurd (well_loaded words before after h.quiet.files more)
failed_load_ends words before after Words h more = absurd (well_loaded words before after h.quiet.files more)
failed_load_ends words before after Stopped h more = absurd (well_loaded words before after h.quiet.files more)
failed_load_ends words before after Spent h more = absurd (well_loaded words before after h.quiet.files more)
failed_load_ends words before after ReadFault h more = (refl, load_read words before after h.out h.cause more)
failed_load_ends words before after WriteFault h more = absurd (well_loaded words before after (load_write words before after h.out h.cause) more)
failed_load_ends words before after NoMemory h more = absurd (at_most_loaded words before after h.files more)

-- ---- a read

read_read : (words : List (List ℕ)) (before after : Outside) (out : List ℕ) → ReadCause words before after out → before.input.faults < after.input.faults → LoadsAsked words before after × CountStays before.output after.output
read_read words before after _ (load_failed h) more = absurd (steady before.input after.input (count_same before.input after.input h.input) more)
read_read words before after _ (script_failed h) more = (h.files, count_same before.output after.output h.output)
read_read words before after _ (read_failed out h) more = (h.files, h.output)

read_write : (words : List (List ℕ)) (before after : Outside) (out : List ℕ) → WriteCause words before after out → CountStays before.input after.input
read_write words before after _ (print_failed out line n h) = h.input
read_write words before after _ (session_failed told n h) = h.input
read_write words before after _ (out_failed out h) = count_same before.input after.input h.input
read_write words before after _ (err_failed out err h) = h.quiet.input

pub failed_read_ends : FailedReadEnds
failed_read_ends words before after Done h more = absurd (steady before.input after.input h.quiet.input more)
failed_read_ends words before after Refused h more = absurd (steady before.input after.input h.quiet.input more)
failed_read_ends words before after Words h more = absurd (steady before.input after.input h.quiet.input more)
failed_read_ends words before after Stopped h more = absurd (steady before.input after.input h.quiet.input more)
failed_read_ends words before after Spent h more = absurd (steady before.input after.input h.quiet.input more)
failed_read_ends words before after ReadFault h more =
    let rest = read_read words before after h.out h.cause more in
    (refl, rest.0, rest.1)
failed_read_ends words before after WriteFault h more = absurd (steady before.input after.input (read_write words before after h.out h.cause) more)
failed_read_ends words before after NoMemory h more = absurd (steady before.input after.input h.input more)

-- ---- a write of the output

write_read : (words : List (List ℕ)) (before after : Outside) (out : List ℕ) → ReadCause words before after out → CountStays before.output after.output
write_read words before after _ (load_failed h) = count_same before.output after.output h.output
write_read words before after _ (script_failed h) = count_same before.output after.output h.output
write_read words before after _ (read_failed out h) = h.output

write_write : (words : List (List ℕ)) (before after : Outside) (out : List ℕ) → WriteCause words before after out → before.output.faults < after.output.faults → LoadsAsked words before after × CountStays before.input after.input
write_write words before after _ (print_failed out line n h) more = (h.files, h.input)
write_write words before after _ (session_failed told n h) more = (h.files, h.input)
write_write words before after _ (out_failed out h) more = (h.files, count_same before.input after.input h.input)
write_write words before after _ (err_failed out err h) more = absurd (steady before.output after.output h.quiet.output more)

pub failed_write_ends : FailedWriteEnds
failed_write_ends words before after Done h more = absurd (steady before.output after.output h.quiet.output more)
failed_write_ends words before after Refused h more = absurd (steady before.output after.output h.quiet.output more)
failed_write_ends words before after Words h more = absurd (steady before.output after.output h.quiet.output more)
failed_write_ends words before after Stopped h more = absurd (steady before.output after.output h.quiet.output more)
failed_write_ends words before after Spent h more = absurd (steady before.output after.output h.quiet.output more)
failed_write_ends words before after ReadFault h more = absurd (steady before.output after.output (write_read words before after h.out h.cause) more)
failed_write_ends words before after WriteFault h more =
    let rest = write_write words before after h.out h.cause more in
    (refl, rest.0, rest.1)
failed_write_ends words before after NoMemory h more = absurd (steady before.output after.output h.output more)
