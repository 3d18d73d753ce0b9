use Rattle.std.proofs.Common.{◌+◌, ◌*◌, drop}
use Rattle.std.specs.List.{AllByRecursion}
use Rattle.setl_modes.specs.Modes.{mode_of}
use Rattle.setl_rep_forms.specs.FormOf.{form}
use Rattle.setl_rep.specs.OwnForm.{IsEntryReady}
use Rattle.setl_rep.proofs.ReadyMaps.{height}
use Rattle.setl_rep.proofs.+ready.Given as goal

abbrev pub decreases-own_form::is_ready : goal.decreases-own_form::is_ready
decreases-own_form::is_ready l = 4 * height (mode_of l.mode.now) + 3

abbrev pub decreases-own_map::is_map_ready : goal.decreases-own_map::is_map_ready
decreases-own_map::is_map_ready l = 4 * height (mode_of l.mode.now) + 2

abbrev pub decreases-own_map::all_entries_ready : goal.decreases-own_map::all_entries_ready
decreases-own_map::all_entries_ready l = 4 * height (mode_of l.r.now) + 5

abbrev pub decreases-own_map::is_entry_ready : goal.decreases-own_map::is_entry_ready
decreases-own_map::is_entry_ready l = 4 * height (mode_of l.r.now) + 4

abbrev pub invariant-own_map::all_entries_ready-loop-q : goal.invariant-own_map::all_entries_ready-loop-q
invariant-own_map::all_entries_ready-loop-q l =
    let entry = IsEntryReady l.bases l.instance l.base (mode_of l.k) (mode_of l.r) (form l.f) in
    AllByRecursion entry (drop l.q-index l.list) → AllByRecursion entry l.list
