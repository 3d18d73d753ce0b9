use Rattle.std.proofs.Common.{◌≡◌, ◌+◌, ◌*◌}
use Rattle.setl_value.specs.code.Body.{Members}
use Rattle.setl_modes.specs.Modes.{mode_of}
use Rattle.setl_rep_bases.specs.Bases.{base_at, named}
use Rattle.setl_rep_building.specs.Contents.{entries_in, layout, table_layout}
use Rattle.setl_rep_building.proofs.Heights.{height}
use Rattle.setl_rep_building.proofs.Tabling.{IsTabled}
use Rattle.setl_rep_building.proofs.build.+building.Given as goal

abbrev pub decreases-in_form : goal.decreases-in_form
decreases-in_form l = 4 * height (mode_of l.mode.now) + 3

abbrev pub decreases-map_in_form : goal.decreases-map_in_form
decreases-map_in_form l = 4 * height (mode_of l.mode.now) + 2

abbrev pub decreases-table_in_form : goal.decreases-table_in_form
decreases-table_in_form l = 4 * height (mode_of l.mode.now) + 1

abbrev pub decreases-content_in_form : goal.decreases-content_in_form
decreases-content_in_form l = 4 * height (mode_of l.mode.now)

abbrev pub invariant-table_in_form-loop-x : goal.invariant-table_in_form-loop-x
invariant-table_in_form-loop-x l =
    let name = named l.bases l.instance in
    IsTabled l.bases name (base_at l.bases (name l.b)) (mode_of l.mode) (Members l.s) (entries_in l.table) l.x-iterator
    × (table_layout l.table ≡ layout l.fn.lying)
