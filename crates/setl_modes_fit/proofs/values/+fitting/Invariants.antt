use Rattle.std.specs.Prelude.{◌≡◌, drop, None}
use Rattle.std.specs.List.{list_all}
use Rattle.setl_value.specs.code.Body.{Members}
use Rattle.setl_value.specs.code.DatumOf.{lent}
use Rattle.setl_modes.specs.Fits.{datum_fits, part_fits}
use Rattle.setl_modes.specs.Modes.{mode_of}
use Rattle.setl_modes_fit.specs.Neighbours.{member_fits, go_together, all_follow}
use Rattle.setl_modes_fit.proofs.values.+fitting.Given as goal

abbrev pub invariant-parts_fit-loop-i : goal.invariant-parts_fit-loop-i
invariant-parts_fit-loop-i l = list_all (part_fits (datum_fits (mode_of l.mode))) (drop l.i l.t) ≡ list_all (part_fits (datum_fits (mode_of l.mode))) l.t

abbrev pub invariant-members_fit-loop-v : goal.invariant-members_fit-loop-v
invariant-members_fit-loop-v l =
    let alone = member_fits (mode_of l.mode) in
    let together = go_together (mode_of l.mode) in
    all_follow alone together (lent l.before) l.v-iterator ≡ all_follow alone together None (Members l.s)
