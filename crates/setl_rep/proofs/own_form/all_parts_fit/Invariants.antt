use Rattle.std.proofs.Common.{◌≡◌, drop}
use Rattle.std.specs.List.{list_all}
use Rattle.setl_modes.specs.Fits.{datum_fits, part_fits}
use Rattle.setl_modes.specs.Modes.{mode_of}
use Rattle.setl_rep_forms.specs.Stands.{parts_at}
use Rattle.setl_rep.proofs.own_form.all_parts_fit.Given as goal

abbrev pub invariant-loop-part : goal.invariant-loop-part
invariant-loop-part l =
    list_all (part_fits (datum_fits (mode_of l.k))) (parts_at l.base l.list) ≡ list_all (part_fits (datum_fits (mode_of l.k))) (parts_at l.base (drop l.part-index l.list))
