use Rattle.std.proofs.Common.{◌≡◌, drop}
use Rattle.std.specs.List.{filter_map, list_all}
use Rattle.setl_modes.specs.Fits.{datum_fits}
use Rattle.setl_modes.specs.Modes.{mode_of}
use Rattle.setl_rep_forms.specs.Stands.{value_at}
use Rattle.setl_rep.proofs.own_form.all_fit.Given as goal

abbrev pub invariant-loop-n : goal.invariant-loop-n
invariant-loop-n l = list_all (datum_fits (mode_of l.k)) (filter_map (value_at l.base) l.list) ≡ list_all (datum_fits (mode_of l.k)) (filter_map (value_at l.base) (drop l.n-index l.list))
