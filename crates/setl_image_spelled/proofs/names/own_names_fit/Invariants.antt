use Rattle.std.proofs.Common.{◌≡◌, drop}
use Rattle.std.specs.List.{list_all}
use Rattle.setl_image_spelled.specs.Spelled.{own_name_fits}
use Rattle.setl_image_spelled.proofs.names.own_names_fit.Given as goal

abbrev pub invariant-loop-name : goal.invariant-loop-name
invariant-loop-name l = list_all own_name_fits (drop l.name-index l.names) ≡ list_all own_name_fits l.names
