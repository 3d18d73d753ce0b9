use Rattle.std.proofs.Common.{◌≡◌, drop}
use Rattle.setl_names.specs.Names.{with_names, in_order}
use Rattle.setl_image_names.specs.Once.{names_in}
use Rattle.setl_image_names.proofs.declared.own_names.Given as goal

abbrev pub invariant-loop-name : goal.invariant-loop-name
invariant-loop-name l = with_names l.names (names_in (drop l.name-index l.main)) ≡ in_order (names_in l.main)
