use Rattle.std.proofs.Common.{◌≡◌, drop}
use Rattle.std.specs.List.{list_all}
use Rattle.setl_image_spelled.specs.Spelled.{param_fits}
use Rattle.setl_image_spelled.proofs.names.params_fit.Given as goal

abbrev pub invariant-loop-param : goal.invariant-loop-param
invariant-loop-param l = list_all param_fits (drop l.param-index l.params) ≡ list_all param_fits l.params
