use Rattle.std.proofs.Common.{◌≡◌, drop}
use Rattle.std.specs.List.{list_all}
use Rattle.setl_image_spelled.specs.Spelled.{body_fits}
use Rattle.setl_image_spelled.proofs.image.bodies_fit.Given as goal

abbrev pub invariant-loop-body : goal.invariant-loop-body
invariant-loop-body l = list_all (body_fits l.globals) (drop l.body-index l.bodies) ≡ list_all (body_fits l.globals) l.bodies
