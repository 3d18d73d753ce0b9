use Rattle.std.proofs.Common.{◌≡◌, drop}
use Rattle.setl_image_names.specs.Once.{all_once, declared_names}
use Rattle.setl_image_names.proofs.declared.all_once.Given as goal

abbrev pub invariant-loop-it : goal.invariant-loop-it
invariant-loop-it l = all_once l.vars l.mine (declared_names (drop l.it-index l.declared)) ≡ all_once l.vars l.mine (declared_names l.declared)
