use Rattle.std.proofs.Common.{◌≡◌, [], drop}
use Rattle.setl_image_names.specs.Once.{own_after, declared_names}
use Rattle.setl_image_names.proofs.declared.own_declared.Given as goal

abbrev pub invariant-loop-it : goal.invariant-loop-it
invariant-loop-it l = own_after l.vars l.names (declared_names (drop l.it-index l.declared)) ≡ own_after l.vars [] (declared_names l.declared)
