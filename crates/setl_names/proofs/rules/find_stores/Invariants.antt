use Rattle.std.proofs.Common.{◌≡◌, drop}
use Rattle.setl_names.specs.Rules.{stored}
use Rattle.setl_names.specs.code.Stores.{stores_from, stores_of}
use Rattle.setl_names.proofs.rules.find_stores.Given as goal

abbrev pub invariant-loop-i : goal.invariant-loop-i
invariant-loop-i l = stores_from l.all (stored (drop l.i l.params) (drop l.i l.arguments)) ≡ stores_of (stored l.params l.arguments)
