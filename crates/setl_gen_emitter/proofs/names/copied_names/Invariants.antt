use Rattle.std.proofs.Common.{◌≡◌, ◌++◌, drop}
use Rattle.setl_gen_emitter.proofs.names.copied_names.Given as goal

abbrev pub invariant-loop-name : goal.invariant-loop-name
invariant-loop-name l = l.all ++ drop l.name-index l.names ≡ l.names
