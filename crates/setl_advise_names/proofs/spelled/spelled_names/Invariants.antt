use Rattle.std.proofs.Common.{◌≡◌, drop}
use Rattle.setl_names.specs.Names.{in_order, with_names}
use Rattle.setl_advise_names.specs.Free.{spelled_names}
use Rattle.setl_advise_names.proofs.spelled.spelled_names.Given as goal

abbrev pub invariant-loop-i : goal.invariant-loop-i
invariant-loop-i l = with_names l.names (spelled_names l.list.source (drop l.i l.list.tokens)) ≡ in_order (spelled_names l.list.source l.list.tokens)
