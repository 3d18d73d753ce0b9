use Rattle.std.proofs.Common.{◌≡◌, drop, map}
use Rattle.setl_names.specs.Names.{with_names, in_order}
use Rattle.setl_program.specs.Expressions.{turn_of, names_of_turns}
use Rattle.setl_program_scope.proofs.bound.names_of_turns.Given as goal

abbrev pub invariant-loop-turn : goal.invariant-loop-turn
invariant-loop-turn l = with_names l.all (names_of_turns (map turn_of (drop l.turn-index l.turns))) ≡ in_order (names_of_turns (map turn_of l.turns))
