use Rattle.std.proofs.Common.{◌≡◌, drop}
use Rattle.setl_program.specs.Scope.{innermost, former_of}
use Rattle.setl_program_scope.proofs.scope.Scope.former_of.Given as goal

abbrev pub invariant-loop-former : goal.invariant-loop-former
invariant-loop-former l = innermost l.found (drop l.former-index l.former-items) l.name ≡ former_of l.self l.name
