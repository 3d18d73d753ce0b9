use Rattle.std.proofs.Common.{◌≡◌, drop}
use Rattle.setl_names.specs.Names.{BeginsWith, with_names}
use Rattle.setl_names.proofs.names.Names.put_some.Given as goal

abbrev pub invariant-loop-name : goal.invariant-loop-name
invariant-loop-name l = record {
  names : with_names l.self (drop l.name-index l.names) ≡ with_names l.initial.self l.names;
  front : BeginsWith l.self l.initial.self;
}
