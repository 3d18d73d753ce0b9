use Rattle.std.proofs.Common.{◌≡◌, drop, map}
use Rattle.setl_names.specs.Names.{BeginsWith, with_names}
use Rattle.setl_names.proofs.names.Names.put_declared.Given as goal

abbrev pub invariant-loop-item : goal.invariant-loop-item
invariant-loop-item g l = record {
  names : with_names l.self (map (λ item. (g.T.Declares.entry_of item).name) (drop l.item-index l.items)) ≡ with_names l.initial.self (map (λ item. (g.T.Declares.entry_of item).name) l.items);
  front : BeginsWith l.self l.initial.self;
}
