use Rattle.std.proofs.Common.{◌≡◌, ◌+◌, ◌-◌, ◌<◌, ◌^◌, min, drop}
use Rattle.setl_watch.specs.Covers.{all_counted}
use Rattle.setl_watch.proofs.cover.Cover.stores.Given as goal

abbrev pub invariant-loop-count : goal.invariant-loop-count
invariant-loop-count l = record {
  sum : min (l.stores + all_counted (drop l.count-index l.count-items)) (2 ^ 64 - 1) ≡ min (all_counted l.count-items) (2 ^ 64 - 1);
  fits : l.stores < 2 ^ 64;
}
