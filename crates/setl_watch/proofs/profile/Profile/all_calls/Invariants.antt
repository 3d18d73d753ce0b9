use Rattle.std.proofs.Common.{◌≡◌, ◌+◌, ◌-◌, ◌<◌, ◌^◌, min, map}
use Rattle.setl_watch.specs.Profiles.{calls_in}
use Rattle.setl_watch.proofs.profile.Profile.all_calls.Given as goal

abbrev pub invariant-loop-count : goal.invariant-loop-count
invariant-loop-count l = record {
  sum : min (l.calls + calls_in (map (λ e. (e.0.items, e.1)) l.count-iterator)) (2 ^ 64 - 1) ≡ min (calls_in l.self) (2 ^ 64 - 1);
  fits : l.calls < 2 ^ 64;
}
