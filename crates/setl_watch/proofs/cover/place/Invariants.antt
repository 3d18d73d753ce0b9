use Rattle.std.proofs.Common.{◌≡◌, ◌≤◌, ◌-◌, ◌+◌, drop, length}
use Rattle.setl_watch.specs.Covers.{place}
use Rattle.setl_watch.proofs.cover.place.Given as goal

abbrev pub invariant-loop-at : goal.invariant-loop-at
invariant-loop-at l = record {
  place : l.at + place l.line (drop l.at l.counts) ≡ place l.line l.counts;
  within : l.at ≤ length l.counts;
}

abbrev pub decreases-loop-at : goal.decreases-loop-at
decreases-loop-at l = length l.counts - l.at
