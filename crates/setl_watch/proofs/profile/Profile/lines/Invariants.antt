use Rattle.std.proofs.Common.{◌≡◌, ◌++◌, map}
use Rattle.setl_watch.specs.Profiles.{lines_of}
use Rattle.setl_watch.proofs.profile.Profile.lines.Given as goal

abbrev pub invariant-loop-name : goal.invariant-loop-name
invariant-loop-name l = l.into.items ++ lines_of (map (λ e. (e.0.items, e.1)) l.name-iterator) ≡ lines_of l.self
