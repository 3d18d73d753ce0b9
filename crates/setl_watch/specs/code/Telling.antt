-- Telling watchers one after the other.
use Rattle.std.specs.Prelude.{ℕ, List, ◌++◌, take, drop}
use Rattle.setl_watch.specs.Notices.{Notice}
use Rattle.setl_watch.specs.Watches.{Watch, Watched, watched, told}

-- these watchers in front of the others
abbrev pub behind : List Watch → Watched → Watched
behind ws h = watched (ws ++ h.watchers) h.reports

-- what there is when the first watchers were told the event, and then the others are
abbrev pub told_from : ℕ → Notice → List Watch → List ℕ → Watched
told_from n e ws reports = behind (take n ws) (told e (drop n ws) reports)
