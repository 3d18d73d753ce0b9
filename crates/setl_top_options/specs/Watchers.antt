-- The watchers that words may ask for.
use Rattle.std.specs.Prelude.{ℕ}
use Rattle.setl_top_options.specs.declared.watching.Asked.{Asked}
use Rattle.setl_top_options.specs.declared.watching.Asked.TheVariants.{Trace, Cover, Profile}

-- the number that a watcher has for a name
abbrev pub watcher_name : Asked → ℕ
watcher_name Trace = 1
watcher_name Cover = 2
watcher_name Profile = 3
