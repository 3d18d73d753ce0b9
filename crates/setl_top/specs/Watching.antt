-- The watchers of a run.
use Rattle.std.specs.Prelude.{◌≢◌, ℕ, List, [], ◌∷◌, ◌++◌, Option, None, Some, ⊤, codes, cond, nat_eq}
use Rattle.setl_model_runs.specs.Events.{Event}
use Rattle.setl_watch.specs.Watches.{Watch, Watched, watched, told_all, all_reported}
use Rattle.setl_top_options.specs.Watchers.{watcher_name}
use Rattle.setl_top_options.specs.declared.watching.Asked.{Asked}
use Rattle.setl_top_words.specs.Words.{Command, Spells, watched_by}

-- those that have this name, in their order
abbrev pub named : ℕ → List Watch → List Watch
named n [] = []
named n (w ∷ ws) = cond (nat_eq w.name n) (w ∷ named n ws) (named n ws)

-- those that are asked for
abbrev pub asked_for : Option Asked → List Watch → List Watch
asked_for None ws = []
asked_for (Some asked) ws = named (watcher_name asked) ws

-- no watcher is asked for, or one has the name that is asked for
abbrev pub IsThere : Option Asked → List Watch → Type 0
IsThere None ws = ⊤
IsThere (Some asked) ws = named (watcher_name asked) ws ≢ []

-- the line that tells that none has
abbrev pub no_watcher_line : List ℕ
no_watcher_line = codes "no such watcher" ++ 10 ∷ []

-- the words are of no plain form, or ask for a watcher that isn't there
abbrev pub IsNoRequest : List (List ℕ) → List Watch → Type 0
IsNoRequest words ws = (command : Command) → Spells words command → IsThere (watched_by command) ws → ⊥

-- all reports: of those that had enough, and then of the others
abbrev pub all_told : Watched → List ℕ
all_told h = h.reports ++ all_reported h.watchers

-- the same with a text before the reports
abbrev pub headed : List ℕ → Watched → Watched
headed text h = record h { reports = text ++ h.reports }

-- what watchers report of a run with these events
abbrev pub reports_of : List Watch → List Event → List ℕ
reports_of ws events = all_told (told_all events (watched ws []))
