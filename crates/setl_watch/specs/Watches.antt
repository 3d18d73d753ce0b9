-- Watchers that are told events, and what they report.
use Rattle.std.specs.Prelude.{◌≡◌, refl, ℕ, Bool, List, [], ◌∷◌, ◌++◌, map, cond, length, nat_le}
use Rattle.setl_model_runs.specs.Events as run
use Rattle.setl_watch.specs.Notices.{Notice, noticed}

-- What a watcher knows: a list of what it was told, and a list of pairs of numbers. It is one type for all watchers.
pub record Notes : Type 0 where
  pub events : List Notice
  pub counts : List (ℕ × ℕ)

abbrev pub no_notes : Notes
no_notes = record { events = []; counts = [] }

-- A watcher: its name, what it knows, what it knows after it is told an event and whether it has enough then, what it
-- reports of what it knows, how much it has counted, and what it knows at first where it is aimed at a line.
pub record Watch : Type 0 where
  pub name : ℕ
  pub state : Notes
  pub move : Notes → Notice → Notes × Bool
  pub report : Notes → List ℕ
  pub count : Notes → ℕ
  pub aim : ℕ → Notes

-- the watcher after it is told an event; only its state changes
abbrev pub after : Watch → Notice → Watch
after w e = record w { state = (w.move w.state e).0 }

-- whether it has enough then
abbrev pub has_enough : Watch → Notice → Bool
has_enough w e = (w.move w.state e).1

-- its report
abbrev pub reported : Watch → List ℕ
reported w = w.report w.state

-- how much it has counted
abbrev pub counted_by : Watch → ℕ
counted_by w = w.count w.state

-- the watcher at first, aimed at a line
abbrev pub aimed_at : ℕ → Watch → Watch
aimed_at line w = record w { state = w.aim line }

-- The watchers of a run in their order, and the reports of those that had enough, in the order in which they had.
pub record Watched : Type 0 where
  pub watchers : List Watch
  pub reports : List ℕ

abbrev pub watched : List Watch → List ℕ → Watched
watched ws reports = record { watchers = ws; reports = reports }

-- a watcher that wants more stays in front of the others; of one that has enough the report was taken
abbrev pub with_watch : Watch → Watched → Watched
with_watch w h = record { watchers = w ∷ h.watchers; reports = h.reports }

-- each watcher is told the event, in order; one that has enough is asked for its report at once and leaves
abbrev pub told : Notice → List Watch → List ℕ → Watched
told e [] reports = watched [] reports
told e (w ∷ ws) reports = cond (has_enough w e) (told e ws (reports ++ reported (after w e))) (with_watch (after w e) (told e ws reports))

-- so many things, one after the other
abbrev pub told_each : List Notice → Watched → Watched
told_each [] h = h
told_each (e ∷ es) h = told_each es (told e h.watchers h.reports)

-- the events of a run
abbrev pub told_all : List run.Event → Watched → Watched
told_all es h = told_each (map noticed es) h

-- the reports of watchers in their order
abbrev pub all_reported : List Watch → List ℕ
all_reported [] = []
all_reported (w ∷ ws) = reported w ++ all_reported ws

-- ---- worked rows: watchers that have enough at so many events, and report how many they were told

abbrev counting : ℕ → ℕ → Watch
counting name most = record {
  name = name;
  state = no_notes;
  move = λ n e. (record { events = e ∷ n.events; counts = n.counts }, nat_le most (length (e ∷ n.events)));
  report = λ n. name ∷ length n.events ∷ [];
  count = λ n. length n.events;
  aim = λ line. no_notes;
}

abbrev ended : List run.Event → List Watch → List ℕ
ended es ws = let h = told_all es (watched ws []) in h.reports ++ all_reported h.watchers

-- one that has enough at its first event is told no other
at_once : ended (run.Kept ∷ run.Back ∷ run.Back ∷ []) (counting 1 1 ∷ []) ≡ 1 ∷ 1 ∷ []
at_once = refl

-- reports come in the order in which the watchers had enough, and then those of the others in their own order
in_order : ended (run.Kept ∷ run.Back ∷ []) (counting 1 3 ∷ counting 2 2 ∷ counting 3 1 ∷ counting 4 9 ∷ []) ≡ 3 ∷ 1 ∷ 2 ∷ 2 ∷ 1 ∷ 2 ∷ 4 ∷ 2 ∷ []
in_order = refl

-- at one event they come in the order of the watchers, also of two with one name
at_one_event : ended (run.Kept ∷ run.Back ∷ []) (counting 5 2 ∷ counting 5 2 ∷ counting 4 2 ∷ []) ≡ 5 ∷ 2 ∷ 5 ∷ 2 ∷ 4 ∷ 2 ∷ []
at_one_event = refl

-- ---- a law

-- events told in two parts are told as a whole
abbrev pub ToldInParts : Type 0
ToldInParts = (es fs : List run.Event) (h : Watched) → told_all (es ++ fs) h ≡ told_all fs (told_all es h)
