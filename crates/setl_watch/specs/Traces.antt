-- The trace: the first 1,000 events of a run.
use Rattle.std.specs.Prelude.{◌≡◌, refl, ℕ, List, [], ◌∷◌, ◌++◌, cond, length, nat_le, codes, decimal, Option, Some, None}
use Rattle.setl_value.specs.Datum.{Datum}
use Rattle.setl_text.specs.Texts.{inner_text}
use Rattle.setl_watch.specs.Notices.{Notice, Called, Returned, Stored, Printed, Kept, Back, Forgot}
use Rattle.setl_watch.specs.Watches.{Watch, no_notes}

-- how many events a trace keeps
abbrev pub most_events : ℕ
most_events = 1000

-- the text of a value or of `om`
abbrev pub value_text : Option Datum → List ℕ
value_text None = codes "*"
value_text (Some d) = inner_text d

-- the line of an event, without byte 10
abbrev pub event_text : Notice → List ℕ
event_text (Called line name) = codes "call " ++ decimal line ++ 32 ∷ name
event_text (Returned name) = codes "return " ++ name
event_text (Stored line name v) = codes "store " ++ decimal line ++ 32 ∷ name ++ 32 ∷ value_text v
event_text (Printed bytes) = codes "print " ++ bytes
event_text Kept = codes "keep"
event_text Back = codes "back"
event_text Forgot = codes "succeed"

-- a line for each event
abbrev pub trace_report : List Notice → List ℕ
trace_report [] = []
trace_report (e ∷ es) = event_text e ++ 10 ∷ trace_report es

-- an event goes behind those that are kept; the 1,000th is the last
abbrev pub traced : List Notice → Notice → List Notice
traced es e = cond (nat_le most_events (length es)) es (es ++ e ∷ [])

-- the watcher with the name 1 that keeps these events
abbrev pub trace : List Notice → Watch
trace events = record {
  name = 1;
  state = record { events = events; counts = [] };
  move = λ n e. (record { events = traced n.events e; counts = n.counts }, nat_le most_events (length (traced n.events e)));
  report = λ n. trace_report n.events;
  count = λ n. length n.events;
  aim = λ line. no_notes;
}

-- a line for each event
lines : trace_report (Kept ∷ Returned (codes "p") ∷ Printed (codes "1 a") ∷ Printed [] ∷ Back ∷ Forgot ∷ []) ≡ codes "keep\nreturn p\nprint 1 a\nprint \nback\nsucceed\n"
lines = refl
