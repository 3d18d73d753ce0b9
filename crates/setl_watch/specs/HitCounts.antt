-- Hits: how often a line was stored at.
use Rattle.std.specs.Prelude.{ℕ, suc, [], ◌∷◌, cond, nat_eq, false}
use Rattle.setl_watch.specs.Covers.{Counts, all_counted}
use Rattle.setl_watch.specs.Notices.{Notice, Stored}
use Rattle.setl_watch.specs.Watches.{Watch}

-- a store at the line that it is aimed at counts
abbrev pub hit : Notice → Counts → Counts
hit (Stored line name value) (c ∷ cs) = cond (nat_eq line c.0) ((c.0, suc c.1) ∷ cs) (c ∷ cs)
hit e cs = cs

-- the watcher with the name 4 that is aimed at a line and has counted so many stores there; it reports nothing
abbrev pub hits : (line stores : ℕ) → Watch
hits line stores = record {
  name = 4;
  state = record { events = []; counts = (line, stores) ∷ [] };
  move = λ n e. (record { events = n.events; counts = hit e n.counts }, false);
  report = λ n. [];
  count = λ n. all_counted n.counts;
  aim = λ line. record { events = []; counts = (line, 0) ∷ [] };
}
