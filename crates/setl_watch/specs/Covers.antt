-- The cover: how many stores each line made.
use Rattle.std.specs.Prelude.{◌≡◌, refl, ℕ, suc, ◌+◌, Bool, List, [], ◌∷◌, ◌++◌, cond, nat_eq, nat_lt, false, codes, decimal}
use Rattle.setl_watch.specs.Notices.{Notice, Called, Returned, Stored, Printed, Kept, Back, Forgot}
use Rattle.setl_watch.specs.Watches.{Watch, no_notes}

-- Lines with their counts, the lines rising.
abbrev pub Counts : Type 0
Counts = List (ℕ × ℕ)

-- one store more at this line
abbrev pub counted : ℕ → Counts → Counts
counted line [] = (line, 1) ∷ []
counted line (c ∷ cs) = cond (nat_lt c.0 line) (c ∷ counted line cs) (cond (nat_eq c.0 line) ((line, suc c.1) ∷ cs) ((line, 1) ∷ c ∷ cs))

-- a store counts
abbrev pub covered : Notice → Counts → Counts
covered (Stored line name value) cs = counted line cs
covered (Called line name) cs = cs
covered (Returned name) cs = cs
covered (Printed bytes) cs = cs
covered Kept cs = cs
covered Back cs = cs
covered Forgot cs = cs

-- a line for each line with stores
abbrev pub cover_report : Counts → List ℕ
cover_report [] = []
cover_report (c ∷ cs) = codes "line " ++ decimal c.0 ++ codes ": " ++ decimal c.1 ++ 10 ∷ cover_report cs

-- how many stores there were
abbrev pub all_counted : Counts → ℕ
all_counted [] = 0
all_counted (c ∷ cs) = c.1 + all_counted cs

-- the watcher with the name 2 that has these counts
abbrev pub cover : Counts → Watch
cover counts = record {
  name = 2;
  state = record { events = []; counts = counts };
  move = λ n e. (record { events = n.events; counts = covered e n.counts }, false);
  report = λ n. cover_report n.counts;
  count = λ n. all_counted n.counts;
  aim = λ line. no_notes;
}

-- the lines rise, whatever the order of the stores
rising : counted 2 (counted 7 (counted 2 (counted 5 []))) ≡ (2, 2) ∷ (5, 1) ∷ (7, 1) ∷ []
rising = refl

-- how many lines in front are lower
abbrev pub place : ℕ → Counts → ℕ
place line [] = 0
place line (c ∷ cs) = cond (nat_lt c.0 line) (suc (place line cs)) 0

-- the line behind them is this one
abbrev pub has : ℕ → Counts → Bool
has line [] = false
has line (c ∷ cs) = cond (nat_lt c.0 line) (has line cs) (nat_eq c.0 line)
