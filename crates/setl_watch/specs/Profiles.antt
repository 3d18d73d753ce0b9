-- The profile: how often each procedure was called.
use Rattle.std.specs.Prelude.{◌≡◌, refl, ℕ, suc, ◌+◌, List, [], ◌∷◌, ◌++◌, map, cond, nat_eq, bytes_eq, false, codes, decimal}
use Rattle.setl_watch.specs.Covers.{Counts, all_counted}
use Rattle.setl_watch.specs.Notices.{Notice, Called, Returned, Stored, Printed, Kept, Back, Forgot}
use Rattle.setl_watch.specs.Watches.{Watch, Notes, no_notes}

-- the name of the procedure that a call is of
abbrev pub name_in : Notice → List ℕ
name_in (Called line name) = name
name_in e = []

-- the first calls, with this one behind them if it is the first of its procedure
abbrev pub with_first : Notice → List Notice → List Notice
with_first e [] = e ∷ []
with_first e (f ∷ fs) = cond (bytes_eq (name_in e) (name_in f)) (f ∷ fs) (f ∷ with_first e fs)

-- the place of the first call of a procedure, where these stand from `at` on; behind them, if there is none
abbrev pub place_of : List ℕ → (at : ℕ) → List Notice → ℕ
place_of name at [] = at
place_of name at (f ∷ fs) = cond (bytes_eq name (name_in f)) at (place_of name (suc at) fs)

-- one more at this place, which stands behind the others if it is new
abbrev pub counted_at : ℕ → Counts → Counts
counted_at at [] = (at, 1) ∷ []
counted_at at (c ∷ cs) = cond (nat_eq c.0 at) ((c.0, suc c.1) ∷ cs) (c ∷ counted_at at cs)

-- a call counts for its procedure
abbrev pub profiled : Notice → Notes → Notes
profiled (Called line name) n = record { events = with_first (Called line name) n.events; counts = counted_at (place_of name 0 n.events) n.counts }
profiled (Returned name) n = n
profiled (Stored line name value) n = n
profiled (Printed bytes) n = n
profiled Kept n = n
profiled Back n = n
profiled Forgot n = n

-- a line for each procedure, by its first call
abbrev pub profile_report : List Notice → Counts → List ℕ
profile_report [] cs = []
profile_report (f ∷ fs) [] = []
profile_report (f ∷ fs) (c ∷ cs) = codes "proc " ++ name_in f ++ codes ": " ++ decimal c.1 ++ 10 ∷ profile_report fs cs

-- a procedure with its calls: its name, the line of the first, and how many there were
abbrev pub Procedures : Type 0
Procedures = List (List ℕ × (ℕ × ℕ))

abbrev pub first_calls : Procedures → List Notice
first_calls ps = map (λ p. Called p.1.0 p.0) ps

-- the places of the first calls from `at` on, each with the number of the calls
abbrev pub counts_from : ℕ → Procedures → Counts
counts_from at [] = []
counts_from at (p ∷ ps) = (at, p.1.1) ∷ counts_from (suc at) ps

-- one call more
abbrev pub with_call : (line : ℕ) (name : List ℕ) → Procedures → Procedures
with_call line name [] = (name, (line, 1)) ∷ []
with_call line name (p ∷ ps) = cond (bytes_eq name p.0) ((p.0, (p.1.0, suc p.1.1)) ∷ ps) (p ∷ with_call line name ps)

-- the lines of these, and how many calls there were
abbrev pub lines_of : Procedures → List ℕ
lines_of [] = []
lines_of (p ∷ ps) = codes "proc " ++ p.0 ++ codes ": " ++ decimal p.1.1 ++ 10 ∷ lines_of ps

abbrev pub calls_in : Procedures → ℕ
calls_in [] = 0
calls_in (p ∷ ps) = p.1.1 + calls_in ps

-- the watcher with the name 3 that has these
abbrev pub profile : Procedures → Watch
profile ps = record {
  name = 3;
  state = record { events = first_calls ps; counts = counts_from 0 ps };
  move = λ n e. (profiled e n, false);
  report = λ n. profile_report n.events n.counts;
  count = λ n. all_counted n.counts;
  aim = λ line. no_notes;
}

-- ---- worked rows

abbrev calls_of : List (List ℕ) → Notes → Notes
calls_of [] n = n
calls_of (name ∷ names) n = calls_of names (profiled (Called 4 name) n)

-- each procedure once, by its first call
by_first_call : calls_of (codes "inc" ∷ codes "a" ∷ codes "inc" ∷ []) no_notes ≡ record { events = Called 4 (codes "inc") ∷ Called 4 (codes "a") ∷ []; counts = (0, 2) ∷ (1, 1) ∷ [] }
by_first_call = refl
