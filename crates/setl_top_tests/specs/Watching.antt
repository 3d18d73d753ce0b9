-- A watcher that has enough at its first event.
use Rattle.std.specs.Prelude.{ℕ, true, List, [], ◌∷◌, ◌+◌}
use Rattle.setl_watch.specs.Watches.{Watch}

-- one event more
abbrev more : List (ℕ × ℕ) → List (ℕ × ℕ)
more [] = []
more (c ∷ cs) = (c.0 + 1, c.1) ∷ cs

-- the digit of the number of events, and a line end
abbrev digit_line : List (ℕ × ℕ) → List ℕ
digit_line [] = []
digit_line (c ∷ cs) = (c.0 + 48) ∷ 10 ∷ []

abbrev told_in : List (ℕ × ℕ) → ℕ
told_in [] = 0
told_in (c ∷ cs) = c.0

-- it has the name 1, was told so many events, and reports their number
abbrev pub at_once : ℕ → Watch
at_once told = record {
  name = 1;
  state = record { events = []; counts = (told, 0) ∷ [] };
  move = λ n e. (record { events = []; counts = more n.counts }, true);
  report = λ n. digit_line n.counts;
  count = λ n. told_in n.counts;
  aim = λ line. record { events = []; counts = (0, 0) ∷ [] };
}
