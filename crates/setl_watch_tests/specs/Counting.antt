-- A watcher that counts what it is told.
use Rattle.std.specs.Prelude.{ℕ, Bool, false, List, [], ◌∷◌, ◌+◌, nat_le}
use Rattle.setl_watch.specs.Notices.{Notice}
use Rattle.setl_watch.specs.Watches.{Notes, Watch}

-- one event more than so many, of which so many are enough
abbrev told_once : List (ℕ × ℕ) → List (ℕ × ℕ) × Bool
told_once [] = ([], false)
told_once (c ∷ cs) = ((c.0 + 1, c.1) ∷ cs, nat_le c.1 (c.0 + 1))

abbrev name_and_count : ℕ → List (ℕ × ℕ) → List ℕ
name_and_count name [] = []
name_and_count name (c ∷ cs) = name ∷ c.0 ∷ []

abbrev count_in : List (ℕ × ℕ) → ℕ
count_in [] = 0
count_in (c ∷ cs) = c.0

-- it was told so many events, has enough at so many, and reports its name and its count
abbrev pub counting : ℕ → ℕ → ℕ → Watch
counting name told most = record {
  name = name;
  state = record { events = []; counts = (told, most) ∷ [] };
  move = λ n e. (record { events = []; counts = (told_once n.counts).0 }, (told_once n.counts).1);
  report = λ n. name_and_count name n.counts;
  count = λ n. count_in n.counts;
  aim = λ line. record { events = []; counts = (0, most) ∷ [] };
}
