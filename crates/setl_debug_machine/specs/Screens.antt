-- The screen of a run after so many turns: what is seen of the last state of the program's meaning.
use Rattle.std.specs.Prelude.{◌≡◌, refl, ℕ, ◌-◌, ◌^◌, Bool, false, List, [], ◌∷◌, map, min, nat_eq, count_by, codes, None}
use Rattle.setl_model_runs.specs.Events.{Event, Called, Returned, Stored, Printed, Kept, Back, Forgot, End}
use Rattle.setl_model_runs.specs.Variable.{Own}
use Rattle.setl_program.specs.Program.{Program}
use Rattle.setl_model.specs.Means.{Means}
use Rattle.setl_watch.specs.Notices.{Notice, noticed}
use Rattle.setl_watch.specs.Profiles.{profile}
use Rattle.setl_watch.specs.Watches.{Watch, after, reported}
use Rattle.setl_debug_screen.specs.Shown.{IsShown}
use Rattle.setl_debug_target.specs.Screens.{Screen}

-- What is run: a program on an input, where its declarations count or not.
pub record PlainRun : Type 0 where
  pub program : Program
  pub input : List ℕ
  pub based : Bool

-- a watcher after it was told some events
abbrev pub after_all : Watch → List Notice → Watch
after_all w [] = w
after_all w (e ∷ es) = after_all (after w e) es

-- the lines of the calls in these events
abbrev pub profile_lines : List Event → List ℕ
profile_lines es = reported (after_all (profile []) (map noticed es))

-- whether it is a store at this line
abbrev pub is_store_at : ℕ → Event → Bool
is_store_at line (Stored at x v) = nat_eq at line
is_store_at line (Called at name) = false
is_store_at line (Returned name) = false
is_store_at line (Printed bytes) = false
is_store_at line Kept = false
is_store_at line Back = false
is_store_at line Forgot = false

-- how often a line was stored at in these events, up to 2^64 - 1
abbrev pub hits_in : List Event → ℕ → ℕ
hits_in es line = min (count_by (is_store_at line) es) (2 ^ 64 - 1)

-- The screen of the last state of the program's meaning with so many turns.
pub record IsScreen (r : PlainRun) (turns : ℕ) (s : Screen) : Type 0 where
  pub end : End
  pub means : Means r.program r.input turns r.based s.written end
  pub shown : IsShown r.program turns end means.last.core s.shown
  pub profile : s.profile ≡ profile_lines means.last.events
  pub hits : s.hits ≡ hits_in means.last.events

-- ---- worked rows

-- two calls of one procedure, the first at line 3, and one of another
calls : after_all (profile []) (map noticed (Called 3 (codes "inc") ∷ Called 4 (codes "dec") ∷ Called 9 (codes "inc") ∷ [])) ≡ profile ((codes "inc", (3, 2)) ∷ (codes "dec", (4, 1)) ∷ [])
calls = refl

-- a store at another line doesn't count
stores : hits_in (Stored 4 (Own 0 (codes "s")) None ∷ Stored 3 (Own 0 (codes "i")) None ∷ Stored 4 (Own 0 (codes "s")) None ∷ []) 4 ≡ 2
stores = refl
