-- What a watcher is told of the events of a run.
use Rattle.std.specs.Prelude.{◌≡◌, refl, ℕ, List, [], ◌∷◌, Option, Some, codes, pos}
use Rattle.setl_value.specs.Datum.{Datum, int}
use Rattle.setl_model_runs.specs.Variable.{Own, name_of}
use Rattle.setl_model_runs.specs.Events as run

-- An event with a name in place of a variable, and a line without its last byte.
pub data Notice : Type 0 where
  Called : (line : ℕ) (name : List ℕ) → Notice
  Returned : (name : List ℕ) → Notice
  Stored : (line : ℕ) (name : List ℕ) (value : Option Datum) → Notice
  Printed : (bytes : List ℕ) → Notice
  Kept Back Forgot : Notice

-- the list without its last member
abbrev pub without_last : List ℕ → List ℕ
without_last [] = []
without_last (b ∷ []) = []
without_last (b ∷ c ∷ bs) = b ∷ without_last (c ∷ bs)

-- what is told of an event of a run
abbrev pub noticed : run.Event → Notice
noticed (run.Called line name) = Called line name
noticed (run.Returned name) = Returned name
noticed (run.Stored line x v) = Stored line (name_of x) v
noticed (run.Printed bytes) = Printed (without_last bytes)
noticed run.Kept = Kept
noticed run.Back = Back
noticed run.Forgot = Forgot

-- a store is told by the name that the source has, and a line without byte 10
a_store : noticed (run.Stored 3 (Own 1 (codes "a")) (Some (int (pos 5)))) ≡ Stored 3 (codes "a") (Some (int (pos 5)))
a_store = refl

a_line : noticed (run.Printed (codes "1 2\n")) ≡ Printed (codes "1 2")
a_line = refl
