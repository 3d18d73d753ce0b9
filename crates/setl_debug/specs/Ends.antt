-- How a session ends, and what its output has gained then.
use Rattle.std.specs.Prelude.{◌≡◌, ◌⊎◌, ◌<◌, ℕ, List, ◌++◌, Option, Some, length, take, slice_get}
use Rattle.std.specs.Io.KnownBytes.{Appends}
use Rattle.setl_io.specs.Faults.{Rose}
use Rattle.setl_debug.specs.Sessions.{Does, Follows}
use Rattle.setl_debug.specs.declared.sessions.Ended.{Ended}
use Rattle.setl_debug.specs.declared.sessions.Ended.TheVariants.{Done, WriteFault, NoMemory}
use Rattle.setl_debug_script.specs.declared.command.Command.{Command}
use Rattle.setl_debug_target.specs.Screens.{Screen}

-- the commands were followed from no turns on, and what they tell was added
pub record IsDone (shows : ℕ → Screen → Type 0) (cs : List Command) (before after : Option (List ℕ)) : Type 0 where
  pub told : List ℕ
  pub next : ℕ
  pub follows : Follows shows cs 0 told next
  pub gained : Appends before after told

-- the first commands were followed, and no part of what the next one tells was added
pub record IsCut (shows : ℕ → Screen → Type 0) (cs : List Command) (before after : Option (List ℕ)) : Type 0 where
  pub n : ℕ
  pub done : IsDone shows (take n cs) before after

-- the first commands were followed, and of what the next one tells a part was added that isn't all of it
pub record IsCutInside (shows : ℕ → Screen → Type 0) (cs : List Command) (before after : Option (List ℕ)) : Type 0 where
  pub n : ℕ
  pub c : Command
  pub there : slice_get cs n ≡ Some c
  pub told : List ℕ
  pub k : ℕ
  pub follows : Follows shows (take n cs) 0 told k
  pub more : List ℕ
  pub next : ℕ
  pub does : Does shows c k more next
  pub m : ℕ
  pub part : m < length more
  pub gained : Appends before after (told ++ take m more)

-- what an end says of the output and of its count of faults
abbrev pub Ends : (shows : ℕ → Screen → Type 0) (cs : List Command) (before after : Option (List ℕ)) (faults_before faults_after : ℕ) → Ended → Type 0
Ends shows cs before after f g Done = IsDone shows cs before after × (g ≡ f)
Ends shows cs before after f g WriteFault = IsCutInside shows cs before after × Rose f g
Ends shows cs before after f g NoMemory = (IsCut shows cs before after ⊎ IsCutInside shows cs before after) × (g ≡ f)
