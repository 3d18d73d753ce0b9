-- What one command does to the output.
use Rattle.std.specs.Prelude.{◌≡◌, ◌⊎◌, ◌<◌, ℕ, List, [], Option, length, take}
use Rattle.std.specs.Io.KnownBytes.{Appends}
use Rattle.setl_io.specs.Faults.{Rose}
use Rattle.setl_debug.specs.Sessions.{Does, Follows}
use Rattle.setl_debug.specs.declared.sessions.Ended.{Ended}
use Rattle.setl_debug.specs.declared.sessions.Ended.TheVariants.{Done, WriteFault, NoMemory}
use Rattle.setl_debug_script.specs.declared.command.Command.{Command}
use Rattle.setl_debug_target.specs.Screens.{Screen}

-- commands were followed from no turns on, and what they tell was added
pub record IsFollowed (shows : ℕ → Screen → Type 0) (cs : List Command) (before after : Option (List ℕ)) (next : ℕ) : Type 0 where
  pub told : List ℕ
  pub follows : Follows shows cs 0 told next
  pub gained : Appends before after told

-- what it tells was added
pub record Steps (shows : ℕ → Screen → Type 0) (c : Command) (k : ℕ) (before after : Option (List ℕ)) (f g : ℕ) (next : ℕ) : Type 0 where
  pub told : List ℕ
  pub does : Does shows c k told next
  pub gained : Appends before after told
  pub count : g ≡ f

-- a part was added that isn't all of it
pub record IsPartly (shows : ℕ → Screen → Type 0) (c : Command) (k : ℕ) (before after : Option (List ℕ)) : Type 0 where
  pub told : List ℕ
  pub next : ℕ
  pub does : Does shows c k told next
  pub m : ℕ
  pub part : m < length told
  pub gained : Appends before after (take m told)

-- why it broke off
abbrev pub Breaks : (shows : ℕ → Screen → Type 0) (c : Command) (k : ℕ) (before after : Option (List ℕ)) (f g : ℕ) → Ended → Type 0
Breaks shows c k before after f g Done = ⊥
Breaks shows c k before after f g WriteFault = IsPartly shows c k before after × Rose f g
Breaks shows c k before after f g NoMemory = (Appends before after [] ⊎ IsPartly shows c k before after) × (g ≡ f)
