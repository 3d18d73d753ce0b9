-- What the commands of a script tell, over the screens that a run shows after so many turns.
use Rattle.std.specs.Prelude.{◌≡◌, ◌⊎◌, ◌<◌, ◌≤◌, ◌+◌, ◌-◌, ◌^◌, ℕ, List, [], ◌∷◌, ◌++◌, min, codes}
use Rattle.setl_debug_script.specs.declared.command.Command.{Command}
use Rattle.setl_debug_script.specs.declared.command.Command.TheVariants.{Input, Go, On, Back, Until, Show, Out, Profile, Nothing}
use Rattle.setl_debug_target.specs.Screens.{Screen}

-- the greatest number of turns
abbrev pub most_turns : ℕ
most_turns = 2 ^ 63 - 1

-- how far `until` looks from k turns on
abbrev pub far_end : ℕ → ℕ
far_end k = min (k + 2 ^ 20) most_turns

-- at no number of turns above k and up to `end` a line was stored at more often than on this screen
abbrev pub NoneMore : (shows : ℕ → Screen → Type 0) (line : ℕ) → Screen → (k end : ℕ) → Type 0
NoneMore shows line now k end = (j : ℕ) (s : Screen) → k < j → j ≤ end → shows j s → s.hits line ≤ now.hits line

-- the least number of turns above k, and not too far, at which a line was stored at more often than at k
pub record FirstHit (shows : ℕ → Screen → Type 0) (line k next : ℕ) : Type 0 where
  pub now : Screen
  pub then : Screen
  pub shown_now : shows k now
  pub shown_then : shows next then
  pub later : k < next
  pub near : next ≤ far_end k
  pub more : now.hits line < then.hits line
  pub first : NoneMore shows line now k (next - 1)

-- there is none
pub record NoHit (shows : ℕ → Screen → Type 0) (line k : ℕ) : Type 0 where
  pub now : Screen
  pub shown_now : shows k now
  pub none : NoneMore shows line now k (far_end k)

-- a part of a screen of the run at k turns
abbrev pub IsPart : (shows : ℕ → Screen → Type 0) → (Screen → List ℕ) → ℕ → List ℕ → Type 0
IsPart shows part k told = (s : Screen) × shows k s × (told ≡ part s)

-- What a command tells after k turns, and after how many turns the session stands then.
abbrev pub Does : (shows : ℕ → Screen → Type 0) → Command → (k : ℕ) (told : List ℕ) (next : ℕ) → Type 0
Does shows (Input text) k told next = (told ≡ []) × (next ≡ k)
Does shows (Go turns) k told next = (told ≡ []) × (next ≡ turns)
Does shows (On turns) k told next = (told ≡ []) × (next ≡ min (k + turns) most_turns)
Does shows (Back turns) k told next = (told ≡ []) × (next ≡ k - turns)
Does shows (Until line) k told next = ((told ≡ []) × FirstHit shows line k next) ⊎ ((told ≡ codes "no hit\n") × (next ≡ k) × NoHit shows line k)
Does shows Show k told next = (next ≡ k) × IsPart shows (λ s. s.shown) k told
Does shows Out k told next = (next ≡ k) × IsPart shows (λ s. s.written) k told
Does shows Profile k told next = (next ≡ k) × IsPart shows (λ s. s.profile) k told
Does shows Nothing k told next = (told ≡ []) × (next ≡ k)

-- What commands tell in their order.
abbrev pub Follows : (shows : ℕ → Screen → Type 0) → List Command → (k : ℕ) (told : List ℕ) (next : ℕ) → Type 0
Follows shows [] k told next = (told ≡ []) × (next ≡ k)
Follows shows (c ∷ cs) k told next = (first : List ℕ) × (rest : List ℕ) × (middle : ℕ) × Does shows c k first middle × Follows shows cs middle rest next × (told ≡ first ++ rest)
