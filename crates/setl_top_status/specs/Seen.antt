-- What is seen of the objects of the outside at one moment.
use Rattle.std.specs.Prelude.{◌≡◌, ◌⊎◌, ℕ, List, [], ◌∷◌, Option}
use Rattle.std.specs.Option.{option_map}
use Rattle.setl_io.specs.Faults.{Rose, one_more}
use Rattle.setl_io.specs.Files.{Texts, Names}

-- ---- streams

-- what it holds, and how many calls of an input there were or how many pieces an output was handed, where it tells that; and its
-- count of faults
pub record Seen (A : Type 0) : Type 0 where
  pub held : Option A
  pub calls : Option ℕ
  pub faults : ℕ

-- what is seen of it by these words of its trait
abbrev pub seen : {T A : Type 0} → (T → Option A) → (T → Option ℕ) → (T → ℕ) → T → Seen A
seen held calls faults object = record { held = held object; calls = calls object; faults = faults object }

-- one fault was counted
abbrev pub CountRose : {A : Type 0} → (before after : Seen A) → Type 0
CountRose before after = Rose before.faults after.faults

-- its count of faults is as before
abbrev pub CountStays : {A : Type 0} → (before after : Seen A) → Type 0
CountStays before after = after.faults ≡ before.faults

-- a count of pieces after this text was handed over as one, and not at all where it is empty
abbrev pub one_piece : List ℕ → Option ℕ → Option ℕ
one_piece [] count = count
one_piece (byte ∷ text) count = option_map one_more count

-- ---- files

-- the texts by name, and the names that were asked for, the latest first, where files tell them; and their count of faults
pub record SeenFiles : Type 0 where
  pub held : Texts
  pub asked : Names
  pub faults : ℕ

abbrev pub seen_files : {T : Type 0} → (T → Texts) → (T → Names) → (T → ℕ) → T → SeenFiles
seen_files held asked faults object = record { held = held object; asked = asked object; faults = faults object }

-- they were asked for this name once, without a fault
abbrev pub LoadsOnce : List ℕ → (before after : SeenFiles) → Type 0
LoadsOnce name before after = after ≡ record before { asked = option_map (λ names. name ∷ names) before.asked }

-- they were asked for this name once, and this was a fault
abbrev pub FailsOnce : List ℕ → (before after : SeenFiles) → Type 0
FailsOnce name before after = after ≡ record before { asked = option_map (λ names. name ∷ names) before.asked; faults = one_more before.faults }

-- they were asked for this name once at most, without a fault
abbrev pub LoadsAtMost : List ℕ → (before after : SeenFiles) → Type 0
LoadsAtMost name before after = LoadsOnce name before after ⊎ (after ≡ before)
