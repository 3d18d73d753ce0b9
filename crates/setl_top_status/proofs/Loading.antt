-- What is seen of files after a load.
use Rattle.std.proofs.Common.{◌≡◌, ◌⊎◌, inl, inr, ℕ, List}
use Rattle.setl_io.specs.Files.{Texts, Names, Asked}
use Rattle.setl_io.specs.Faults.{Rose}
use Rattle.setl_top_status.specs.Seen.{SeenFiles, seen_files, LoadsOnce, FailsOnce, LoadsAtMost}

module _ {F : Type 0} (texts : F → Texts) (asked : F → Names) (faults : F → ℕ) (name : List ℕ) (old new : F) (same : texts new ≡ texts old) where
  abbrev before : SeenFiles
  before = seen_files texts asked faults old

  abbrev after : SeenFiles
  after = seen_files texts asked faults new

  pub loaded_once : Asked name (asked old) (asked new) → faults new ≡ faults old → LoadsOnce name before after
  loaded_once noted count = λ n. record { held = same n; asked = noted n; faults = count n }

  pub failed_once : Asked name (asked old) (asked new) → Rose (faults old) (faults new) → FailsOnce name before after
  failed_once noted count = λ n. record { held = same n; asked = noted n; faults = count n }

  pub loaded_at_most : Asked name (asked old) (asked new) ⊎ (asked new ≡ asked old) → faults new ≡ faults old → LoadsAtMost name before after
  loaded_at_most (inl noted) count = inl (loaded_once noted count)
  loaded_at_most (inr unnoted) count = inr (λ n. record { held = same n; asked = unnoted n; faults = count n })
