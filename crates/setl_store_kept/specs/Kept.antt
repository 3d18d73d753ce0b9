-- What was kept, over bases that go on growing. Nothing here knows what a form is: S are the forms, Fs what fields hold, P
-- plain data, `denoted` what a form in the k-th slot stands for, and `Stands` says where its handles live. C is what is kept,
-- and K what is kept beside it.
--
-- Each kept one is read over the bases cut to its marks, one cut after the other, the latest first. So `back` makes the bases
-- over which it is read the present ones, and it stands for the same by definition.
use Rattle.std.specs.Prelude.{ℕ, suc, List, [], ◌∷◌}
use Rattle.setl_rep_bases.specs.Bases.{BasesState}
use Rattle.setl_rep_bases.specs.Marks.{Marks, cut_all, AreWithin}

module _ {S P Fs : Type 0} (denoted : BasesState → Fs → ℕ → S → P) where
  -- what slots stand for, which begin with the k-th
  abbrev pub shown : BasesState → Fs → ℕ → List S → List P
  shown bs fs k [] = []
  shown bs fs k (s ∷ ss) = denoted bs fs k s ∷ shown bs fs (suc k) ss

module _ {S Fs : Type 0} (Stands : BasesState → Fs → ℕ → S → Type 0) where
  abbrev pub AllStand : BasesState → Fs → ℕ → List S → Type 0
  AllStand bs fs k [] = Unit {0}
  AllStand bs fs k (s ∷ ss) = Stands bs fs k s × AllStand bs fs (suc k) ss

module _ {C K : Type 0} (marks : K → Marks) where
  -- what kept ones stand for, where `read` says it of one over bases
  abbrev pub kept_shown : {Q : Type 0} → (BasesState → C × K → Q) → BasesState → List (C × K) → List Q
  kept_shown read bs [] = []
  kept_shown read bs (k ∷ ks) = read (cut_all bs (marks k.1)) k ∷ kept_shown read (cut_all bs (marks k.1)) ks

  -- each kept one is sound over the bases cut to its marks
  abbrev pub KeptSound : (BasesState → C → Type 0) → BasesState → List (C × K) → Type 0
  KeptSound sound bs [] = Unit {0}
  KeptSound sound bs (k ∷ ks) = AreWithin (marks k.1) bs × sound (cut_all bs (marks k.1)) k.0 × KeptSound sound (cut_all bs (marks k.1)) ks
