-- What was kept stays what it is while the bases grow, and what `back` cuts is what the kept one was read over. Nothing here
-- knows what a form is.
--
-- These theorems speak of all forms and predicates, which no clause can, so they stand here and are cited from here. What
-- they ask of cuts is what `setl_rep_bases::laws::cuts_are_exact` tells, and `back_to` there cuts the bases to their marks.
use Rattle.std.proofs.Common.{◌≡◌, ◌≢◌, ◌∙◌, ℕ, zero, suc, ◌+◌, ◌≤◌, List, [], ◌∷◌, set, refl, ap, sym, subst, arith}
use Rattle.setl_rep_bases.specs.Bases.{BasesState}
use Rattle.setl_rep_bases.specs.Keeping.{AreKept}
use Rattle.setl_rep_bases.specs.Marks.{Marks, marks_of, cut_all, AreWithin}
use Rattle.setl_store_kept.specs.Kept.{shown, AllStand, kept_shown, KeptSound}
use Rattle.setl_rep_bases.specs.Cutting.{NothingIsCut, GrownBasesAreCutAlike}

module _ {C K Q : Type 0} (marks : K → Marks) (read : BasesState → C × K → Q) (sound : BasesState → C → Type 0) where
  -- What is sound over bases stands for the same, and is sound, over all in which their instances and blocks are kept. It is
  -- all that is asked of forms.
  abbrev pub ReadsBlocks : Type 0
  ReadsBlocks = (bs cs : BasesState) (k : C × K) → AreKept bs cs → sound bs k.0 → (read cs k ≡ read bs k) × sound cs k.0

  -- kept ones over other bases: they stand for the same, and are sound
  pub record KeptSame (bs cs : BasesState) (ks : List (C × K)) : Type 0 where
    pub same : kept_shown marks read cs ks ≡ kept_shown marks read bs ks
    pub still : KeptSound marks sound cs ks

  -- over bases that grew
  pub kept_same : GrownBasesAreCutAlike → ReadsBlocks → (bs cs : BasesState) (ks : List (C × K)) → AreKept bs cs → KeptSound marks sound bs ks → KeptSame bs cs ks
  kept_same alike reads bs cs [] more h = record { same = refl; still = tt }
  kept_same alike reads bs cs (k ∷ ks) more h =
      let b = cut_all bs (marks k.1) in
      let c = cut_all cs (marks k.1) in
      let cut = alike bs cs (marks k.1) more h.0 in
      let here = reads b c k cut.0 h.1 in
      let rest = kept_same alike reads b c ks cut.0 h.2 in
      record {
        same = ap (λ x. x ∷ kept_shown marks read c ks) here.0 ∙ ap (λ l. read b k ∷ l) rest.same;
        still = (cut.1, here.1, rest.still);
      }

  -- `keep`: what is there is sound over the bases cut to what they have, and stands for what it does now
  pub record OneMore (bs : BasesState) (k : C × K) (ks : List (C × K)) : Type 0 where
    pub same : kept_shown marks read bs (k ∷ ks) ≡ read bs k ∷ kept_shown marks read bs ks
    pub sound_too : KeptSound marks sound bs (k ∷ ks)

  pub one_more_kept : NothingIsCut → (bs : BasesState) (k : C × K) (ks : List (C × K)) → marks k.1 ≡ marks_of bs → sound bs k.0 → KeptSound marks sound bs ks → OneMore bs k ks
  one_more_kept none bs k ks is now h =
      let whole : cut_all bs (marks k.1) ≡ bs = ap (cut_all bs) is ∙ (none bs).0 in
      record {
        same = ap (λ ds. read ds k ∷ kept_shown marks read ds ks) whole;
        sound_too = (subst (λ ms. AreWithin ms bs) (sym is) (none bs).1, subst (λ ds. sound ds k.0) (sym whole) now, subst (λ ds. KeptSound marks sound ds ks) (sym whole) h);
      }

  -- `back`: what was kept last is sound over the bases that were cut, since it was read over these, and it and the older ones
  -- stand for what they did
  pub record Brought (bs cs : BasesState) (k : C × K) (ks : List (C × K)) : Type 0 where
    pub same : kept_shown marks read bs (k ∷ ks) ≡ read cs k ∷ kept_shown marks read cs ks
    pub now : sound cs k.0
    pub older : KeptSound marks sound cs ks

  pub sound_back : GrownBasesAreCutAlike → ReadsBlocks → (bs cs : BasesState) (k : C × K) (ks : List (C × K)) → AreKept (cut_all bs (marks k.1)) cs → KeptSound marks sound bs (k ∷ ks) → Brought bs cs k ks
  sound_back alike reads bs cs k ks more h =
      let b = cut_all bs (marks k.1) in
      let here = reads b cs k more h.1 in
      let rest = kept_same alike reads b cs ks more h.2 in
      record {
        same = ap (λ x. x ∷ kept_shown marks read b ks) (sym here.0) ∙ ap (λ l. read cs k ∷ l) (sym rest.same);
        now = here.1;
        older = rest.still;
      }

module _ {S P Fs : Type 0} (denoted : BasesState → Fs → ℕ → S → P) (Stands : BasesState → Fs → ℕ → S → Type 0) where
  -- a form over other bases and fields
  pub record Stays (bs cs : BasesState) (fs gs : Fs) (k : ℕ) (s : S) : Type 0 where
    pub same : denoted cs gs k s ≡ denoted bs fs k s
    pub stands : Stands cs gs k s

  pub record AllStay (bs cs : BasesState) (fs gs : Fs) (k : ℕ) (ss : List S) : Type 0 where
    pub same : shown denoted cs gs k ss ≡ shown denoted bs fs k ss
    pub stand : AllStand Stands cs gs k ss

  all_stay : (bs cs : BasesState) (fs gs : Fs) (k : ℕ) (ss : List S) → ((j : ℕ) (s : S) → k ≤ j → Stands bs fs j s → Stays bs cs fs gs j s) → AllStand Stands bs fs k ss → AllStay bs cs fs gs k ss
  all_stay bs cs fs gs k [] stays h = record { same = refl; stand = tt }
  all_stay bs cs fs gs k (s ∷ ss) stays h =
      let here = stays k s (omega arith) h.0 in
      let rest = all_stay bs cs fs gs (suc k) ss (λ j t less. stays j t (omega (arith, less))) h.1 in
      record {
        same = ap (λ p. p ∷ shown denoted cs gs (suc k) ss) here.same ∙ ap (λ l. denoted bs fs k s ∷ l) rest.same;
        stand = (here.stands, rest.stand);
      }

  -- all slots but one stand for what they did, and this one for v
  pub record PutAt (bs cs : BasesState) (fs gs : Fs) (k n : ℕ) (old new : List S) (v : P) : Type 0 where
    pub same : shown denoted cs gs k new ≡ set (shown denoted bs fs k old) n v
    pub stand : AllStand Stands cs gs k new

  -- A form that stands for v is put into a slot, over bases that grew and fields that changed, where each other form stays.
  pub put_at : (bs cs : BasesState) (fs gs : Fs) (k n i : ℕ) (ss : List S) (s : S) (v : P) → i ≡ k + n → ((j : ℕ) (t : S) → j ≢ i → Stands bs fs j t → Stays bs cs fs gs j t) →
      denoted cs gs i s ≡ v → Stands cs gs i s → AllStand Stands bs fs k ss → PutAt bs cs fs gs k n ss (set ss n s) v
  put_at bs cs fs gs k n i [] s v is stays new stands h = record { same = refl; stand = tt }
  put_at bs cs fs gs k zero i (t ∷ ss) s v is stays new stands h =
      let at : i ≡ k = omega (arith, is) in
      let rest = all_stay bs cs fs gs (suc k) ss (λ j u less. stays j u (λ e. omega (arith, less, e, at))) h.1 in
      record {
        same = ap (λ l. l ∷ shown denoted cs gs (suc k) ss) (ap (λ j. denoted cs gs j s) (sym at) ∙ new) ∙ ap (λ l. v ∷ l) rest.same;
        stand = (subst (λ j. Stands cs gs j s) at stands, rest.stand);
      }
  put_at bs cs fs gs k (suc n) i (t ∷ ss) s v is stays new stands h =
      let here = stays k t (λ e. omega (arith, is, e)) h.0 in
      let rest = put_at bs cs fs gs (suc k) n i ss s v (omega (arith, is)) stays new stands h.1 in
      record {
        same = ap (λ p. p ∷ shown denoted cs gs (suc k) (set ss n s)) here.same ∙ ap (λ l. denoted bs fs k t ∷ l) rest.same;
        stand = (here.stands, rest.stand);
      }

module _ {S P Fs C K Q : Type 0} (denoted : BasesState → Fs → ℕ → S → P) (Stands : BasesState → Fs → ℕ → S → Type 0)
    (marks : K → Marks) (read : BasesState → C × K → Q) (sound : BasesState → C → Type 0) where
  -- Every change of a store: a form is put into a slot, over bases that grew and fields that changed. One variable is
  -- another, and all else is as before, what was kept too.
  pub record IsPut (bs cs : BasesState) (fs gs : Fs) (n : ℕ) (old new : List S) (v : P) (ks : List (C × K)) : Type 0 where
    pub now : PutAt denoted Stands bs cs fs gs 0 n old new v
    pub kept : KeptSame marks read sound bs cs ks

  pub put : GrownBasesAreCutAlike → ReadsBlocks marks read sound → (bs cs : BasesState) (fs gs : Fs) (n : ℕ) (ss : List S) (s : S) (v : P) (ks : List (C × K)) →
      AreKept bs cs → ((j : ℕ) (t : S) → j ≢ n → Stands bs fs j t → Stays denoted Stands bs cs fs gs j t) → denoted cs gs n s ≡ v → Stands cs gs n s →
      AllStand Stands bs fs 0 ss → KeptSound marks sound bs ks → IsPut bs cs fs gs n ss (set ss n s) v ks
  put alike reads bs cs fs gs n ss s v ks more stays new stands h kept = record {
    now = put_at denoted Stands bs cs fs gs 0 n n ss s v (omega arith) stays new stands h;
    kept = kept_same marks read sound alike reads bs cs ks more kept;
  }
