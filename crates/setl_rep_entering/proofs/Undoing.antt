-- Bases that grow and are taken back.
use Rattle.std.proofs.Common.{◌≡◌, ◌∙◌, ◌⊎◌, inl, inr, ℕ, zero, suc, ◌≤◌, arith, Bool, true, false, ◌||◌, List, [], ◌∷◌, ◌++◌, length, take, Option, None, Some, IsSome, refl, sym, ap, subst}
use Rattle.std.proofs.lemmas.Bool.{false≢true, or_left, or_right}
use Rattle.std.specs.Bool.{if◌then◌else◌}
use Rattle.std.specs.Option.{option_map_or, is_some}
use Rattle.setl_value.specs.Datum.{Datum}
use Rattle.setl_value.specs.code.DatumOf.{datum}
use Rattle.setl_base.specs.Base.{Member, empty, find, entered, undone, with_member}
use Rattle.setl_rep_bases.specs.declared.BaseId.{BaseId}
use Rattle.setl_rep_bases.specs.declared.tables.Instance.{Instance}
use Rattle.setl_rep_bases.specs.BaseId.{is_id}
use Rattle.setl_rep_bases.specs.Bases.{BasesState, instance_at, base_at, is_gone, IsThere, with_entered, with_undone, with_instance}
use Rattle.setl_rep_bases.specs.Reading.{InstancesArePut, NamesAreExact, BasesAgree}
use Rattle.setl_rep_entering.specs.declared.places.Place.{Place}
use Rattle.setl_rep_entering.specs.declared.enter.Mark.{Mark}
use Rattle.setl_rep_entering.specs.code.Growing.{all_placed, is_placed, ArePlacesThere, is_marked, AreMarks, AreMarked, all_undone, IsGrown, AreGrown, ChangeWithin}

-- ---- members in front

take_all : (ms : List Member) → take (length ms) ms ≡ ms
take_all [] = refl
take_all (m ∷ ms) = ap (λ l. m ∷ l) (take_all ms)

take_front : (n : ℕ) (ms : List Member) (m : Member) → n ≤ length ms → take n (ms ++ m ∷ []) ≡ take n ms
take_front zero ms m h = refl
take_front (suc n) [] m h = absurd (omega arith)
take_front (suc n) (x ∷ xs) m h = ap (λ l. x ∷ l) (take_front n xs m (omega arith))

pub front_length : (ms ns : List Member) → length ms ≤ length (ms ++ ns)
front_length [] ns = omega arith
front_length (x ∷ xs) ns = omega (arith, front_length xs ns)

-- ---- one instance

pub grown_itself : (o : Option Instance) → IsGrown o o
grown_itself None = tt
grown_itself (Some x) = (refl, omega arith, ap (λ l. record x.base { members = l }) (take_all x.base.members))

-- a value that is entered stands behind the members
grown_more : (o : Option Instance) (y : Instance) (d : Datum) → IsGrown o (Some y) → IsGrown o (Some (record { base = entered y.base d; gone = y.gone }))
grown_more None y d g = g
grown_more (Some x) y d g = let p = by (is_some (find y.base d)) in (g.0, p.0, p.1)
  where
    n : ℕ
    n = length x.base.members

    m : Member
    m = record { value = d; generation = y.base.cuts }

    by : (t : Bool)
        → (n ≤ length (if t then y.base.members else with_member y.base d)) × (undone (record y.base { members = if t then y.base.members else with_member y.base d }) n ≡ x.base)
    by true = (g.1, g.2)
    by false = (
      omega (arith, g.1, front_length y.base.members (m ∷ [])),
      ap (λ l. record y.base { members = l }) (take_front n y.base.members m g.1) ∙ g.2,
    )

-- one that is cut to the members that it had is as it was
cut_to_mark : (o p : Option Instance) (n : ℕ) → IsGrown o p → IsSome o → n ≡ length (option_map_or (λ x. x.base) o empty).members
    → Some (record { base = undone (option_map_or (λ x. x.base) p empty) n; gone = option_map_or (λ x. x.gone) p false }) ≡ o
cut_to_mark None p n g s e = absurd (false≢true s)
cut_to_mark (Some x) None n g s e = absurd g
cut_to_mark (Some x) (Some y) n g s e = λ k. Some (record { base = ((ap (undone y.base) e) ∙ g.2) k; gone = g.0 k })

long_enough : (o p : Option Instance) (n : ℕ) → IsGrown o p → n ≡ length (option_map_or (λ x. x.base) o empty).members → n ≤ length (option_map_or (λ x. x.base) p empty).members
long_enough None None n g e = omega (arith, e)
long_enough None (Some y) n g e = absurd g
long_enough (Some x) None n g e = absurd g
long_enough (Some x) (Some y) n g e = omega (arith, e, g.1)

grown_there : (o p : Option Instance) → IsGrown o p → IsSome o → IsSome p
grown_there None p g s = absurd (false≢true s)
grown_there (Some x) None g s = absurd g
grown_there (Some x) (Some y) g s = refl

-- ---- places that are entered

pub record IsEntering (bs now : BasesState) (rest all : List Place) : Type 0 where
  pub same : all_placed now rest ≡ all_placed bs all
  pub there : ArePlacesThere now rest
  pub grown : AreGrown bs now
  pub within : ChangeWithin all bs now
  pub from : (i : BaseId) → is_placed i rest ≡ true → is_placed i all ≡ true

pub grown_first : (bs : BasesState) → AreGrown bs bs
grown_first bs = record { count = refl; grown = λ i. grown_itself (instance_at bs i) }

pub starts_entering : (bs : BasesState) (all : List Place) → ArePlacesThere bs all → IsEntering bs bs all all
starts_entering bs all h = record {
  same = refl;
  there = h;
  grown = grown_first bs;
  within = λ i. inr refl;
  from = λ i e. e;
}

module _ (put : InstancesArePut) (exact : NamesAreExact) where
  stay_there : (now : BasesState) (i : BaseId) (x : Instance) (j : BaseId) → IsThere now j → IsThere (with_instance now i x) j
  stay_there now i x j s = subst IsSome (sym (put now i x j)) (by (is_id j i))
    where
      by : (t : Bool) → IsSome (if t then Some x else instance_at now j)
      by true = refl
      by false = s

  all_stay : (now : BasesState) (i : BaseId) (x : Instance) (ps : List Place) → ArePlacesThere now ps → ArePlacesThere (with_instance now i x) ps
  all_stay now i x [] h = tt
  all_stay now i x (p ∷ ps) h = (stay_there now i x p.base h.0, all_stay now i x ps h.1)

  pub grown_entered : (bs now : BasesState) (j : BaseId) (d : Datum) → IsThere now j → AreGrown bs now → AreGrown bs (with_entered now j d)
  grown_entered bs now j d there g = record { count = g.count; grown = λ i. by i (is_id i j) refl }
    where
      x : Instance
      x = record { base = entered (base_at now j) d; gone = is_gone now j }

      more : (o q : Option Instance) → IsSome q → IsGrown o q → IsGrown o (Some (record { base = entered (option_map_or (λ y. y.base) q empty) d; gone = option_map_or (λ y. y.gone) q false }))
      more o None s g = absurd (false≢true s)
      more o (Some y) s g = grown_more o y d g

      at : (i : BaseId) (t : Bool) → is_id i j ≡ t → instance_at (with_instance now j x) i ≡ (if t then Some x else instance_at now i)
      at i t h = put now j x i ∙ ap (λ b. if b then Some x else instance_at now i) h

      by : (i : BaseId) (t : Bool) → is_id i j ≡ t → IsGrown (instance_at bs i) (instance_at (with_instance now j x) i)
      by i true h =
          let m = more (instance_at bs j) (instance_at now j) there (g.grown j) in
          subst (IsGrown (instance_at bs i)) (sym (at i true h)) (subst (λ k. IsGrown (instance_at bs k) (Some x)) (sym ((exact i j).0 h)) m)
      by i false h = subst (IsGrown (instance_at bs i)) (sym (at i false h)) (g.grown i)

  pub enters : (bs now : BasesState) (p : Place) (rest all : List Place) → IsEntering bs now (p ∷ rest) all → IsEntering bs (with_entered now p.base (datum p.value)) rest all
  enters bs now p rest all e = record {
    same = e.same;
    there = all_stay now p.base x rest e.there.1;
    grown = grown_entered bs now p.base (datum p.value) e.there.0 e.grown;
    within = λ i. within i (is_id i p.base) refl;
    from = λ i h. e.from i (or_right (is_id i p.base) (is_placed i rest) h);
  }
    where
      x : Instance
      x = record { base = entered (base_at now p.base) (datum p.value); gone = is_gone now p.base }

      within : (i : BaseId) (t : Bool) → is_id i p.base ≡ t → (is_placed i all ≡ true) ⊎ (instance_at (with_instance now p.base x) i ≡ instance_at bs i)
      within i true h = inl (e.from i (or_left (is_id i p.base) (is_placed i rest) h))
      within i false h = changed (e.within i)
        where
          changed : (is_placed i all ≡ true) ⊎ (instance_at now i ≡ instance_at bs i) → (is_placed i all ≡ true) ⊎ (instance_at (with_instance now p.base x) i ≡ instance_at bs i)
          changed (inl q) = inl q
          changed (inr q) = inr (put now p.base x i ∙ ap (λ b. if b then Some x else instance_at now i) h ∙ q)

  -- ---- marks that are cut to

  pub grown_cut : (bs now : BasesState) (m : Mark) → IsThere bs m.base → m.mark.count ≡ length (base_at bs m.base).members → AreGrown bs now → AreGrown bs (with_undone now m.base m.mark.count)
  grown_cut bs now m s e g = record { count = g.count; grown = λ i. by i (is_id i m.base) refl }
    where
      x : Instance
      x = record { base = undone (base_at now m.base) m.mark.count; gone = is_gone now m.base }

      at : (i : BaseId) (t : Bool) → is_id i m.base ≡ t → instance_at (with_instance now m.base x) i ≡ (if t then Some x else instance_at now i)
      at i t h = put now m.base x i ∙ ap (λ b. if b then Some x else instance_at now i) h

      by : (i : BaseId) (t : Bool) → is_id i m.base ≡ t → IsGrown (instance_at bs i) (instance_at (with_instance now m.base x) i)
      by i true h =
          let is : Some x ≡ instance_at bs m.base = cut_to_mark (instance_at bs m.base) (instance_at now m.base) m.mark.count (g.grown m.base) s e in
          subst (IsGrown (instance_at bs i)) (sym (at i true h)) (subst (λ j. IsGrown (instance_at bs j) (Some x)) (sym ((exact i m.base).0 h)) (subst (IsGrown (instance_at bs m.base)) (sym is) (grown_itself (instance_at bs m.base))))
      by i false h = subst (IsGrown (instance_at bs i)) (sym (at i false h)) (g.grown i)

  -- once all marks were cut to, the bases are as they were
  pub restored : BasesAgree → (bs : BasesState) (ms : List Mark) (now : BasesState) → AreMarks bs ms → AreGrown bs now → ((i : BaseId) → (is_marked i ms ≡ true) ⊎ (instance_at now i ≡ instance_at bs i)) → all_undone now ms ≡ bs
  restored agree bs [] now a g w = agree now bs g.count (λ i. only (w i))
    where
      only : {A : Type 0} → (false ≡ true) ⊎ A → A
      only (inl h) = absurd (false≢true h)
      only (inr h) = h
  restored agree bs (m ∷ ms) now a g w = restored agree bs ms (with_undone now m.base m.mark.count) a.1 (grown_cut bs now m a.0.0 a.0.1 g) (λ i. by i (is_id i m.base) refl (w i))
    where
      x : Instance
      x = record { base = undone (base_at now m.base) m.mark.count; gone = is_gone now m.base }

      at : (i : BaseId) (t : Bool) → is_id i m.base ≡ t → instance_at (with_instance now m.base x) i ≡ (if t then Some x else instance_at now i)
      at i t h = put now m.base x i ∙ ap (λ b. if b then Some x else instance_at now i) h

      by : (i : BaseId) (t : Bool) → is_id i m.base ≡ t → ((t || is_marked i ms) ≡ true) ⊎ (instance_at now i ≡ instance_at bs i)
          → (is_marked i ms ≡ true) ⊎ (instance_at (with_instance now m.base x) i ≡ instance_at bs i)
      by i true h q =
          let is : Some x ≡ instance_at bs m.base = cut_to_mark (instance_at bs m.base) (instance_at now m.base) m.mark.count (g.grown m.base) a.0.0 a.0.1 in
          inr (at i true h ∙ is ∙ ap (instance_at bs) (sym ((exact i m.base).0 h)))
      by i false h (inl q) = inl q
      by i false h (inr q) = inr (at i false h ∙ q)

pub record IsUndoing (old now : BasesState) (rest all : List Mark) : Type 0 where
  pub same : all_undone now rest ≡ all_undone old all
  pub marks : (bs : BasesState) × AreMarks bs rest × AreGrown bs now

pub mark_there : (bs now : BasesState) (m : Mark) → IsThere bs m.base → AreGrown bs now → IsThere now m.base
mark_there bs now m s g = grown_there (instance_at bs m.base) (instance_at now m.base) (g.grown m.base) s

pub mark_within : (bs now : BasesState) (m : Mark) → m.mark.count ≡ length (base_at bs m.base).members → AreGrown bs now → m.mark.count ≤ length (base_at now m.base).members
mark_within bs now m e g = long_enough (instance_at bs m.base) (instance_at now m.base) m.mark.count (g.grown m.base) e

pub undoes : InstancesArePut → NamesAreExact → (old now : BasesState) (m : Mark) (rest all : List Mark) → IsUndoing old now (m ∷ rest) all → IsUndoing old (with_undone now m.base m.mark.count) rest all
undoes put exact old now m rest all u = record {
  same = u.same;
  marks = (u.marks.0, u.marks.1.1, grown_cut put exact u.marks.0 now m u.marks.1.0.0 u.marks.1.0.1 u.marks.2);
}

-- the places that were entered lie in instances with marks
pub taken_back : InstancesArePut → NamesAreExact → BasesAgree → (bs now : BasesState) (ms : List Mark) (ps : List Place) → AreMarks bs ms → AreMarked ms ps → AreGrown bs now → ChangeWithin ps bs now → all_undone now ms ≡ bs
taken_back put exact agree bs now ms ps a k g w = restored put exact agree bs ms now a g (λ i. by i (w i))
  where
    by : (i : BaseId) → (is_placed i ps ≡ true) ⊎ (instance_at now i ≡ instance_at bs i) → (is_marked i ms ≡ true) ⊎ (instance_at now i ≡ instance_at bs i)
    by i (inl h) = inl (k i h)
    by i (inr h) = inr h
