-- The bases of a composite mode are those of its parts.
use Rattle.std.proofs.Common.{◌≡◌, ◌∙◌, ℕ, Bool, true, false, ◌||◌, ◌&&◌, List, ⊎_elim, refl, sym, ap, subst, eqb-true, eq-eqb}
use Rattle.std.proofs.lemmas.Bool.{false≢true, or_left, or_right, or_cases}
use Rattle.setl_modes.specs.Modes.{Mode, General, Integers, Strings, Booleans, Atoms, Elements, Sets, Tuples, SingleMaps, MultiMaps}
use Rattle.setl_modes_places.specs.Places.{names}
use Rattle.setl_rep_bases.specs.Bases.{BasesState, named, IsThere}
use Rattle.setl_rep_bases.specs.declared.BaseId.{BaseId}
use Rattle.setl_rep_entering.specs.declared.enter.Mark.{Mark}
use Rattle.setl_rep_entering.specs.Entering.{is_named, BasesAreThere}
use Rattle.setl_rep_entering.specs.code.Finding.{has_places}
use Rattle.setl_rep_entering.specs.code.Growing.{is_marked}

module _ (bs : BasesState) (n : ℕ) where
  pub of_element : (b : ℕ) (m : Mode) → BasesAreThere bs n (Elements b m) → IsThere bs (named bs n b)
  of_element b m h = h b (eq-eqb b b refl)

  pub for_element : (b : ℕ) (m : Mode) → IsThere bs (named bs n b) → BasesAreThere bs n (Elements b m)
  for_element b m h c e = subst (λ k. IsThere bs (named bs n k)) (eqb-true b c e) h

  pub of_both : (d r : Mode) → ((b : ℕ) → (names b d || names b r) ≡ true → IsThere bs (named bs n b)) → BasesAreThere bs n d × BasesAreThere bs n r
  of_both d r h = (λ b e. h b (or_left (names b d) (names b r) e), λ b e. h b (or_right (names b d) (names b r) e))

  pub for_both : (d r : Mode) → BasesAreThere bs n d → BasesAreThere bs n r → (b : ℕ) → (names b d || names b r) ≡ true → IsThere bs (named bs n b)
  for_both d r h k b e = ⊎_elim (λ f. h b f) (λ f. k b f) (or_cases (names b d) (names b r) e)

-- a mode without places names no base
or_none : (a b : Bool) → (a || b) ≡ false → (a ≡ false) × (b ≡ false)
or_none true b h = absurd (false≢true (sym h))
or_none false b h = (refl, h)

both_none : {a b : Bool} → a ≡ false → b ≡ false → (a || b) ≡ false
both_none p q = λ i. p i || q i

pub names_none : (m : Mode) → has_places m ≡ false → (b : ℕ) → names b m ≡ false
names_none (Elements c m) h b = absurd (false≢true (sym h))
names_none (Sets f m) h b = names_none m h b
names_none (Tuples m) h b = names_none m h b
names_none (SingleMaps f d r) h b = let p = or_none (has_places d) (has_places r) h in both_none (names_none d p.0 b) (names_none r p.1 b)
names_none (MultiMaps f d s) h b = let p = or_none (has_places d) (has_places s) h in both_none (names_none d p.0 b) (names_none s p.1 b)
names_none General h b = refl
names_none Integers h b = refl
names_none Strings h b = refl
names_none Booleans h b = refl
names_none Atoms h b = refl

-- the marks of two modes one after the other
both_marked : (t n x y : Bool) → ((t || (n && x)) || (n && y)) ≡ (t || (n && (x || y)))
both_marked true n x y = refl
both_marked false false x y = refl
both_marked false true x y = refl

pub marked_both : (bs : BasesState) (n : ℕ) (d r : Mode) (old mid new : List Mark) → ((i : BaseId) → is_marked i mid ≡ (is_marked i old || (is_named bs n i && names i.base d)))
    → ((i : BaseId) → is_marked i new ≡ (is_marked i mid || (is_named bs n i && names i.base r))) → (i : BaseId) → is_marked i new ≡ (is_marked i old || (is_named bs n i && (names i.base d || names i.base r)))
marked_both bs n d r old mid new h k i =
    k i ∙ ap (λ t. t || (is_named bs n i && names i.base r)) (h i) ∙ both_marked (is_marked i old) (is_named bs n i) (names i.base d) (names i.base r)
