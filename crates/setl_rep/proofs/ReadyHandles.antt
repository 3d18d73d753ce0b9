-- Elements and tuples that are held in the form of a mode already.
use Rattle.std.proofs.Common.{◌≡◌, ◌∙◌, ℕ, Bool, true, false, ◌==◌, inl, inr, cond, List, [], ◌∷◌, ◌++◌, Option, None, Some, IsSome, refl, sym, ap, subst, eqb-true}
use Rattle.std.specs.List.{flat_map, list_all}
use Rattle.std.specs.Ordering.{is_eq}
use Rattle.std.proofs.lemmas.Bool.{false≢true, or_cases}
use Rattle.setl_value.specs.Datum.{Datum, tuple_of, part_list-parts_of}
use Rattle.setl_value.specs.Order.{datum_cmp}
use Rattle.setl_value.specs.OrderLaws.{same_if_eq}
use Rattle.setl_set.specs.Sets.{has_datum}
use Rattle.setl_modes.specs.Fits.{datum_fits, part_fits}
use Rattle.setl_modes.specs.Modes.{Mode, Elements, Tuples}
use Rattle.setl_modes_places.specs.Places.{elements_at, at_part}
use Rattle.setl_base.specs.declared.Elt.{Elt}
use Rattle.setl_base.specs.Base.{BaseState, IsBase, find, value_of}
use Rattle.setl_rep_bases.specs.declared.BaseId.{BaseId}
use Rattle.setl_rep_bases.specs.Bases.{BasesState, base_at, named}
use Rattle.setl_rep_forms.specs.Form.{element, handles}
use Rattle.setl_rep_forms.specs.Stands.{parts_at}
use Rattle.setl_rep_entering.specs.Laws.{PlacesAreFound}
use Rattle.setl_rep.specs.OwnForm.{IsReady}

-- what is found at a place of an element is its value
of_element : (x d : Datum) → has_datum x (d ∷ []) ≡ true → x ≡ d
of_element x d h = elim (or_cases (is_eq (datum_cmp x d)) false h) [ inl e ↦ same_if_eq x d e | inr e ↦ absurd (false≢true e) ]

-- the value of a living handle is a member
is_found : (b : BaseState) (e : Elt) (x d : Datum) → IsBase b → value_of b e ≡ Some d → x ≡ d → IsSome (find b x)
is_found b e x d base is same = subst (λ o. IsSome o) (sym (ap (find b) same ∙ base.found e d is)) refl

module _ (bs : BasesState) (n : ℕ) (c : ℕ) (k : Mode) (b : BaseId) (base : IsBase (base_at bs b)) (name : named bs n c ≡ b) where
  at_base : (i : ℕ) (x : Datum) → (c == i) ≡ true → IsSome (find (base_at bs b) x) → IsSome (find (base_at bs (named bs n i)) x)
  at_base i x same h = subst (λ j. IsSome (find (base_at bs j) x)) (sym name ∙ ap (named bs n) (eqb-true c i same)) h

  -- ---- an element

  element_found : (e : Elt) (d : Datum) → value_of (base_at bs b) e ≡ Some d → PlacesAreFound bs n (Elements c k) d
  element_found e d is i x h = by (c == i) refl h
    where
      by : (t : Bool) → (c == i) ≡ t → has_datum x (cond t (d ∷ []) []) ≡ true → IsSome (find (base_at bs (named bs n i)) x)
      by true same h = at_base i x same (is_found (base_at bs b) e x d base is (of_element x d h))
      by false same h = absurd (false≢true h)

  pub ready_element : (m : Mode) (e : Elt) → m ≡ Elements c k → IsSome (value_of (base_at bs b) e) → part_fits (datum_fits k) (value_of (base_at bs b) e) ≡ true → IsReady bs n m (element b e)
  ready_element m e is living fit = by (value_of (base_at bs b) e) refl living fit
    where
      by : (o : Option Datum) → value_of (base_at bs b) e ≡ o → IsSome o → part_fits (datum_fits k) o ≡ true → IsReady bs n m (element b e)
      by None q l f = let no : ⊥ = cc in absurd no
      by (Some d) q l f = subst (λ z. IsReady bs n z (element b e)) (sym is) (record {
        form = sym name;
        value = d;
        stood = q;
        fits = f;
        found = element_found e d q;
      })

  -- ---- a tuple

  abbrev places : (es : List (Option Elt)) (i : ℕ) → List Datum
  places es i = flat_map (at_part (elements_at i (Elements c k))) (parts_at (base_at bs b) es)

  in_part : (es : List (Option Elt)) (i : ℕ) (x : Datum) (e : Elt) → (has_datum x (places es i) ≡ true → IsSome (find (base_at bs (named bs n i)) x))
      → has_datum x (at_part (elements_at i (Elements c k)) (value_of (base_at bs b) e) ++ places es i) ≡ true → IsSome (find (base_at bs (named bs n i)) x)
  in_part es i x e later h = by (value_of (base_at bs b) e) refl h
    where
      there : (d : Datum) → value_of (base_at bs b) e ≡ Some d → (t : Bool) → (c == i) ≡ t → has_datum x (cond t (d ∷ []) [] ++ places es i) ≡ true → IsSome (find (base_at bs (named bs n i)) x)
      there d q true same h = elim (or_cases (is_eq (datum_cmp x d)) (has_datum x (places es i)) h) [
        | inl f ↦ at_base i x same (is_found (base_at bs b) e x d base q (same_if_eq x d f))
        | inr f ↦ later f
      ]
      there d q false same h = later h

      by : (o : Option Datum) → value_of (base_at bs b) e ≡ o → has_datum x (at_part (elements_at i (Elements c k)) o ++ places es i) ≡ true → IsSome (find (base_at bs (named bs n i)) x)
      by None q h = later h
      by (Some d) q h = there d q (c == i) refl h

  in_parts : (es : List (Option Elt)) (i : ℕ) (x : Datum) → has_datum x (places es i) ≡ true → IsSome (find (base_at bs (named bs n i)) x)
  in_parts [] i x h = absurd (false≢true h)
  in_parts (None ∷ es) i x h = in_parts es i x h
  in_parts (Some e ∷ es) i x h = in_part es i x e (in_parts es i x) h

  pub ready_tuple : (m : Mode) (es : List (Option Elt)) → m ≡ Tuples (Elements c k) → list_all (part_fits (datum_fits k)) (parts_at (base_at bs b) es) ≡ true → IsReady bs n m (handles b es)
  ready_tuple m es is fit = subst (λ z. IsReady bs n z (handles b es)) (sym is) (record {
    form = sym name;
    value = tuple_of (parts_at (base_at bs b) es);
    stood = refl;
    fits = ap (list_all (part_fits (datum_fits k))) (part_list-parts_of (parts_at (base_at bs b) es)) ∙ fit;
    found = λ i x h. in_parts es i x (sym (ap (λ ps. has_datum x (flat_map (at_part (elements_at i (Elements c k))) ps)) (part_list-parts_of (parts_at (base_at bs b) es))) ∙ h);
  })
