-- A value goes out of a set of numbers.
use Rattle.std.proofs.Common.{◌≡◌, ◌∙◌, ℕ, ◌≤◌, Bool, true, false, not, inr, List, [], ◌∷◌, Option, None, Some, Ok, refl, sym, ap, subst, arith}
use Rattle.std.specs.List.{filter, flat_map}
use Rattle.std.specs.FinSet as set
use Rattle.std.specs.Ordering.{nat_cmp, is_eq}
use Rattle.std.proofs.lemmas.Bool.{false≢true}
use Rattle.std.proofs.lemmas.List.Kept.{IsStrictlySortedBy-filter}
use Rattle.setl_value.specs.Datum.{Datum, depth, set_of, element_list-elements_of}
use Rattle.setl_value.specs.WellFormed.{IsValue}
use Rattle.setl_value.specs.Order.{datum_cmp, IsRising}
use Rattle.setl_set.specs.Sets.{has_datum, remove_datum}
use Rattle.setl_modes.specs.Modes.{Mode, General, Integers, Strings, Booleans, Atoms, Elements, Sets, Tuples, SingleMaps, MultiMaps}
use Rattle.setl_modes_places.specs.Places.{elements_at}
use Rattle.setl_modes_parts.specs.Laws.{CombinedFit}
use Rattle.setl_operators_table.specs.declared.Operator.TheVariants.{Less}
use Rattle.setl_operators_table.specs.Outcome.{Outcome, Gives, Fails, Overspends}
use Rattle.setl_operators_table.specs.Operators.{op_of}
use Rattle.setl_rep_bases.specs.declared.BaseId.{BaseId}
use Rattle.setl_rep_bases.specs.Bases.{BasesState, base_at, named}
use Rattle.setl_rep_forms.specs.Form.{Form, Layout, om, plain, element, numbers, table, handles}
use Rattle.setl_rep_forms.specs.Stands.{stands, members_at, IsOver}
use Rattle.setl_rep_kernels.specs.Kernels.{is_numbered, has_change, ChangeTells, IsAlike}
use Rattle.setl_rep_building.specs.HasForm.{base_of, place_of, HasForm, HasFormOrOm, IsMapForm, IsSetForm, IsTupleForm}
use Rattle.setl_rep_entering.specs.Entering.{AreLengthened}
use Rattle.setl_rep_entering.specs.Laws.{PlacesAreFound, PartsLengthenAlike}
use Rattle.setl_rep_updates.specs.InForm.{ArePlacesFound, IsInForm, IsValueOrOm}
use Rattle.setl_rep_updates.specs.Updates.{IsUpdate}
use Rattle.setl_rep_updates.proofs.Cutting.{no_places, not_lengthened}
use Rattle.setl_rep_updates.proofs.Imaging.{of_kept, depth_kept, formed_kept}
use Rattle.setl_rep_updates.proofs.Including.{alike_numbers, value_of_set}

-- ---- modes in whose form numbers are

record IsOfSets (name : ℕ → BaseId) (m : Mode) (k : Layout) (b : BaseId) : Type 0 where
  places : (keep : Datum → Bool) (i : ℕ) (z : Datum) (ds : List Datum) → has_datum z (elements_at i m (set_of (filter keep ds))) ≡ true → has_datum z (elements_at i m (set_of ds)) ≡ true
  form : (ms : set.FinSet nat_cmp) → HasFormOrOm name m (numbers k b ms)

other_set : (name : ℕ → BaseId) (o : Option (Layout × ℕ)) (k : Layout) (b : BaseId) (ns ms : set.FinSet nat_cmp) → IsSetForm name o (numbers k b ns) → IsSetForm name o (numbers k b ms)
other_set name None k b ns ms h = absurd h
other_set name (Some p) k b ns ms h = h

no_tuple : (name : ℕ → BaseId) (o : Option ℕ) (k : Layout) (b : BaseId) (ns : set.FinSet nat_cmp) → IsTupleForm name o (numbers k b ns) → ⊥
no_tuple name None k b ns h = h
no_tuple name (Some c) k b ns h = h

no_map : (name : ℕ → BaseId) (o : Option (Layout × ℕ)) (many : Bool) (P : Form → Type 0) (k : Layout) (b : BaseId) (ns : set.FinSet nat_cmp) → IsMapForm name o many P (numbers k b ns) → ⊥
no_map name None many P k b ns h = h
no_map name (Some p) many P k b ns h = h

of_sets : (name : ℕ → BaseId) (m : Mode) (k : Layout) (b : BaseId) (ns : set.FinSet nat_cmp) → HasFormOrOm name m (numbers k b ns) → IsOfSets name m k b
of_sets name (Sets a e) k b ns h = record {
  places = λ keep i z ds q.
      ap (λ l. has_datum z (flat_map (elements_at i e) l)) (element_list-elements_of ds)
      ∙ of_kept z (elements_at i e) keep ds (sym (ap (λ l. has_datum z (flat_map (elements_at i e) l)) (element_list-elements_of (filter keep ds))) ∙ q);
  form = λ ms. other_set name (place_of a e) k b ns ms h;
}
of_sets name General k b ns h = absurd h
of_sets name Integers k b ns h = absurd h
of_sets name Strings k b ns h = absurd h
of_sets name Booleans k b ns h = absurd h
of_sets name Atoms k b ns h = absurd h
of_sets name (Elements c m) k b ns h = absurd h
of_sets name (Tuples m) k b ns h = absurd (no_tuple name (base_of m) k b ns h)
of_sets name (SingleMaps a d r) k b ns h = absurd (no_map name (place_of a d) false (HasForm name r) k b ns h)
of_sets name (MultiMaps a d s) k b ns h = absurd (no_map name (place_of a d) true (HasForm name s) k b ns h)

-- ---- what is told of a change

abbrev given : Outcome → Option Datum
given (Gives v n) = v
given (Fails f) = None
given Overspends = None

-- a set of numbers has a kernel for each value that is held plain
pub plain_goes_out : (bs : BasesState) (f : Form) (d : Datum) → has_change bs false f (plain d) ≡ is_numbered f
plain_goes_out bs om d = refl
plain_goes_out bs (plain e) d = refl
plain_goes_out bs (element b e) d = refl
plain_goes_out bs (numbers k b ns) d = refl
plain_goes_out bs (table k b many es) d = refl
plain_goes_out bs (handles b es) d = refl

-- ---- the update

module _ (combined : CombinedFit) (alike : PartsLengthenAlike) (m : Mode) (n : ℕ) (d : Datum) (bs : BasesState) where
  abbrev IsExcluded : Form → Form → Bool → Type 0
  IsExcluded f g t = IsUpdate m n (op_of Less (stands bs f ∷ Some d ∷ [])) bs bs f g (Ok t)

  module _ (k : Layout) (b : BaseId) (ns ms : set.FinSet nat_cmp) (h : IsInForm bs n m (numbers k b ns)) (over_then : IsOver bs (numbers k b ms)) (gives : (left : ℕ) → op_of Less (stands bs (numbers k b ns) ∷ Some d ∷ []) left ≡ Gives (stands bs (numbers k b ms)) 0) where
    abbrev old : List Datum
    old = members_at (base_at bs b) ns

    abbrev keep : Datum → Bool
    keep e = not (is_eq (datum_cmp d e))

    mode : IsOfSets (named bs n) m k b
    mode = of_sets (named bs n) m k b ns h.form

    old_value : IsValue (set_of old)
    old_value = h.value

    is : stands bs (numbers k b ms) ≡ Some (set_of (remove_datum d old))
    is = sym (ap given (gives 0)) ∙ ap (λ l. Some (set_of (remove_datum d l))) (element_list-elements_of old)

    old_rising : IsRising old
    old_rising = subst IsRising (element_list-elements_of old) old_value.0.1

    value_then : IsValue (set_of (remove_datum d old))
    value_then =
        let lower : depth (set_of (remove_datum d old)) ≤ 500 = omega (arith, depth_kept keep old, old_value.1) in
        value_of_set (remove_datum d old) (formed_kept keep old old_value.0.0) (IsStrictlySortedBy-filter datum_cmp keep old old_rising) lower

    found_then : PlacesAreFound bs n m (set_of (remove_datum d old))
    found_then i z q = h.found i z (mode.places keep i z old q)

    not_longer : AreLengthened m (set_of (remove_datum d old)) n bs bs
    not_longer = alike m General (set_of (remove_datum d old)) no_places n bs bs (λ i z q. absurd (false≢true q)) (λ i z q. inr (found_then i z q)) (not_lengthened n bs)

    numbers_excluded : IsExcluded (numbers k b ns) (numbers k b ms) true
    numbers_excluded = record {
      held = record {
        there = h.there;
        over = over_then;
        form = mode.form ms;
        fits = combined Less m (stands bs (numbers k b ns)) (Some d) (stands bs (numbers k b ms)) 0 0 refl (old_value.0, h.fits) (gives 0);
        value = subst IsValueOrOm (sym is) value_then;
        found = subst (ArePlacesFound bs n m) (sym is) found_then;
      };
      value = λ t left. gives left;
      lengthened = λ t. (set_of (remove_datum d old), is, not_longer);
      nothing = λ t. absurd (false≢true (sym t));
      refused = tt;
    }

  made : (f g : Form) → is_numbered f ≡ true → IsInForm bs n m f → IsAlike f g → IsOver bs g → ((left : ℕ) → op_of Less (stands bs f ∷ Some d ∷ []) left ≡ Gives (stands bs g) 0) → IsExcluded f g true
  made (numbers k b ns) g t h like over gives =
      let to = alike_numbers k b ns g like in
      subst (λ z. IsExcluded (numbers k b ns) z true) (sym to.1)
      (numbers_excluded k b ns to.0 h (subst (IsOver bs) to.1 over) (subst (λ z. (left : ℕ) → op_of Less (stands bs (numbers k b ns) ∷ Some d ∷ []) left ≡ Gives (stands bs z) 0) to.1 gives))
  made om g t h like over gives = absurd (false≢true t)
  made (plain e) g t h like over gives = absurd (false≢true t)
  made (element c e) g t h like over gives = absurd (false≢true t)
  made (table l c many es) g t h like over gives = absurd (false≢true t)
  made (handles c es) g t h like over gives = absurd (false≢true t)

  left_so : (f g : Form) → IsInForm bs n m f → g ≡ f → IsExcluded f g false
  left_so f g h same = record {
    held = subst (IsInForm bs n m) (sym same) h;
    value = λ t. absurd (false≢true t);
    lengthened = λ t. absurd (false≢true t);
    nothing = λ t. (refl, same);
    refused = tt;
  }

  -- by what the change of the numbers tells
  pub excluded : (f g x : Form) (t : Bool) → IsInForm bs n m f → x ≡ plain d → t ≡ has_change bs false f x → IsAlike f g → IsOver bs g → (t ≡ false → g ≡ f) → ((left : ℕ) → ChangeTells (Ok t) (op_of Less (stands bs f ∷ stands bs x ∷ []) left) (stands bs g)) → IsExcluded f g t
  excluded f g x true h same kernel like over none tells =
      made f g (sym (kernel ∙ ap (has_change bs false f) same ∙ plain_goes_out bs f d)) h like over (λ left. ap (λ v. op_of Less (stands bs f ∷ v ∷ []) left) (sym (ap (stands bs) same)) ∙ tells left)
  excluded f g x false h same kernel like over none tells = left_so f g h (none refl)
