-- A map without the images of a point.
use Rattle.std.proofs.Common.{◌≡◌, ◌∙◌, ℕ, Bool, true, false, not, inl, inr, cond, List, [], ◌∷◌, ◌++◌, Option, None, Some, refl, sym, ap, subst}
use Rattle.std.specs.Bool.{if◌then◌else◌}
use Rattle.std.specs.List.{Contains, filter_map, cons_option}
use Rattle.std.proofs.lemmas.Bool.{false≢true}
use Rattle.std.proofs.lemmas.List.Kept.{IsStrictlySortedBy-filter}
use Rattle.setl_value.specs.Datum.{Datum, element_list-elements_of}
use Rattle.setl_value.specs.Order.{datum_cmp, IsRising}
use Rattle.setl_value.specs.Pairs.{pair_parts, first_of, second_of, is_datum, images, pairs_at}
use Rattle.setl_set.specs.Sets.{set_from}
use Rattle.setl_set.specs.Laws.{IsSetOf, RisingListsAgree, Gathers}
use Rattle.setl_map.specs.Maps.{without_point, put_images}
use Rattle.setl_operators_table.specs.declared.Operator.TheVariants.{Lessf}
use Rattle.setl_operators_table.specs.Outcome.{Gives, Fails, KindFault, set_value}
use Rattle.setl_operators_table.specs.Collections.{on_map}
use Rattle.setl_operators_table.specs.Operators.{op_of}
use Rattle.setl_rep_bases.specs.declared.BaseId.{BaseId}
use Rattle.setl_rep_bases.specs.Bases.{BasesState, base_at}
use Rattle.setl_rep_forms.specs.Form.{Form, Layout, Entries, om, plain, element, numbers, table, handles}
use Rattle.setl_rep_forms.specs.Stands.{stands, pairs_in, IsOver}
use Rattle.setl_rep_tables.specs.Tables.{images_of, table_pairs}
use Rattle.setl_rep_maps.specs.Contents.{table_of, IsTable, IsPoint, IsKeyedForm, PutsContent}
use Rattle.setl_rep_maps.specs.Laws.{NoImagesElsewhere, PutsAreImages}
use Rattle.setl_rep_images.specs.Without.{IsTakenOut, IsWithoutPoint}
use Rattle.setl_rep_images.proofs.Selected.{of_entries, gathered}

-- ---- a map without a point

append_nothing : {X : Type 0} (xs : List X) → xs ++ [] ≡ xs
append_nothing [] = refl
append_nothing (x ∷ xs) = ap (λ l. x ∷ l) (append_nothing xs)

abbrev second : Datum → Option Datum
second p = second_of (pair_parts p)

abbrev other : Datum → Datum → Bool
other x d = not (is_datum x (first_of (pair_parts d)))

has_second : (x : Datum) (o : Option (Datum × Datum)) (l : List Datum) → is_datum x (first_of o) ≡ true → cons_option (second_of o) l ≡ [] → ⊥
has_second x None l e h = false≢true e
has_second x (Some o) l e h = cc

-- without an image, nothing is taken out
none_out : (x : Datum) (f : List Datum) → images x f ≡ [] → without_point x f ≡ f
none_out x [] h = refl
none_out x (d ∷ f) h = by (is_datum x (first_of (pair_parts d))) refl h (none_out x f)
  where
    by : (t : Bool) → is_datum x (first_of (pair_parts d)) ≡ t → filter_map second (cond t (d ∷ pairs_at x f) (pairs_at x f)) ≡ [] → (images x f ≡ [] → without_point x f ≡ f) → cond (not t) (d ∷ without_point x f) (without_point x f) ≡ d ∷ f
    by true e h rest = absurd (has_second x (pair_parts d) (filter_map second (pairs_at x f)) e h)
    by false e h rest = ap (λ l. d ∷ l) (rest h)

module _ (agree : RisingListsAgree) (gathers : Gathers) where
  -- with no images, a point is taken out
  none_put : (x : Datum) (many : Bool) (f : List Datum) → IsRising f → put_images x (images_of many None) f ≡ without_point x f
  none_put x many f r = ap set_from (append_nothing (without_point x f)) ∙ agree (set_from (without_point x f)) (without_point x f) g.rising (IsStrictlySortedBy-filter datum_cmp (other x) f r) g.members
    where
      g : IsSetOf (λ d. Contains (without_point x f) d) (set_from (without_point x f))
      g = gathers (without_point x f)

  module _ (none : NoImagesElsewhere) (puts : PutsAreImages) (bs : BasesState) (x : Datum) where
    tells : (k l : Layout) (b e : BaseId) (many some : Bool) (es fs : Entries) → table_pairs bs (base_at bs e) some fs ≡ without_point x (table_pairs bs (base_at bs b) many es)
        → (left : ℕ) → op_of Lessf (stands bs (table k b many es) ∷ Some x ∷ []) left ≡ Gives (stands bs (table l e some fs)) 0
    tells k l b e many some es fs without_it left =
        let old = table_pairs bs (base_at bs b) many es in
        ap (on_map (λ f. set_value (without_point x f))) (element_list-elements_of old)
        ∙ ap (λ t. if t then set_value (without_point x old) else Fails KindFault) (gathered (pairs_in bs (base_at bs b) many es) (of_entries bs (base_at bs b) many es))
        ∙ ap (λ ds. set_value ds) (sym without_it)

    -- a content is taken out, or the point is no member of the base
    in_tables : (k : Layout) (b : BaseId) (many : Bool) (es : Entries) (g : Form) → IsOver bs (table k b many es) → IsTakenOut bs b x (table k b many es) g → IsWithoutPoint bs x (table k b many es) g
    in_tables k b many es g over p = elim p.taken [
      | inl w ↦ by g w.0 w.1 w.2 p.keyed_then
      | inr w ↦ subst (IsWithoutPoint bs x (table k b many es)) (sym w.1) (record {
        value = tells k k b b many many es es (sym (none_out x (table_pairs bs (base_at bs b) many es) (none bs (table k b many es) b many x refl p.keyed p.base w.0)));
        over = over;
        alike = (refl, refl, refl);
      })
    ]
      where
        by : (g : Form) (q : ℕ) → IsPoint bs (table k b many es) q x → PutsContent q None (table k b many es) g → IsKeyedForm g → IsWithoutPoint bs x (table k b many es) g
        by (table l e some fs) q point put keyed =
            let done = puts bs (table k b many es) (table l e some fs) q None x over p.keyed keyed p.base point tt put in
            record {
              value = tells k l b e many some es fs (done.1 ∙ none_put x many (table_pairs bs (base_at bs b) many es) (gathers (pairs_in bs (base_at bs b) many es)).rising);
              over = done.0;
              alike = (put.0, put.1, put.2);
            }
        by om q point put keyed = absurd put
        by (plain v) q point put keyed = absurd put
        by (element c v) q point put keyed = absurd put
        by (numbers l c ns) q point put keyed = absurd put
        by (handles c hs) q point put keyed = absurd put

    pub is_without : (b : BaseId) (many : Bool) (f g : Form) → table_of f ≡ Some (b, many) → IsOver bs f → IsTakenOut bs b x f g → IsWithoutPoint bs x f g
    is_without b many (table k c some es) g t over p =
        let same : ◌≡◌ {A = BaseId × Bool} (c, some) (b, many) = cc in
        in_tables k c some es g over (subst (λ i. IsTakenOut bs i x (table k c some es) g) (sym (ap (λ o. o.0) same)) p)
    is_without b many om g t over p = let no : ⊥ = cc in absurd no
    is_without b many (plain v) g t over p = let no : ⊥ = cc in absurd no
    is_without b many (element c v) g t over p = let no : ⊥ = cc in absurd no
    is_without b many (numbers l c ns) g t over p = let no : ⊥ = cc in absurd no
    is_without b many (handles c hs) g t over p = let no : ⊥ = cc in absurd no

-- a map in table form is a table
pub has_table : (f : Form) → IsTable f → None ≡ table_of f → ⊥
has_table (table k b many es) h t = cc
has_table om h t = h
has_table (plain v) h t = h
has_table (element c v) h t = h
has_table (numbers l c ns) h t = h
has_table (handles c hs) h t = h
