-- What a map that is held as a table gives of a point.
use Rattle.std.proofs.Common.{◌≡◌, ◌∙◌, ℕ, ◌≤◌, ◌==◌, Bool, true, false, cond, List, [], ◌∷◌, ◌++◌, length, map, Option, None, Some, refl, sym, ap, subst, arith}
use Rattle.std.specs.Prelude.{slice_get}
use Rattle.std.specs.Bool.{if◌then◌else◌}
use Rattle.std.specs.Borrow.{Bor}
use Rattle.std.specs.Option.{is_some, option_and_then, IfSome}
use Rattle.std.specs.declared.cmp.Ordering.{Ordering}
use Rattle.std.specs.declared.cmp.Ordering.TheVariants.{Less, Equal, Greater}
use Rattle.std.proofs.lemmas.Bool.{and_parts, and_from}
use Rattle.std.proofs.lemmas.Option.{same_Some}
use Rattle.setl_value.specs.Datum.{Datum, bool, int, text, atom, tuple, set, set_of, elements_of, element_list-elements_of, elements_of-element_list, depth, elements_depth, part_depth}
use Rattle.setl_value.specs.Order.{datum_cmp}
use Rattle.setl_value.specs.Pairs.{pair, pair_parts, is_map, images}
use Rattle.setl_set.specs.Sets.{insert_datum, insert_by, set_from}
use Rattle.setl_map.specs.Maps.{only, image, domain_of}
use Rattle.setl_operators_table.specs.declared.Operator.TheVariants.{Domain, Get, Images}
use Rattle.setl_operators_table.specs.Collections.{on_map}
use Rattle.setl_operators_table.specs.Operators.{op_of}
use Rattle.setl_operators_table.specs.Outcome.{Gives, Fails, KindFault, set_value}
use Rattle.setl_base.specs.Base.{BaseState, IsBase, find}
use Rattle.setl_rep_bases.specs.declared.BaseId.{BaseId}
use Rattle.setl_rep_bases.specs.Bases.{BasesState, base_at, IsThere}
use Rattle.setl_rep_forms.specs.Form.{Form, Layout, Entries, no_entry, entry_then, om, plain, element, numbers, table, handles}
use Rattle.setl_rep_forms.specs.FormOf.{form, of_om}
use Rattle.setl_rep_forms.specs.Stands.{stands, value_at, pairs_in, pairs_of, images_in, IsOver, AreOver, IsContent}
use Rattle.setl_rep_forms.specs.declared.held.Held.{Held}
use Rattle.setl_rep_forms.specs.declared.held.Held.TheVariants as code
use Rattle.setl_rep_maps.specs.Contents.{table_of, content_of, map_pairs, images_from, HasBase, IsKeyedForm, IsPoint}
use Rattle.setl_rep_maps.specs.Laws.{ContentsStandForImages, NoImagesElsewhere}
use Rattle.setl_rep_maps.specs.code.Lent.{lent_form}
use Rattle.setl_rep_plain.specs.Standing.{held_value, IsHeldOver}
use Rattle.setl_rep_tables.specs.Tables.{content_in, images_of, table_pairs}
use Rattle.setl_rep_images.proofs.Shallow.{images_depth}

-- ---- a table has pairs alone

both : (xs ys : List Datum) → is_map xs ≡ true → is_map ys ≡ true → is_map (xs ++ ys) ≡ true
both [] ys h g = g
both (x ∷ xs) ys h g = let t = and_parts (is_some (pair_parts x)) (is_map xs) h in and_from (is_some (pair_parts x)) (is_map (xs ++ ys)) t.0 (both xs ys t.1 g)

paired : (x : Datum) (ys : List Datum) → is_map (map (pair x) ys) ≡ true
paired x [] = refl
paired x (y ∷ ys) = paired x ys

of_entry : (many : Bool) (x y : Option Datum) → is_map (pairs_of many x y) ≡ true
of_entry many None y = refl
of_entry many (Some x) None = refl
of_entry false (Some x) (Some y) = refl
of_entry true (Some x) (Some y) = paired x (images_in y)

pub of_entries : (bs : BasesState) (b : BaseState) (many : Bool) (es : Entries) → is_map (pairs_in bs b many es) ≡ true
of_entries bs b many no_entry = refl
of_entries bs b many (entry_then n c es) = both (pairs_of many (value_at b n) (stands bs c)) (pairs_in bs b many es) (of_entry many (value_at b n) (stands bs c)) (of_entries bs b many es)

inserted : (d : Datum) (es : List Datum) → is_some (pair_parts d) ≡ true → is_map es ≡ true → is_map (insert_datum d es) ≡ true
inserted d [] h a = and_from (is_some (pair_parts d)) true h refl
inserted d (e ∷ es) h a = by (datum_cmp d e) (inserted d es h (and_parts (is_some (pair_parts e)) (is_map es) a).1)
  where
    by : (o : Ordering) → is_map (insert_datum d es) ≡ true → is_map (insert_by o d e es (insert_datum d es)) ≡ true
    by Less r = and_from (is_some (pair_parts d)) (is_map (e ∷ es)) h a
    by Equal r = a
    by Greater r = and_from (is_some (pair_parts e)) (is_map (insert_datum d es)) (and_parts (is_some (pair_parts e)) (is_map es) a).0 r

pub gathered : (ds : List Datum) → is_map ds ≡ true → is_map (set_from ds) ≡ true
gathered [] h = refl
gathered (d ∷ ds) h = let t = and_parts (is_some (pair_parts d)) (is_map ds) h in inserted d (set_from ds) t.0 (gathered ds t.1)

-- ---- the one member of a list

pub only_one : (ds : List Datum) (d : Datum) → length ds ≡ 1 → slice_get ds 0 ≡ Some d → Some d ≡ only ds
only_one [] d n g = absurd (omega (arith, n))
only_one (y ∷ []) d n g = sym g
only_one (y ∷ z ∷ ds) d n g = absurd (omega (arith, n))

pub not_one : (ds : List Datum) → (length ds ≡ 1 → ⊥) → None ≡ only ds
not_one [] h = refl
not_one (y ∷ []) h = absurd (h refl)
not_one (y ∷ z ∷ ds) h = refl

-- a content that is the image itself
pub only_image : (o : Option Datum) → o ≡ only (images_of false o)
only_image None = refl
only_image (Some y) = refl

-- a set of images is the set of these
pub set_of_content : (o : Option Datum) → IsContent true o → o ≡ Some (set_of (images_of true o))
set_of_content None h = absurd h
set_of_content (Some (set ms)) h = ap (λ l. Some (set l)) (sym (elements_of-element_list ms))
set_of_content (Some (bool z)) h = absurd h
set_of_content (Some (int z)) h = absurd h
set_of_content (Some (text z)) h = absurd h
set_of_content (Some (atom z)) h = absurd h
set_of_content (Some (tuple z)) h = absurd h

-- ---- contents

content_over : (bs : BasesState) (b : BaseState) (many : Bool) (es : Entries) (n : ℕ) (c : Form) → AreOver bs b many es → content_in es n ≡ Some c → IsOver bs c × IsContent many (stands bs c)
content_over bs b many no_entry n c o h = absurd (cc)
content_over bs b many (entry_then k f es) n c o h = by (n == k) h (content_over bs b many es n c o.3)
  where
    by : (t : Bool) → cond t (Some f) (content_in es n) ≡ Some c → (content_in es n ≡ Some c → IsOver bs c × IsContent many (stands bs c)) → IsOver bs c × IsContent many (stands bs c)
    by true q rest = subst (λ g. IsOver bs g × IsContent many (stands bs g)) (same_Some f c q) (o.1, o.2)
    by false q rest = rest q

-- the set of the images of a point is no deeper than the map
set_depth : (x : Datum) (l is : List Datum) → images x l ≡ is → depth (set_of l) ≤ 500 → depth (set_of is) ≤ 500
set_depth x l is e h = omega (arith, images_depth x l, ap (λ k. elements_depth (elements_of k)) e, h)

-- nor is what stands for them
content_depth : (many : Bool) (o : Option Datum) → IsContent many o → depth (set_of (images_of many o)) ≤ 500 → part_depth o ≤ 500
content_depth many None c h = omega arith
content_depth false (Some y) c h = omega (arith, h)
content_depth true (Some (set ms)) c h = omega (arith, ap elements_depth (elements_of-element_list ms), h)
content_depth true (Some (bool z)) c h = absurd c
content_depth true (Some (int z)) c h = absurd c
content_depth true (Some (text z)) c h = absurd c
content_depth true (Some (atom z)) c h = absurd c
content_depth true (Some (tuple z)) c h = absurd c

-- ---- the parts of a table

record IsTableOn (f : Form) (b : BaseId) (many : Bool) : Type 0 where
  layout : Layout
  entries : Entries
  is : f ≡ table layout b many entries

is_table : (f : Form) (b : BaseId) (many : Bool) → table_of f ≡ Some (b, many) → IsTableOn f b many
is_table (table k c some es) b many t =
    let same : ◌≡◌ {A = BaseId × Bool} (c, some) (b, many) = cc in
    record { layout = k; entries = es; is = ap (λ p. table k p.0 p.1 es) same }
is_table om b many t = let no : ⊥ = cc in absurd no
is_table (plain v) b many t = let no : ⊥ = cc in absurd no
is_table (element c v) b many t = let no : ⊥ = cc in absurd no
is_table (numbers l c ns) b many t = let no : ⊥ = cc in absurd no
is_table (handles c hs) b many t = let no : ⊥ = cc in absurd no

module _ (bs : BasesState) (f : Form) (b : BaseId) (many : Bool) (t : table_of f ≡ Some (b, many)) where
  to : IsTableOn f b many
  to = is_table f b many t

  pub base_there : IsOver bs f → IsThere bs b
  base_there o = (subst (IsOver bs) to.is o).0

  pub has_base : IsBase (base_at bs b) → HasBase bs f
  has_base h = subst (HasBase bs) (sym to.is) h

  pub is_point : (n : ℕ) (x : Datum) → value_at (base_at bs b) n ≡ Some x → IsPoint bs f n x
  is_point n x h = subst (λ g. IsPoint bs g n x) (sym to.is) h

  pub images_in_content : (c : Option Form) → images_from bs f c ≡ images_of many (option_and_then (stands bs) c)
  images_in_content c = ap (λ g. images_from bs g c) to.is

  shallow_at : (x : Datum) (c : Form) → part_depth (stands bs f) ≤ 500 → images x (map_pairs bs f) ≡ images_from bs f (Some c) → depth (set_of (images_of many (stands bs c))) ≤ 500
  shallow_at x c shallow are =
      set_depth x (table_pairs bs (base_at bs b) many to.entries) (images_of many (stands bs c)) (sym (ap (λ g. images x (map_pairs bs g)) to.is) ∙ are ∙ images_in_content (Some c))
      (subst (λ g. part_depth (stands bs g) ≤ 500) to.is shallow)

  content_at : (n : ℕ) (c : Form) → IsOver bs f → content_of f n ≡ Some c → IsOver bs c × IsContent many (stands bs c)
  content_at n c over there = content_over bs (base_at bs b) many to.entries n c (subst (IsOver bs) to.is over).1 (sym (ap (λ g. content_of g n) to.is) ∙ there)

  -- ---- the content of a point

  pub images_at : ContentsStandForImages → IsOver bs f → IsKeyedForm f → IsBase (base_at bs b) → (n : ℕ) (x : Datum) → value_at (base_at bs b) n ≡ Some x → images x (map_pairs bs f) ≡ images_from bs f (content_of f n)
  images_at law over keyed base n x at = law bs f n x over keyed (has_base base) (is_point n x at)

  pub no_images_at : NoImagesElsewhere → IsKeyedForm f → IsBase (base_at bs b) → (x : Datum) → find (base_at bs b) x ≡ None → images x (map_pairs bs f) ≡ images_of many None
  no_images_at law keyed base x none = law bs f b many x t keyed (has_base base) none

  pub is_content : (n : ℕ) (o : Option (Bor Held)) → IsOver bs f → lent_form o ≡ content_of f n → IfSome o (λ c. IsContent many (held_value bs c.now))
  is_content n None over is = tt
  is_content n (Some c) over is = (content_at n (form c.now) over (sym is)).1

  module _ (n : ℕ) (x : Datum) (o : Option (Bor Held)) (shallow : part_depth (stands bs f) ≤ 500) (is : lent_form o ≡ content_of f n) (are : images x (map_pairs bs f) ≡ images_from bs f (content_of f n)) where
    pub is_shallow : IfSome o (λ c. depth (set_of (images_of many (held_value bs c.now))) ≤ 500)
    is_shallow = by o is
      where
        by : (l : Option (Bor Held)) → lent_form l ≡ content_of f n → IfSome l (λ c. depth (set_of (images_of many (held_value bs c.now))) ≤ 500)
        by None e = tt
        by (Some c) e = shallow_at x (form c.now) shallow (are ∙ ap (images_from bs f) (sym e))

    pub is_readable : IsOver bs f → IfSome o (λ c. IsHeldOver bs c.now)
    is_readable over = by o is is_shallow
      where
        by : (l : Option (Bor Held)) → lent_form l ≡ content_of f n → IfSome l (λ c. depth (set_of (images_of many (held_value bs c.now))) ≤ 500) → IfSome l (λ c. IsHeldOver bs c.now)
        by None e h = tt
        by (Some c) e h = let q = content_at n (form c.now) over (sym e) in record { over = q.0; shallow = content_depth many (stands bs (form c.now)) q.1 h }

  -- ---- operators

  abbrev pairs : List Datum
  pairs = table_pairs bs (base_at bs b) many to.entries

  are_pairs : is_map pairs ≡ true
  are_pairs = gathered (pairs_in bs (base_at bs b) many to.entries) (of_entries bs (base_at bs b) many to.entries)

  pub gets : (x : Datum) (v : Option Datum) → v ≡ only (images x (map_pairs bs f)) → (left : ℕ) → op_of Get (stands bs f ∷ Some x ∷ []) left ≡ Gives v 0
  gets x v is left =
      ap (λ g. op_of Get (stands bs g ∷ Some x ∷ []) left) to.is
      ∙ ap (on_map (λ g. Gives (image x g) 0)) (element_list-elements_of pairs)
      ∙ ap (λ u. if u then Gives (image x pairs) 0 else Fails KindFault) are_pairs
      ∙ ap (λ u. Gives u 0) (sym (is ∙ ap (λ g. only (images x (map_pairs bs g))) to.is))

  pub selects : (x : Datum) (v : Option Datum) → v ≡ Some (set_of (images x (map_pairs bs f))) → (left : ℕ) → op_of Images (stands bs f ∷ Some x ∷ []) left ≡ Gives v 0
  selects x v is left =
      ap (λ g. op_of Images (stands bs g ∷ Some x ∷ []) left) to.is
      ∙ ap (on_map (λ g. set_value (images x g))) (element_list-elements_of pairs)
      ∙ ap (λ u. if u then set_value (images x pairs) else Fails KindFault) are_pairs
      ∙ ap (λ u. Gives u 0) (sym (is ∙ ap (λ g. Some (set_of (images x (map_pairs bs g)))) to.is))

  pub gets_nothing : (x : Datum) → images x (map_pairs bs f) ≡ images_of many None → (left : ℕ) → op_of Get (stands bs f ∷ Some x ∷ []) left ≡ Gives (held_value bs code.Om) 0
  gets_nothing x none = gets x (held_value bs code.Om) (ap (stands bs) of_om ∙ ap only (sym none))

  pub tells_domain : (left : ℕ) → op_of Domain (stands bs f ∷ []) left ≡ Gives (Some (set_of (domain_of (map_pairs bs f)))) 0
  tells_domain left =
      ap (λ g. op_of Domain (stands bs g ∷ []) left) to.is
      ∙ ap (on_map (λ g. set_value (domain_of g))) (element_list-elements_of pairs)
      ∙ ap (λ u. if u then set_value (domain_of pairs) else Fails KindFault) are_pairs
      ∙ ap (λ u. Gives (Some u) 0) (sym (ap (λ g. set_of (domain_of (map_pairs bs g))) to.is))
