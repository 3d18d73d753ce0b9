-- What a walk over a value finds.
use Rattle.std.proofs.Common.{◌≡◌, ◌∙◌, ℕ, zero, suc, ◌+◌, ◌<◌, ◌≤◌, ◌==◌, Bool, true, false, not, cond, ◌&&◌, ◌||◌, List, [], ◌∷◌, ◌++◌, length, drop, slice_get, unwrap_or, Option, None, Some, refl, sym, ap, arith, eqb-true, eq-eqb}
use Rattle.std.proofs.Math.Bool.{and-false, and-or_distrib_left, and-true, or-false, or_assoc}
use Rattle.std.proofs.lemmas.Bool.{false≢true}
use Rattle.std.proofs.lemmas.List.Folds.{list_any-append}
use Rattle.std.specs.List.{flat_map}
use Rattle.std.specs.Option.{is_some, is_none}
use Rattle.std.specs.Ordering.{is_eq}
use Rattle.setl_value.specs.declared.Value.{Value}
use Rattle.setl_value.specs.Datum.{Datum, set, element_list, set_of}
use Rattle.setl_value.specs.code.DatumOf.{datum}
use Rattle.setl_value.specs.Order.{datum_cmp}
use Rattle.setl_value.specs.OrderLaws.{same_if_eq}
use Rattle.setl_value.specs.Pairs.{pair_parts, images, first_of, second_of}
use Rattle.setl_set.specs.Sets.{has_datum}
use Rattle.setl_map.specs.code.Points.{part_at}
use Rattle.setl_modes.specs.declared.mode.Form.{Form}
use Rattle.setl_modes.specs.Modes.{Mode, SingleMaps, MultiMaps}
use Rattle.setl_modes_places.specs.Places.{at_part, at_pair, at_point, elements_at}
use Rattle.setl_rep_bases.specs.declared.BaseId.{BaseId}
use Rattle.setl_base.specs.Base.{find}
use Rattle.setl_rep_bases.specs.BaseId.{is_id}
use Rattle.setl_rep_bases.specs.Bases.{BasesState, base_at, named}
use Rattle.setl_rep_bases.specs.Reading.{NamesAreExact}
use Rattle.setl_rep_entering.specs.declared.places.Place.{Place}
use Rattle.setl_rep_entering.specs.Entering.{values_in, is_named}
use Rattle.setl_rep_entering.proofs.Entered.{found, has_append, named_base}
use Rattle.setl_rep_entering.specs.code.Finding.{has_place, is_new, Gains, same_point, is_at_point, at_images, at_map, at_neighbour}

-- ---- truth values

or_again : (a b : Bool) → (a || b) ≡ ((a || b) || b)
or_again true b = refl
or_again false true = refl
or_again false false = refl

module _ (bs : BasesState) (n : ℕ) where
  -- ---- one step after the other

  pub gains_none : (es : ℕ → List Datum) (ps : List Place) → ((b : ℕ) → es b ≡ []) → Gains bs n es ps ps
  gains_none es ps h i x =
      sym (ap (λ l. has_place i x ps || (is_new bs n i x && has_datum x l)) (h i.base) ∙ ap (λ t. has_place i x ps || t) (and-false (is_new bs n i x)) ∙ or-false (has_place i x ps))

  pub gains_then : (es fs : ℕ → List Datum) (old mid new : List Place) → Gains bs n es old mid → Gains bs n fs mid new → Gains bs n (λ b. es b ++ fs b) old new
  gains_then es fs old mid new g h i x =
      let t = is_new bs n i x in
      h i x
      ∙ ap (λ a. a || (t && has_datum x (fs i.base))) (g i x)
      ∙ or_assoc (has_place i x old) (t && has_datum x (es i.base)) (t && has_datum x (fs i.base))
      ∙ ap (λ a. has_place i x old || a) (sym (and-or_distrib_left t (has_datum x (es i.base)) (has_datum x (fs i.base))))
      ∙ ap (λ a. has_place i x old || (t && a)) (sym (has_append x (es i.base) (fs i.base)))

  pub gains_as : (es fs : ℕ → List Datum) (old new : List Place) → ((b : ℕ) → es b ≡ fs b) → Gains bs n es old new → Gains bs n fs old new
  gains_as es fs old new h g i x = g i x ∙ ap (λ l. has_place i x old || (is_new bs n i x && has_datum x l)) (h i.base)

  -- what was found is found once
  pub gains_again : (es : ℕ → List Datum) (old new : List Place) → Gains bs n es old new → Gains bs n es new new
  gains_again es old new g i x =
      let t = is_new bs n i x && has_datum x (es i.base) in
      g i x ∙ or_again (has_place i x old) t ∙ ap (λ a. a || t) (sym (g i x))

  -- ---- loops

  -- what finds those of fs from here has found those of es from the start
  abbrev pub IsLeft : (es fs : ℕ → List Datum) → List Place → List Place → Type 0
  IsLeft es fs old now = (new : List Place) → Gains bs n fs now new → Gains bs n es old new

  pub all_left : (es : ℕ → List Datum) (ps : List Place) → IsLeft es es ps ps
  all_left es ps new g = g

  pub less_left : (es fs gs : ℕ → List Datum) (old now next : List Place) → Gains bs n fs now next → IsLeft es (λ b. fs b ++ gs b) old now → IsLeft es gs old next
  less_left es fs gs old now next g l new h = l new (gains_then fs gs now next new g h)

  pub none_left : (es fs : ℕ → List Datum) (old now : List Place) → IsLeft es fs old now → ((b : ℕ) → fs b ≡ []) → Gains bs n es old now
  none_left es fs old now l h = l now (gains_none fs now h)

-- ---- components

first_part : (g : Datum → List Datum) (i : ℕ) (t : List (Option Datum)) → i < length t → at_part g (unwrap_or (slice_get t i) None) ++ flat_map (at_part g) (drop (suc i) t) ≡ flat_map (at_part g) (drop i t)
first_part g i [] h = absurd (omega arith)
first_part g zero (p ∷ ps) h = refl
first_part g (suc i) (p ∷ ps) h = first_part g i ps (omega arith)

pub next_part : (g : Datum → List Datum) (i : ℕ) (t : List (Option Datum)) → i < length t → flat_map (at_part g) (drop i t) ≡ at_part g (unwrap_or (slice_get t i) None) ++ flat_map (at_part g) (drop (i + 1) t)
next_part g i t h =
    let n : suc i ≡ i + 1 = omega arith in
    sym (first_part g i t h) ∙ ap (λ k. at_part g (unwrap_or (slice_get t i) None) ++ flat_map (at_part g) (drop k t)) n

pub nothing_left : (g : Datum → List Datum) (i : ℕ) (t : List (Option Datum)) → length t ≤ i → flat_map (at_part g) (drop i t) ≡ []
nothing_left g zero [] h = refl
nothing_left g (suc i) [] h = refl
nothing_left g zero (p ∷ ps) h = absurd (omega (arith, h))
nothing_left g (suc i) (p ∷ ps) h = nothing_left g i ps (omega (arith, h))

-- ---- points

same_places : (range : Datum → List Datum) (f : List Datum) (p q : Option (Datum × Datum)) → same_point p q ≡ true → at_images range f p ≡ at_images range f q
same_places range f None q h = absurd (false≢true h)
same_places range f (Some p) None h = absurd (false≢true h)
same_places range f (Some p) (Some q) h = ap (λ x. range (set_of (images x f))) (same_if_eq p.0 q.0 h)

-- a pair at the point of its neighbour has the images of that
pub same_neighbour : (range : Datum → List Datum) (f : List Datum) (before : Option Datum) (d : Datum) → is_at_point before d ≡ true → at_neighbour range f before ≡ at_images range f (pair_parts d)
same_neighbour range f None d h = absurd (false≢true h)
same_neighbour range f (Some a) d h = same_places range f (pair_parts a) (pair_parts d) h

-- ---- the two sides of pairs

shuffled : (a b c d : Bool) → ((a || b) || (c || d)) ≡ ((a || c) || (b || d))
shuffled true b c d = refl
shuffled false true true d = refl
shuffled false true false d = refl
shuffled false false c d = refl

-- what two walks find is what one finds that takes both at once
has_sides : (whole one two : Datum → List Datum) → ((p : Datum) → whole p ≡ one p ++ two p) → (ms : List Datum) (x : Datum) → has_datum x (flat_map one ms ++ flat_map two ms) ≡ has_datum x (flat_map whole ms)
has_sides whole one two h [] x = refl
has_sides whole one two h (m ∷ ms) x =
    let left = has_datum x (flat_map one ms) in
    let right = has_datum x (flat_map two ms) in
    has_append x (one m ++ flat_map one ms) (two m ++ flat_map two ms)
    ∙ (λ k. has_append x (one m) (flat_map one ms) k || has_append x (two m) (flat_map two ms) k)
    ∙ shuffled (has_datum x (one m)) left (has_datum x (two m)) right
    ∙ ap (λ t. t || (left || right)) (sym (has_append x (one m) (two m)))
    ∙ ap (λ t. has_datum x (one m ++ two m) || t) (sym (has_append x (flat_map one ms) (flat_map two ms)) ∙ has_sides whole one two h ms x)
    ∙ ap (λ l. has_datum x l || has_datum x (flat_map whole ms)) (sym (h m))
    ∙ sym (has_append x (whole m) (flat_map whole ms))

pair_sides : (domain range : Datum → List Datum) (p : Datum) → at_pair domain range (pair_parts p) ≡ at_part domain (part_at true p) ++ at_part range (part_at false p)
pair_sides domain range p = by (pair_parts p)
  where
    by : (o : Option (Datum × Datum)) → at_pair domain range o ≡ at_part domain (first_of o) ++ at_part range (second_of o)
    by None = refl
    by (Some q) = refl

point_sides : (domain range : Datum → List Datum) (f : List Datum) (p : Datum) → at_point domain range f (pair_parts p) ≡ at_part domain (part_at true p) ++ at_images range f (pair_parts p)
point_sides domain range f p = by (pair_parts p)
  where
    by : (o : Option (Datum × Datum)) → at_point domain range f o ≡ at_part domain (first_of o) ++ at_images range f o
    by None = refl
    by (Some q) = refl

-- a map has the places of its first parts and those of its images
pub map_places : (form : Form) (d r : Mode) (b : ℕ) (e x : Datum)
    → (has_datum x (at_map b (SingleMaps form d r) e) ≡ has_datum x (elements_at b (SingleMaps form d r) e)) × (has_datum x (at_map b (MultiMaps form d r) e) ≡ has_datum x (elements_at b (MultiMaps form d r) e))
map_places form d r b (set es) x =
    let ms = element_list es in (
      has_sides (λ p. at_pair (elements_at b d) (elements_at b r) (pair_parts p)) (λ p. at_part (elements_at b d) (part_at true p)) (λ p. at_part (elements_at b r) (part_at false p)) (pair_sides (elements_at b d) (elements_at b r)) ms x,
      has_sides (λ p. at_point (elements_at b d) (elements_at b r) ms (pair_parts p)) (λ p. at_part (elements_at b d) (part_at true p)) (λ p. at_images (elements_at b r) ms (pair_parts p)) (point_sides (elements_at b d) (elements_at b r) ms) ms x,
    )
map_places form d r b e x = (refl, refl)

pub gains_like : (bs : BasesState) (n : ℕ) (es fs : ℕ → List Datum) (old new : List Place) → ((b : ℕ) (x : Datum) → has_datum x (es b) ≡ has_datum x (fs b)) → Gains bs n es old new → Gains bs n fs old new
gains_like bs n es fs old new h g i x = g i x ∙ ap (λ t. has_place i x old || (is_new bs n i x && t)) (h i.base x)

-- ---- one value

module _ (exact : NamesAreExact) (bs : BasesState) (n b : ℕ) (d : Datum) where
  abbrev members : List Datum
  members = values_in (base_at bs (named bs n b))

  -- the one value that is found, if it is new
  one_new : (i : BaseId) (x : Datum) → (is_new bs n i x && has_datum x (cond (b == i.base) (d ∷ []) [])) ≡ (is_id i (named bs n b) && (is_eq (datum_cmp x d) && not (has_datum d members)))
  one_new i x = by (is_id i (named bs n b)) refl
    where
      by : (t : Bool) → is_id i (named bs n b) ≡ t → (is_new bs n i x && has_datum x (cond (b == i.base) (d ∷ []) [])) ≡ (t && (is_eq (datum_cmp x d) && not (has_datum d members)))
      by true e =
          let same : i ≡ named bs n b = (exact i (named bs n b)).0 e in
          let base : i.base ≡ b = ap (λ (j : BaseId). j.base) same ∙ named_base bs n b in
          let is : is_named bs n i ≡ true = (exact i (named bs n i.base)).1 (same ∙ ap (named bs n) (sym base)) in
          let at : (b == i.base) ≡ true = eq-eqb b i.base (sym base) in
          (λ k. ((is k) && not (has_datum x (values_in (base_at bs (same k))))) && has_datum x (cond (at k) (d ∷ []) [])) ∙ only (is_eq (datum_cmp x d)) refl
        where
          only : (u : Bool) → is_eq (datum_cmp x d) ≡ u → ((true && not (has_datum x members)) && (is_eq (datum_cmp x d) || false)) ≡ (is_eq (datum_cmp x d) && not (has_datum d members))
          only true f =
              (λ k. not (has_datum x members) && (f k || false)) ∙ and-true (not (has_datum x members)) ∙ ap (λ z. not (has_datum z members)) (same_if_eq x d f) ∙ ap (λ t. t && not (has_datum d members)) (sym f)
          only false f = (λ k. not (has_datum x members) && (f k || false)) ∙ and-false (not (has_datum x members)) ∙ ap (λ t. t && not (has_datum d members)) (sym f)
      by false e = apart (b == i.base) refl
        where
          apart : (u : Bool) → (b == i.base) ≡ u → (is_new bs n i x && has_datum x (cond (b == i.base) (d ∷ []) [])) ≡ false
          apart true g =
              let base : b ≡ i.base = eqb-true b i.base g in
              let is : is_named bs n i ≡ false = ap (λ c. is_id i (named bs n c)) (sym base) ∙ e in
              λ k. (is k && not (has_datum x (values_in (base_at bs i)))) && has_datum x (cond (b == i.base) (d ∷ []) [])
          apart false g = ap (λ t. is_new bs n i x && has_datum x (cond t (d ∷ []) [])) g ∙ and-false (is_new bs n i x)

  -- a value is put at the end where it is no member
  pub gains_new : (v : Value) (old new : List Place) → datum v ≡ d → find (base_at bs (named bs n b)) d ≡ None → new ≡ old ++ record { base = named bs n b; value = v } ∷ [] → Gains bs n (λ c. cond (b == c) (d ∷ []) []) old new
  gains_new v old new same none is i x =
      let out : has_datum d members ≡ false = sym (found (base_at bs (named bs n b)) d) ∙ ap is_some none in
      ap (has_place i x) is
      ∙ list_any-append (λ p. is_id i p.base && is_eq (datum_cmp x (datum p.value))) old (record { base = named bs n b; value = v } ∷ [])
      ∙ ap (λ t. has_place i x old || t) (or-false (is_id i (named bs n b) && is_eq (datum_cmp x (datum v)))
      ∙ ap (λ e. is_id i (named bs n b) && is_eq (datum_cmp x e)) same
      ∙ ap (λ t. is_id i (named bs n b) && t) (sym (and-true (is_eq (datum_cmp x d))))
      ∙ ap (λ t. is_id i (named bs n b) && (is_eq (datum_cmp x d) && not t)) (sym out)
      ∙ sym (one_new i x))

  -- a member isn't
  pub gains_member : (ps : List Place) → is_some (find (base_at bs (named bs n b)) d) ≡ true → Gains bs n (λ c. cond (b == c) (d ∷ []) []) ps ps
  gains_member ps some i x =
      let out : has_datum d members ≡ true = sym (found (base_at bs (named bs n b)) d) ∙ some in
      sym (ap (λ t. has_place i x ps || t) (one_new i x
      ∙ ap (λ t. is_id i (named bs n b) && (is_eq (datum_cmp x d) && not t)) out
      ∙ ap (λ t. is_id i (named bs n b) && t) (and-false (is_eq (datum_cmp x d)))
      ∙ and-false (is_id i (named bs n b)))
      ∙ or-false (has_place i x ps))

pub none_if : {A : Type 0} (o : Option A) → is_none o ≡ true → o ≡ None
none_if None h = refl
none_if (Some x) h = absurd (false≢true h)
