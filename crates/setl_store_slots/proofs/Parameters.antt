-- What a return hands back, from the last parameter to the first.
use Rattle.std.proofs.Common.{◌≡◌, ℕ, zero, suc, ◌+◌, ◌-◌, ◌<◌, Bool, true, false, List, [], ◌∷◌, ◌++◌, length, drop, map, get_or, refl, sym, ap, ◌∙◌, subst, arith, Option, Some, None}
use Rattle.std.specs.Prelude.{slice_get}
use Rattle.std.specs.Option.{option_map}
use Rattle.std.proofs.lemmas.List.{map-append, drop_all}
use Rattle.std.proofs.lemmas.Option.{same_Some, slice_get_read}
use Rattle.setl_value.specs.Datum.{Datum}
use Rattle.setl_value.specs.code.DatumOf.{part}
use Rattle.setl_value.specs.declared.Value.{Value}
use Rattle.setl_tree.specs.declared.tree.Param.{Param}
use Rattle.setl_tree.specs.declared.tree.Passing.{Passing}
use Rattle.setl_tree.specs.declared.tree.Passing.TheVariants.{Rd, Wr, Rw}
use Rattle.setl_rep_bases.specs.Bases.{BasesState}
use Rattle.setl_store_slots.specs.declared.cells.Held.{Held}
use Rattle.setl_store_slots.specs.Slots.{content_of, IsStanding, AreStanding}
use Rattle.setl_store_slots.specs.Handed.{and_held, and_handed, handed, Adds}

none_stays : (bs : BasesState) (p : Passing) (h : Held) → and_handed bs p h None ≡ None
none_stays bs Rd h = refl
none_stays bs Wr h = refl
none_stays bs Rw h = refl

-- where one of the later parameters was taken, so it is with all
lost : (bs : BasesState) (k : ℕ) (ps : List Param) (hs : List Held) (v : Option Datum) → handed bs (drop k ps) (drop k hs) v ≡ None → handed bs ps hs v ≡ None
lost bs zero ps hs v e = e
lost bs (suc k) [] hs v e = e
lost bs (suc k) (p ∷ ps) [] v e = refl
lost bs (suc k) (p ∷ ps) (h ∷ hs) v e = ap (and_handed bs p.passing h) (lost bs k ps hs v e) ∙ none_stays bs p.passing h

drop_one_less : {A : Type 0} (n : ℕ) (xs : List A) (x : A) → Some x ≡ slice_get xs n → drop n xs ≡ x ∷ drop (suc n) xs
drop_one_less n [] x e = absurd (cc)
drop_one_less zero (y ∷ ys) x e = ap (λ z. z ∷ ys) (sym (same_Some x y e))
drop_one_less (suc n) (y ∷ ys) x e = drop_one_less n ys x e

get_dropped : {A : Type 0} (n : ℕ) (xs : List A) (k : ℕ) → slice_get (drop n xs) k ≡ slice_get xs (n + k)
get_dropped zero xs k = let e : k ≡ zero + k = omega arith in ap (slice_get xs) e
get_dropped (suc n) [] k = refl
get_dropped (suc n) (x ∷ xs) k = let e : suc (n + k) ≡ suc n + k = omega arith in get_dropped n xs k ∙ ap (slice_get (x ∷ xs)) e

handed_from : (bs : BasesState) (n : ℕ) (ps : List Param) (hs : List Held) (v : Option Datum) (p : Param) (h : Held) → Some p ≡ slice_get ps n → Some h ≡ slice_get hs n →
    handed bs (drop n ps) (drop n hs) v ≡ and_handed bs p.passing h (handed bs (drop (suc n) ps) (drop (suc n) hs) v)
handed_from bs n ps hs v p h pe he = λ i. handed bs (drop_one_less n ps p pe i) (drop_one_less n hs h he i) v

-- a slot's value that is added
pub held_added : (bs : BasesState) (h : Held) (v : Option Value) (old new : List (Option Value)) → content_of bs h ≡ Some (part v) → new ≡ old ++ v ∷ [] → and_held bs h (Some (map part old)) ≡ Some (map part new)
held_added bs h v old new is added = ap (option_map (λ w. map part old ++ w ∷ [])) is ∙ ap (λ l. Some l) (sym (ap (map part) added ∙ map-append part old (v ∷ [])))

-- a slot of those that stand
pub standing_at : (bs : BasesState) (hs : List Held) (n : ℕ) (h : Held) → AreStanding bs hs → Some h ≡ slice_get hs n → IsStanding bs h
standing_at bs [] n h all e = absurd (cc)
standing_at bs (g ∷ gs) zero h all e = subst (IsStanding bs) (sym (same_Some h g e)) all.0
standing_at bs (g ∷ gs) (suc n) h all e = standing_at bs gs n h all.1 e

-- before the first one nothing but the value
pub handed_at_end : (bs : BasesState) (n : ℕ) (ps : List Param) (hs : List Held) (v : Option Datum) → n ≡ length ps → handed bs (drop n ps) (drop n hs) v ≡ Some (v ∷ [])
handed_at_end bs n ps hs v e = ap (λ l. handed bs l (drop n hs) v) (drop_all n ps (omega (arith, e)))

-- one parameter more
handed_at : (bs : BasesState) (ps : List Param) (slots : List Held) (lowest at i : ℕ) (p : Param) (h : Held) (old : List (Option Datum)) (v : Option Datum) → at ≡ length ps - 1 - i → i < length ps → p ≡ get_or ps at p → Some h ≡ slice_get slots (lowest + at) →
    handed bs (drop (length ps - i) ps) (drop (length ps - i) (drop lowest slots)) v ≡ Some old →
    handed bs (drop at ps) (drop at (drop lowest slots)) v ≡ and_handed bs p.passing h (Some old)
handed_at bs ps slots lowest at i p h old v place within is there before =
    let hs = drop lowest slots in
    let holds = there ∙ sym (get_dropped lowest slots at) in
    let next : suc at ≡ length ps - i = omega (arith, place, within) in
    handed_from bs at ps hs v p h (sym (slice_get_read ps (length ps) at p refl (omega (arith, place, within)) is)) holds
    ∙ ap (and_handed bs p.passing h) (ap (λ m. handed bs (drop m ps) (drop m hs) v) next ∙ before)

pub handed_on : (bs : BasesState) (ps : List Param) (slots : List Held) (lowest at i : ℕ) (p : Param) (h : Held) (old new : List (Option Datum)) (v : Option Datum) (done : Bool) → at ≡ length ps - 1 - i → i < length ps → p ≡ get_or ps at p → Some h ≡ slice_get slots (lowest + at) →
    handed bs (drop (length ps - i) ps) (drop (length ps - i) (drop lowest slots)) v ≡ Some old →
    Adds (and_handed bs p.passing h (Some old)) done new → done ≡ true →
    handed bs (drop (length ps - (i + 1)) ps) (drop (length ps - (i + 1)) (drop lowest slots)) v ≡ Some new
handed_on bs ps slots lowest at i p h old new v done place within is there before after so =
    let same : length ps - (i + 1) ≡ at = omega (arith, place, within) in
    ap (λ m. handed bs (drop m ps) (drop m (drop lowest slots)) v) same
    ∙ handed_at bs ps slots lowest at i p h old v place within is there before
    ∙ subst (λ b. Adds (and_handed bs p.passing h (Some old)) b new) so after

pub handed_none : (bs : BasesState) (ps : List Param) (slots : List Held) (lowest at i : ℕ) (p : Param) (h : Held) (old new : List (Option Datum)) (v : Option Datum) (done : Bool) → at ≡ length ps - 1 - i → i < length ps → p ≡ get_or ps at p → Some h ≡ slice_get slots (lowest + at) →
    handed bs (drop (length ps - i) ps) (drop (length ps - i) (drop lowest slots)) v ≡ Some old →
    Adds (and_handed bs p.passing h (Some old)) done new → done ≡ false →
    handed bs ps (drop lowest slots) v ≡ None
handed_none bs ps slots lowest at i p h old new v done place within is there before after so =
    lost bs at ps (drop lowest slots) v
    (handed_at bs ps slots lowest at i p h old v place within is there before
    ∙ subst (λ b. Adds (and_handed bs p.passing h (Some old)) b new) so after)
