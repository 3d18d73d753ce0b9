-- Slots whose forms stand over the bases.
use Rattle.std.proofs.Common.{◌≡◌, ◌∙◌, ℕ, zero, suc, ◌≤◌, List, [], ◌∷◌, ◌++◌, take, map, replicate, set, refl, sym, ap, subst, Option, None, Some}
use Rattle.std.specs.Prelude.{slice_get}
use Rattle.std.proofs.lemmas.Option.{same_Some}
use Rattle.std.proofs.lemmas.List.{map-append}
use Rattle.setl_value.specs.Datum.{Datum, part_depth}
use Rattle.setl_value.specs.code.DatumOf.{datum, part}
use Rattle.setl_value.specs.declared.Value.{Value}
use Rattle.setl_code.specs.CodeCore.{There}
use Rattle.setl_code.specs.CodeCore as core
use Rattle.setl_modes.specs.Modes.{mode_of}
use Rattle.setl_modes.specs.declared.mode.Mode.{Mode}
use Rattle.setl_rep_bases.specs.Bases.{BasesState}
use Rattle.setl_rep_bases.specs.Keeping.{AreKept}
use Rattle.setl_rep_forms.specs.FormOf.{form}
use Rattle.setl_rep_updates.specs.InForm.{FormsOfMainStay}
use Rattle.setl_rep_forms.specs.declared.held.Held.{Held as Form}
use Rattle.setl_rep_plain.specs.Standing.{held_value}
use Rattle.setl_store_slots.specs.Slots.{content_of, IsStanding, AreStanding}
use Rattle.setl_store_slots.specs.declared.cells.Held.{Held}
use Rattle.setl_store_slots.specs.declared.cells.Held.TheVariants as held
use Rattle.setl_store.specs.Flat.{held_of, IsPlainSlot}
use Rattle.setl_store.specs.Operands.{IsThere}
use Rattle.setl_store.specs.Returning.{held_by}

pub standing_at : (bs : BasesState) (hs : List Held) (n : ℕ) (h : Held) → AreStanding bs hs → Some h ≡ slice_get hs n → IsStanding bs h
standing_at bs [] n h all e = absurd (cc)
standing_at bs (g ∷ gs) zero h all e = subst (IsStanding bs) (sym (same_Some h g e)) all.0
standing_at bs (g ∷ gs) (suc n) h all e = standing_at bs gs n h all.1 e

pub standing_set : (bs : BasesState) (hs : List Held) (n : ℕ) (h : Held) → AreStanding bs hs → IsStanding bs h → AreStanding bs (set hs n h)
standing_set bs [] n h all one = tt
standing_set bs (g ∷ gs) zero h all one = (one, all.1)
standing_set bs (g ∷ gs) (suc n) h all one = (all.0, standing_set bs gs n h all.1 one)

pub standing_take : (bs : BasesState) (n : ℕ) (hs : List Held) → AreStanding bs hs → AreStanding bs (take n hs)
standing_take bs zero hs all = tt
standing_take bs (suc n) [] all = tt
standing_take bs (suc n) (h ∷ hs) all = (all.0, standing_take bs n hs all.1)

standing_append : (bs : BasesState) (hs gs : List Held) → AreStanding bs hs → AreStanding bs gs → AreStanding bs (hs ++ gs)
standing_append bs [] gs all more = more
standing_append bs (h ∷ hs) gs all more = (all.0, standing_append bs hs gs all.1 more)

-- ---- values that are stored as they are

pub value_shown : (bs : BasesState) (v : Option Value) → held_of bs (held_by v) ≡ There (part v)
value_shown bs None = refl
value_shown bs (Some v) = refl

pub value_content : (bs : BasesState) (v : Option Value) → content_of bs (held_by v) ≡ Some (part v)
value_content bs None = refl
value_content bs (Some v) = refl

pub value_standing : (bs : BasesState) (v : Option Value) → IsStanding bs (held_by v)
value_standing bs None = tt
value_standing bs (Some v) = tt

cleared_shown : (bs : BasesState) (n : ℕ) → map (held_of bs) (replicate n held.Om) ≡ replicate n (There None)
cleared_shown bs zero = refl
cleared_shown bs (suc n) = ap (λ l. There None ∷ l) (cleared_shown bs n)

cleared_standing : (bs : BasesState) (n : ℕ) → AreStanding bs (replicate n held.Om)
cleared_standing bs zero = tt
cleared_standing bs (suc n) = (tt, cleared_standing bs n)

-- values, and behind them slots that are `om`
pub first_shown : (bs : BasesState) (vs : List (Option Value)) (n : ℕ) → map (held_of bs) (map held_by vs ++ replicate n held.Om) ≡ map There (map part vs) ++ replicate n (There None)
first_shown bs [] n = cleared_shown bs n
first_shown bs (v ∷ vs) n = λ i. value_shown bs v i ∷ first_shown bs vs n i

values_standing : (bs : BasesState) (vs : List (Option Value)) (n : ℕ) → AreStanding bs (map held_by vs ++ replicate n held.Om)
values_standing bs [] n = cleared_standing bs n
values_standing bs (v ∷ vs) n = (value_standing bs v, values_standing bs vs n)

pub first_standing : (bs : BasesState) (hs : List Held) (vs : List (Option Value)) (n : ℕ) → AreStanding bs hs → AreStanding bs (hs ++ (map held_by vs ++ replicate n held.Om))
first_standing bs hs vs n all = standing_append bs hs (map held_by vs ++ replicate n held.Om) all (values_standing bs vs n)

pub all_cleared_shown : (bs : BasesState) (v p m : ℕ) → map (held_of bs) ((replicate v held.Om ++ replicate p held.Om) ++ replicate m held.Om) ≡ (replicate v (There None) ++ replicate p (There None)) ++ replicate m (There None)
all_cleared_shown bs v p m =
    map-append (held_of bs) (replicate v held.Om ++ replicate p held.Om) (replicate m held.Om)
    ∙ (λ i. (map-append (held_of bs) (replicate v held.Om) (replicate p held.Om) ∙ (λ j. cleared_shown bs v j ++ cleared_shown bs p j)) i ++ cleared_shown bs m i)

pub all_cleared_standing : (bs : BasesState) (v p m : ℕ) → AreStanding bs ((replicate v held.Om ++ replicate p held.Om) ++ replicate m held.Om)
all_cleared_standing bs v p m = standing_append bs (replicate v held.Om ++ replicate p held.Om) (replicate m held.Om) (standing_append bs (replicate v held.Om) (replicate p held.Om) (cleared_standing bs v) (cleared_standing bs p)) (cleared_standing bs m)

-- ---- what a slot holds, as a plain value

pub there_by_content : (bs : BasesState) (h : Held) (v : Option Datum) → content_of bs h ≡ Some v → held_of bs h ≡ There v
there_by_content bs held.Om v e = ap (λ w. core.There w) (same_Some None v e)
there_by_content bs (held.Value w) v e = ap (λ u. core.There u) (same_Some (Some (datum w)) v e)
there_by_content bs held.Taken v e = absurd (cc)
there_by_content bs (held.Based m f) v e = ap (λ u. core.There u) (same_Some (held_value bs f) v e)

pub gone_by_content : (bs : BasesState) (h : Held) → content_of bs h ≡ None → held_of bs h ≡ core.Gone
gone_by_content bs held.Om e = absurd (cc)
gone_by_content bs (held.Value w) e = absurd (cc)
gone_by_content bs held.Taken e = refl
gone_by_content bs (held.Based m f) e = absurd (cc)

-- what is there and in no form is plain
pub plain_there : (bs : BasesState) (h : Held) → IsThere (held_of bs h) → ((m : Mode) (f : Form) → h ≡ held.Based m f → ⊥) → IsPlainSlot h
plain_there bs held.Om there not = tt
plain_there bs (held.Value w) there not = tt
plain_there bs held.Taken there not = absurd there
plain_there bs (held.Based m f) there not = absurd (not m f refl)

-- ---- bases in which those of the slots are kept

pub record SlotStays (bs cs : BasesState) (h : Held) : Type 0 where
  pub same : held_of cs h ≡ held_of bs h
  pub stands : IsStanding cs h

slot_stays : FormsOfMainStay → (bs cs : BasesState) (h : Held) → AreKept bs cs → IsStanding bs h → SlotStays bs cs h
slot_stays stay bs cs held.Om more h = record { same = refl; stands = tt }
slot_stays stay bs cs (held.Value v) more h = record { same = refl; stands = tt }
slot_stays stay bs cs held.Taken more h = record { same = refl; stands = tt }
slot_stays stay bs cs (held.Based m f) more h =
    let s = stay (mode_of m) bs cs (form f) more h.1 in
    record { same = ap (λ v. core.There v) s.1; stands = (record { over = s.0.over; shallow = subst (λ v. part_depth v ≤ 500) (sym s.1) h.0.shallow }, s.0) }

pub record SlotsStay (bs cs : BasesState) (hs : List Held) : Type 0 where
  pub same : map (held_of cs) hs ≡ map (held_of bs) hs
  pub stand : AreStanding cs hs

pub slots_stay : FormsOfMainStay → (bs cs : BasesState) (hs : List Held) → AreKept bs cs → AreStanding bs hs → SlotsStay bs cs hs
slots_stay stay bs cs [] more all = record { same = refl; stand = tt }
slots_stay stay bs cs (h ∷ hs) more all =
    let here = slot_stays stay bs cs h more all.0 in
    let rest = slots_stay stay bs cs hs more all.1 in
    record { same = λ i. here.same i ∷ rest.same i; stand = (here.stands, rest.stand) }
