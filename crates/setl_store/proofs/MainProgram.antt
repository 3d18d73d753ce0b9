-- The slots of the main program and the bases that are told, whatever body is at work.
use Rattle.std.proofs.Common.{◌≡◌, ℕ, zero, suc, ◌+◌, ◌-◌, ◌<◌, ◌≤◌, Bool, true, false, true≢false, List, [], ◌∷◌, length, take, drop, map, reverse, refl, sym, ap, ◌∙◌, subst, arith, None, Some}
use Rattle.std.specs.Prelude.{slice_get, cond}
use Rattle.std.proofs.lemmas.List.{drop-take, length-map, length-take-le, take-take}
use Rattle.setl_model.specs.Entered.{Base}
use Rattle.setl_model_runs.specs.Variable.{Variable, Global, Own, Bound, is_variable}
use Rattle.setl_model_runs.specs.VariableLaws.{same_variable, variable_itself}
use Rattle.setl_code.specs.declared.code.Code.{Code}
use Rattle.setl_code.specs.declared.code.Slot.{Slot}
use Rattle.setl_code.specs.declared.code.Slot.TheVariants as slot
use Rattle.setl_code.specs.Code as plain
use Rattle.setl_code.specs.CodeCore as core
use Rattle.setl_code.specs.CodeCore.{CodeCore, There, held_in, main_held, outermost}
use Rattle.setl_code.specs.MayRun.{MayRun}
use Rattle.setl_code.specs.Names.{is_among}
use Rattle.setl_code.specs.Plain.{plain_code, plain_slot, variable_at}
use Rattle.setl_modes.specs.declared.mode.Mode.{Mode}
use Rattle.setl_modes.specs.Modes.{mode_of}
use Rattle.setl_rep_bases.specs.declared.BaseId.{BaseId}
use Rattle.setl_rep_bases.specs.BaseId.{main}
use Rattle.setl_rep_bases.specs.Bases.{BasesState, base_at}
use Rattle.setl_rep_building.specs.HasForm.{HasFormOrOm}
use Rattle.setl_rep_entering.specs.Entering.{values_in}
use Rattle.setl_rep_forms.specs.declared.held.Held.{Held as Form}
use Rattle.setl_rep_forms.specs.FormOf.{form}
use Rattle.setl_rep_plain.specs.Standing.{held_value}
use Rattle.setl_store_slots.specs.Slots.{IsStanding}
use Rattle.setl_store_slots.specs.declared.cells.Held.{Held}
use Rattle.setl_store_slots.specs.declared.cells.Held.TheVariants as slot_held
use Rattle.setl_store.specs.declared.cells.Frame.{Frame}
use Rattle.setl_store.specs.declared.cells.Kept.{Kept}
use Rattle.setl_store.specs.Flat.{Here, activation, base_of, bases_from, bases_of, callers, cells, core_of, held_of, helds, main_place, names_of, results, stands, IsShaped, IsSound}
use Rattle.setl_store.specs.MainProgram.{main_variables, AreTold, HasMainSlot, IsFormed, IsMissing}
use Rattle.setl_store.specs.Standing.{Standing}
use Rattle.setl_store.proofs.Bodies.{own_at, names_differ, names_own, IsOwn}
use Rattle.setl_store.proofs.Gaining.{named_main}
use Rattle.setl_store.proofs.Lists.{some_same}
use Rattle.setl_store.proofs.Slots.{cells_agree, held_at, innermost_of, or_false, slice_get_drop, slice_get_map, Innermost, innermost}

-- ---- the outermost activation

-- the main program's slots are the lowest
main_below : (c : plain.Code) (f : Frame) (fs : List Frame) (n m : ℕ) → IsShaped c (f ∷ fs) n m → length c.vars + length (names_of c 0) ≤ n
main_below c f [] n m h = omega (arith, h.3, h.1, ap (λ b. length (names_of c b)) h.0)
main_below c f (g ∷ fs) n m h = omega (arith, h.0, main_below c g fs f.slots f.operands h.2)

front : {A : Type 0} (v k s : ℕ) (xs : List A) → v + k ≤ s → take k (drop v (take s xs)) ≡ take k (drop v xs)
front v k s xs h =
    let split : s ≡ v + (s - v) = omega (arith, h) in
    ap (λ n. take k (drop v (take n xs))) split ∙ ap (take k) (drop-take v (s - v) xs) ∙ take-take k (s - v) (drop v xs) (omega (arith, h))

outermost_own : (c : plain.Code) (at : ℕ) (f : Frame) (fs : List Frame) (hs : List core.Held) (os : List core.Operand) (m : ℕ) → IsShaped c (f ∷ fs) (length hs) m →
    (outermost (activation c at (f ∷ fs) hs os) (callers c (f ∷ fs) hs os)).own ≡ cells (names_of c 0) (drop (length c.vars) hs)
outermost_own c at f [] hs os m h = λ i. cells (names_of c (h.0 i)) (drop (h.1 i) hs)
outermost_own c at f (g ∷ fs) hs os m h =
    let low = main_below c g fs f.slots f.operands h.2 in
    let whole : length (take f.slots hs) ≡ f.slots = length-take-le f.slots hs (omega (arith, h.0)) in
    outermost_own c f.from g fs (take f.slots hs) (take f.operands os) f.operands (subst (λ n. IsShaped c (g ∷ fs) n f.operands) (sym whole) h.2)
    ∙ cells_agree (names_of c 0) (drop (length c.vars) (take f.slots hs)) (drop (length c.vars) hs) (length (names_of c 0)) (omega arith) (front (length c.vars) (length (names_of c 0)) f.slots hs low)

main_own : (c : plain.Code) (bs : BasesState) (at : ℕ) (e : Here) (kept : List (Here × Kept)) → Innermost bs c e →
    (outermost (core_of c bs at e kept).now (core_of c bs at e kept).callers).own ≡ cells (names_of c 0) (drop (length c.vars) (helds bs e))
main_own c bs at e kept (innermost f fs is h) =
    ap (λ l. (outermost (activation c at l (helds bs e) (results bs e)) (callers c l (helds bs e) (results bs e))).own) is
    ∙ outermost_own c at f fs (helds bs e) (results bs e) (length (results bs e)) h

-- ---- what a variable holds

global_in : (xs : List (List ℕ)) (i : ℕ) (k : CodeCore) → i < length xs → main_held (variable_at (map Global xs) i) k ≡ held_in k.globals (variable_at (map Global xs) i)
global_in [] i k h = absurd (omega (arith, h))
global_in (x ∷ xs) zero k h = refl
global_in (x ∷ xs) (suc i) k h = global_in xs i k (omega (arith, h))

own_in_main : (x : Variable) (k : CodeCore) → IsOwn x → main_held x k ≡ held_in (outermost k.now k.callers).own x
own_in_main (Global name) k h = absurd h
own_in_main (Own body name) k h = refl
own_in_main (Bound former name) k h = refl

holds_by : (code : Code) (bs : BasesState) (at : ℕ) (e : Here) (kept : List (Here × Kept)) (x : Slot) (h : Held) → MayRun code → Innermost bs (plain_code code) e → HasMainSlot code x → Some h ≡ slice_get e.slots (main_place code x) →
    main_held (plain_slot (main_variables code) x) (core_of (plain_code code) bs at e kept) ≡ held_of bs h
holds_by code bs at e kept (slot.Global k) h may in_it has there =
    let c = plain_code code in
    global_in code.vars k (core_of c bs at e kept) (omega (arith, has, length-map code.vars Global))
    ∙ held_at c.vars (helds bs e) k (held_of bs h) may.0 has (slice_get_map (held_of bs) e.slots k h there)
holds_by code bs at e kept (slot.Own k) h may in_it has there =
    let c = plain_code code in
    let xs = names_of c 0 in
    let x = variable_at xs k in
    own_in_main x (core_of c bs at e kept) (own_at xs k (names_own code 0) has)
    ∙ ap (λ l. held_in l x) (main_own c bs at e kept in_it)
    ∙ held_at xs (drop (length c.vars) (helds bs e)) k (held_of bs h) (names_differ code 0 may) has
    (slice_get_map (held_of bs) e.slots (length code.vars + k) h there ∙ ap (λ n. slice_get (helds bs e) (n + k)) (sym (length-map code.vars Global)) ∙ sym (slice_get_drop (length c.vars) (helds bs e) k))

within_by : (code : Code) (bs : BasesState) (e : Here) (x : Slot) → Innermost bs (plain_code code) e → HasMainSlot code x → main_place code x < length e.slots
within_by code bs e (slot.Global k) (innermost f fs is h) has = omega (arith, has, main_below (plain_code code) f fs (length (helds bs e)) (length (results bs e)) h, length-map e.slots (held_of bs))
within_by code bs e (slot.Own k) (innermost f fs is h) has =
    omega (arith, has, main_below (plain_code code) f fs (length (helds bs e)) (length (results bs e)) h, length-map e.slots (held_of bs), length-map code.vars Global)

-- ---- what a variable that isn't there holds

not_turned : (x y : Variable) → is_variable x y ≡ false → is_variable y x ≡ false
not_turned x y h = by (is_variable y x) refl
  where
    by : (b : Bool) → is_variable y x ≡ b → is_variable y x ≡ false
    by false e = e
    by true e = absurd (true≢false (sym (subst (λ z. is_variable x z ≡ true) (sym (same_variable y x e)) (variable_itself x)) ∙ h))

none_held : (xs : List Variable) (hs : List core.Held) (x : Variable) → is_among xs x ≡ false → held_in (cells xs hs) x ≡ There None
none_held [] hs x h = refl
none_held (y ∷ xs) [] x h = refl
none_held (y ∷ xs) (v ∷ hs) x h =
    let both = or_false (is_variable x y) (is_among xs x) h in
    ap (λ b. cond b v (held_in (cells xs hs) x)) (not_turned x y both.0) ∙ none_held xs hs x both.1

om_by : (code : Code) (bs : BasesState) (at : ℕ) (e : Here) (kept : List (Here × Kept)) (x : Variable) → Innermost bs (plain_code code) e → IsMissing code x → main_held x (core_of (plain_code code) bs at e kept) ≡ There None
om_by code bs at e kept (Global name) in_it none = none_held (plain_code code).vars (helds bs e) (Global name) none
om_by code bs at e kept (Own body name) in_it none =
    let c = plain_code code in
    ap (λ l. held_in l (Own body name)) (main_own c bs at e kept in_it) ∙ none_held (names_of c 0) (drop (length c.vars) (helds bs e)) (Own body name) none
om_by code bs at e kept (Bound former name) in_it none =
    let c = plain_code code in
    ap (λ l. held_in l (Bound former name)) (main_own c bs at e kept in_it) ∙ none_held (names_of c 0) (drop (length c.vars) (helds bs e)) (Bound former name) none

-- ---- what is lent

-- the form of a slot that stands over bases
pub formed : (bs : BasesState) (m n : Mode) (h g : Form) → n ≡ m → g ≡ h → IsStanding bs (slot_held.Based m h) → IsFormed bs (held_value bs h) n g
formed bs m n h g mode form_is is =
    subst (λ k. IsFormed bs (held_value bs h) k g) (sym mode)
    (subst (IsFormed bs (held_value bs h) m) (sym form_is)
    (record { value = refl; over = is.0; form = subst (λ (name : ℕ → BaseId). HasFormOrOm name (mode_of m) (form h)) (λ i b. named_main bs b i) is.1.form }))

-- ---- bases that are told

counted : (n count : ℕ) (bs : BasesState) (kept : List (Here × Kept)) → count ≡ length (bases_from n count bs kept)
counted n zero bs kept = refl
counted n (suc count) bs kept = ap suc (counted (suc n) count bs kept)

members_from : (n count k : ℕ) (bs : BasesState) (kept : List (Here × Kept)) (b : Base) → slice_get (bases_from n count bs kept) k ≡ Some b → values_in (base_at bs (main (n + k))) ≡ b.members
members_from n zero k bs kept b there = absurd (cc)
members_from n (suc count) zero bs kept b there =
    let same : n + 0 ≡ n = omega arith in
    ap (λ i. values_in (base_at bs (main i))) same ∙ ap (λ (x : Base). x.members) (some_same (base_of bs kept n) b there)
members_from n (suc count) (suc k) bs kept b there =
    let same : n + suc k ≡ suc n + k = omega arith in
    ap (λ i. values_in (base_at bs (main i))) same ∙ members_from (suc n) count k bs kept b there

all_told : (bs : BasesState) (kept : List (Here × Kept)) → AreTold (bases_of bs kept) bs
all_told bs kept = record {
  count = counted 0 bs.count bs kept;
  members = λ n b there. let same : n ≡ 0 + n = omega arith in ap (λ i. values_in (base_at bs (main i))) same ∙ members_from 0 bs.count n bs kept b there;
}

-- ---- the same of a store

module _ (code : Code) (bs : BasesState) (at : ℕ) (e : Here) (kept : List (Here × Kept)) (s : Standing) (is : stands code bs at e kept ≡ s) where
  pub told : AreTold s.bases bs
  told = subst (λ (t : Standing). AreTold t.bases bs) is (all_told bs kept)

  pub main_within : (x : Slot) → IsSound (plain_code code) bs e → HasMainSlot s.code x → main_place code x < length e.slots
  main_within x sound has = within_by code bs e x (innermost_of bs (plain_code code) e sound) (subst (λ (t : Standing). HasMainSlot t.code x) (sym is) has)

  pub main_holds : (x : Slot) (n : ℕ) (h : Held) → MayRun code → IsSound (plain_code code) bs e → HasMainSlot s.code x → n ≡ main_place code x → Some h ≡ slice_get e.slots n →
      held_of bs h ≡ main_held (plain_slot (main_variables s.code) x) s.core
  main_holds x n h may sound has place there =
      sym
      (subst (λ (t : Standing). HasMainSlot t.code x → main_held (plain_slot (main_variables t.code) x) t.core ≡ held_of bs h) is
      (λ own. holds_by code bs at e kept x h may (innermost_of bs (plain_code code) e sound) own (there ∙ ap (slice_get e.slots) place)) has)

  pub main_lacks : (x : Variable) → IsSound (plain_code code) bs e → IsMissing s.code x → main_held x s.core ≡ There None
  main_lacks x sound =
      subst (λ (t : Standing). IsMissing t.code x → main_held x t.core ≡ There None) is (om_by code bs at e kept x (innermost_of bs (plain_code code) e sound))
