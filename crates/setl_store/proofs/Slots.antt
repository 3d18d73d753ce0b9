-- Slots, and the variables that they stand for.
use Rattle.std.proofs.Common.{◌≡◌, ℕ, zero, suc, ◌+◌, ◌<◌, ◌≤◌, Bool, true, false, List, [], ◌∷◌, length, take, drop, map, reverse, set, refl, sym, ap, ◌∙◌, subst, arith, Some}
use Rattle.std.specs.Prelude.{slice_get, cond, ◌||◌}
use Rattle.std.specs.Option.{option_map}
use Rattle.std.proofs.lemmas.List.{length-map, length-set, length-drop, drop-set-add, drop-set-lt, take-set-le, map-set}
use Rattle.setl_model_runs.specs.Variable.{Variable, Global, is_variable}
use Rattle.setl_model_runs.specs.VariableLaws.{variable_itself}
use Rattle.setl_code.specs.declared.code.Code.{Code}
use Rattle.setl_code.specs.declared.code.Slot.{Slot}
use Rattle.setl_code.specs.declared.code.Slot.TheVariants as slot
use Rattle.setl_code.specs.Code as plain
use Rattle.setl_code.specs.CodeCore as core
use Rattle.setl_code.specs.CodeCore.{Cells, CodeCore, held, held_in, with_held, write}
use Rattle.setl_code.specs.Names.{is_among}
use Rattle.setl_code.specs.Plain.{variable_at, plain_slot, plain_code}
use Rattle.setl_code.specs.MayRun.{Differ, HasSlot, MayRun}
use Rattle.setl_rep_bases.specs.Bases.{BasesState}
use Rattle.setl_store.specs.declared.cells.Frame.{Frame}
use Rattle.setl_store_slots.specs.Slots.{IsStanding}
use Rattle.setl_store_slots.specs.declared.cells.Held.{Held}
use Rattle.setl_store.specs.Standing.{Standing, no_world, variables}
use Rattle.setl_store.specs.declared.cells.Kept.{Kept}
use Rattle.setl_store_operands.specs.Operands.{operand_of}
use Rattle.setl_store.specs.Flat.{Here, held_of, cells, names_of, own_in, operands_in, activation, callers, copies_of, core_of, stands, helds, results, place_in, with_slot, IsShaped, IsSound, AllSound}
use Rattle.setl_store.proofs.Bodies.{own_at, own_held, own_write, with_own, global_held, global_write, with_global, names_own, names_differ}
use Rattle.setl_store.proofs.OperandLists.{Changed, changed}
use Rattle.setl_store.proofs.StandingSlots.{standing_at, standing_set}

-- ---- cells

pub names_in : (xs : List Variable) (hs : List core.Held) → length xs ≤ length hs → map (λ c. c.0) (cells xs hs) ≡ xs
names_in [] hs h = refl
names_in (x ∷ xs) [] h = absurd (omega (arith, h))
names_in (x ∷ xs) (v ∷ hs) h = ap (λ l. x ∷ l) (names_in xs hs (omega (arith, h)))

pub or_false : (a b : Bool) → (a || b) ≡ false → (a ≡ false) × (b ≡ false)
or_false true b h = absurd (cc)
or_false false b h = (refl, h)

apart : (x : Variable) (xs : List Variable) (k : ℕ) → is_among xs x ≡ false → k < length xs → is_variable x (variable_at xs k) ≡ false
apart x [] k a h = absurd (omega (arith, h))
apart x (y ∷ xs) zero a h = (or_false (is_variable x y) (is_among xs x) a).0
apart x (y ∷ xs) (suc k) a h = apart x xs k (or_false (is_variable x y) (is_among xs x) a).1 (omega (arith, h))

pub held_at : (xs : List Variable) (hs : List core.Held) (k : ℕ) (v : core.Held) → Differ xs → k < length xs → Some v ≡ slice_get hs k → held_in (cells xs hs) (variable_at xs k) ≡ v
held_at [] hs k v d h e = absurd (omega (arith, h))
held_at (x ∷ xs) [] k v d h e = absurd (cc)
held_at (x ∷ xs) (w ∷ hs) zero v d h e = ap (λ b. cond b w (held_in (cells xs hs) x)) (variable_itself x) ∙ cc
held_at (x ∷ xs) (w ∷ hs) (suc k) v d h e = ap (λ b. cond b w (held_in (cells xs hs) (variable_at xs k))) (apart x xs k d.0 (omega (arith, h))) ∙ held_at xs hs k v d.1 (omega (arith, h)) e

written_at : (xs : List Variable) (hs : List core.Held) (k : ℕ) (v : core.Held) → Differ xs → k < length xs → length xs ≤ length hs → cells xs (set hs k v) ≡ with_held (cells xs hs) (variable_at xs k) v
written_at [] hs k v d h l = absurd (omega (arith, h))
written_at (x ∷ xs) [] k v d h l = absurd (omega (arith, l))
written_at (x ∷ xs) (w ∷ hs) zero v d h l = sym (ap (λ b. cond b ((x, v) ∷ cells xs hs) ((x, w) ∷ with_held (cells xs hs) x v)) (variable_itself x))
written_at (x ∷ xs) (w ∷ hs) (suc k) v d h l =
    ap (λ l. (x, w) ∷ l) (written_at xs hs k v d.1 (omega (arith, h)) (omega (arith, l)))
    ∙ sym (ap (λ b. cond b ((variable_at xs k, v) ∷ cells xs hs) ((x, w) ∷ with_held (cells xs hs) (variable_at xs k) v)) (apart x xs k d.0 (omega (arith, h))))

cells_front : (xs : List Variable) (hs : List core.Held) (n : ℕ) → length xs ≤ n → cells xs (take n hs) ≡ cells xs hs
cells_front [] hs n h = refl
cells_front (x ∷ xs) hs zero h = absurd (omega (arith, h))
cells_front (x ∷ xs) [] (suc n) h = refl
cells_front (x ∷ xs) (v ∷ hs) (suc n) h = ap (λ l. (x, v) ∷ l) (cells_front xs hs n (omega (arith, h)))

-- only the lowest of them count
pub cells_agree : (xs : List Variable) (hs gs : List core.Held) (n : ℕ) → length xs ≤ n → take n hs ≡ take n gs → cells xs hs ≡ cells xs gs
cells_agree xs hs gs n h e = sym (cells_front xs hs n h) ∙ ap (cells xs) e ∙ cells_front xs gs n h

-- ---- the flat list of slots

pub own_counted : (c : plain.Code) (f : Frame) (fs : List Frame) (n m : ℕ) → IsShaped c (f ∷ fs) n m → n ≡ f.slots + length (names_of c f.body)
own_counted c f [] n m h = h.3
own_counted c f (g ∷ fs) n m h = h.0

pub globals_below : (c : plain.Code) (f : Frame) (fs : List Frame) (n m : ℕ) → IsShaped c (f ∷ fs) n m → length c.vars ≤ f.slots
globals_below c f [] n m h = omega (arith, h.1)
globals_below c f (g ∷ fs) n m h = omega (arith, globals_below c g fs f.slots f.operands h.2, own_counted c g fs f.slots f.operands h.2)

-- what waits doesn't see the slots of the body at work
callers_own : (c : plain.Code) (f : Frame) (fs : List Frame) (hs gs : List core.Held) (os : List core.Operand) → take f.slots hs ≡ take f.slots gs → callers c (f ∷ fs) hs os ≡ callers c (f ∷ fs) gs os
callers_own c f [] hs gs os e = refl
callers_own c f (g ∷ fs) hs gs os e = ap (λ l. activation c f.from (g ∷ fs) l (take f.operands os) ∷ callers c (g ∷ fs) l (take f.operands os)) e

take_set : {A : Type 0} (n : ℕ) (xs : List A) (i : ℕ) (x : A) → take n (set xs i x) ≡ set (take n xs) i x
take_set zero xs i x = refl
take_set (suc n) [] i x = refl
take_set (suc n) (y ∷ xs) zero x = refl
take_set (suc n) (y ∷ xs) (suc i) x = ap (λ l. y ∷ l) (take_set n xs i x)

-- it doesn't see the globals either
callers_global : (c : plain.Code) (f : Frame) (fs : List Frame) (hs : List core.Held) (i : ℕ) (v : core.Held) (os : List core.Operand) (n m : ℕ) → IsShaped c (f ∷ fs) n m → i < length c.vars → callers c (f ∷ fs) (set hs i v) os ≡ callers c (f ∷ fs) hs os
callers_global c f [] hs i v os n m h l = refl
callers_global c f (g ∷ fs) hs i v os n m h l =
    let own : drop g.slots (take f.slots (set hs i v)) ≡ drop g.slots (take f.slots hs) =
    ap (drop g.slots) (take_set f.slots hs i v) ∙ drop-set-lt g.slots (take f.slots hs) i v (omega (arith, l, globals_below c g fs f.slots f.operands h.2)) in
    let rest : callers c (g ∷ fs) (take f.slots (set hs i v)) (take f.operands os) ≡ callers c (g ∷ fs) (take f.slots hs) (take f.operands os) =
    ap (λ l. callers c (g ∷ fs) l (take f.operands os)) (take_set f.slots hs i v) ∙ callers_global c g fs (take f.slots hs) i v (take f.operands os) f.slots f.operands h.2 l in
    λ j. record { body = g.body; at = f.from; own = cells (names_of c g.body) (own j); operands = operands_in (g ∷ fs) (take f.operands os) } ∷ rest j

-- ---- what a slot holds

abbrev core_flat : plain.Code → BasesState → ℕ → List Frame → List core.Held → List core.Operand → List (Here × Kept) → CodeCore
core_flat c bs at fs hs os kept = record {
  globals = cells c.vars hs;
  now = activation c at fs hs os;
  callers = callers c fs hs os;
  kept = copies_of c bs kept;
  world = no_world;
}

pub slice_get_drop : {A : Type 0} (n : ℕ) (xs : List A) (k : ℕ) → slice_get (drop n xs) k ≡ slice_get xs (n + k)
slice_get_drop zero xs k = let e : k ≡ zero + k = omega arith in ap (slice_get xs) e
slice_get_drop (suc n) [] k = refl
slice_get_drop (suc n) (x ∷ xs) k = let e : suc (n + k) ≡ suc n + k = omega arith in slice_get_drop n xs k ∙ ap (slice_get (x ∷ xs)) e

pub slice_get_map : {A B : Type 0} (f : A → B) (xs : List A) (k : ℕ) (x : A) → Some x ≡ slice_get xs k → Some (f x) ≡ slice_get (map f xs) k
slice_get_map f [] k x e = absurd (cc)
slice_get_map f (y ∷ xs) zero x e = ap (option_map f) e
slice_get_map f (y ∷ xs) (suc k) x e = slice_get_map f xs k x e

-- the sizes of the parts
pub record Sizes (c : plain.Code) (f : Frame) (fs : List Frame) (hs : List core.Held) : Type 0 where
  pub below : length c.vars ≤ f.slots
  pub whole : length hs ≡ f.slots + length (names_of c f.body)
  pub own : length (drop f.slots hs) ≡ length (names_of c f.body)
  pub globals_are : map (λ s. s.0) (cells c.vars hs) ≡ c.vars
  pub own_are : map (λ s. s.0) (cells (names_of c f.body) (drop f.slots hs)) ≡ names_of c f.body
  pub globals_length : length (cells c.vars hs) ≡ length c.vars
  pub own_length : length (cells (names_of c f.body) (drop f.slots hs)) ≡ length (names_of c f.body)

pub sizes : (c : plain.Code) (f : Frame) (fs : List Frame) (hs : List core.Held) (m : ℕ) → IsShaped c (f ∷ fs) (length hs) m → Sizes c f fs hs
sizes c f fs hs m h =
    let below = globals_below c f fs (length hs) m h in
    let whole = own_counted c f fs (length hs) m h in
    let own : length (drop f.slots hs) ≡ length (names_of c f.body) = omega (arith, whole, length-drop f.slots hs) in
    let globals_are = names_in c.vars hs (omega (arith, below, whole)) in
    let own_are = names_in (names_of c f.body) (drop f.slots hs) (omega (arith, own)) in
    record {
      below = below;
      whole = whole;
      own = own;
      globals_are = globals_are;
      own_are = own_are;
      globals_length = sym (length-map (cells c.vars hs) (λ s. s.0)) ∙ ap length globals_are;
      own_length = sym (length-map (cells (names_of c f.body) (drop f.slots hs)) (λ s. s.0)) ∙ ap length own_are;
    }

-- the slot's place is there
within_flat : (c : plain.Code) (f : Frame) (fs : List Frame) (hs : List core.Held) (m : ℕ) (x : Slot) → IsShaped c (f ∷ fs) (length hs) m →
    HasSlot (length (cells c.vars hs)) (length (cells (names_of c f.body) (drop f.slots hs))) x → place_in (f ∷ fs) x < length hs
within_flat c f fs hs m (slot.Global k) h has = let z = sizes c f fs hs m h in omega (arith, z.below, z.whole, z.globals_length, has)
within_flat c f fs hs m (slot.Own k) h has = let z = sizes c f fs hs m h in omega (arith, z.whole, z.own_length, has)

-- what it holds
held_flat : (code : Code) (bs : BasesState) (at : ℕ) (f : Frame) (fs : List Frame) (hs : List core.Held) (os : List core.Operand) (kept : List (Here × Kept)) (x : Slot) (v : core.Held) → MayRun code →
    IsShaped (plain_code code) (f ∷ fs) (length hs) (length os) →
    HasSlot (length (cells (plain_code code).vars hs)) (length (cells (names_of (plain_code code) f.body) (drop f.slots hs))) x →
    Some v ≡ slice_get hs (place_in (f ∷ fs) x) →
    held (plain_slot (variables (core_flat (plain_code code) bs at (f ∷ fs) hs os kept)) x) (core_flat (plain_code code) bs at (f ∷ fs) hs os kept) ≡ v
held_flat code bs at f fs hs os kept (slot.Global k) v may h has is =
    let c = plain_code code in
    let z = sizes c f fs hs (length os) h in
    let lower : k < length c.vars = omega (arith, has, z.globals_length) in
    let all : k < length code.vars = omega (arith, lower, length-map code.vars Global) in
    let core = core_flat c bs at (f ∷ fs) hs os kept in
    ap (λ xs. held (variable_at xs k) core) z.globals_are
    ∙ global_held code.vars k core all
    ∙ held_at c.vars hs k v may.0 lower is
held_flat code bs at f fs hs os kept (slot.Own k) v may h has is =
    let c = plain_code code in
    let z = sizes c f fs hs (length os) h in
    let xs = names_of c f.body in
    let lower : k < length xs = omega (arith, has, z.own_length) in
    let core = core_flat c bs at (f ∷ fs) hs os kept in
    ap (λ ys. held (variable_at ys k) core) z.own_are
    ∙ own_held (variable_at xs k) core (own_at xs k (names_own code f.body) lower)
    ∙ held_at xs (drop f.slots hs) k v (names_differ code f.body may) lower (is ∙ sym (slice_get_drop f.slots hs k))

-- what a write of it does
written_flat : (code : Code) (bs : BasesState) (at : ℕ) (f : Frame) (fs : List Frame) (hs : List core.Held) (os : List core.Operand) (kept : List (Here × Kept)) (x : Slot) (v : core.Held) → MayRun code →
    IsShaped (plain_code code) (f ∷ fs) (length hs) (length os) →
    HasSlot (length (cells (plain_code code).vars hs)) (length (cells (names_of (plain_code code) f.body) (drop f.slots hs))) x →
    core_flat (plain_code code) bs at (f ∷ fs) (set hs (place_in (f ∷ fs) x) v) os kept
    ≡ write (plain_slot (variables (core_flat (plain_code code) bs at (f ∷ fs) hs os kept)) x) v (core_flat (plain_code code) bs at (f ∷ fs) hs os kept)
written_flat code bs at f fs hs os kept (slot.Global k) v may h has =
    let c = plain_code code in
    let z = sizes c f fs hs (length os) h in
    let lower : k < length c.vars = omega (arith, has, z.globals_length) in
    let all : k < length code.vars = omega (arith, lower, length-map code.vars Global) in
    let core = core_flat c bs at (f ∷ fs) hs os kept in
    let globals = written_at c.vars hs k v may.0 lower (omega (arith, z.below, z.whole)) in
    let own = ap (cells (names_of c f.body)) (drop-set-lt f.slots hs k v (omega (arith, lower, z.below))) in
    let waits = callers_global c f fs hs k v os (length hs) (length os) h lower in
    let to : core_flat c bs at (f ∷ fs) (set hs k v) os kept ≡ with_global core (variable_at c.vars k) v =
    λ i. record core { globals = globals i; now = record core.now { own = own i }; callers = waits i } in
    to ∙ sym (ap (λ ys. write (variable_at ys k) v core) z.globals_are ∙ global_write code.vars k v core all)
written_flat code bs at f fs hs os kept (slot.Own k) v may h has =
    let c = plain_code code in
    let z = sizes c f fs hs (length os) h in
    let xs = names_of c f.body in
    let lower : k < length xs = omega (arith, has, z.own_length) in
    let core = core_flat c bs at (f ∷ fs) hs os kept in
    let front : take f.slots (set hs (f.slots + k) v) ≡ take f.slots hs = take-set-le f.slots hs (f.slots + k) v (omega arith) in
    let globals = cells_agree c.vars (set hs (f.slots + k) v) hs f.slots z.below front in
    let own = ap (cells xs) (drop-set-add f.slots hs k v) ∙ written_at xs (drop f.slots hs) k v (names_differ code f.body may) lower (omega (arith, z.own)) in
    let waits = callers_own c f fs (set hs (f.slots + k) v) hs os front in
    let to : core_flat c bs at (f ∷ fs) (set hs (f.slots + k) v) os kept ≡ with_own core (variable_at xs k) v =
    λ i. record core { globals = globals i; now = record core.now { own = own i }; callers = waits i } in
    to ∙ sym (ap (λ ys. write (variable_at ys k) v core) z.own_are ∙ own_write (variable_at xs k) v core (own_at xs k (names_own code f.body) lower))

-- ---- the same of a store

-- the activations, with the innermost apart
pub data Innermost (bs : BasesState) (c : plain.Code) (e : Here) : Type 0 where
  innermost : (f : Frame) (fs : List Frame) → reverse e.activations ≡ f ∷ fs → IsShaped c (f ∷ fs) (length (helds bs e)) (length (results bs e)) → Innermost bs c e

apart_in : (bs : BasesState) (c : plain.Code) (e : Here) (fs : List Frame) → reverse e.activations ≡ fs → IsShaped c fs (length (helds bs e)) (length (results bs e)) → Innermost bs c e
apart_in bs c e [] is h = absurd h
apart_in bs c e (f ∷ fs) is h = innermost f fs is h

pub innermost_of : (bs : BasesState) (c : plain.Code) (e : Here) → IsSound c bs e → Innermost bs c e
innermost_of bs c e h =
    apart_in bs c e (reverse e.activations) refl
    (subst (λ n. IsShaped c (reverse e.activations) n (length (results bs e))) (sym (length-map e.slots (held_of bs)))
    (subst (λ n. IsShaped c (reverse e.activations) (length e.slots) n) (sym (length-map e.operands (operand_of bs e.members))) h.shaped))

abbrev pub Has : CodeCore → Slot → Type 0
Has k x = HasSlot (length k.globals) (length k.now.own) x

within_by : (c : plain.Code) (bs : BasesState) (at : ℕ) (e : Here) (kept : List (Here × Kept)) (x : Slot) → Innermost bs c e → Has (core_of c bs at e kept) x → place_in (reverse e.activations) x < length e.slots
within_by c bs at e kept x (innermost f fs is h) =
    subst (λ l. HasSlot (length (cells c.vars (helds bs e))) (length (own_in c l (helds bs e))) x → place_in l x < length e.slots) (sym is)
    (λ has. omega (arith, within_flat c f fs (helds bs e) (length (results bs e)) x h has, length-map e.slots (held_of bs)))

pub place_within : (code : Code) (bs : BasesState) (at : ℕ) (e : Here) (kept : List (Here × Kept)) (s : Standing) (x : Slot) → IsSound (plain_code code) bs e → stands code bs at e kept ≡ s → Has s.core x → place_in (reverse e.activations) x < length e.slots
place_within code bs at e kept s x h is has =
    within_by (plain_code code) bs at e kept x (innermost_of bs (plain_code code) e h) (subst (λ (t : Standing). Has t.core x) (sym is) has)

holds_by : (code : Code) (bs : BasesState) (at : ℕ) (e : Here) (kept : List (Here × Kept)) (x : Slot) (h : Held) → MayRun code → Innermost bs (plain_code code) e → Has (core_of (plain_code code) bs at e kept) x → Some h ≡ slice_get e.slots (place_in (reverse e.activations) x) →
    held (plain_slot (variables (core_of (plain_code code) bs at e kept)) x) (core_of (plain_code code) bs at e kept) ≡ held_of bs h
holds_by code bs at e kept x v may (innermost f fs is h) =
    let c = plain_code code in
    subst (λ l. HasSlot (length (cells c.vars (helds bs e))) (length (own_in c l (helds bs e))) x → Some v ≡ slice_get e.slots (place_in l x) → held (plain_slot (variables (core_flat c bs at l (helds bs e) (results bs e) kept)) x) (core_flat c bs at l (helds bs e) (results bs e) kept) ≡ held_of bs v) (sym is)
    (λ has there. held_flat code bs at f fs (helds bs e) (results bs e) kept x (held_of bs v) may h has (slice_get_map (held_of bs) e.slots (place_in (f ∷ fs) x) v there))

pub slot_holds : (code : Code) (bs : BasesState) (keeps : ℕ) (at : ℕ) (e : Here) (kept : List (Here × Kept)) (s : Standing) (x : Slot) (h : Held) →
    MayRun code × IsSound (plain_code code) bs e × AllSound (plain_code code) bs keeps e.slots kept → stands code bs at e kept ≡ s → Has s.core x → Some h ≡ slice_get e.slots (place_in (reverse e.activations) x) →
    held (plain_slot (variables s.core) x) s.core ≡ held_of bs h
slot_holds code bs keeps at e kept s x v h is has there =
    subst (λ (t : Standing). Has t.core x → held (plain_slot (variables t.core) x) t.core ≡ held_of bs v) is
    (λ own. holds_by code bs at e kept x v h.0 (innermost_of bs (plain_code code) e h.1) own there) has

written_by : (code : Code) (bs : BasesState) (at : ℕ) (e : Here) (kept : List (Here × Kept)) (x : Slot) (v : Held) → MayRun code → Innermost bs (plain_code code) e → Has (core_of (plain_code code) bs at e kept) x →
    core_of (plain_code code) bs at (with_slot e (place_in (reverse e.activations) x) v) kept ≡ write (plain_slot (variables (core_of (plain_code code) bs at e kept)) x) (held_of bs v) (core_of (plain_code code) bs at e kept)
written_by code bs at e kept x v may (innermost f fs is h) =
    let c = plain_code code in
    subst (λ l. HasSlot (length (cells c.vars (helds bs e))) (length (own_in c l (helds bs e))) x →
    core_flat c bs at l (map (held_of bs) (set e.slots (place_in l x) v)) (results bs e) kept ≡ write (plain_slot (variables (core_flat c bs at l (helds bs e) (results bs e) kept)) x) (held_of bs v) (core_flat c bs at l (helds bs e) (results bs e) kept)) (sym is)
    (λ has. ap (λ hs. core_flat c bs at (f ∷ fs) hs (results bs e) kept) (map-set (held_of bs) e.slots (place_in (f ∷ fs) x) v) ∙ written_flat code bs at f fs (helds bs e) (results bs e) kept x (held_of bs v) may h has)

sound_written : (c : plain.Code) (bs : BasesState) (e : Here) (n : ℕ) (v : Held) → IsSound c bs e → IsSound c bs (with_slot e n v)
sound_written c bs e n v h = record {
  some = h.some;
  shaped = subst (λ k. IsShaped c (reverse e.activations) k (length e.operands)) (sym (length-set e.slots n v)) h.shaped;
  members = h.members;
  got = h.got;
  operands = h.operands;
}

pub slot_written : (code : Code) (bs : BasesState) (keeps : ℕ) (at : ℕ) (e e' : Here) (kept kept' : List (Here × Kept)) (s : Standing) (x : Slot) (v : Held) →
    MayRun code × IsSound (plain_code code) bs e × AllSound (plain_code code) bs keeps e.slots kept → stands code bs at e kept ≡ s → Has s.core x → IsStanding bs v →
    e' ≡ with_slot e (place_in (reverse e.activations) x) v → kept' ≡ kept →
    Changed code bs keeps at e' kept' s (write (plain_slot (variables s.core) x) (held_of bs v) s.core)
slot_written code bs keeps at e e' kept kept' s x v h is has stand now same =
    let c = plain_code code in
    let n = place_in (reverse e.activations) x in
    let own = subst (λ (t : Standing). Has t.core x) (sym is) has in
    let to = written_by code bs at e kept x v h.0 (innermost_of bs c e h.1) own in
    subst (λ y. Changed code bs keeps at y kept' s (write (plain_slot (variables s.core) x) (held_of bs v) s.core)) (sym now)
    (changed code bs keeps at at e (with_slot e n v) kept kept' s (λ k. write (plain_slot (variables k) x) (held_of bs v) k) h is same to (sound_written c bs e n v h.1) (standing_set bs e.slots n v h.2.standing stand))

-- the same, where the slot's place is known by this number
pub slot_at : (code : Code) (bs : BasesState) (keeps : ℕ) (at : ℕ) (e : Here) (kept : List (Here × Kept)) (s : Standing) (x : Slot) (n : ℕ) (h : Held) →
    MayRun code × IsSound (plain_code code) bs e × AllSound (plain_code code) bs keeps e.slots kept → stands code bs at e kept ≡ s → Has s.core x → n ≡ place_in (reverse e.activations) x → Some h ≡ slice_get e.slots n →
    held (plain_slot (variables s.core) x) s.core ≡ held_of bs h
slot_at code bs keeps at e kept s x n v h is has place there = slot_holds code bs keeps at e kept s x v h is has (there ∙ ap (slice_get e.slots) place)

pub slot_stored : (code : Code) (bs : BasesState) (keeps : ℕ) (at : ℕ) (e e' : Here) (kept kept' : List (Here × Kept)) (s : Standing) (x : Slot) (n : ℕ) (v : Held) (h : core.Held) →
    MayRun code × IsSound (plain_code code) bs e × AllSound (plain_code code) bs keeps e.slots kept → stands code bs at e kept ≡ s → Has s.core x → n ≡ place_in (reverse e.activations) x → IsStanding bs v →
    e' ≡ with_slot e n v → kept' ≡ kept → held_of bs v ≡ h →
    Changed code bs keeps at e' kept' s (write (plain_slot (variables s.core) x) h s.core)
slot_stored code bs keeps at e e' kept kept' s x n v h holds is has place stand now same stands_for =
    subst (λ w. Changed code bs keeps at e' kept' s (write (plain_slot (variables s.core) x) w s.core)) stands_for
    (slot_written code bs keeps at e e' kept kept' s x v holds is has stand (now ∙ ap (λ m. with_slot e m v) place) same)

pub set_same : {A : Type 0} (xs : List A) (n : ℕ) (x : A) → Some x ≡ slice_get xs n → set xs n x ≡ xs
set_same [] n x e = absurd (cc)
set_same (y ∷ xs) zero x e = ap (λ z. z ∷ xs) (let same : x ≡ y = cc in same)
set_same (y ∷ xs) (suc n) x e = ap (λ zs. y ∷ zs) (set_same xs n x e)

-- what a slot holds, stored again, changes nothing
pub slot_again : (code : Code) (bs : BasesState) (keeps : ℕ) (at : ℕ) (e : Here) (kept : List (Here × Kept)) (s : Standing) (x : Slot) (n : ℕ) (v : Held) (h : core.Held) →
    MayRun code × IsSound (plain_code code) bs e × AllSound (plain_code code) bs keeps e.slots kept → stands code bs at e kept ≡ s → Has s.core x → n ≡ place_in (reverse e.activations) x → Some v ≡ slice_get e.slots n → held_of bs v ≡ h →
    write (plain_slot (variables s.core) x) h s.core ≡ s.core
slot_again code bs keeps at e kept s x n v h holds is has place there stands_for =
    let same : e ≡ with_slot e n v = sym (ap (λ l. record e { slots = l }) (set_same e.slots n v there)) in
    ap (λ t. t.core) (sym (slot_stored code bs keeps at e e kept kept s x n v h holds is has place (standing_at bs e.slots n v holds.2.standing there) same refl stands_for).stands ∙ is)
