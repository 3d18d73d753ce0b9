-- Values added to a collection below iterators.
use Rattle.std.proofs.Common.{◌≡◌, ℕ, zero, suc, ◌+◌, ◌-◌, ◌<◌, ◌≤◌, Bool, true, false, List, [], ◌∷◌, ◌++◌, length, take, drop, map, reverse, set, refl, sym, ap, ◌∙◌, subst, arith, Option, Some, None, Err}
use Rattle.std.specs.Prelude.{slice_get}
use Rattle.std.specs.Option.{option_map}
use Rattle.std.proofs.lemmas.List.{append_assoc, drop-append-le, drop-map, length-append, length-drop, length-map, length-reverse, length-set, length-take-le, map-append, map-set, reverse-append, reverse-reverse, set_split, take-append-drop, take-take, take_all, take_at, drop_at}
use Rattle.std.proofs.lemmas.Option.{slice_get-map}
use Rattle.setl_value.specs.Datum.{Datum}
use Rattle.setl_program.specs.declared.kinds.Collection.{Collection}
use Rattle.setl_model.specs.Collections.{refusal}
use Rattle.setl_model.specs.Core as model
use Rattle.setl_operators_table.specs.Outcome.{Fault, OmFault, DeepFault}
use Rattle.setl_operators_table.specs.declared.OpFault.{OpFault}
use Rattle.setl_operators_table.specs.declared.OpFault.TheVariants as fault
use Rattle.setl_code.specs.declared.code.Code.{Code}
use Rattle.setl_code.specs.CodeCore as core
use Rattle.setl_code.specs.Machine.{Added, Adds, Refused, Nowhere, add_by, below, added}
use Rattle.setl_code.specs.MayRun.{MayRun}
use Rattle.setl_code.specs.Plain.{plain_code}
use Rattle.setl_rep_bases.specs.Bases.{BasesState}
use Rattle.setl_store.specs.declared.cells.Frame.{Frame}
use Rattle.setl_store_operands.specs.declared.cells.Member.{Member}
use Rattle.setl_store_operands.specs.declared.cells.Operand.{Operand}
use Rattle.setl_store_operands.specs.declared.cells.Operand.TheVariants as operand
use Rattle.setl_store_operands.specs.Operands.{HasMembers, got, iterator_by, member_of, operand_of}
use Rattle.setl_store.specs.Standing.{Standing, over}
use Rattle.setl_store.specs.declared.cells.Kept.{Kept}
use Rattle.setl_store.specs.Flat.{Here, operands_in, lowest_in, now_operands, results, stands, AllGot, AllSound, GotThese, IsShaped, IsSound}
use Rattle.setl_store.specs.Iterating.{AreIterators, Refuses}
use Rattle.setl_store.specs.Operands.{TellsAdded}
use Rattle.setl_store.proofs.Lists.{map_reverse}
use Rattle.setl_store.proofs.NewOperands.{NowHas, now_has}
use Rattle.setl_store.proofs.StandingOperands.{over_set}
use Rattle.setl_store.proofs.OperandLists.{Changed, above, agree_flat, changed, lowest_of, now_counted, now_is}

-- ---- below iterators

abbrev pub on : List core.Operand → Added → Added
on xs (Adds ys) = Adds (xs ++ ys)
on xs (Refused why) = Refused why
on xs Nowhere = Nowhere

on_none : (a : Added) → a ≡ on [] a
on_none (Adds ys) = refl
on_none (Refused why) = refl
on_none Nowhere = refl

on_more : (x : core.Operand) (xs : List core.Operand) (a : Added) → below x (on xs a) ≡ on (x ∷ xs) a
on_more x xs (Adds ys) = refl
on_more x xs (Refused why) = refl
on_more x xs Nowhere = refl

added_below : (pairs : Bool) (left : List model.Item) (n : ℕ) (v : Option Datum) (xs : List core.Operand) → added (suc n) v (iterator_by pairs left ∷ xs) ≡ below (iterator_by pairs left) (added n v xs)
added_below true left n v xs = refl
added_below false left n v xs = refl

-- the first of so many iterators passed
added_past : (bs : BasesState) (its : List Operand) (ms : List Member) (n m : ℕ) (v : Option Datum) (xs : List core.Operand) → AreIterators its → n ≡ length its + m →
    added n v (map (operand_of bs ms) its ++ xs) ≡ on (map (operand_of bs ms) its) (added m v xs)
added_past bs [] ms n m v xs h long = ap (λ k. added k v xs) (omega (arith, long)) ∙ on_none (added m v xs)
added_past bs (operand.Om ∷ its) ms n m v xs h long = absurd h
added_past bs (operand.Value w ∷ its) ms n m v xs h long = absurd h
added_past bs (operand.Based f ∷ its) ms n m v xs h long = absurd h
added_past bs (operand.Collection what lowest count ∷ its) ms n m v xs h long = absurd h
added_past bs (operand.Iterator i ∷ its) ms zero m v xs h long = absurd (omega (arith, long))
added_past bs (operand.Iterator i ∷ its) ms (suc n) m v xs h long =
    added_below i.pairs i.left n v (map (operand_of bs ms) its ++ xs)
    ∙ ap (below (iterator_by i.pairs i.left)) (added_past bs its ms n m v xs h (omega (arith, long)))
    ∙ on_more (iterator_by i.pairs i.left) (map (operand_of bs ms) its) (added m v xs)

iterator_adds : (pairs : Bool) (left : List model.Item) (v : Option Datum) (xs : List core.Operand) → added zero v (iterator_by pairs left ∷ xs) ≡ Nowhere
iterator_adds true left v xs = refl
iterator_adds false left v xs = refl

-- too few
added_few : (n : ℕ) (v : Option Datum) (xs : List core.Operand) → length xs ≤ n → added n v xs ≡ Nowhere
added_few zero v [] h = refl
added_few zero v (x ∷ xs) h = absurd (omega (arith, h))
added_few (suc n) v [] h = refl
added_few (suc n) v (core.Result w ∷ xs) h = refl
added_few (suc n) v (core.Iterator items ∷ xs) h = ap (below (core.Iterator items)) (added_few n v xs (omega (arith, h)))
added_few (suc n) v (core.PairIterator items ∷ xs) h = ap (below (core.PairIterator items)) (added_few n v xs (omega (arith, h)))
added_few (suc n) v (core.Collecting what got ∷ xs) h = refl

pub nowhere_few : (bs : BasesState) (e : Here) (n : ℕ) (v : Option Datum) → length e.operands - lowest_of e ≤ n → added n v (now_operands bs e) ≡ Nowhere
nowhere_few bs e n v h = added_few n v (now_operands bs e) (omega (arith, now_counted (reverse e.activations) (results bs e), length-map e.operands (operand_of bs e.members)))

iterators_append : (xs ys : List Operand) → AreIterators xs → AreIterators ys → AreIterators (xs ++ ys)
iterators_append [] ys h k = k
iterators_append (operand.Om ∷ xs) ys h k = absurd h
iterators_append (operand.Value w ∷ xs) ys h k = absurd h
iterators_append (operand.Based f ∷ xs) ys h k = absurd h
iterators_append (operand.Collection what lowest count ∷ xs) ys h k = absurd h
iterators_append (operand.Iterator i ∷ xs) ys h k = iterators_append xs ys h k

iterators_reversed : (xs : List Operand) → AreIterators xs → AreIterators (reverse xs)
iterators_reversed [] h = tt
iterators_reversed (operand.Om ∷ xs) h = absurd h
iterators_reversed (operand.Value w ∷ xs) h = absurd h
iterators_reversed (operand.Based f ∷ xs) h = absurd h
iterators_reversed (operand.Collection what lowest count ∷ xs) h = absurd h
iterators_reversed (operand.Iterator i ∷ xs) h =
    subst AreIterators (sym (reverse-append (operand.Iterator i ∷ []) xs)) (iterators_append (reverse xs) (operand.Iterator i ∷ []) (iterators_reversed xs h) tt)

-- one more behind the others
pub iterators_from : (os : List Operand) (n m : ℕ) (o : Operand) → m ≡ n + 1 → Some o ≡ slice_get os n → AreIterators (o ∷ []) → AreIterators (drop m os) → AreIterators (drop n os)
iterators_from [] n m o is last one h = absurd (cc)
iterators_from (x ∷ os) zero m o is last one h =
    subst (λ y. AreIterators (y ∷ os)) (cc) (iterators_append (o ∷ []) os one (subst (λ k. AreIterators (drop k (x ∷ os))) (is) h))
iterators_from (x ∷ os) (suc n) zero o is last one h = absurd (omega (arith, is))
iterators_from (x ∷ os) (suc n) (suc m) o is last one h = iterators_from os n m o (omega (arith, is)) last one h

-- ---- the operands of the body at work around one of them

around_in : (fs : List Frame) (n : ℕ) (os : List core.Operand) (p : core.Operand) → 0 < length fs → lowest_in fs ≤ n → n < length os →
    set os n p ≡ take (lowest_in fs) os ++ reverse (reverse (drop (suc n) os) ++ p ∷ operands_in fs (take n os))
around_in [] n os p some low there = absurd (omega (arith, some))
around_in (f ∷ fs) n os p some low there =
    let k = f.operands in
    let tail = drop k (take n os) in
    let head = drop (suc n) os in
    let turned : reverse (reverse head ++ p ∷ reverse tail) ≡ tail ++ p ∷ head =
    reverse-append (reverse head) (p ∷ reverse tail)
    ∙ ap (λ l. l ++ reverse (reverse head)) (reverse-append (p ∷ []) (reverse tail))
    ∙ ap (λ l. (reverse (reverse tail) ++ p ∷ []) ++ l) (reverse-reverse head)
    ∙ ap (λ l. (l ++ p ∷ []) ++ head) (reverse-reverse tail)
    ∙ append_assoc tail (p ∷ []) head in
    set_split os n p there
    ∙ ap (λ l. l ++ p ∷ head) (sym (take-append-drop k (take n os)))
    ∙ append_assoc (take k (take n os)) tail (p ∷ head)
    ∙ ap (λ l. l ++ (tail ++ p ∷ head)) (take-take k n os low)
    ∙ ap (λ l. take k os ++ l) (sym turned)

set_same : {A : Type 0} (xs : List A) (n : ℕ) (x : A) → Some x ≡ slice_get xs n → set xs n x ≡ xs
set_same [] n x e = absurd (cc)
set_same (y ∷ xs) zero x e = ap (λ z. z ∷ xs) (cc)
set_same (y ∷ xs) (suc n) x e = ap (λ l. y ∷ l) (set_same xs n x e)

there_is : {A : Type 0} (xs : List A) (n : ℕ) (x : A) → Some x ≡ slice_get xs n → n < length xs
there_is [] n x e = absurd (cc)
there_is (y ∷ xs) zero x e = omega arith
there_is (y ∷ xs) (suc n) x e = omega (arith, there_is xs n x e)

around_now : (fs : List Frame) (n : ℕ) (os : List core.Operand) (q : core.Operand) → 0 < length fs → lowest_in fs ≤ n → Some q ≡ slice_get os n →
    operands_in fs os ≡ reverse (drop (suc n) os) ++ q ∷ operands_in fs (take n os)
around_now [] n os q some low last = absurd (omega (arith, some))
around_now (f ∷ fs) n os q some low last =
    let k = f.operands in
    let xs = reverse (drop (suc n) os) ++ q ∷ reverse (drop k (take n os)) in
    let there = there_is os n q last in
    ap (λ l. reverse (drop k l)) (sym (set_same os n q last) ∙ around_in (f ∷ fs) n os q some low there)
    ∙ ap reverse (drop_at (take k os) (reverse xs) k (length-take-le k os (omega (arith, low, there))))
    ∙ reverse-reverse xs

-- those above and below the one at a place
abbrev pub higher : BasesState → Here → ℕ → List core.Operand
higher bs e n = reverse (drop (suc n) (results bs e))

abbrev pub lower : BasesState → Here → ℕ → List core.Operand
lower bs e n = operands_in (reverse e.activations) (take n (results bs e))

module _ (bs : BasesState) (e : Here) (n : ℕ) (o : Operand) (some : 0 < length e.activations) (low : lowest_of e ≤ n) (last : Some o ≡ slice_get e.operands n) where
  pub now_around : now_operands bs e ≡ higher bs e n ++ operand_of bs e.members o ∷ lower bs e n
  now_around =
      around_now (reverse e.activations) n (results bs e) (operand_of bs e.members o) (omega (arith, some, length-reverse e.activations)) low
      (ap (option_map (operand_of bs e.members)) last ∙ sym (slice_get-map (operand_of bs e.members) e.operands n))

  higher_mapped : map (operand_of bs e.members) (reverse (drop (suc n) e.operands)) ≡ higher bs e n
  higher_mapped = map_reverse (operand_of bs e.members) (drop (suc n) e.operands) ∙ ap reverse (sym (drop-map (operand_of bs e.members) (suc n) e.operands))

  -- so many iterators above it passed
  pub added_around : (k m : ℕ) (v : Option Datum) → AreIterators (drop (suc n) e.operands) → k + suc n ≡ length e.operands + m →
      added k v (now_operands bs e) ≡ on (higher bs e n) (added m v (operand_of bs e.members o ∷ lower bs e n))
  added_around k m v are long =
      let its = reverse (drop (suc n) e.operands) in
      ap (added k v) (now_around ∙ ap (λ l. l ++ operand_of bs e.members o ∷ lower bs e n) (sym higher_mapped))
      ∙ added_past bs its e.members k m v (operand_of bs e.members o ∷ lower bs e n) (iterators_reversed (drop (suc n) e.operands) are) (omega (arith, long, there_is e.operands n o last, length-reverse (drop (suc n) e.operands), length-drop (suc n) e.operands))
      ∙ ap (λ l. on l (added m v (operand_of bs e.members o ∷ lower bs e n))) higher_mapped

  pub nowhere_at : (k m : ℕ) (v : Option Datum) → AreIterators (drop (suc n) e.operands) → k + suc n ≡ length e.operands + m → added m v (operand_of bs e.members o ∷ lower bs e n) ≡ Nowhere → added k v (now_operands bs e) ≡ Nowhere
  nowhere_at k m v are long none = added_around k m v are long ∙ ap (on (higher bs e n)) none

-- ---- where nothing is added

none_added : (bs : BasesState) (ms : List Member) (o : Operand) (v : Option Datum) (xs : List core.Operand) → ((what : Collection) (lowest count : ℕ) → o ≡ operand.Collection what lowest count → ⊥) → added zero v (operand_of bs ms o ∷ xs) ≡ Nowhere
none_added bs ms operand.Om v xs h = refl
none_added bs ms (operand.Value w) v xs h = refl
none_added bs ms (operand.Based f) v xs h = refl
none_added bs ms (operand.Iterator i) v xs h = iterator_adds i.pairs i.left v xs
none_added bs ms (operand.Collection what lowest count) v xs h = absurd (h what lowest count refl)

pub no_collection : (code : Code) (bs : BasesState) (at : ℕ) (e : Here) (kept : List (Here × Kept)) (s : Standing) (n k : ℕ) (o : Operand) (v : Option Datum) →
    IsSound (plain_code code) bs e → stands code bs at e kept ≡ s → lowest_of e ≤ n → n + k + 1 ≡ length e.operands → Some o ≡ slice_get e.operands n → AreIterators (drop (n + 1) e.operands) →
    ((what : Collection) (lowest count : ℕ) → o ≡ operand.Collection what lowest count → ⊥) → added k v s.core.now.operands ≡ Nowhere
no_collection code bs at e kept s n k o v sound is low long last are none =
    let same : n + 1 ≡ suc n = omega arith in
    ap (added k v) (sym (now_is code bs at e kept s is))
    ∙ nowhere_at bs e n o sound.some low last k 0 v (subst (λ j. AreIterators (drop j e.operands)) same are) (omega (arith, long)) (none_added bs e.members o v (lower bs e n) none)

pub told_refused : (a : Added) (fault : OpFault) (why : Option Fault) (new : List core.Operand) → Refuses fault why → ((f : Fault) → why ≡ Some f → a ≡ Refused f) → TellsAdded a (Err fault) new
told_refused a fault.Om why new h told = told OmFault h
told_refused a fault.Deep why new h told = told DeepFault h
told_refused a fault.NoMemory why new h told = tt
told_refused a fault.Kind why new h told = absurd h
told_refused a fault.Wide why new h told = absurd h
told_refused a fault.Zero why new h told = absurd h
told_refused a fault.Range why new h told = absurd h
told_refused a fault.Spent why new h told = absurd h

-- ---- adding a member

iterators_have : (its os : List Operand) (n : ℕ) → AreIterators its → HasMembers (its ++ os) n → HasMembers os n
iterators_have [] os n h has = has
iterators_have (operand.Om ∷ its) os n h has = absurd h
iterators_have (operand.Value w ∷ its) os n h has = absurd h
iterators_have (operand.Based f ∷ its) os n h has = absurd h
iterators_have (operand.Collection what lowest count ∷ its) os n h has = absurd h
iterators_have (operand.Iterator i ∷ its) os n h has = iterators_have its os n h has

have_iterators : (its os : List Operand) (n : ℕ) → AreIterators its → HasMembers os n → HasMembers (its ++ os) n
have_iterators [] os n h has = has
have_iterators (operand.Om ∷ its) os n h has = absurd h
have_iterators (operand.Value w ∷ its) os n h has = absurd h
have_iterators (operand.Based f ∷ its) os n h has = absurd h
have_iterators (operand.Collection what lowest count ∷ its) os n h has = absurd h
have_iterators (operand.Iterator i ∷ its) os n h has = have_iterators its os n h has

got_set : (xs : List core.Operand) (n : ℕ) (p : core.Operand) → AllGot xs → GotThese p → AllGot (set xs n p)
got_set [] n p h got = tt
got_set (x ∷ xs) zero p h got = (got, h.1)
got_set (x ∷ xs) (suc n) p h got = (h.0, got_set xs n p h.1 got)

got_at : (xs : List core.Operand) (n : ℕ) (x : core.Operand) → AllGot xs → Some x ≡ slice_get xs n → GotThese x
got_at [] n x h e = absurd (cc)
got_at (y ∷ xs) zero x h e = subst GotThese (cc) h.0
got_at (y ∷ xs) (suc n) x h e = got_at xs n x h.1 e

-- the members with one more at their end
got_more : (ms : List Member) (m : Member) (lowest count : ℕ) → length ms ≡ lowest + count → got (ms ++ m ∷ []) lowest (count + 1) ≡ member_of m ∷ got ms lowest count
got_more ms m lowest count long =
    let own = drop lowest ms in
    let some : length own ≡ count = omega (arith, long, length-drop lowest ms) in
    let all : take (count + 1) (drop lowest (ms ++ m ∷ [])) ≡ own ++ m ∷ [] =
    ap (take (count + 1)) (drop-append-le lowest ms (m ∷ []) (omega (arith, long)))
    ∙ take_all (count + 1) (own ++ m ∷ []) (omega (arith, some, length-append own (m ∷ []))) in
    ap (λ l. reverse (map member_of l)) all
    ∙ ap reverse (map-append member_of own (m ∷ []))
    ∙ reverse-append (map member_of own) (member_of m ∷ [])
    ∙ ap (λ l. member_of m ∷ reverse (map member_of l)) (sym (take_all count own (omega (arith, some))))

-- with one more member of the collection at a place
abbrev pub with_member : Here → ℕ → Operand → Member → Here
with_member e n o m = record e { operands = set e.operands n o; members = e.members ++ m ∷ [] }

-- a collection below iterators
module _ (code : Code) (bs : BasesState) (keeps : ℕ) (at : ℕ) (e : Here) (kept : List (Here × Kept)) (s : Standing) (n k : ℕ) (what : Collection) (lowest count : ℕ)
    (holds : MayRun code × IsSound (plain_code code) bs e × AllSound (plain_code code) bs keeps e.slots kept) (is : stands code bs at e kept ≡ s)
    (low : lowest_of e ≤ n) (long : n + k + 1 ≡ length e.operands) (last : Some (operand.Collection what lowest count) ≡ slice_get e.operands n) (are : AreIterators (drop (n + 1) e.operands)) where
  are_above : AreIterators (drop (suc n) e.operands)
  are_above = let same : n + 1 ≡ suc n = omega arith in subst (λ j. AreIterators (drop j e.operands)) same are

  turned_around : (o : Operand) → reverse (set e.operands n o) ≡ reverse (drop (suc n) e.operands) ++ o ∷ reverse (take n e.operands)
  turned_around o =
      ap reverse (set_split e.operands n o (there_is e.operands n (operand.Collection what lowest count) last))
      ∙ reverse-append (take n e.operands) (o ∷ drop (suc n) e.operands)
      ∙ ap (λ l. l ++ reverse (take n e.operands)) (reverse-append (o ∷ []) (drop (suc n) e.operands))
      ∙ append_assoc (reverse (drop (suc n) e.operands)) (o ∷ []) (reverse (take n e.operands))

  its_members : HasMembers (operand.Collection what lowest count ∷ reverse (take n e.operands)) (length e.members)
  its_members =
      iterators_have (reverse (drop (suc n) e.operands)) (operand.Collection what lowest count ∷ reverse (take n e.operands)) (length e.members) (iterators_reversed (drop (suc n) e.operands) are_above)
      (subst (λ l. HasMembers l (length e.members)) (sym (ap reverse (set_same e.operands n (operand.Collection what lowest count) last)) ∙ turned_around (operand.Collection what lowest count)) holds.1.members)

  abbrev more : Operand
  more = operand.Collection what lowest (count + 1)

  more_results : (m : Member) → results bs (with_member e n more m) ≡ set (results bs e) n (core.Collecting what (member_of m ∷ got e.members lowest count))
  more_results m =
      let ms = e.members ++ m ∷ [] in
      map-set (operand_of bs ms) e.operands n more
      ∙ ap (λ l. set l n (operand_of bs ms more)) (agree_flat bs e.operands (length e.members) ms e.members holds.1.members (take_at e.members (m ∷ []) (length e.members) refl ∙ sym (take_all (length e.members) e.members (omega arith))))
      ∙ ap (λ l. set (results bs e) n (core.Collecting what l)) (got_more e.members m lowest count its_members.0)

  its_result : Some (core.Collecting what (got e.members lowest count)) ≡ slice_get (results bs e) n
  its_result = ap (option_map (operand_of bs e.members)) last ∙ sym (slice_get-map (operand_of bs e.members) e.operands n)

  more_sound : (m : Member) → refusal what (member_of m) ≡ None → IsSound (plain_code code) bs (with_member e n more m)
  more_sound m free = record {
    some = holds.1.some;
    shaped = subst (λ j. IsShaped (plain_code code) (reverse e.activations) (length e.slots) j) (sym (length-set e.operands n more)) holds.1.shaped;
    members =
        subst (λ l. HasMembers l (length (e.members ++ m ∷ []))) (sym (turned_around more))
        (have_iterators (reverse (drop (suc n) e.operands)) (more ∷ reverse (take n e.operands)) (length (e.members ++ m ∷ [])) (iterators_reversed (drop (suc n) e.operands) are_above)
        (omega (arith, length-append e.members (m ∷ []), its_members.0), its_members.1));
    got =
        subst AllGot (sym (more_results m))
        (got_set (results bs e) n (core.Collecting what (member_of m ∷ got e.members lowest count)) holds.1.got
        (free, got_at (results bs e) n (core.Collecting what (got e.members lowest count)) holds.1.got its_result));
    operands = over_set bs e.operands n more holds.1.operands tt;
  }

  -- what it does with a value
  abbrev told : Option Datum → Added
  told v = on (higher bs e n) (add_by (refusal what v) (core.Collecting what (v ∷ got e.members lowest count)) (lower bs e n))

  asked : (v : Option Datum) → added k v s.core.now.operands ≡ told v
  asked v =
      ap (added k v) (sym (now_is code bs at e kept s is))
      ∙ added_around bs e n (operand.Collection what lowest count) holds.1.some low last k 0 v are_above (omega (arith, long))

  pub refused_by : (v : Option Datum) (why : Fault) → refusal what v ≡ Some why → added k v s.core.now.operands ≡ Refused why
  refused_by v why refuses = asked v ∙ ap (λ f. on (higher bs e n) (add_by f (core.Collecting what (v ∷ got e.members lowest count)) (lower bs e n))) refuses

  more_changed : (m : Member) → refusal what (member_of m) ≡ None → (e' : Here) (kept' : List (Here × Kept)) → e' ≡ with_member e n more m → kept' ≡ kept →
      Changed code bs keeps at e' kept' s (over (higher bs e n ++ core.Collecting what (member_of m ∷ got e.members lowest count) ∷ lower bs e n) s.core)
  more_changed m free e' kept' now same =
      let p = core.Collecting what (member_of m ∷ got e.members lowest count) in
      let xs = higher bs e n ++ p ∷ lower bs e n in
      let there = there_is (results bs e) n (core.Collecting what (got e.members lowest count)) its_result in
      let flat = more_results m ∙ around_in (reverse e.activations) n (results bs e) p (omega (arith, holds.1.some, length-reverse e.activations)) low there in
      let to = above (plain_code code) bs at e (with_member e n more m) kept xs holds.1 refl refl flat in
      subst (λ x. Changed code bs keeps at x kept' s (over xs s.core)) (sym now)
      (changed code bs keeps at at e (with_member e n more m) kept kept' s (λ c. over xs c) holds is same to (more_sound m free) holds.2.standing)

  pub adds : (m : Member) (e' : Here) (kept' : List (Here × Kept)) → refusal what (member_of m) ≡ None → e' ≡ with_member e n more m → kept' ≡ kept → NowHas (λ xs. added k (member_of m) s.core.now.operands ≡ Adds xs) code bs keeps at e' kept' s
  adds m e' kept' free now same =
      now_has (higher bs e n ++ core.Collecting what (member_of m ∷ got e.members lowest count) ∷ lower bs e n)
      (asked (member_of m) ∙ ap (λ f. on (higher bs e n) (add_by f (core.Collecting what (member_of m ∷ got e.members lowest count)) (lower bs e n))) free)
      (more_changed m free e' kept' now same)
