-- A change of one part of an environment.
use Rattle.std.proofs.Common.{◌≡◌, ℕ, zero, suc, ◌+◌, ◌-◌, ◌<◌, ◌≤◌, List, [], ◌∷◌, ◌++◌, length, set, drop, refl, ap, sym, subst, ◌∙◌, arith, take, get_or, ltb, cond, ◌&&◌, ◌||◌, Bool, true, false, Some, None, Ok, Err}
use Rattle.std.proofs.lemmas.Bool.{ltb-true, ltb-false, leb-false, eq-eqb, eqb-true, true≢false}
use Rattle.std.proofs.lemmas.Option.{none-some}
use Rattle.std.proofs.Math.Seq.{take-set-lt}
use Rattle.std.specs.Option.{unwrap_or}
use Rattle.std.proofs.lemmas.List.{length-set, length_push, length-take, length-take-le, take-append-le, take-set-le, take-take, take_all}
use Rattle.std.specs.Prelude.{Result, OnOk, OnErr, IsTrue, nat_lt, nat_le, eqb}
use Rattle.setl_trail.specs.Trail.{Item, entry, mark, mark_count, latest, without_latest, without_mark, forgotten}
use Rattle.setl_store_environment.specs.declared.environment.Old.{Old}
use Rattle.setl_store_environment.specs.declared.environment.Old.TheVariants as old
use Rattle.setl_store_environment.specs.declared.stack.Place.{Place}
use Rattle.setl_store_environment.specs.Stack.{StackState, LeadsBack, Fits, placed}
use Rattle.setl_local.specs.FieldState.{FieldState}
use Rattle.std.specs.FinSet as set
use Rattle.std.specs.FinMap as map
use Rattle.setl_local.specs.Place.{place_cmp}
use Rattle.setl_store_environment.specs.declared.fields.Field.{Field}
use Rattle.setl_store_environment.specs.Places.{FieldsNow, fields_now, with, LeadsFieldsBack}
use Rattle.setl_store_environment.specs.Environment.{Contents, Room, EnvironmentState}
use Rattle.setl_store_environment.specs.Kept.{base_of, nowhere, noted, IsUndoable, kept_of}
use Rattle.setl_store_environment.specs.declared.environment.Base.{Base}
use Rattle.setl_store_environment.specs.Undo.{Parts, contents_of, undone, cut, Reaches, FitsIn, IsTrailOf, AreStamped, kept_contents, HasMore, lower, is_needed_at, needed, slot_stamp, operand_stamp, slots_restamped, operands_restamped}
use Rattle.setl_store_environment.specs.declared.environment.Bases.{Bases}
use Rattle.setl_store_environment.specs.Stamps.{is_noted, IsStamped}
use Rattle.setl_store_environment.proofs.Places.{some_same, set_read, over_placed, past_placed, placed_length, take_lower, Similar, similar_same, similar_all, similar_placed, similar_past, similar_set}
use Rattle.setl_store_environment.proofs.Undoing.{IsBelow, changed, undoable_still, unmarked_base, kept_counted, mark_latest, both_spared, Agrees, alike_undoable, alike_kept, Serves, forgot}
use Rattle.setl_store_environment.proofs.Stamps.{Drops, IsSpared, spares, stamps_forgot}

abbrev pub pair_of : {F : Type 0} → set.FinSet place_cmp → map.FinMap place_cmp F → FieldsNow F
pair_of a c = record { bits = a; contents = c }

-- the same bits and contents
pub fields_of : {F : Type 0} (a b : set.FinSet place_cmp) (c d : map.FinMap place_cmp F) → a ≡ b → c ≡ d → pair_of a c ≡ pair_of b d
fields_of a b c d x y = ap (λ l. pair_of l c) x ∙ ap (pair_of b) y

module _ {S O A M F : Type 0} where
  still_fits : (q r : Parts S O A M F) → HasMore q r → (c : Contents S O A M F) (e : Old S O A M F) → FitsIn q c e → FitsIn r c e
  still_fits q r m c (old.Slot p stamp) h = record { inside = omega (arith, h.inside, m.slots); near = h.near }
  still_fits q r m c (old.Operand p stamp) h = record { inside = omega (arith, h.inside, m.operands); near = h.near }
  still_fits q r m c (old.Activation p) h = record { inside = omega (arith, h.inside, m.activations); near = h.near }
  still_fits q r m c (old.Member p) h = record { inside = omega (arith, h.inside, m.members); near = h.near }
  still_fits q r m c (old.Field p) h = m.fields (p.object, p.block) h

  abbrev contents : List S → List O → List A → List M → FieldsNow F → Contents S O A M F
  contents xs ys zs ms fs = record { slots = xs; operands = ys; activations = zs; members = ms; fields = fs }

  abbrev pub with_slots : Contents S O A M F → List S → Contents S O A M F
  with_slots c xs = record c { slots = xs }

  abbrev pub with_operands : Contents S O A M F → List O → Contents S O A M F
  with_operands c xs = record c { operands = xs }

  abbrev pub with_activations : Contents S O A M F → List A → Contents S O A M F
  with_activations c xs = record c { activations = xs }

  abbrev pub with_fields : Contents S O A M F → FieldsNow F → Contents S O A M F
  with_fields c fs = record c { fields = fs }

  abbrev pub with_members : Contents S O A M F → List M → Contents S O A M F
  with_members c xs = record c { members = xs }

  -- one list is another in the same memory
  slots_room : (q : Parts S O A M F) (new : StackState S) → new.room ≡ q.slots.room → HasMore q (record q { slots = new })
  slots_room q new is = record { slots = omega (arith, is); operands = omega arith; activations = omega arith; members = omega arith; fields = λ k there. there }

  operands_room : (q : Parts S O A M F) (new : StackState O) → new.room ≡ q.operands.room → HasMore q (record q { operands = new })
  operands_room q new is = record { slots = omega arith; operands = omega (arith, is); activations = omega arith; members = omega arith; fields = λ k there. there }

  activations_room : (q : Parts S O A M F) (new : StackState A) → new.room ≡ q.activations.room → HasMore q (record q { activations = new })
  activations_room q new is = record { slots = omega arith; operands = omega arith; activations = omega (arith, is); members = omega arith; fields = λ k there. there }

  members_room : (q : Parts S O A M F) (new : StackState M) → new.room ≡ q.members.room → HasMore q (record q { members = new })
  members_room q new is = record { slots = omega arith; operands = omega arith; activations = omega arith; members = omega (arith, is); fields = λ k there. there }

  -- Alike but for the slots and operands that are noted.
  pub record Alike (c d : Contents S O A M F) (items : List (Item (Old S O A M F))) : Type 0 where
    pub slots : Similar (λ at. is_noted slot_stamp at items) c.slots d.slots
    pub operands : Similar (λ at. is_noted operand_stamp at items) c.operands d.operands
    pub activations : c.activations ≡ d.activations
    pub members : c.members ≡ d.members
    pub fields : c.fields ≡ d.fields

  alike_same : (c d : Contents S O A M F) (items : List (Item (Old S O A M F))) → c ≡ d → Alike c d items
  alike_same c d items is = record {
    slots = similar_same (λ at. is_noted slot_stamp at items) c.slots d.slots (ap (λ x. x.slots) is);
    operands = similar_same (λ at. is_noted operand_stamp at items) c.operands d.operands (ap (λ x. x.operands) is);
    activations = ap (λ x. x.activations) is;
    members = ap (λ x. x.members) is;
    fields = ap (λ x. x.fields) is;
  }

  alike_entry : (q : Parts S O A M F) (c d : Contents S O A M F) (e : Old S O A M F) (items : List (Item (Old S O A M F))) → Alike c d (entry e ∷ items) → FitsIn q c e → FitsIn q d e × Alike (undone c e) (undone d e) items
  alike_entry q c d (old.Slot p stamp) items a h = (
    record { inside = h.inside; near = omega (arith, h.near, a.slots.long) },
    record { slots = similar_placed (λ at. is_noted slot_stamp at items) c.slots d.slots p.at stamp p.content h.near a.slots; operands = a.operands; activations = a.activations; members = a.members; fields = a.fields },
  )
  alike_entry q c d (old.Operand p stamp) items a h = (
    record { inside = h.inside; near = omega (arith, h.near, a.operands.long) },
    record { slots = a.slots; operands = similar_placed (λ at. is_noted operand_stamp at items) c.operands d.operands p.at stamp p.content h.near a.operands; activations = a.activations; members = a.members; fields = a.fields },
  )
  alike_entry q c d (old.Activation p) items a h = (
    subst (λ l. Fits A l q.activations.room p) a.activations h,
    record { slots = a.slots; operands = a.operands; activations = ap (λ l. placed l p) a.activations; members = a.members; fields = a.fields },
  )
  alike_entry q c d (old.Member p) items a h = (
    subst (λ l. Fits M l q.members.room p) a.members h,
    record { slots = a.slots; operands = a.operands; activations = a.activations; members = ap (λ l. placed l p) a.members; fields = a.fields },
  )
  alike_entry q c d (old.Field p) items a h = (
    h,
    record { slots = a.slots; operands = a.operands; activations = a.activations; members = a.members; fields = ap (λ f. with f p) a.fields },
  )

  alike_mark : (c d : Contents S O A M F) (items : List (Item (Old S O A M F))) → Alike c d (mark ∷ items) → c ≡ d
  alike_mark c d items a =
      ap (λ l. contents l c.operands c.activations c.members c.fields) (similar_all c.slots d.slots a.slots)
      ∙ ap (λ l. contents d.slots l c.activations c.members c.fields) (similar_all c.operands d.operands a.operands)
      ∙ ap (λ l. contents d.slots d.operands l c.members c.fields) a.activations
      ∙ ap (λ l. contents d.slots d.operands d.activations l c.fields) a.members
      ∙ ap (λ f. contents d.slots d.operands d.activations d.members f) a.fields

  agrees : (q : Parts S O A M F) → Agrees undone cut Reaches (FitsIn q) Alike
  agrees q = record { over_entry = alike_entry q; at_mark = alike_mark }

  -- the trail after more memory was reserved
  pub roomier : (q r : Parts S O A M F) (n : Base) (ns : List Base) (items : List (Item (Old S O A M F))) → HasMore q r → contents_of r ≡ contents_of q → IsTrailOf q n ns items → IsTrailOf r n ns items
  roomier q r n ns items more same h = (
    subst (Reaches n) (sym same) h.0,
    subst (λ c. IsUndoable undone cut Reaches (FitsIn r) n (cut n c) items ns) (sym same) (undoable_still undone cut Reaches (FitsIn q) (FitsIn r) n (cut n (contents_of q)) items ns (still_fits q r more) h.1),
  )

abbrev pub room_of_slots : Room → ℕ → Room
room_of_slots r n = record r { slots = n }

abbrev pub room_of_operands : Room → ℕ → Room
room_of_operands r n = record r { operands = n }

abbrev pub room_of_activations : Room → ℕ → Room
room_of_activations r n = record r { activations = n }

abbrev pub room_of_fields : Room → set.FinSet place_cmp → Room
room_of_fields r f = record r { fields = f }

abbrev pub room_of_members : Room → ℕ → Room
room_of_members r n = record r { members = n }

module _ {T : Type 0} where
  -- the lowest n values are as before, and there is as much memory
  pub record Unseen (n : ℕ) (old new : StackState T) : Type 0 where
    pub room : new.room ≡ old.room
    pub there : n ≤ length new.items
    pub same : take n new.items ≡ take n old.items

  -- a change of the lowest n values, which leaves m of them, is led back by a place
  pub record Led (n m : ℕ) (old new : StackState T) (p : Place T) : Type 0 where
    pub room : new.room ≡ old.room
    pub less : m ≤ n
    pub there : m ≤ length new.items
    pub fits : Fits T (take m new.items) new.room p
    pub undone : placed (take m new.items) p ≡ take n old.items

  -- one above the lowest n is another now
  pub set_unseen : (n at : ℕ) (v : T) (old new : StackState T) → new.items ≡ set old.items at v → new.room ≡ old.room → n ≤ at → n ≤ length old.items → Unseen n old new
  set_unseen n at v old new is room low there = record {
    room = room;
    there = omega (arith, there, ap length is, length-set old.items at v);
    same = ap (take n) is ∙ take-set-le n old.items at v low;
  }

  -- one more
  pub added_unseen : (n : ℕ) (v : T) (old new : StackState T) → new.items ≡ old.items ++ v ∷ [] → new.room ≡ old.room → n ≤ length old.items → Unseen n old new
  added_unseen n v old new is room there = record {
    room = room;
    there = omega (arith, there, ap length is, length_push old.items v);
    same = ap (take n) is ∙ take-append-le n old.items (v ∷ []) there;
  }

  -- some above them are taken off
  pub cut_unseen : (n k : ℕ) (old new : StackState T) → new.items ≡ take k old.items → new.room ≡ old.room → n ≤ k → k ≤ length old.items → Unseen n old new
  cut_unseen n k old new is room low there = record {
    room = room;
    there = omega (arith, low, ap length is, length-take-le k old.items there);
    same = ap (take n) is ∙ take-take n k old.items low;
  }

  -- the same where this may be refused
  pub left_unseen : {E V : Type 0} (n k : ℕ) (old new : StackState T) (r : Result V E) → OnOk r (new.items ≡ take k old.items) → OnErr r (new ≡ old) → new.room ≡ old.room → n ≤ k → k ≤ length old.items → Unseen n old new
  left_unseen n k old new (Ok v) taken refused room low there = cut_unseen n k old new taken room low there
  left_unseen n k old new (Err e) taken refused room low there =
      cut_unseen n (length old.items) old new (ap (λ (s : StackState T). s.items) refused ∙ sym (take_all (length old.items) old.items (omega arith))) room (omega (arith, low, there)) (omega arith)

  -- one of the lowest n is another now
  pub set_led : (n : ℕ) (old new : StackState T) (p : Place T) → LeadsBack T old new p → p.at < n → length new.items ≡ length old.items → n ≤ length old.items → Led n n old new p
  set_led n old new p back low long there = record {
    room = back.room;
    less = omega arith;
    there = omega (arith, there, long);
    fits = record { inside = back.fits.inside; near = omega (arith, low, there, long, length-take-le n new.items) };
    undone = over_placed n p.at p.content new.items low back.fits.near ∙ ap (take n) back.undone;
  }

  -- the last of the lowest n is taken off, and nothing is above it
  pub popped_led : (n : ℕ) (old new : StackState T) (p : Place T) → LeadsBack T old new p → p.at < n → p.at ≡ length new.items → length old.items ≡ p.at + 1 → Led n p.at old new p
  popped_led n old new p back low at_end long =
      let whole : take p.at new.items ≡ new.items = take_all p.at new.items (omega (arith, at_end)) in
      let all : take n old.items ≡ old.items = take_all n old.items (omega (arith, low, long)) in
      record {
        room = back.room;
        less = omega (arith, low);
        there = omega (arith, at_end);
        fits = subst (λ l. Fits T l new.room p) (sym whole) back.fits;
        undone = ap (λ l. placed l p) whole ∙ back.undone ∙ sym all;
      }

module _ {S O A M F K : Type 0} where
  abbrev pub state : Contents S O A M F → List (Contents S O A M F × K) → ℕ → Room → EnvironmentState S O A M F K
  state c kept ready room = record { now = c; kept = kept; ready = ready; room = room }

  -- the trail, what was kept and the number of marks after a change of q to r, where all up to the base n, and then m, is as
  -- it was kept or noted
  pub record IsNoted (q r : Parts S O A M F) (n m : Base) (ns : List Base) (items now : List (Item (Old S O A M F))) (ks : List K) : Type 0 where
    pub undoable : IsTrailOf r m ns now
    pub kept : kept_contents r m ns now ks ≡ kept_contents q n ns items ks
    pub marks : mark_count now ≡ mark_count items

  part_changed : (q r : Parts S O A M F) (n m : Base) (ns : List Base) (e : Old S O A M F) (items now : List (Item (Old S O A M F))) (ks : List K) → HasMore q r → IsBelow m n → Reaches m (contents_of r) →
      FitsIn r (cut m (contents_of r)) e → undone (cut m (contents_of r)) e ≡ cut n (contents_of q) → now ≡ noted e items → IsTrailOf q n ns items → IsNoted q r n m ns items now ks
  part_changed q r n m ns e items now ks more less there fits back is h =
      let done = changed undone cut Reaches (FitsIn r) n m (cut n (contents_of q)) (cut m (contents_of r)) e items now ns ks less fits back is
      (undoable_still undone cut Reaches (FitsIn q) (FitsIn r) n (cut n (contents_of q)) items ns (still_fits q r more) h.1) in
      record { undoable = (there, done.undoable); kept = done.kept; marks = done.marks }

  -- a change above the base, or of what is noted already
  part_unseen : (q r : Parts S O A M F) (n : Base) (ns : List Base) (items : List (Item (Old S O A M F))) (ks : List K) → HasMore q r → Reaches n (contents_of r) → Alike (cut n (contents_of q)) (cut n (contents_of r)) items → IsTrailOf q n ns items → IsNoted q r n n ns items items ks
  part_unseen q r n ns items ks more there alike h =
      let below = undoable_still undone cut Reaches (FitsIn q) (FitsIn r) n (cut n (contents_of q)) items ns (still_fits q r more) h.1 in
      record {
        undoable = (there, alike_undoable undone cut Reaches (FitsIn r) Alike n (cut n (contents_of q)) (cut n (contents_of r)) items ns (agrees r) alike below);
        kept = alike_kept undone cut Reaches (FitsIn r) Alike n (cut n (contents_of q)) (cut n (contents_of r)) items ns ks (agrees r) alike below;
        marks = refl;
      }

  pub slots_unseen : (q : Parts S O A M F) (n : Base) (ns : List Base) (new : StackState S) (items : List (Item (Old S O A M F))) (ks : List K) → Unseen n.slots q.slots new → IsTrailOf q n ns items → IsNoted q (record q { slots = new }) n n ns items items ks
  slots_unseen q n ns new items ks u h =
      part_unseen q (record q { slots = new }) n ns items ks (slots_room q new u.room) (record { slots = u.there; operands = h.0.operands; activations = h.0.activations; members = h.0.members })
      (alike_same (cut n (contents_of q)) (cut n (contents_of (record q { slots = new }))) items (ap (λ l. contents l (take n.operands q.operands.items) (take n.activations q.activations.items) (take n.members q.members.items) (fields_now q.fields)) (sym u.same))) h

  pub operands_unseen : (q : Parts S O A M F) (n : Base) (ns : List Base) (new : StackState O) (items : List (Item (Old S O A M F))) (ks : List K) → Unseen n.operands q.operands new → IsTrailOf q n ns items → IsNoted q (record q { operands = new }) n n ns items items ks
  operands_unseen q n ns new items ks u h =
      part_unseen q (record q { operands = new }) n ns items ks (operands_room q new u.room) (record { slots = h.0.slots; operands = u.there; activations = h.0.activations; members = h.0.members })
      (alike_same (cut n (contents_of q)) (cut n (contents_of (record q { operands = new }))) items (ap (λ l. contents (take n.slots q.slots.items) l (take n.activations q.activations.items) (take n.members q.members.items) (fields_now q.fields)) (sym u.same))) h

  pub activations_unseen : (q : Parts S O A M F) (n : Base) (ns : List Base) (new : StackState A) (items : List (Item (Old S O A M F))) (ks : List K) → Unseen n.activations q.activations new → IsTrailOf q n ns items → IsNoted q (record q { activations = new }) n n ns items items ks
  activations_unseen q n ns new items ks u h =
      part_unseen q (record q { activations = new }) n ns items ks (activations_room q new u.room) (record { slots = h.0.slots; operands = h.0.operands; activations = u.there; members = h.0.members })
      (alike_same (cut n (contents_of q)) (cut n (contents_of (record q { activations = new }))) items (ap (λ l. contents (take n.slots q.slots.items) (take n.operands q.operands.items) l (take n.members q.members.items) (fields_now q.fields)) (sym u.same))) h

  pub members_unseen : (q : Parts S O A M F) (n : Base) (ns : List Base) (new : StackState M) (items : List (Item (Old S O A M F))) (ks : List K) → Unseen n.members q.members new → IsTrailOf q n ns items → IsNoted q (record q { members = new }) n n ns items items ks
  members_unseen q n ns new items ks u h =
      part_unseen q (record q { members = new }) n ns items ks (members_room q new u.room) (record { slots = h.0.slots; operands = h.0.operands; activations = h.0.activations; members = u.there })
      (alike_same (cut n (contents_of q)) (cut n (contents_of (record q { members = new }))) items (ap (λ l. contents (take n.slots q.slots.items) (take n.operands q.operands.items) (take n.activations q.activations.items) l (fields_now q.fields)) (sym u.same))) h

  pub slot_noted : (q : Parts S O A M F) (n : Base) (m : ℕ) (ns : List Base) (new : StackState S) (p : Place S) (stamp : ℕ) (items now : List (Item (Old S O A M F))) (ks : List K) → Led n.slots m q.slots new p → now ≡ noted (old.Slot p stamp) items → IsTrailOf q n ns items → IsNoted q (record q { slots = new }) n (record n { slots = m }) ns items now ks
  slot_noted q n m ns new p stamp items now ks l is h =
      part_changed q (record q { slots = new }) n (record n { slots = m }) ns (old.Slot p stamp) items now ks (slots_room q new l.room) (record { slots = l.less; operands = omega arith; activations = omega arith; members = omega arith; since = refl }) (record { slots = l.there; operands = h.0.operands; activations = h.0.activations; members = h.0.members }) l.fits
      (ap (λ xs. contents xs (take n.operands q.operands.items) (take n.activations q.activations.items) (take n.members q.members.items) (fields_now q.fields)) l.undone) is h

  pub operand_noted : (q : Parts S O A M F) (n : Base) (m : ℕ) (ns : List Base) (new : StackState O) (p : Place O) (stamp : ℕ) (items now : List (Item (Old S O A M F))) (ks : List K) → Led n.operands m q.operands new p → now ≡ noted (old.Operand p stamp) items → IsTrailOf q n ns items → IsNoted q (record q { operands = new }) n (record n { operands = m }) ns items now ks
  operand_noted q n m ns new p stamp items now ks l is h =
      part_changed q (record q { operands = new }) n (record n { operands = m }) ns (old.Operand p stamp) items now ks (operands_room q new l.room) (record { slots = omega arith; operands = l.less; activations = omega arith; members = omega arith; since = refl }) (record { slots = h.0.slots; operands = l.there; activations = h.0.activations; members = h.0.members }) l.fits
      (ap (λ xs. contents (take n.slots q.slots.items) xs (take n.activations q.activations.items) (take n.members q.members.items) (fields_now q.fields)) l.undone) is h

  pub activation_noted : (q : Parts S O A M F) (n : Base) (m : ℕ) (ns : List Base) (new : StackState A) (p : Place A) (items now : List (Item (Old S O A M F))) (ks : List K) → Led n.activations m q.activations new p → now ≡ noted (old.Activation p) items → IsTrailOf q n ns items → IsNoted q (record q { activations = new }) n (record n { activations = m }) ns items now ks
  activation_noted q n m ns new p items now ks l is h =
      part_changed q (record q { activations = new }) n (record n { activations = m }) ns (old.Activation p) items now ks (activations_room q new l.room) (record { slots = omega arith; operands = omega arith; activations = l.less; members = omega arith; since = refl }) (record { slots = h.0.slots; operands = h.0.operands; activations = l.there; members = h.0.members }) l.fits
      (ap (λ xs. contents (take n.slots q.slots.items) (take n.operands q.operands.items) xs (take n.members q.members.items) (fields_now q.fields)) l.undone) is h

  pub member_noted : (q : Parts S O A M F) (n : Base) (m : ℕ) (ns : List Base) (new : StackState M) (p : Place M) (items now : List (Item (Old S O A M F))) (ks : List K) → Led n.members m q.members new p → now ≡ noted (old.Member p) items → IsTrailOf q n ns items → IsNoted q (record q { members = new }) n (record n { members = m }) ns items now ks
  member_noted q n m ns new p items now ks l is h =
      part_changed q (record q { members = new }) n (record n { members = m }) ns (old.Member p) items now ks (members_room q new l.room) (record { slots = omega arith; operands = omega arith; activations = omega arith; members = l.less; since = refl }) (record { slots = h.0.slots; operands = h.0.operands; activations = h.0.activations; members = l.there }) l.fits
      (ap (λ xs. contents (take n.slots q.slots.items) (take n.operands q.operands.items) (take n.activations q.activations.items) xs (fields_now q.fields)) l.undone) is h

  -- one that is noted already is another now
  pub slot_again : (q : Parts S O A M F) (n : Base) (at : ℕ) (value : S) (ns : List Base) (new : StackState S) (items : List (Item (Old S O A M F))) (ks : List K) → at < n.slots → is_noted slot_stamp at items ≡ true → new.items ≡ set q.slots.items at value → new.room ≡ q.slots.room → IsTrailOf q n ns items → IsNoted q (record q { slots = new }) n n ns items items ks
  slot_again q n at value ns new items ks low there is room h =
      let long : n.slots ≤ length q.slots.items = h.0.slots in
      let again : Similar (λ p. is_noted slot_stamp p items) (take n.slots q.slots.items) (take n.slots new.items) =
      subst (Similar (λ p. is_noted slot_stamp p items) (take n.slots q.slots.items)) (sym (ap (take n.slots) is ∙ take-set-lt n.slots q.slots.items at value low))
      (similar_set (λ p. is_noted slot_stamp p items) (take n.slots q.slots.items) at value (omega (arith, low, length-take-le n.slots q.slots.items long)) there) in
      part_unseen q (record q { slots = new }) n ns items ks (slots_room q new room) (record { slots = omega (arith, long, ap length is, length-set q.slots.items at value); operands = h.0.operands; activations = h.0.activations; members = h.0.members })
      (record { slots = again; operands = similar_same (λ p. is_noted operand_stamp p items) (take n.operands q.operands.items) (take n.operands q.operands.items) refl; activations = refl; members = refl; fields = refl }) h

  -- one that is noted already is another now
  pub operand_again : (q : Parts S O A M F) (n : Base) (at : ℕ) (value : O) (ns : List Base) (new : StackState O) (items : List (Item (Old S O A M F))) (ks : List K) → at < n.operands → is_noted operand_stamp at items ≡ true → new.items ≡ set q.operands.items at value → new.room ≡ q.operands.room → IsTrailOf q n ns items → IsNoted q (record q { operands = new }) n n ns items items ks
  operand_again q n at value ns new items ks low there is room h =
      let long : n.operands ≤ length q.operands.items = h.0.operands in
      let again : Similar (λ p. is_noted operand_stamp p items) (take n.operands q.operands.items) (take n.operands new.items) =
      subst (Similar (λ p. is_noted operand_stamp p items) (take n.operands q.operands.items)) (sym (ap (take n.operands) is ∙ take-set-lt n.operands q.operands.items at value low))
      (similar_set (λ p. is_noted operand_stamp p items) (take n.operands q.operands.items) at value (omega (arith, low, length-take-le n.operands q.operands.items long)) there) in
      part_unseen q (record q { operands = new }) n ns items ks (operands_room q new room) (record { slots = h.0.slots; operands = omega (arith, long, ap length is, length-set q.operands.items at value); activations = h.0.activations; members = h.0.members })
      (record { slots = similar_same (λ p. is_noted slot_stamp p items) (take n.slots q.slots.items) (take n.slots q.slots.items) refl; operands = again; activations = refl; members = refl; fields = refl }) h

  -- where nothing is kept nothing needs a note
  pub unkept_base : (q : Parts S O A M F) (n : Base) (ns : List Base) (items : List (Item (Old S O A M F))) (ks : List K) → length (kept_contents q n ns items ks) ≡ 0 → mark_count items ≡ length ks → IsTrailOf q n ns items → n ≡ nowhere
  unkept_base q n ns items ks none counted h =
      unmarked_base undone cut Reaches (FitsIn q) n (cut n (contents_of q)) items ns h.1 (sym (kept_counted undone cut (cut n (contents_of q)) items ns ks counted) ∙ none)

  pub field_changed : (q : Parts S O A M F) (n : Base) (ns : List Base) (new : FieldState F) (p : Field F) (items now : List (Item (Old S O A M F))) (ks : List K) → LeadsFieldsBack q.fields new p → now ≡ noted (old.Field p) items → IsTrailOf q n ns items → IsNoted q (record q { fields = new }) n n ns items now ks
  field_changed q n ns new p items now ks back is h =
      part_changed q (record q { fields = new }) n n ns (old.Field p) items now ks (record { slots = omega arith; operands = omega arith; activations = omega arith; members = omega arith; fields = λ k there. subst (λ r. IsTrue (set.contains r k)) (sym back.room) there })
      (record { slots = omega arith; operands = omega arith; activations = omega arith; members = omega arith; since = refl }) (record { slots = h.0.slots; operands = h.0.operands; activations = h.0.activations; members = h.0.members }) back.fits
      (ap (λ l. contents (take n.slots q.slots.items) (take n.operands q.operands.items) (take n.activations q.activations.items) (take n.members q.members.items) l) back.undone) is h

  -- after the latest entry was put back into q, which makes r, the rest of the trail leads on
  pub record StepBack (q r : Parts S O A M F) (n : Base) (ns : List Base) (items rest : List (Item (Old S O A M F))) (ks : List K) : Type 0 where
    pub undoable : IsUndoable undone cut Reaches (FitsIn r) n (contents_of r) rest ns
    pub kept : kept_of undone cut (contents_of r) rest ns ks ≡ kept_of undone cut (contents_of q) items ns ks
    pub marks : mark_count rest ≡ mark_count items

  -- what was kept is what the entries lead to
  pub record StepBegun (q r : Parts S O A M F) (n : Base) (ns : List Base) (items : List (Item (Old S O A M F))) (ks : List K) : Type 0 where
    pub undoable : IsUndoable undone cut Reaches (FitsIn r) n (contents_of r) items ns
    pub kept : kept_of undone cut (contents_of r) items ns ks ≡ kept_contents q n ns items ks

  -- once what came later was cut off
  pub step_begun : (q : Parts S O A M F) (n : Base) (ns : List Base) (slots : StackState S) (operands : StackState O) (activations : StackState A) (members : StackState M) (items : List (Item (Old S O A M F))) (ks : List K) → slots.items ≡ take n.slots q.slots.items → slots.room ≡ q.slots.room →
      operands.items ≡ take n.operands q.operands.items → operands.room ≡ q.operands.room → activations.items ≡ take n.activations q.activations.items → activations.room ≡ q.activations.room → members.items ≡ take n.members q.members.items → members.room ≡ q.members.room →
      IsTrailOf q n ns items → StepBegun q (record q { slots = slots; operands = operands; activations = activations; members = members }) n ns items ks
  step_begun q n ns slots operands activations members items ks s s_room o o_room a a_room m m_room h =
      let r = record q { slots = slots; operands = operands; activations = activations; members = members } in
      let same : contents_of r ≡ cut n (contents_of q) =
      ap (λ l. contents l operands.items activations.items members.items (fields_now q.fields)) s
      ∙ ap (λ l. contents (take n.slots q.slots.items) l activations.items members.items (fields_now q.fields)) o
      ∙ ap (λ l. contents (take n.slots q.slots.items) (take n.operands q.operands.items) l members.items (fields_now q.fields)) a
      ∙ ap (λ l. contents (take n.slots q.slots.items) (take n.operands q.operands.items) (take n.activations q.activations.items) l (fields_now q.fields)) m in
      record {
        undoable = subst (λ c. IsUndoable undone cut Reaches (FitsIn r) n c items ns) (sym same) (undoable_still undone cut Reaches (FitsIn q) (FitsIn r) n (cut n (contents_of q)) items ns (still_fits q r (record { slots = omega (arith, s_room); operands = omega (arith, o_room); activations = omega (arith, a_room); members = omega (arith, m_room); fields = λ k there. there })) h.1);
        kept = ap (λ c. kept_of undone cut c items ns ks) same;
      }

  pub step_back : (q r : Parts S O A M F) (n : Base) (ns : List Base) (e : Old S O A M F) (items rest : List (Item (Old S O A M F))) (ks : List K) → items ≡ entry e ∷ rest → contents_of r ≡ undone (contents_of q) e → HasMore q r → IsUndoable undone cut Reaches (FitsIn q) n (contents_of q) items ns → StepBack q r n ns items rest ks
  step_back q r n ns e items rest ks is back more h =
      let below : IsUndoable undone cut Reaches (FitsIn q) n (contents_of q) (entry e ∷ rest) ns = subst (λ l. IsUndoable undone cut Reaches (FitsIn q) n (contents_of q) l ns) is h in
      record {
        undoable = subst (λ c. IsUndoable undone cut Reaches (FitsIn r) n c rest ns) (sym back) (undoable_still undone cut Reaches (FitsIn q) (FitsIn r) n (undone (contents_of q) e) rest ns (still_fits q r more) below.2);
        kept = ap (λ c. kept_of undone cut c rest ns ks) back ∙ sym (ap (λ l. kept_of undone cut (contents_of q) l ns ks) is);
        marks = sym (ap mark_count is);
      }

module _ {S O A M F K : Type 0} where
  -- where no entry is latest, that is what was kept last
  pub record AtMark (q : Parts S O A M F) (m : Base) (ms ns : List Base) (items rest : List (Item (Old S O A M F))) (k : K) (ks : List K) : Type 0 where
    pub undoable : IsTrailOf q m ms rest
    pub kept : kept_of undone cut (contents_of q) items ns (k ∷ ks) ≡ (contents_of q, k) ∷ kept_contents q m ms rest ks
    pub marks : mark_count items ≡ suc (mark_count rest)

  pub at_mark : (q : Parts S O A M F) (n m : Base) (ms ns : List Base) (items rest : List (Item (Old S O A M F))) (k : K) (ks : List K) → latest items ≡ None → 0 < mark_count items → rest ≡ without_latest items → m ≡ base_of ns → ms ≡ drop 1 ns →
      IsUndoable undone cut Reaches (FitsIn q) n (contents_of q) items ns → AtMark q m ms ns items rest k ks
  at_mark q n m ms ns items rest k ks none some left base bases h =
      let is : items ≡ mark ∷ rest = mark_latest items none some ∙ ap (λ l. mark ∷ l) (sym left) in
      let below : IsUndoable undone cut Reaches (FitsIn q) n (contents_of q) (mark ∷ rest) ns = subst (λ l. IsUndoable undone cut Reaches (FitsIn q) n (contents_of q) l ns) is h in
      let there : AtMark q (base_of ns) (drop 1 ns) ns (mark ∷ rest) rest k ks = record { undoable = below; kept = refl; marks = refl } in
      subst (λ l. AtMark q m ms ns l rest k ks) (sym is) (subst (λ b. AtMark q b ms ns (mark ∷ rest) rest k ks) (sym base) (subst (λ b. AtMark q (base_of ns) b ns (mark ∷ rest) rest k ks) (sym bases) there))

-- one value less
pub one_less : {T : Type 0} (xs : List T) (n m : ℕ) → n ≤ length xs → m ≡ n - 1 → take (length (take n xs) - 1) (take n xs) ≡ take m xs
one_less xs n m h less =
    let long : length (take n xs) - 1 ≡ m = omega (arith, length-take-le n xs h, less) in
    ap (λ k. take k (take n xs)) long ∙ take-take m n xs (omega (arith, less))

-- what isn't needed at a place below the older base wasn't taken off, and the older copy has a note for it
unneeded_by : (a b c : Bool) (latest older since at stamp : ℕ) → nat_lt at older ≡ a → nat_le latest at ≡ b → nat_lt stamp since ≡ c → (a && (b || c)) ≡ false → at < older → (at < latest) × (since ≤ stamp)
unneeded_by false b c latest older since at stamp low past new off under = absurd (omega (arith, under, ltb-false at older low))
unneeded_by true true c latest older since at stamp low past new off under = absurd (true≢false off)
unneeded_by true false true latest older since at stamp low past new off under = absurd (true≢false off)
unneeded_by true false false latest older since at stamp low past new off under = (leb-false latest at past, ltb-false stamp since new)

unneeded : (latest older since at stamp : ℕ) → is_needed_at latest older since at stamp ≡ false → at < older → (at < latest) × (since ≤ stamp)
unneeded latest older since at stamp off under = unneeded_by (nat_lt at older) (nat_le latest at) (nat_lt stamp since) latest older since at stamp refl refl refl off under

-- what is needed is at a place below the older base
needed_low_by : (a b : Bool) (older at : ℕ) → nat_lt at older ≡ a → (a && b) ≡ true → at < older
needed_low_by true b older at low is = ltb-true at older low
needed_low_by false b older at low is = absurd (true≢false (sym is))

needed_low : (latest older since at stamp : ℕ) → is_needed_at latest older since at stamp ≡ true → at < older
needed_low latest older since at stamp is = needed_low_by (nat_lt at older) (nat_le latest at || nat_lt stamp since) older at refl is

-- the stamp at a place is that of an entry at this place
stamp_there : (b : Bool) (p at stamp k : ℕ) → eqb p at ≡ b → cond b (Some stamp) None ≡ Some k → (p ≡ at) × (stamp ≡ k)
stamp_there true p at stamp k is there = (eqb-true p at is, some_same stamp k there)
stamp_there false p at stamp k is there = absurd (none-some k there)

drops_there : (latest older since p at stamp k : ℕ) → cond (eqb p at) (Some stamp) None ≡ Some k → is_needed_at latest older since p stamp ≡ false → at < older → since ≤ k
drops_there latest older since p at stamp k there off low =
    let same = stamp_there (eqb p at) p at stamp k refl there in
    omega (arith, same.1, (unneeded latest older since p stamp off (omega (arith, same.0, low))).1)

module _ {S O A M F : Type 0} where
  passes : (q : Parts S O A M F) (b : Bases) (d : Contents S O A M F) (e : Old S O A M F) → needed b e ≡ true → FitsIn q d e → FitsIn q (cut b.older d) e × (undone (cut b.older d) e ≡ cut b.older (undone d e))
  passes q b d (old.Slot p stamp) is h =
      let k = b.older in
      let low : p.at < k.slots = needed_low b.latest.slots k.slots k.since p.at stamp is in
      (record { inside = h.inside; near = omega (arith, low, h.near, length-take k.slots d.slots) }, ap (λ l. contents l (take k.operands d.operands) (take k.activations d.activations) (take k.members d.members) d.fields) (over_placed k.slots p.at p.content d.slots low h.near))
  passes q b d (old.Operand p stamp) is h =
      let k = b.older in
      let low : p.at < k.operands = needed_low b.latest.operands k.operands k.since p.at stamp is in
      (record { inside = h.inside; near = omega (arith, low, h.near, length-take k.operands d.operands) }, ap (λ l. contents (take k.slots d.slots) l (take k.activations d.activations) (take k.members d.members) d.fields) (over_placed k.operands p.at p.content d.operands low h.near))
  passes q b d (old.Activation p) is h =
      let k = b.older in
      let low : p.at < k.activations = ltb-true p.at k.activations is in
      (record { inside = h.inside; near = omega (arith, low, h.near, length-take k.activations d.activations) }, ap (λ l. contents (take k.slots d.slots) (take k.operands d.operands) l (take k.members d.members) d.fields) (over_placed k.activations p.at p.content d.activations low h.near))
  passes q b d (old.Member p) is h =
      let k = b.older in
      let low : p.at < k.members = ltb-true p.at k.members is in
      (record { inside = h.inside; near = omega (arith, low, h.near, length-take k.members d.members) }, ap (λ l. contents (take k.slots d.slots) (take k.operands d.operands) (take k.activations d.activations) l d.fields) (over_placed k.members p.at p.content d.members low h.near))
  passes q b d (old.Field p) is h = (h, refl)

  -- what is left puts something back where this entry would have
  abbrev IsSparedBy : Base → Old S O A M F → List (Item (Old S O A M F)) → Type 0
  IsSparedBy m e rest = IsSpared slot_stamp (λ b. b.slots) m e rest × IsSpared operand_stamp (λ b. b.operands) m e rest

  other_slot : (q : Parts S O A M F) (b : Bases) (t : Bool) (c d : Contents S O A M F) (p : Place S) (stamp : ℕ) (rest : List (Item (Old S O A M F))) → ltb p.at b.older.slots ≡ t → is_needed_at b.latest.slots b.older.slots b.older.since p.at stamp ≡ false → IsSparedBy (lower b.latest b.older) (old.Slot p stamp) rest →
      Reaches (lower b.latest b.older) c → Fits S c.slots q.slots.room p → Alike (cut b.older c) d rest → Similar (λ at. is_noted slot_stamp at rest) (take b.older.slots (placed c.slots p)) d.slots
  other_slot q b true c d p stamp rest is off spared reach h a =
      let k = b.older in
      let low : p.at < k.slots = ltb-true p.at k.slots is in
      let under : p.at < b.latest.slots = (unneeded b.latest.slots k.slots k.since p.at stamp off low).0 in
      subst (λ l. Similar (λ at. is_noted slot_stamp at rest) l d.slots) (over_placed k.slots p.at p.content c.slots low h.near)
      (similar_past (λ at. is_noted slot_stamp at rest) (take k.slots c.slots) d.slots p.at p.content (omega (arith, low, under, reach.slots, length-take k.slots c.slots)) (spared.0 p.at stamp (ap (λ t. cond t (Some stamp) None) (eq-eqb p.at p.at refl)) (omega (arith, low, under))) a.slots)
  other_slot q b false c d p stamp rest is off spared reach h a =
      subst (λ l. Similar (λ at. is_noted slot_stamp at rest) l d.slots) (sym (past_placed b.older.slots p.at p.content c.slots (ltb-false p.at b.older.slots is) h.near)) a.slots

  other_operand : (q : Parts S O A M F) (b : Bases) (t : Bool) (c d : Contents S O A M F) (p : Place O) (stamp : ℕ) (rest : List (Item (Old S O A M F))) → ltb p.at b.older.operands ≡ t → is_needed_at b.latest.operands b.older.operands b.older.since p.at stamp ≡ false → IsSparedBy (lower b.latest b.older) (old.Operand p stamp) rest →
      Reaches (lower b.latest b.older) c → Fits O c.operands q.operands.room p → Alike (cut b.older c) d rest → Similar (λ at. is_noted operand_stamp at rest) (take b.older.operands (placed c.operands p)) d.operands
  other_operand q b true c d p stamp rest is off spared reach h a =
      let k = b.older in
      let low : p.at < k.operands = ltb-true p.at k.operands is in
      let under : p.at < b.latest.operands = (unneeded b.latest.operands k.operands k.since p.at stamp off low).0 in
      subst (λ l. Similar (λ at. is_noted operand_stamp at rest) l d.operands) (over_placed k.operands p.at p.content c.operands low h.near)
      (similar_past (λ at. is_noted operand_stamp at rest) (take k.operands c.operands) d.operands p.at p.content (omega (arith, low, under, reach.operands, length-take k.operands c.operands)) (spared.1 p.at stamp (ap (λ t. cond t (Some stamp) None) (eq-eqb p.at p.at refl)) (omega (arith, low, under))) a.operands)
  other_operand q b false c d p stamp rest is off spared reach h a =
      subst (λ l. Similar (λ at. is_noted operand_stamp at rest) l d.operands) (sym (past_placed b.older.operands p.at p.content c.operands (ltb-false p.at b.older.operands is) h.near)) a.operands

  others : (q : Parts S O A M F) (b : Bases) (c d : Contents S O A M F) (e : Old S O A M F) (rest : List (Item (Old S O A M F))) → needed b e ≡ false → IsSparedBy (lower b.latest b.older) e rest → Reaches (lower b.latest b.older) c → FitsIn q c e → Alike (cut b.older c) d rest → Alike (cut b.older (undone c e)) d rest
  others q b c d (old.Slot p stamp) rest off spared reach h a = record { slots = other_slot q b (ltb p.at b.older.slots) c d p stamp rest refl off spared reach h a; operands = a.operands; activations = a.activations; members = a.members; fields = a.fields }
  others q b c d (old.Operand p stamp) rest off spared reach h a = record { slots = a.slots; operands = other_operand q b (ltb p.at b.older.operands) c d p stamp rest refl off spared reach h a; activations = a.activations; members = a.members; fields = a.fields }
  others q b c d (old.Activation p) rest off spared reach h a =
      record { slots = a.slots; operands = a.operands; activations = past_placed b.older.activations p.at p.content c.activations (ltb-false p.at b.older.activations off) h.near ∙ a.activations; members = a.members; fields = a.fields }
  others q b c d (old.Member p) rest off spared reach h a =
      record { slots = a.slots; operands = a.operands; activations = a.activations; members = past_placed b.older.members p.at p.content c.members (ltb-false p.at b.older.members off) h.near ∙ a.members; fields = a.fields }
  others q b c d (old.Field p) rest off spared reach h a = absurd (true≢false off)

  grows : (q : Parts S O A M F) (m : Base) (c : Contents S O A M F) (e : Old S O A M F) → Reaches m c → FitsIn q c e → Reaches m (undone c e)
  grows q m c (old.Slot p stamp) reach h = record { slots = omega (arith, reach.slots, h.near, placed_length c.slots p.at p.content); operands = reach.operands; activations = reach.activations; members = reach.members }
  grows q m c (old.Operand p stamp) reach h = record { slots = reach.slots; operands = omega (arith, reach.operands, h.near, placed_length c.operands p.at p.content); activations = reach.activations; members = reach.members }
  grows q m c (old.Activation p) reach h = record { slots = reach.slots; operands = reach.operands; activations = omega (arith, reach.activations, h.near, placed_length c.activations p.at p.content); members = reach.members }
  grows q m c (old.Member p) reach h = record { slots = reach.slots; operands = reach.operands; activations = reach.activations; members = omega (arith, reach.members, h.near, placed_length c.members p.at p.content) }
  grows q m c (old.Field p) reach h = record { slots = reach.slots; operands = reach.operands; activations = reach.activations; members = reach.members }

  serves : (q : Parts S O A M F) (b : Bases) → Serves undone cut Reaches (FitsIn q) b.older (lower b.latest b.older) (needed b) (IsSparedBy (lower b.latest b.older)) Alike
  serves q b = record { agrees = agrees q; passed = passes q b; other = others q b; grows = grows q (lower b.latest b.older) }

  slot_drops : (b : Bases) (at : ℕ) → Drops {E = Old S O A M F} slot_stamp (λ n. n.slots) at b.older (needed b)
  slot_drops b at (old.Slot p stamp) k is off low = drops_there b.latest.slots b.older.slots b.older.since p.at at stamp k is off low
  slot_drops b at (old.Operand p stamp) k is off low = absurd (none-some k is)
  slot_drops b at (old.Activation p) k is off low = absurd (none-some k is)
  slot_drops b at (old.Member p) k is off low = absurd (none-some k is)
  slot_drops b at (old.Field p) k is off low = absurd (none-some k is)

  operand_drops : (b : Bases) (at : ℕ) → Drops {E = Old S O A M F} operand_stamp (λ n. n.operands) at b.older (needed b)
  operand_drops b at (old.Slot p stamp) k is off low = absurd (none-some k is)
  operand_drops b at (old.Operand p stamp) k is off low = drops_there b.latest.operands b.older.operands b.older.since p.at at stamp k is off low
  operand_drops b at (old.Activation p) k is off low = absurd (none-some k is)
  operand_drops b at (old.Member p) k is off low = absurd (none-some k is)
  operand_drops b at (old.Field p) k is off low = absurd (none-some k is)

module _ {S O A M F K : Type 0} where
  -- after the latest mark was forgotten, over the lower of its base and the older one
  pub record IsForgotten (q : Parts S O A M F) (clock : ℕ) (slots operands : List ℕ) (n m : Base) (ms ns : List Base) (items now : List (Item (Old S O A M F))) (k : K) (ks : List K) : Type 0 where
    pub undoable : IsTrailOf q m ms now
    pub kept : kept_contents q m ms now ks ≡ drop 1 (kept_contents q n ns items (k ∷ ks))
    pub marks : suc (mark_count now) ≡ mark_count items
    pub stamped : AreStamped clock m ms now slots operands

  forgotten_there : (q : Parts S O A M F) (clock : ℕ) (slots operands : List ℕ) (n : Base) (ns : List Base) (items now : List (Item (Old S O A M F))) (k : K) (ks : List K) → 0 < mark_count items → now ≡ forgotten (needed (record { latest = n; older = base_of ns })) items → IsTrailOf q n ns items → AreStamped clock n ns items slots operands →
      IsForgotten q clock slots operands n (lower n (base_of ns)) (drop 1 ns) ns items now k ks
  forgotten_there q clock slots operands n ns items now k ks some is h stamped =
      let b : Bases = record { latest = n; older = base_of ns } in
      let m = lower n (base_of ns) in
      let c = contents_of q in
      let older = base_of ns in
      let same : cut older (cut n c) ≡ cut m c = sym (
      ap (λ l. contents l (take m.operands c.operands) (take m.activations c.activations) (take m.members c.members) c.fields) (take_lower n.slots older.slots c.slots)
      ∙ ap (λ l. contents (take older.slots (take n.slots c.slots)) l (take m.activations c.activations) (take m.members c.members) c.fields) (take_lower n.operands older.operands c.operands)
      ∙ ap (λ l. contents (take older.slots (take n.slots c.slots)) (take older.operands (take n.operands c.operands)) l (take m.members c.members) c.fields) (take_lower n.activations older.activations c.activations)
      ∙ ap (λ l. contents (take older.slots (take n.slots c.slots)) (take older.operands (take n.operands c.operands)) (take older.activations (take n.activations c.activations)) l c.fields) (take_lower n.members older.members c.members)
      ) in
      let done = forgot undone cut Reaches (FitsIn q) n m (cut n c) (cut m c) items now ns (needed b) (IsSparedBy m) Alike k ks some
      (record { slots = omega arith; operands = omega arith; activations = omega arith; members = omega arith; since = refl }) (serves q b)
      (λ more. both_spared (needed b) (IsSpared slot_stamp (λ b. b.slots) m) (IsSpared operand_stamp (λ b. b.operands) m) items
      (spares slot_stamp (λ b. b.slots) clock items n m ns (needed b) (λ at. get_or slots at 0) more (omega arith) (slot_drops b) (λ at. stamped.0.tells at (get_or slots at 0) (λ low. omega arith)))
      (spares operand_stamp (λ b. b.operands) clock items n m ns (needed b) (λ at. get_or operands at 0) more (omega arith) (operand_drops b) (λ at. stamped.1.tells at (get_or operands at 0) (λ low. omega arith))))
      (record {
        slots = omega (arith, h.0.slots, length-take-le n.slots c.slots);
        operands = omega (arith, h.0.operands, length-take-le n.operands c.operands);
        activations = omega (arith, h.0.activations, length-take-le n.activations c.activations);
        members = omega (arith, h.0.members, length-take-le n.members c.members);
      }) (alike_same (cut older (cut n c)) (cut m c) (without_mark (needed b) items) same) is h.1 in
      record {
        undoable = (record { slots = omega (arith, h.0.slots); operands = omega (arith, h.0.operands); activations = omega (arith, h.0.activations); members = omega (arith, h.0.members) }, done.undoable);
        kept = done.kept;
        marks = done.marks;
        stamped = (
          stamps_forgot slot_stamp (λ b. b.slots) clock items now n m ns (needed b) slots some is (omega arith) refl (λ at low under. omega (arith, low, under)) (slot_drops b) stamped.0,
          stamps_forgot operand_stamp (λ b. b.operands) clock items now n m ns (needed b) operands some is (omega arith) refl (λ at low under. omega (arith, low, under)) (operand_drops b) stamped.1,
        );
      }

  pub forgotten_part : (q : Parts S O A M F) (clock : ℕ) (slots operands : List ℕ) (n m older : Base) (ms ns : List Base) (items now : List (Item (Old S O A M F))) (k : K) (ks : List K) → 0 < mark_count items → now ≡ forgotten (needed (record { latest = n; older = older })) items → older ≡ base_of ns → ms ≡ drop 1 ns → m ≡ lower n older →
      IsTrailOf q n ns items → AreStamped clock n ns items slots operands → IsForgotten q clock slots operands n m ms ns items now k ks
  forgotten_part q clock slots operands n m older ms ns items now k ks some is base bases low h stamped =
      let there = forgotten_there q clock slots operands n ns items now k ks some (is ∙ ap (λ b. forgotten (needed (record { latest = n; older = b })) items) base) h stamped in
      subst (λ b. IsForgotten q clock slots operands n b ms ns items now k ks) (sym (low ∙ ap (lower n) base)) (subst (λ b. IsForgotten q clock slots operands n (lower n (base_of ns)) b ns items now k ks) (sym bases) there)

module _ {S O A M F : Type 0} where
  -- the stamps after an entry was put back
  pub slots_back : (e : Old S O A M F) (stamps now : List ℕ) (at : ℕ) → now ≡ slots_restamped stamps e → get_or now at 0 ≤ unwrap_or (slot_stamp e at) (get_or stamps at 0)
  slots_back (old.Slot p stamp) stamps now at is = omega (arith, ap (λ l. get_or l at 0) is, set_read stamps p.at stamp at)
  slots_back (old.Operand p stamp) stamps now at is = omega (arith, ap (λ l. get_or l at 0) is)
  slots_back (old.Activation p) stamps now at is = omega (arith, ap (λ l. get_or l at 0) is)
  slots_back (old.Member p) stamps now at is = omega (arith, ap (λ l. get_or l at 0) is)
  slots_back (old.Field p) stamps now at is = omega (arith, ap (λ l. get_or l at 0) is)

  pub operands_back : (e : Old S O A M F) (stamps now : List ℕ) (at : ℕ) → now ≡ operands_restamped stamps e → get_or now at 0 ≤ unwrap_or (operand_stamp e at) (get_or stamps at 0)
  operands_back (old.Slot p stamp) stamps now at is = omega (arith, ap (λ l. get_or l at 0) is)
  operands_back (old.Operand p stamp) stamps now at is = omega (arith, ap (λ l. get_or l at 0) is, set_read stamps p.at stamp at)
  operands_back (old.Activation p) stamps now at is = omega (arith, ap (λ l. get_or l at 0) is)
  operands_back (old.Member p) stamps now at is = omega (arith, ap (λ l. get_or l at 0) is)
  operands_back (old.Field p) stamps now at is = omega (arith, ap (λ l. get_or l at 0) is)
