-- The stamps of an environment's slots and operands under each change.
use Rattle.std.proofs.Common.{◌≡◌, ℕ, zero, suc, ◌+◌, ◌-◌, ◌<◌, ◌≤◌, Bool, true, false, cond, ◌&&◌, ltb, List, [], ◌∷◌, length, set, take, drop, get_or, refl, ap, sym, subst, ◌∙◌, arith, Some, None}
use Rattle.std.specs.Prelude.{nat_lt, eqb}
use Rattle.std.specs.Option.{unwrap_or}
use Rattle.std.proofs.lemmas.Bool.{ltb-true, ltb-false, eqb-true, eqb-false, eq-eqb, true≢false}
use Rattle.std.proofs.lemmas.List.{take_all, get_or-set_other}
use Rattle.setl_trail.specs.Trail.{Item, entry, mark, mark_count}
use Rattle.setl_store_environment.specs.declared.environment.Old.{Old}
use Rattle.setl_store_environment.specs.declared.environment.Old.TheVariants as old
use Rattle.setl_store_environment.specs.declared.environment.Base.{Base}
use Rattle.setl_store_environment.specs.declared.stack.Place.{Place}
use Rattle.setl_store_environment.specs.Stack.{StackState}
use Rattle.setl_store_environment.specs.Kept.{base_of, nowhere, noted, IsUndoable}
use Rattle.setl_store_environment.specs.Stamps.{is_noted, IsStamped}
use Rattle.setl_store_environment.specs.Undo.{Parts, contents_of, undone, cut, Reaches, FitsIn, IsTrailOf, AreStamped, slot_stamp, operand_stamp, slots_restamped, operands_restamped}
use Rattle.setl_store_environment.proofs.Places.{set_read}
use Rattle.setl_store_environment.proofs.Undoing.{unmarked_base}
use Rattle.setl_store_environment.proofs.Stamps.{tells_noted, stamps_passed, stamps_noted, stamps_same, stamps_kept, since_clock, LeadsOn, stamps_begun, stamps_back, stamps_at_mark}
use Rattle.setl_store_environment.proofs.Parts.{IsNoted, set_unseen, slots_unseen, operands_unseen, slot_again, operand_again, slots_back, operands_back}

some_by : (k : ℕ) → (k ≡ 0 → ⊥) → 0 < k
some_by zero none = absurd (none refl)
some_by (suc k) none = omega arith

-- where both tests fail
past_both : (a b : Bool) (P : Type 0) → (a && b) ≡ false → (a ≡ false → P) → (a ≡ true → b ≡ false → P) → P
past_both true b P off past again = again refl off
past_both false b P off past again = past refl

below_by : (b : Bool) (clock stamp at q old : ℕ) → eqb at q ≡ b → stamp < clock → old < clock → unwrap_or (cond b (Some stamp) None) old < clock
below_by true clock stamp at q old is before old_before = before
below_by false clock stamp at q old is before old_before = old_before

-- stamps from before the clock stay so
set_before : (stamps : List ℕ) (at stamp clock : ℕ) → stamp < clock → ((q : ℕ) → get_or stamps q 0 < clock) → (q : ℕ) → get_or (set stamps at stamp) q 0 < clock
set_before stamps at stamp clock before all q = omega (arith, set_read stamps at stamp q, below_by (eqb at q) clock stamp at q (get_or stamps q 0) refl before (all q))

cond_other : (b : Bool) (at q stamp : ℕ) → eqb at q ≡ b → (q ≡ at → ⊥) → cond b (Some stamp) None ≡ None
cond_other true at q stamp is apart = absurd (apart (sym (eqb-true at q is)))
cond_other false at q stamp is apart = refl

cond_here : (at stamp : ℕ) → cond (eqb at at) (Some stamp) None ≡ Some stamp
cond_here at stamp = ap (λ b. cond b (Some stamp) None) (eq-eqb at at refl)

module _ {S O A M F : Type 0} where
  -- what is below a base is below a mark
  pub marked : (height : Base → ℕ) (q : Parts S O A M F) (n : Base) (ns : List Base) (items : List (Item (Old S O A M F))) (at : ℕ) → height nowhere ≡ 0 → at < height n → IsTrailOf q n ns items → 0 < mark_count items
  marked height q n ns items at none low h =
      some_by (mark_count items) (λ zero_marks. absurd (omega (arith, low, none, ap height (unmarked_base undone cut Reaches (FitsIn q) n (cut n (contents_of q)) items ns h.1 zero_marks))))

  slot_stamped : (clock : ℕ) (n m : Base) (ns : List Base) (p : Place S) (stamp : ℕ) (items : List (Item (Old S O A M F))) (slots now operands : List ℕ) → 0 < mark_count items → stamp ≡ get_or slots p.at 0 → m.slots ≤ n.slots → m.operands ≡ n.operands → m.since ≡ n.since →
      ((q : ℕ) → (q ≡ p.at → ⊥) → q < n.slots → (q < m.slots) × (get_or now q 0 ≡ get_or slots q 0)) → ((q : ℕ) → get_or now q 0 < clock) → AreStamped clock n ns items slots operands → AreStamped clock m ns (noted (old.Slot p stamp) items) now operands
  slot_stamped clock n m ns p stamp items slots now operands some is less same since rest before h = (
    stamps_noted slot_stamp (λ b. b.slots) clock p.at n m ns (old.Slot p stamp) items slots now some (cond_here p.at stamp ∙ ap Some is) (λ q apart. cond_other (eqb p.at q) p.at q stamp refl apart) less since rest before h.0,
    stamps_passed operand_stamp (λ b. b.operands) clock n m ns (old.Slot p stamp) items operands (λ at. refl) same since h.1,
  )

  operand_stamped : (clock : ℕ) (n m : Base) (ns : List Base) (p : Place O) (stamp : ℕ) (items : List (Item (Old S O A M F))) (slots operands now : List ℕ) → 0 < mark_count items → stamp ≡ get_or operands p.at 0 → m.slots ≡ n.slots → m.operands ≤ n.operands → m.since ≡ n.since →
      ((q : ℕ) → (q ≡ p.at → ⊥) → q < n.operands → (q < m.operands) × (get_or now q 0 ≡ get_or operands q 0)) → ((q : ℕ) → get_or now q 0 < clock) → AreStamped clock n ns items slots operands → AreStamped clock m ns (noted (old.Operand p stamp) items) slots now
  operand_stamped clock n m ns p stamp items slots operands now some is same less since rest before h = (
    stamps_passed slot_stamp (λ b. b.slots) clock n m ns (old.Operand p stamp) items slots (λ at. refl) same since h.0,
    stamps_noted operand_stamp (λ b. b.operands) clock p.at n m ns (old.Operand p stamp) items operands now some (cond_here p.at stamp ∙ ap Some is) (λ q apart. cond_other (eqb p.at q) p.at q stamp refl apart) less since rest before h.1,
  )

  -- another value in a place that is noted now
  pub slot_set_stamped : (clock : ℕ) (n : Base) (ns : List Base) (p : Place S) (stamp : ℕ) (items noted_items : List (Item (Old S O A M F))) (slots now operands : List ℕ) → 0 < mark_count items → stamp ≡ get_or slots p.at 0 → now ≡ set slots p.at n.since → noted_items ≡ noted (old.Slot p stamp) items →
      AreStamped clock n ns items slots operands → AreStamped clock n ns noted_items now operands
  slot_set_stamped clock n ns p stamp items noted_items slots now operands some stamp_is now_is is h =
      subst (λ l. AreStamped clock n ns l now operands) (sym is) (subst (λ l. AreStamped clock n ns (noted (old.Slot p stamp) items) l operands) (sym now_is)
      (slot_stamped clock n n ns p stamp items slots (set slots p.at n.since) operands some stamp_is (omega arith) refl refl (λ q apart low. (low, get_or-set_other slots p.at q n.since 0 apart))
      (set_before slots p.at n.since clock (since_clock slot_stamp (λ b. b.slots) clock n ns items slots h.0) h.0.before) h))

  pub operand_set_stamped : (clock : ℕ) (n : Base) (ns : List Base) (p : Place O) (stamp : ℕ) (items noted_items : List (Item (Old S O A M F))) (slots operands now : List ℕ) → 0 < mark_count items → stamp ≡ get_or operands p.at 0 → now ≡ set operands p.at n.since → noted_items ≡ noted (old.Operand p stamp) items →
      AreStamped clock n ns items slots operands → AreStamped clock n ns noted_items slots now
  operand_set_stamped clock n ns p stamp items noted_items slots operands now some stamp_is now_is is h =
      subst (λ l. AreStamped clock n ns l slots now) (sym is) (subst (λ l. AreStamped clock n ns (noted (old.Operand p stamp) items) slots l) (sym now_is)
      (operand_stamped clock n n ns p stamp items slots operands (set operands p.at n.since) some stamp_is refl (omega arith) refl (λ q apart low. (low, get_or-set_other operands p.at q n.since 0 apart))
      (set_before operands p.at n.since clock (since_clock operand_stamp (λ b. b.operands) clock n ns items operands h.1) h.1.before) h))

  -- the last of those below the base is off
  pub slot_popped_stamped : (clock m : ℕ) (n : Base) (ns : List Base) (p : Place S) (stamp : ℕ) (items noted_items : List (Item (Old S O A M F))) (slots operands : List ℕ) → 0 < mark_count items → stamp ≡ get_or slots p.at 0 → m ≡ p.at → n.slots ≡ p.at + 1 → noted_items ≡ noted (old.Slot p stamp) items →
      AreStamped clock n ns items slots operands → AreStamped clock (record n { slots = m }) ns noted_items slots operands
  slot_popped_stamped clock m n ns p stamp items noted_items slots operands some stamp_is at last is h =
      subst (λ l. AreStamped clock (record n { slots = m }) ns l slots operands) (sym is)
      (slot_stamped clock n (record n { slots = m }) ns p stamp items slots slots operands some stamp_is (omega (arith, at, last)) refl refl (λ q apart low. (omega (arith, at, last, low, apart), refl)) h.0.before h)

  pub operand_popped_stamped : (clock m : ℕ) (n : Base) (ns : List Base) (p : Place O) (stamp : ℕ) (items noted_items : List (Item (Old S O A M F))) (slots operands : List ℕ) → 0 < mark_count items → stamp ≡ get_or operands p.at 0 → m ≡ p.at → n.operands ≡ p.at + 1 → noted_items ≡ noted (old.Operand p stamp) items →
      AreStamped clock n ns items slots operands → AreStamped clock (record n { operands = m }) ns noted_items slots operands
  operand_popped_stamped clock m n ns p stamp items noted_items slots operands some stamp_is at last is h =
      subst (λ l. AreStamped clock (record n { operands = m }) ns l slots operands) (sym is)
      (operand_stamped clock n (record n { operands = m }) ns p stamp items slots operands operands some stamp_is refl (omega (arith, at, last)) refl (λ q apart low. (omega (arith, at, last, low, apart), refl)) h.1.before h)

  -- an entry of another kind is noted
  pub passed_stamped : (clock : ℕ) (n m : Base) (ns : List Base) (e : Old S O A M F) (items now : List (Item (Old S O A M F))) (slots operands : List ℕ) → ((at : ℕ) → slot_stamp e at ≡ None) → ((at : ℕ) → operand_stamp e at ≡ None) → m.slots ≡ n.slots → m.operands ≡ n.operands → m.since ≡ n.since → now ≡ noted e items →
      AreStamped clock n ns items slots operands → AreStamped clock m ns now slots operands
  passed_stamped clock n m ns e items now slots operands no_slot no_operand same same_too since is h =
      subst (λ l. AreStamped clock m ns l slots operands) (sym is) (
        stamps_passed slot_stamp (λ b. b.slots) clock n m ns e items slots no_slot same since h.0,
        stamps_passed operand_stamp (λ b. b.operands) clock n m ns e items operands no_operand same_too since h.1,
      )

  -- all that is there is kept
  pub kept_part : (q : Parts S O A M F) (n m : Base) (ns bases : List Base) (items now : List (Item (Old S O A M F))) → m.slots ≡ length q.slots.items → m.operands ≡ length q.operands.items → m.activations ≡ length q.activations.items → m.members ≡ length q.members.items →
      now ≡ mark ∷ items → bases ≡ n ∷ ns → IsTrailOf q n ns items → IsTrailOf q m bases now
  kept_part q n m ns bases items now s o a k is over h =
      let c = contents_of q in
      let whole : cut m c ≡ c =
      ap (λ l. record c { slots = l; operands = take m.operands c.operands; activations = take m.activations c.activations; members = take m.members c.members }) (take_all m.slots c.slots (omega (arith, s)))
      ∙ ap (λ l. record c { operands = l; activations = take m.activations c.activations; members = take m.members c.members }) (take_all m.operands c.operands (omega (arith, o)))
      ∙ ap (λ l. record c { activations = l; members = take m.members c.members }) (take_all m.activations c.activations (omega (arith, a)))
      ∙ ap (λ l. record c { members = l }) (take_all m.members c.members (omega (arith, k))) in
      subst (λ l. IsTrailOf q m l now) (sym over) (subst (λ l. IsTrailOf q m (n ∷ ns) l) (sym is) (
        record { slots = omega (arith, s); operands = omega (arith, o); activations = omega (arith, a); members = omega (arith, k) },
        subst (λ x. Reaches n x × IsUndoable undone cut Reaches (FitsIn q) n (cut n x) items ns) (sym whole) h,
      ))

  -- where nothing was ever kept
  pub none_kept_yet : (q : Parts S O A M F) (ns : List Base) (items : List (Item (Old S O A M F))) → items ≡ [] → IsTrailOf q nowhere ns items
  none_kept_yet q ns items none =
      subst (λ l. IsTrailOf q nowhere ns l) (sym none) (record { slots = omega arith; operands = omega arith; activations = omega arith; members = omega arith }, refl)

  pub none_stamped : (ns : List Base) (items : List (Item (Old S O A M F))) (slots operands : List ℕ) → items ≡ [] → slots ≡ [] → operands ≡ [] → AreStamped 1 nowhere ns items slots operands
  none_stamped ns items slots operands none no_slots no_operands =
      subst (λ l. AreStamped 1 nowhere ns l slots operands) (sym none) (
        record { before = λ at. omega (arith, ap (λ l. get_or l at 0) no_slots); tells = λ at s low. omega arith },
        record { before = λ at. omega (arith, ap (λ l. get_or l at 0) no_operands); tells = λ at s low. omega arith },
      )

  pub same_stamped : (clock : ℕ) (n : Base) (ns : List Base) (items : List (Item (Old S O A M F))) (slots slots_now operands operands_now : List ℕ) → ((at : ℕ) → get_or slots_now at 0 ≡ get_or slots at 0) → ((at : ℕ) → get_or operands_now at 0 ≡ get_or operands at 0) → AreStamped clock n ns items slots operands → AreStamped clock n ns items slots_now operands_now
  same_stamped clock n ns items slots slots_now operands operands_now same same_too h = (
    stamps_same slot_stamp (λ b. b.slots) clock n ns items slots slots_now same h.0,
    stamps_same operand_stamp (λ b. b.operands) clock n ns items operands operands_now same_too h.1,
  )

  pub kept_stamped : (clock next : ℕ) (n m : Base) (ns bases : List Base) (items now : List (Item (Old S O A M F))) (slots operands : List ℕ) → next ≡ clock + 1 → n.slots ≤ m.slots → n.operands ≤ m.operands → m.since ≡ clock → now ≡ mark ∷ items → bases ≡ n ∷ ns → AreStamped clock n ns items slots operands → AreStamped next m bases now slots operands
  kept_stamped clock next n m ns bases items now slots operands later less less_too since is over h = (
    stamps_kept slot_stamp (λ b. b.slots) clock next n m ns bases items now slots later less since is over h.0,
    stamps_kept operand_stamp (λ b. b.operands) clock next n m ns bases items now operands later less_too since is over h.1,
  )

  -- while entries are put back
  abbrev pub StampsLeadOn : ℕ → Base → List Base → List (Item (Old S O A M F)) → List ℕ → List ℕ → Type 0
  StampsLeadOn clock n ns items slots operands = LeadsOn slot_stamp (λ b. b.slots) clock n ns items slots × LeadsOn operand_stamp (λ b. b.operands) clock n ns items operands

  pub begun_stamped : (clock : ℕ) (n : Base) (ns : List Base) (items : List (Item (Old S O A M F))) (slots operands : List ℕ) → AreStamped clock n ns items slots operands → StampsLeadOn clock n ns items slots operands
  begun_stamped clock n ns items slots operands h = (stamps_begun slot_stamp (λ b. b.slots) clock n ns items slots h.0, stamps_begun operand_stamp (λ b. b.operands) clock n ns items operands h.1)

  pub back_stamped : (clock : ℕ) (n : Base) (ns : List Base) (e : Old S O A M F) (items rest : List (Item (Old S O A M F))) (slots slots_now operands operands_now : List ℕ) → items ≡ entry e ∷ rest → slots_now ≡ slots_restamped slots e → operands_now ≡ operands_restamped operands e →
      StampsLeadOn clock n ns items slots operands → StampsLeadOn clock n ns rest slots_now operands_now
  back_stamped clock n ns e items rest slots slots_now operands operands_now is one other h = (
    stamps_back slot_stamp (λ b. b.slots) clock n ns e items rest slots slots_now is (λ at. slots_back e slots slots_now at one) h.0,
    stamps_back operand_stamp (λ b. b.operands) clock n ns e items rest operands operands_now is (λ at. operands_back e operands operands_now at other) h.1,
  )

  pub at_mark_stamped : (clock : ℕ) (n m : Base) (ms ns : List Base) (items rest : List (Item (Old S O A M F))) (slots operands : List ℕ) → items ≡ mark ∷ rest → m ≡ base_of ns → ms ≡ drop 1 ns → StampsLeadOn clock n ns items slots operands → AreStamped clock m ms rest slots operands
  at_mark_stamped clock n m ms ns items rest slots operands is base bases h = (
    stamps_at_mark slot_stamp (λ b. b.slots) clock n m ms ns items rest slots is base bases h.0,
    stamps_at_mark operand_stamp (λ b. b.operands) clock n m ms ns items rest operands is base bases h.1,
  )

module _ {S O A M F K : Type 0} where
  -- a place that came later, or is noted already, gets another value
  pub slot_put : (clock : ℕ) (q : Parts S O A M F) (n : Base) (at : ℕ) (value : S) (ns : List Base) (new : StackState S) (items : List (Item (Old S O A M F))) (ks : List K) (slots operands : List ℕ) → (nat_lt at n.slots && nat_lt (get_or slots at 0) n.since) ≡ false → new.items ≡ set q.slots.items at value → new.room ≡ q.slots.room →
      IsTrailOf q n ns items → AreStamped clock n ns items slots operands → IsNoted q (record q { slots = new }) n n ns items items ks
  slot_put clock q n at value ns new items ks slots operands off is room h stamped =
      past_both (nat_lt at n.slots) (nat_lt (get_or slots at 0) n.since) (IsNoted q (record q { slots = new }) n n ns items items ks) off
      (λ past. slots_unseen q n ns new items ks (set_unseen n.slots at value q.slots new is room (ltb-false at n.slots past) h.0.slots) h)
      (λ low again.
      let below : at < n.slots = ltb-true at n.slots low in
      slot_again q n at value ns new items ks below (tells_noted slot_stamp (λ b. b.slots) clock at (get_or slots at 0) items n ns (marked (λ b. b.slots) q n ns items at refl below h) below (ltb-false (get_or slots at 0) n.since again) (stamped.0.tells at (get_or slots at 0) (λ under. omega arith))) is room h)

  pub operand_put : (clock : ℕ) (q : Parts S O A M F) (n : Base) (at : ℕ) (value : O) (ns : List Base) (new : StackState O) (items : List (Item (Old S O A M F))) (ks : List K) (slots operands : List ℕ) → (nat_lt at n.operands && nat_lt (get_or operands at 0) n.since) ≡ false → new.items ≡ set q.operands.items at value → new.room ≡ q.operands.room →
      IsTrailOf q n ns items → AreStamped clock n ns items slots operands → IsNoted q (record q { operands = new }) n n ns items items ks
  operand_put clock q n at value ns new items ks slots operands off is room h stamped =
      past_both (nat_lt at n.operands) (nat_lt (get_or operands at 0) n.since) (IsNoted q (record q { operands = new }) n n ns items items ks) off
      (λ past. operands_unseen q n ns new items ks (set_unseen n.operands at value q.operands new is room (ltb-false at n.operands past) h.0.operands) h)
      (λ low again.
      let below : at < n.operands = ltb-true at n.operands low in
      operand_again q n at value ns new items ks below (tells_noted operand_stamp (λ b. b.operands) clock at (get_or operands at 0) items n ns (marked (λ b. b.operands) q n ns items at refl below h) below (ltb-false (get_or operands at 0) n.since again) (stamped.1.tells at (get_or operands at 0) (λ under. omega arith))) is room h)

-- a place that isn't noted yet is below the base
pub unnoted_low : (at n s since : ℕ) → (nat_lt at n && nat_lt s since) ≡ true → at < n
unnoted_low at n s since is = low_by (nat_lt at n) (nat_lt s since) at n refl is
  where
    low_by : (a b : Bool) (at n : ℕ) → nat_lt at n ≡ a → (a && b) ≡ true → at < n
    low_by true b at n low is = ltb-true at n low
    low_by false b at n low is = absurd (true≢false (sym is))
