-- Steps of the iterator on top.
use Rattle.std.proofs.Common.{◌≡◌, ℕ, zero, suc, ◌+◌, ◌-◌, ◌<◌, Bool, true, false, List, [], ◌∷◌, length, drop, reverse, set, get_or, refl, sym, ap, ◌∙◌, subst, arith, eq-eqb, eqb-true, Option, Some, None}
use Rattle.std.specs.Prelude.{slice_get, nat_eq, Result, Ok, Err, IfOk, OnOk, OnErr}
use Rattle.std.specs.Option.{unwrap_or}
use Rattle.std.specs.declared.alloc.AllocError.{AllocError}
use Rattle.std.proofs.lemmas.List.{set-set}
use Rattle.std.proofs.lemmas.Option.{slice_get-get_or}
use Rattle.setl_value.specs.code.DatumOf.{part}
use Rattle.setl_value.specs.declared.Value.{Value}
use Rattle.setl_model.specs.Core as model
use Rattle.setl_store_iterator.specs.States.{IteratorState}
use Rattle.setl_store_iterator.specs.Items.{plain_item, is_pair}
use Rattle.setl_store_iterator.specs.declared.iterator.Item.{Item}
use Rattle.setl_store_iterator.specs.declared.iterator.Item.TheVariants as item
use Rattle.setl_code.specs.declared.code.Code.{Code}
use Rattle.setl_code.specs.CodeCore as core
use Rattle.setl_code.specs.CodeCore.{CodeCore, Result as Holds}
use Rattle.setl_code.specs.MayRun.{MayRun}
use Rattle.setl_code.specs.Plain.{plain_code}
use Rattle.setl_rep_bases.specs.Bases.{BasesState}
use Rattle.setl_store_operands.specs.declared.cells.Member.{Member}
use Rattle.setl_store_operands.specs.declared.cells.Operand.{Operand}
use Rattle.setl_store_operands.specs.declared.cells.Operand.TheVariants as operand
use Rattle.setl_store.specs.declared.iterating.Ahead.TheVariants as ahead
use Rattle.setl_store_operands.specs.Operands.{HasMembers, iterator_by, iterator_of, operand_by, operand_of}
use Rattle.setl_store.specs.Standing.{Standing, over}
use Rattle.setl_store.specs.declared.cells.Kept.{Kept}
use Rattle.setl_store.specs.Flat.{Here, stands, IsSound, AllSound, with_operand}
use Rattle.setl_store.specs.Iterating.{IsAtItem, IsFirst, advanced, with_item}
use Rattle.setl_store.specs.Operands.{IsAhead, Advances}
use Rattle.setl_store.proofs.NewOperands.{NowHas, now_has}
use Rattle.setl_store.proofs.LastOperand.{behind, operand_set}
use Rattle.setl_store.proofs.StandingOperands.{value_over}
use Rattle.setl_store.proofs.OperandLists.{Changed, top_is, some_below, lowest_of, lowest_below, pushes, got_iterator}

-- ---- what is ahead

end_ahead : (pairs : Bool) (left : List model.Item) (xs : List core.Operand) → nat_eq (length left) 0 ≡ true → IsAhead (iterator_by pairs left ∷ xs) ahead.AtEnd
end_ahead true [] xs h = tt
end_ahead true (x ∷ left) xs h = absurd (omega (arith, eqb-true (length (x ∷ left)) 0 h))
end_ahead false [] xs h = tt
end_ahead false (x ∷ left) xs h = absurd (omega (arith, eqb-true (length (x ∷ left)) 0 h))

item_ahead : (pairs : Bool) (left : List model.Item) (xs : List core.Operand) → nat_eq (length left) 0 ≡ false → IsAhead (iterator_by pairs left ∷ xs) ahead.AtItem
item_ahead true [] xs h = absurd (cc (eq-eqb 0 0 refl))
item_ahead true (x ∷ left) xs h = tt
item_ahead false [] xs h = absurd (cc (eq-eqb 0 0 refl))
item_ahead false (x ∷ left) xs h = tt

none_ahead : (bs : BasesState) (members : List Member) (o : Operand) (xs : List core.Operand) → ((i : IteratorState) → o ≡ operand.Iterator i → ⊥) → IsAhead (operand_of bs members o ∷ xs) ahead.NoIterator
none_ahead bs members operand.Om xs h = tt
none_ahead bs members (operand.Value v) xs h = tt
none_ahead bs members (operand.Based f) xs h = tt
none_ahead bs members (operand.Iterator i) xs h = absurd (h i refl)
none_ahead bs members (operand.Collection what lowest count) xs h = tt

-- the operands of a store, where this is the last one and there are more than the lowest
module _ (code : Code) (bs : BasesState) (keeps : ℕ) (at : ℕ) (e : Here) (kept : List (Here × Kept)) (s : Standing) (n m : ℕ) (o : Operand)
    (holds : MayRun code × IsSound (plain_code code) bs e × AllSound (plain_code code) bs keeps e.slots kept) (is : stands code bs at e kept ≡ s)
    (count : n ≡ length e.operands) (low : m ≡ lowest_of e) (some : n ≡ m → ⊥) (last : Some o ≡ slice_get e.operands (n - 1)) where
  top_here : s.core.now.operands ≡ operand_of bs e.members o ∷ drop 1 s.core.now.operands
  top_here = top_is code bs at e kept s (n - 1) o holds.1 is (omega (arith, lowest_below (plain_code code) bs e holds.1)) (omega arith) last

  pub end_on_top : (i : IteratorState) (b : Bool) → o ≡ operand.Iterator i → b ≡ nat_eq (length i.left) 0 → b ≡ true → IsAhead s.core.now.operands ahead.AtEnd
  end_on_top i b at_work ends h =
      subst (λ l. IsAhead l ahead.AtEnd) (sym (top_here ∙ ap (λ x. operand_of bs e.members x ∷ drop 1 s.core.now.operands) at_work))
      (end_ahead i.pairs i.left (drop 1 s.core.now.operands) (sym ends ∙ h))

  pub item_on_top : (i : IteratorState) (b : Bool) → o ≡ operand.Iterator i → b ≡ nat_eq (length i.left) 0 → b ≡ false → IsAhead s.core.now.operands ahead.AtItem
  item_on_top i b at_work ends h =
      subst (λ l. IsAhead l ahead.AtItem) (sym (top_here ∙ ap (λ x. operand_of bs e.members x ∷ drop 1 s.core.now.operands) at_work))
      (item_ahead i.pairs i.left (drop 1 s.core.now.operands) (sym ends ∙ h))

  pub no_iterator_on_top : ((i : IteratorState) → o ≡ operand.Iterator i → ⊥) → IsAhead s.core.now.operands ahead.NoIterator
  no_iterator_on_top h = subst (λ l. IsAhead l ahead.NoIterator) (sym top_here) (none_ahead bs e.members o (drop 1 s.core.now.operands) h)

-- ---- the iterator is taken out, and put back behind its first item

-- what was there, put back
put_back : (xs : List Operand) (n : ℕ) (o : Operand) → Some o ≡ slice_get xs n → set xs n o ≡ xs
put_back [] n o h = refl
put_back (x ∷ xs) zero o h = ap (λ y. y ∷ xs) (ap (λ v. unwrap_or v o) h)
put_back (x ∷ xs) (suc n) o h = ap (λ l. x ∷ l) (put_back xs n o h)

module _ (e e₁ e₂ : Here) (at : ℕ) (o : Operand) (i j : IteratorState) where
  placed : e₁ ≡ record e { operands = set e.operands at operand.Om } → e₂ ≡ record e₁ { operands = set e₁.operands at (operand.Iterator j) } → e₂ ≡ record e { operands = set e.operands at (operand.Iterator j) }
  placed taken put = put ∙ ap (λ (y : Here). record y { operands = set y.operands at (operand.Iterator j) }) taken ∙ ap (λ l. record e { operands = l }) (set-set e.operands at operand.Om (operand.Iterator j))

  pub item_moved : (r : Result Item AllocError) → at ≡ length e.operands - 1 → Some o ≡ slice_get e.operands at → o ≡ operand.Iterator i → e₁ ≡ record e { operands = set e.operands at operand.Om } →
      e₂ ≡ record e₁ { operands = set e₁.operands at (operand.Iterator j) } → IfOk r (λ x. i.left ≡ plain_item x ∷ j.left) → j.pairs ≡ i.pairs →
      OnOk r (e₂ ≡ record e { operands = set e.operands (length e.operands - 1) (advanced (slice_get e.operands (length e.operands - 1))) })
  item_moved (Err f) last there is taken put first pairs = tt
  item_moved (Ok x) last there is taken put first pairs =
      let behind_first : j ≡ record i { left = drop 1 i.left } = ap (λ b. record j { pairs = b }) pairs ∙ ap (λ l. record i { left = l }) (sym (ap (drop 1) first)) in
      placed taken put ∙ ap (λ k. record e { operands = set e.operands at (operand.Iterator k) }) behind_first
      ∙ ap (λ v. record e { operands = set e.operands at (advanced v) }) (sym (ap Some is) ∙ there)
      ∙ ap (λ k. record e { operands = set e.operands k (advanced (slice_get e.operands k)) }) last

  pub item_refused : (r : Result Item AllocError) → Some o ≡ slice_get e.operands at → o ≡ operand.Iterator i → e₁ ≡ record e { operands = set e.operands at operand.Om } →
      e₂ ≡ record e₁ { operands = set e₁.operands at (operand.Iterator j) } → OnErr r (j ≡ i) → OnErr r (e₂ ≡ e)
  item_refused (Ok x) there is taken put refused = tt
  item_refused (Err f) there is taken put refused =
      placed taken put ∙ ap (λ k. record e { operands = set e.operands at (operand.Iterator k) }) refused ∙ ap (λ l. record e { operands = l }) (put_back e.operands at (operand.Iterator i) (sym (ap Some is) ∙ there))

-- ---- advancing

some_ahead : (xs : List core.Operand) → IsAhead xs ahead.AtItem → 0 < length xs
some_ahead [] h = absurd h
some_ahead (x ∷ xs) h = omega arith

item_left : (pairs : Bool) (left : List model.Item) (xs : List core.Operand) → IsAhead (iterator_by pairs left ∷ xs) ahead.AtItem → 0 < length left
item_left true [] xs h = absurd h
item_left true (x ∷ left) xs h = omega arith
item_left false [] xs h = absurd h
item_left false (x ∷ left) xs h = omega arith

at_item : (bs : BasesState) (members : List Member) (o : Operand) (xs : List core.Operand) → IsAhead (operand_of bs members o ∷ xs) ahead.AtItem → IsAtItem (Some o)
at_item bs members operand.Om xs h = absurd h
at_item bs members (operand.Value v) xs h = absurd h
at_item bs members (operand.Based f) xs h = absurd h
at_item bs members (operand.Iterator i) xs h = item_left i.pairs i.left xs h
at_item bs members (operand.Collection what lowest count) xs h = absurd h

-- an item on these operands
abbrev pub item_on : Item → List core.Operand → List core.Operand
item_on (item.One v) xs = Holds (part v) ∷ xs
item_on (item.Two x y) xs = Holds (part x) ∷ Holds (part y) ∷ xs

item_off : (x : Item) (rest : List model.Item) (xs : List core.Operand) → Advances (iterator_by (is_pair x) (plain_item x ∷ rest) ∷ xs) (item_on x (iterator_by (is_pair x) rest ∷ xs))
item_off (item.One v) rest xs = refl
item_off (item.Two x y) rest xs = refl

value_members : (v : Option Value) (os : List Operand) (n : ℕ) → HasMembers os n → HasMembers (operand_by v ∷ os) n
value_members None os n h = h
value_members (Some v) os n h = h

value_stands : (bs : BasesState) (v : Option Value) (members : List Member) → operand_of bs members (operand_by v) ≡ Holds (part v)
value_stands bs None members = refl
value_stands bs (Some v) members = refl

-- a value pushed
value_pushed : (code : Code) (bs : BasesState) (keeps : ℕ) (at : ℕ) (e : Here) (kept : List (Here × Kept)) (s : Standing) (v : Option Value) →
    MayRun code × IsSound (plain_code code) bs e × AllSound (plain_code code) bs keeps e.slots kept → stands code bs at e kept ≡ s →
    Changed code bs keeps at (with_operand e (operand_by v)) kept s (over (Holds (part v) ∷ s.core.now.operands) s.core)
value_pushed code bs keeps at e kept s v holds is =
    pushes code bs keeps at e (with_operand e (operand_by v)) kept kept s (operand_by v) (Holds (part v)) holds is refl refl
    (value_members v (reverse e.operands) (length e.members) holds.1.members) tt (value_over bs v) (value_stands bs v e.members)

-- an item pushed
item_pushed : (code : Code) (bs : BasesState) (keeps : ℕ) (at : ℕ) (e : Here) (kept : List (Here × Kept)) (s : Standing) (x : Item) →
    MayRun code × IsSound (plain_code code) bs e × AllSound (plain_code code) bs keeps e.slots kept → stands code bs at e kept ≡ s →
    Changed code bs keeps at (with_item e x) kept s (over (item_on x s.core.now.operands) s.core)
item_pushed code bs keeps at e kept s (item.One v) holds is = value_pushed code bs keeps at e kept s v holds is
item_pushed code bs keeps at e kept s (item.Two x y) holds is =
    let one = value_pushed code bs keeps at e kept s y holds is in
    let k = over (Holds (part y) ∷ s.core.now.operands) s.core in
    behind code bs keeps at (with_item e (item.Two x y)) kept s k (over (item_on (item.Two x y) s.core.now.operands) s.core)
    (value_pushed code bs keeps at (with_operand e (operand_by y)) kept (record s { core = k }) x one.holds one.stands)

-- the iterator that is the last operand replaced
module _ (code : Code) (bs : BasesState) (keeps : ℕ) (at : ℕ) (e : Here) (kept : List (Here × Kept)) (s : Standing)
    (holds : MayRun code × IsSound (plain_code code) bs e × AllSound (plain_code code) bs keeps e.slots kept) (is : stands code bs at e kept ≡ s) where
  iterator_set : (i j : IteratorState) (n : ℕ) → length e.operands ≡ n + 1 → lowest_of e < length e.operands → Some (operand.Iterator i) ≡ slice_get e.operands n →
      Changed code bs keeps at (record e { operands = set e.operands n (operand.Iterator j) }) kept s (over (iterator_of j ∷ drop 1 s.core.now.operands) s.core)
  iterator_set i j n long some last =
      operand_set code bs keeps at e (record e { operands = set e.operands n (operand.Iterator j) }) kept kept s (operand.Iterator i) (operand.Iterator j) (iterator_of j) n holds is long (omega arith) last refl refl refl
      (λ os m h. h) (got_iterator j.pairs j.left) tt refl

  last_of : IsAhead s.core.now.operands ahead.AtItem → Some (get_or e.operands (length e.operands - 1) operand.Om) ≡ slice_get e.operands (length e.operands - 1)
  last_of h = sym (slice_get-get_or e.operands (length e.operands - 1) operand.Om (omega (arith, some_below code bs at e kept s is (some_ahead s.core.now.operands h))))

  top_before : (h : IsAhead s.core.now.operands ahead.AtItem) → s.core.now.operands ≡ operand_of bs e.members (get_or e.operands (length e.operands - 1) operand.Om) ∷ drop 1 s.core.now.operands
  top_before h = top_is code bs at e kept s (length e.operands - 1) (get_or e.operands (length e.operands - 1) operand.Om) holds.1 is (some_below code bs at e kept s is (some_ahead s.core.now.operands h)) refl (last_of h)

  -- an iterator is the last operand where an item is ahead
  pub item_there : IsAhead s.core.now.operands ahead.AtItem → IsAtItem (slice_get e.operands (length e.operands - 1))
  item_there h =
      let o = get_or e.operands (length e.operands - 1) operand.Om in
      subst IsAtItem (last_of h) (at_item bs e.members o (drop 1 s.core.now.operands) (subst (λ l. IsAhead l ahead.AtItem) (top_before h) h))

  -- its first item taken and pushed
  advanced_by : (o : Operand) (x : Item) (e₁ e₂ : Here) (kept' : List (Here × Kept)) → length e.operands ≡ (length e.operands - 1) + 1 → lowest_of e < length e.operands → Some o ≡ slice_get e.operands (length e.operands - 1) →
      s.core.now.operands ≡ operand_of bs e.members o ∷ drop 1 s.core.now.operands → IsFirst (Some o) x →
      e₁ ≡ record e { operands = set e.operands (length e.operands - 1) (advanced (Some o)) } → e₂ ≡ with_item e₁ x → kept' ≡ kept → NowHas (Advances s.core.now.operands) code bs keeps at e₂ kept' s
  advanced_by operand.Om x e₁ e₂ kept' long some last top first now pushed same = absurd first
  advanced_by (operand.Value v) x e₁ e₂ kept' long some last top first now pushed same = absurd first
  advanced_by (operand.Based f) x e₁ e₂ kept' long some last top first now pushed same = absurd first
  advanced_by (operand.Collection what lowest count) x e₁ e₂ kept' long some last top first now pushed same = absurd first
  advanced_by (operand.Iterator i) x e₁ e₂ kept' long some last top first now pushed same =
      let j : IteratorState = record i { left = drop 1 i.left } in
      let xs = drop 1 s.core.now.operands in
      let one = iterator_set i j (length e.operands - 1) long some last in
      let k = over (iterator_of j ∷ xs) s.core in
      let e' = record e { operands = set e.operands (length e.operands - 1) (operand.Iterator j) } in
      let two = behind code bs keeps at (with_item e' x) kept s k (over (item_on x (iterator_of j ∷ xs)) s.core) (item_pushed code bs keeps at e' kept (record s { core = k }) x one.holds one.stands) in
      let off : Advances (iterator_by i.pairs i.left ∷ xs) (item_on x (iterator_of j ∷ xs)) =
      subst (λ (l : List model.Item). Advances (iterator_by i.pairs l ∷ xs) (item_on x (iterator_of j ∷ xs))) (sym first.0)
      (subst (λ b. Advances (iterator_by b (plain_item x ∷ drop 1 i.left) ∷ xs) (item_on x (iterator_by b (drop 1 i.left) ∷ xs))) first.1 (item_off x (drop 1 i.left) xs)) in
      now_has (item_on x (iterator_of j ∷ xs))
      (subst (λ l. Advances l (item_on x (iterator_of j ∷ xs))) (sym top) off)
      (subst (λ ks. Changed code bs keeps at e₂ ks s (over (item_on x (iterator_of j ∷ xs)) s.core)) (sym same)
      (subst (λ y. Changed code bs keeps at y kept s (over (item_on x (iterator_of j ∷ xs)) s.core)) (sym (pushed ∙ ap (λ y. with_item y x) now)) two))

  pub advances : (x : Item) (e₁ e₂ : Here) (kept' : List (Here × Kept)) → IsAhead s.core.now.operands ahead.AtItem → IsFirst (slice_get e.operands (length e.operands - 1)) x →
      e₁ ≡ record e { operands = set e.operands (length e.operands - 1) (advanced (slice_get e.operands (length e.operands - 1))) } → e₂ ≡ with_item e₁ x → kept' ≡ kept → NowHas (Advances s.core.now.operands) code bs keeps at e₂ kept' s
  advances x e₁ e₂ kept' h first now pushed same =
      let some = some_below code bs at e kept s is (some_ahead s.core.now.operands h) in
      let last = last_of h in
      advanced_by (get_or e.operands (length e.operands - 1) operand.Om) x e₁ e₂ kept' (omega (arith, some)) some last (top_before h)
      (subst (λ o. IsFirst o x) (sym last) first)
      (now ∙ ap (λ o. record e { operands = set e.operands (length e.operands - 1) (advanced o) }) (sym last)) pushed same
