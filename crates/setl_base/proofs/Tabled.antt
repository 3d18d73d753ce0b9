-- What the table of a base says of it.
use Rattle.std.proofs.Common.{◌≡◌, ℕ, ◌+◌, ◌<◌, ◌^◌, List, [], ◌∷◌, ◌++◌, length, slice_get, Some, None, is_some, if◌then◌else◌, cond, ap, sym, ◌∙◌, subst, arith, length-append, take, ⊎_elim}
use Rattle.std.proofs.lemmas.List.{length-map, take-map, map-append}
use Rattle.std.specs.List.{IsDistinct}
use Rattle.std.specs.Map.{keys_of}
use Rattle.std.specs.Option.{option_or}
use Rattle.indexmap.specs.IndexMap.{IndexMap}
use Rattle.setl_value.specs.declared.Value.{Value}
use Rattle.setl_value.specs.code.DatumOf.{datum}
use Rattle.setl_value.specs.WellFormed.{IsValue}
use Rattle.setl_base.specs.Base.{Member, IsBase, handle, find, find_from, value_of, with_member, entered, undone}
use Rattle.setl_base.specs.Table.{member_of, members_of, base_of, IsTable}
use Rattle.setl_base.proofs.Found.{same_key, lives, member_entry, found_own, living_value, find_put, same_itself}
use Rattle.setl_base.proofs.Places.{get_put}

module _ {S : Type 0} (table : IndexMap Value ℕ S) (cuts : ℕ) (h : IsTable table cuts) where
  pub is_base : IsDistinct same_key (keys_of table.entries) → IsBase (base_of table cuts)
  is_base distinct = record {
    found = λ e d p.
        let at = lives (base_of table cuts) e d p in
        let x = member_entry table.entries at.place at.member at.stands in
        let value : datum x.entry.0 ≡ d = ap (λ (m : Member). m.value) x.is ∙ at.value in
        let generation : x.entry.1 ≡ e.generation = ap (λ (m : Member). m.generation) x.is ∙ at.generation in
        let number : 1 + at.place ≡ e.block = omega (arith, at.number) in
        ap (find (base_of table cuts)) (sym value) ∙ found_own 1 table.entries at.place x.entry distinct x.stands ∙ (λ i. Some (record { block = number i; generation = generation i }));
    values = λ e d p.
        let at = lives (base_of table cuts) e d p in
        let x = member_entry table.entries at.place at.member at.stands in
        subst IsValue (ap (λ (m : Member). m.value) x.is ∙ at.value) (h.values at.place x.entry x.stands);
    generations = λ e p.
        let v = living_value (value_of (base_of table cuts) e) p in
        let at = lives (base_of table cuts) e v.0 v.1 in
        let x = member_entry table.entries at.place at.member at.stands in
        let generation : x.entry.1 ≡ e.generation = ap (λ (m : Member). m.generation) x.is ∙ at.generation in
        omega (arith, h.generations at.place x.entry x.stands, generation);
    few = omega (arith, h.few, length-map table.entries member_of);
  }

-- the table with one more member
pub table_put : {S : Type 0} (old new : IndexMap Value ℕ S) (cuts : ℕ) (v : Value) → IsTable old cuts → new.entries ≡ old.entries ++ (v, cuts) ∷ [] → IsValue (datum v) → length old.entries < 2 ^ 63 → IsTable new cuts
table_put old new cuts v h put value few = record {
  values = λ i e p. ⊎_elim (λ q. h.values i e q) (λ q. subst (λ (x : Value × ℕ). IsValue (datum x.0)) (sym q.1) value) (get_put old.entries (v, cuts) i e (ap (λ es. slice_get es i) (sym put) ∙ p));
  generations = λ i e p. ⊎_elim (λ q. h.generations i e q) (λ q. let is : e.1 ≡ cuts = ap (λ (x : Value × ℕ). x.1) q.1 in omega (arith, is)) (get_put old.entries (v, cuts) i e (ap (λ es. slice_get es i) (sym put) ∙ p));
  few = let n = ap length put ∙ length-append old.entries ((v, cuts) ∷ []) in omega (arith, n, few);
}

-- the base with one more member
pub base_put : {S : Type 0} (old new : IndexMap Value ℕ S) (cuts : ℕ) (v : Value) → find (base_of old cuts) (datum v) ≡ None → new.entries ≡ old.entries ++ (v, cuts) ∷ [] → base_of new cuts ≡ entered (base_of old cuts) (datum v)
base_put old new cuts v none put =
    let b = base_of old cuts in
    let members : members_of new.entries ≡ with_member b (datum v) = ap members_of put ∙ map-append member_of old.entries ((v, cuts) ∷ []) in
    let entry : with_member b (datum v) ≡ (entered b (datum v)).members = ap (λ t. if t then b.members else with_member b (datum v)) (sym (ap is_some none)) in
    λ i. record { members = (members ∙ entry) i; cuts = cuts }

-- the new member is found at the end
pub found_last : (es fs : List (Value × ℕ)) (v : Value) (g n : ℕ) → find_from 1 (members_of es) (datum v) ≡ None → fs ≡ es ++ (v, g) ∷ [] → n ≡ length es + 1 → find_from 1 (members_of fs) (datum v) ≡ Some (record { block = n; generation = g })
found_last es fs v g n new put number =
    let m = member_of (v, g) in
    let all : members_of fs ≡ members_of es ++ m ∷ [] = ap members_of put ∙ map-append member_of es ((v, g) ∷ []) in
    let block : 1 + length (members_of es) ≡ n = omega (arith, number, length-map es member_of) in
    ap (λ ms. find_from 1 ms (datum v)) all
    ∙ find_put (datum v) m (members_of es) 1
    ∙ (λ i. option_or (new i) (cond (same_itself (datum v) i) (Some (handle (block i) m)) None))

members_taken : (es fs : List (Value × ℕ)) (n : ℕ) → fs ≡ take n es → members_of fs ≡ take n (members_of es)
members_taken es fs n h = ap members_of h ∙ sym (take-map member_of n es)

-- the base of the table's first entries
pub base_taken : {S : Type 0} (old new : IndexMap Value ℕ S) (n cuts : ℕ) → new.entries ≡ take n old.entries → base_of new cuts ≡ undone (base_of old cuts) n
base_taken old new n cuts h = λ i. record { members = members_taken old.entries new.entries n h i; cuts = cuts }
