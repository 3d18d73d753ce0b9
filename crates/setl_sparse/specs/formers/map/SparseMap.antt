-- `SparseMap` as a type that may hold the type that holds it, by its contents.
use Rattle.std.specs.Prelude.{◌≡◌, ℕ, max, nat_eq, List, [], ◌∷◌, map, length}
use mathlib.Core.Path.{refl, sym, ap, ◌∙◌}
use mathlib.Core.HLevel.{×_prop}
use mathlib.Core.Former.{Former, Count, Row, one_more, this, const, pair, list, list_count, list_put, via, children}
use native.Mathlib.Nat.{ℕ_set}
use native.Mathlib.Omega.{arith}
use lib.ListN.{length-map}
use base.Stored.{code_map, coded×, coded_ℕ, gcons}
use denote.RattleType.{RattleType}
use denote.HoleLaws.{Alike}
use denote.HolePlaces.{Recodes, struct_places, laid}
use denote.Hole.Carrier.{listed}
use denote.Hole.Fix.{over}
use denote.Param.Nested.{deepest}
use denote.Param.Weighed.{Weighed, most, none_max, List-puts, w_pair, w_const}
use denote.Model.Placed.{held, view_places_where}
use Rattle.std.specs.List.{zip, IsDistinct-prop}
use Rattle.std.specs.Map.{values_of}
use Rattle.std.specs.formers.vec.Vec as vec
use Rattle.std.specs.declared.alloc.Global.{Global}
use Rattle.std.specs.declared.hash.BuildHasherDefault.{BuildHasherDefault}
use Rattle.std.specs.declared.hash.FoldHasher.{FoldHasher}
use Rattle.std.specs.contracts.alloc.Global as heap
use Rattle.std.specs.contracts.impls.GlobalAllocator.TheImpl.{ghosts}
use Rattle.indexmap.specs.declared.set.IndexSet.{IndexSet}
use Rattle.setl_sparse.specs.declared.map.SparseMap.TheInside.{Inside}
use Rattle.setl_sparse.specs.declared.map.SparseMap.TheView.{view, invariant}
use Rattle.setl_sparse.specs.contracts.map.SparseMap as C
use Rattle.setl_sparse.specs.contracts.map.SparseMap.TheInside as I

-- a number beside one of g's values
abbrev pub entry : Former {0} → Former {0}
entry g = pair (const ℕ) g

abbrev on_content : {X Y : Type 0} → (X → Y) → ℕ × X → ℕ × Y
on_content h e = (e.0, h e.1)

most_contents : {Y : Type 0} (f : Y → ℕ) (es : List (ℕ × Y)) → most (λ e. max 0 (f e.1)) es ≡ most f (values_of es)
most_contents f [] = refl
most_contents f (e ∷ es) = λ i. max (sym (none_max (f e.1)) i) (most_contents f es i)

pub entries_puts : {g : Former {0}} (w : Weighed g) (X : Type 0) (μ : X → ℕ) (es : List (ℕ × g.Of X)) (n : Count) (t : Row X n)
    → deepest μ (list_count (entry g) (map ((entry g).shape X) es) n) (list_put (entry g) X es n t) ≡ max (most (w.weight X μ) (values_of es)) (deepest μ n t)
entries_puts w X μ es n t = List-puts (w_pair (w_const ℕ) w) X μ es n t ∙ ap (λ a. max a (deepest μ n t)) (most_contents (w.weight X μ) es)

abbrev pub the_former : Former {0} → Former {0}
the_former g = list (entry g)

abbrev pub the_weighed : {g : Former {0}} → Weighed g → Weighed (the_former g)
the_weighed w = record { weight = λ X μ m. most (w.weight X μ) (values_of m); puts = λ X μ m. entries_puts w X μ m }

pub the_empty : List (ℕ × ⊥)
the_empty = []

abbrev pub the_items : (X : Type 0) → List (ℕ × X) → List X
the_items X m = values_of m

pub the_items_listed : (X : Type 0) (m : List (ℕ × X)) → listed _ (children (the_former this) X m) ≡ the_items X m
the_items_listed X [] = refl
the_items_listed X (e ∷ es) = ap (λ l. e.1 ∷ l) (the_items_listed X es)

abbrev Numbers : Type 0
Numbers = IndexSet ℕ (BuildHasherDefault FoldHasher) Global FoldHasher

abbrev fields : Former {0}
fields = via (pair (const Numbers) (vec.the_former this Global)) Inside (λ X a. (a.numbers, a.contents)) (λ X v. record { numbers = v.0; contents = v.1 }) (λ X a. refl) (λ X v. refl)

zip-map : {X Y : Type 0} (h : X → Y) (ns : List ℕ) (xs : List X) → zip ns (map h xs) ≡ map (on_content h) (zip ns xs)
zip-map h [] xs = refl
zip-map h (n ∷ ns) [] = refl
zip-map h (n ∷ ns) (x ∷ xs) = ap (λ l. (n, h x) ∷ l) (zip-map h ns xs)

zip-held : (X : Type 0) (ns : List ℕ) (xs : List X) → length xs ≡ length ns → held (list (entry this)) X (zip ns xs) ≡ held (list this) X xs
zip-held X [] [] e = refl
zip-held X [] (x ∷ xs) e = absurd (omega arith)
zip-held X (n ∷ ns) [] e = absurd (omega arith)
zip-held X (n ∷ ns) (x ∷ xs) e = λ i. (one_more (zip-held X ns xs (omega arith) i).0, (x, (zip-held X ns xs (omega arith) i).1))

module _ (R S : RattleType) (h : R.Denot → S.Denot) where
  pub the_places : Alike R S h → Alike (C.the_row R) (C.the_row S) ((the_former this).map R.Denot S.Denot h)
  the_places a = view_places_where fields (the_former this) view
      (λ X Y k u. zip-map k u.numbers.keys u.contents.items)
      (λ X u. length u.contents.items ≡ length u.numbers.keys) (λ X Y k u e. sym (length-map u.contents.items k) ∙ e)
      (λ X u e. zip-held X u.numbers.keys u.contents.items e)
      R.Denot S.Denot h (C.the_row R).coded (C.the_row S).coded
      (invariant R.Denot) (invariant S.Denot)
      (λ u. ×_prop (ℕ_set _ _) (IsDistinct-prop nat_eq u.numbers.keys)) (λ u. ×_prop (ℕ_set _ _) (IsDistinct-prop nat_eq u.numbers.keys))
      (λ u e. (length-map u.contents.items h ∙ e.0, e.1)) (λ u e. (sym (length-map u.contents.items h) ∙ e.0, e.1)) (λ u e. e.0)
      (over (I.the_row R)) (over (I.the_row S))
      (struct_places (I.the_type R) (I.the_type S) (λ n. n, (vec.mapped h, tt)) _ (λ d. refl) refl
      ((refl, (λ n. refl, λ n. refl)), (laid _ _ _ (vec.the_places heap.the_row ghosts R S h a), tt)))

  pub the_codes_placed : Recodes R S h → Recodes (C.the_row R) (C.the_row S) ((the_former this).map R.Denot S.Denot h)
  the_codes_placed e m = sym (code_map (coded× coded_ℕ R.coded).code (coded× coded_ℕ S.coded).code (on_content h) (λ x i. gcons (coded_ℕ.code x.0) (sym (e x.1) i)) m)
