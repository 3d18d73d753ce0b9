-- The order of places, and lists of places.
use Rattle.std.proofs.Common.{◌≡◌, ◌∙◌, Bool, true, false, cond, ◌&&◌, ◌||◌, List, [], ◌∷◌, filter, Option, None, Some, refl, sym, ap, is_some, nat_eq}
use Rattle.std.proofs.Math.Bool.{and-false}
use Rattle.std.specs.Ordering.{nat_cmp, eq_by_cmp, is_eq}
use Rattle.std.specs.List.{list_any}
use Rattle.std.specs.Option.{option_map_or}
use Rattle.std.specs.Map.{keys_of, lookup}
use Rattle.std.specs.Cmp.{Equal-is, unsigned_tied, both_tied, eq_by_cmp_equiv, tied_itself}
use Rattle.std.specs.FinMap as map
use Rattle.setl_local.specs.Place.{Place, place_cmp, place_total, place_antisymmetric}
use Rattle.setl_local.specs.Entries.{place_eq, entries_by}

-- the order and `==` tell the same places apart
pub tied : (p q : Place) → eq_by_cmp place_cmp p q ≡ place_eq p q
tied p q = sym (both_tied (nat_eq p.0 q.0) (nat_eq p.1 q.1) (nat_cmp p.0 q.0) (nat_cmp p.1 q.1) (sym (unsigned_tied p.0 q.0)) (sym (unsigned_tied p.1 q.1)))

pub same_place : (p q : Place) → place_eq p q ≡ true → p ≡ q
same_place p q e = place_antisymmetric p q ((Equal-is (place_cmp p q)).0 (tied p q ∙ e))

pub same_itself : (p : Place) → place_eq p p ≡ true
same_itself p = sym (tied p p) ∙ ap is_eq (tied_itself place_total p)

pub swapped : (p q : Place) → eq_by_cmp place_cmp q p ≡ place_eq p q
swapped p q = (eq_by_cmp_equiv place_total).symm q p ∙ tied p q

module _ {T : Type 0} where
  pub listed : (q : Place) (entries : List (Place × T)) → list_any (place_eq q) (keys_of entries) ≡ is_some (lookup (place_eq q) entries)
  listed q [] = refl
  listed q (e ∷ es) =
      elim (place_eq q e.0) as (λ b. (b || list_any (place_eq q) (keys_of es)) ≡ is_some (cond b (Some e.1) (lookup (place_eq q) es))) [
        | true ↦ refl
        | false ↦ listed q es
      ]

one_of_kept : (a b c kept all : Bool) → kept ≡ (all && c) → (b ≡ true → a ≡ c) → (cond a b false || kept) ≡ ((b || all) && c)
one_of_kept true true c kept all rest same = same refl
one_of_kept false true c kept all rest same = rest ∙ ap (λ d. all && d) (sym (same refl)) ∙ and-false all ∙ same refl
one_of_kept true false c kept all rest same = rest
one_of_kept false false c kept all rest same = rest

any_of_kept : (t : Place → Bool) (a : Bool) (k : Place) (ps : List Place) → list_any t (cond a (k ∷ ps) ps) ≡ (cond a (t k) false || list_any t ps)
any_of_kept t true k ps = refl
any_of_kept t false k ps = refl

pub listed-filter : (p : Place → Bool) (q : Place) (ps : List Place) → list_any (place_eq q) (filter p ps) ≡ (list_any (place_eq q) ps && p q)
listed-filter p q [] = refl
listed-filter p q (k ∷ ks) =
    any_of_kept (place_eq q) (p k) k (filter p ks)
    ∙ one_of_kept (p k) (place_eq q k) (p q) (list_any (place_eq q) (filter p ks)) (list_any (place_eq q) ks) (listed-filter p q ks)
    (λ same. ap p (sym (same_place q k same)))

either : {T : Type 0} (b : Bool) (o : Option T) → cond b o o ≡ o
either true o = refl
either false o = refl

module _ {T : Type 0} (f : Place → Option T) where
  first_found : (b l : Bool) (here there found : Option T) → (b ≡ true → here ≡ there) → found ≡ cond l there None
      → option_map_or (λ c. cond b (Some c) found) here found ≡ cond (b || l) there None
  first_found true l None there found same rest = rest ∙ ap (λ o. cond l o None) (sym (same refl)) ∙ either l None ∙ same refl
  first_found true l (Some c) there found same rest = same refl
  first_found false l None there found same rest = rest
  first_found false l (Some c) there found same rest = rest

  found_of_kept : (q k : Place) (o : Option T) (es : List (Place × T))
      → map.find place_cmp q (option_map_or (λ c. (k, c) ∷ es) o es) ≡ option_map_or (λ c. cond (place_eq q k) (Some c) (map.find place_cmp q es)) o (map.find place_cmp q es)
  found_of_kept q k None es = refl
  found_of_kept q k (Some c) es = ap (λ b. cond b (Some c) (map.find place_cmp q es)) (tied q k)

  pub find-entries_by : (q : Place) (ps : List Place) → map.find place_cmp q (entries_by f ps) ≡ cond (list_any (place_eq q) ps) (f q) None
  find-entries_by q [] = refl
  find-entries_by q (k ∷ ks) =
      found_of_kept q k (f k) (entries_by f ks)
      ∙ first_found (place_eq q k) (list_any (place_eq q) ks) (f k) (f q) _ (λ same. ap f (sym (same_place q k same))) (find-entries_by q ks)
