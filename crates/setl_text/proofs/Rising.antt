-- Sorted values without repeats are the set of all of them.
use Rattle.std.proofs.Common.{◌≡◌, suc, zero, Bool, List, [], ◌∷◌, map, refl, sym, ap, subst, ◌∙◌, arith}
use Rattle.std.specs.List.{Contains, AllByRecursion, dedup}
use Rattle.std.specs.List.Sorted.{IsPermutation, IsSorted, IsStrictlySortedBy}
use Rattle.std.specs.Ordering.{on, eq_by_cmp}
use Rattle.std.specs.declared.cmp.Ordering.TheVariants.{Less}
use Rattle.std.proofs.lemmas.Cmp.{on_total, eq_by_cmp_equiv}
use Rattle.std.proofs.lemmas.List.Kept.{IsStrictlySortedBy-dedup, Any-dedup, Contains-from_dedup}
use Rattle.std.proofs.lemmas.List.Sorted.{Contains-permutation, IsPermutation-sym}
use Rattle.setl_set.specs.Sets.{set_from}
use Rattle.setl_set.specs.Laws.{RisingListsAgree, Gathers}
use Rattle.setl_value.specs.declared.Value.{Value}
use Rattle.setl_value.specs.Datum.{Datum}
use Rattle.setl_value.specs.code.DatumOf.{datum}
use Rattle.setl_value.specs.Order.{datum_cmp, IsRising}
use Rattle.setl_value.specs.OrderLaws.{datum_cmp_total, same_if_eq}

abbrev same : Value → Value → Bool
same = on datum (eq_by_cmp datum_cmp)

all_below : {A B : Type 0} (f : A → B) (P : B → Type 0) (xs : List A) → AllByRecursion (λ x. P (f x)) xs → AllByRecursion P (map f xs)
all_below f P [] h = tt
all_below f P (x ∷ xs) h = (h.0, all_below f P xs h.1)

rising_map : (vs : List Value) → IsStrictlySortedBy (on datum datum_cmp) vs → IsRising (map datum vs)
unfolding IsStrictlySortedBy
rising_map [] h = tt
rising_map (v ∷ vs) h = (all_below datum (λ d. datum_cmp (datum v) d ≡ Less) vs h.0, rising_map vs h.1)

-- what stands among the data of some values is the datum of one of them
from_map : (vs : List Value) (d : Datum) → Contains (map datum vs) d → (v : Value) × (Contains vs v × (datum v ≡ d))
from_map [] d (k, h, e) = absurd (omega arith)
from_map (v ∷ vs) d (zero, h, e) = (v, ((zero, omega arith, refl), e))
from_map (v ∷ vs) d (suc k, h, e) = let more = from_map vs d (k, omega arith, e) in (more.0, ((suc more.1.0.0, omega (arith, more.1.0.1), more.1.0.2), more.1.1))

to_map : (vs : List Value) (v : Value) → Contains vs v → Contains (map datum vs) (datum v)
to_map [] v (k, h, e) = absurd (omega arith)
to_map (w ∷ vs) v (zero, h, e) = (zero, omega arith, ap datum e)
to_map (w ∷ vs) v (suc k, h, e) = let more = to_map vs v (k, omega arith, e) in (suc more.0, omega (arith, more.1), more.2)

kept : (xs ys : List Value) → IsPermutation xs ys → (d : Datum) → Contains (map datum xs) d → Contains (map datum (dedup same ys)) d
kept xs ys moved d h =
    let found = from_map xs d h in
    let v = found.0 in
    let there = Contains-permutation xs ys v moved found.1.0 in
    let other = Any-dedup (eq_by_cmp_equiv (on_total datum datum_cmp_total)) ys v there in
    let equal : datum v ≡ datum other.1 = same_if_eq (datum v) (datum other.1) other.4 in
    subst (λ e. Contains (map datum (dedup same ys)) e) (sym equal ∙ found.1.1) (to_map (dedup same ys) other.1 (other.0, other.2, other.3))

added : (xs ys : List Value) → IsPermutation xs ys → (d : Datum) → Contains (map datum (dedup same ys)) d → Contains (map datum xs) d
added xs ys moved d h =
    let found = from_map (dedup same ys) d h in
    let there = Contains-from_dedup same ys found.0 found.1.0 in
    subst (λ e. Contains (map datum xs) e) found.1.1 (to_map xs found.0 (Contains-permutation ys xs found.0 (IsPermutation-sym xs ys moved) there))

pub sorted_set : RisingListsAgree → Gathers → (xs ys zs : List Value) → IsPermutation xs ys → IsSorted (on datum datum_cmp) ys → zs ≡ dedup same ys → map datum zs ≡ set_from (map datum xs)
sorted_set agree gather xs ys zs moved sorted is =
    let set = gather (map datum xs) in
    ap (map datum) is
    ∙ agree (map datum (dedup same ys)) (set_from (map datum xs)) (rising_map (dedup same ys) (IsStrictlySortedBy-dedup (on_total datum datum_cmp_total) (λ x y. refl) ys sorted)) set.rising
    (λ d. (λ h. (set.members d).1 (added xs ys moved d h), λ h. kept xs ys moved d ((set.members d).0 h)))
