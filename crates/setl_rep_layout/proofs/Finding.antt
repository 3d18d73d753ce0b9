-- The numbers of values that may be members of a base or not, and the pairs of a set.
use Rattle.std.proofs.Common.{◌≡◌, ◌∙◌, ℕ, suc, ◌+◌, ◌≤◌, ◌==◌, Bool, true, false, cond, ◌&&◌, ◌||◌, if◌then◌else◌, List, [], ◌∷◌, ◌++◌, map, Option, Some, None, option_and_then, ⊎_elim, refl, ap, sym, subst, arith}
use Rattle.std.specs.Prelude.{IsSome, is_some}
use Rattle.std.specs.Cmp.{nat_cmp_total}
use Rattle.std.specs.FinSet as set
use Rattle.std.specs.List.{cons_option, filter_map}
use Rattle.std.specs.Option.{option_map, unwrap_or}
use Rattle.std.specs.Ordering.{eq_by_cmp, is_eq, nat_cmp}
use Rattle.std.proofs.lemmas.Bool.{cases_Bool, eq-eqb, false≢true, or_cases}
use Rattle.std.proofs.lemmas.Bool.Decides.{nat_tests, same_from_decides}
use Rattle.std.proofs.lemmas.List.{append_assoc}
use Rattle.std.proofs.lemmas.List.Elements.{filter-append}
use Rattle.std.proofs.lemmas.List.Kept.{IsStrictlySortedBy-filter}
use Rattle.setl_value.specs.Datum.{Datum, depth, elements_depth, elements_of, element_list-elements_of, set_of}
use Rattle.setl_value.specs.Order.{datum_cmp, IsRising}
use Rattle.setl_value.specs.OrderLaws.{eq_iff_same, same_if_eq}
use Rattle.setl_value.specs.Pairs.{first_of, images, is_datum, is_map, pair_parts, pairs_at, second_of}
use Rattle.setl_value.specs.WellFormed.{IsSetList}
use Rattle.setl_set.specs.Sets.{has_datum}
use Rattle.setl_base.specs.declared.Elt.{Elt}
use Rattle.setl_base.specs.Base.{BaseState, IsBase, Member, find, find_from, handle, member_at, value_in, value_of}
use Rattle.setl_modes_dump.specs.Dump.{block_number, number_from}
use Rattle.setl_rep_forms.specs.Stands.{value_at, AreLiving}
use Rattle.setl_rep_layout.specs.Found.{keys, pairs_in, AreNumbersOf, IsWith}
use Rattle.setl_rep_layout.specs.Members.{values_of}

-- ---- what is no member

missing_by : (n : ℕ) (d : Datum) (m : Member) (ms : List Member) (b : Bool) → (find_from (n + 1) ms d ≡ None → number_from (n + 1) d (map (λ x. x.value) ms) ≡ 0)
    → (if b then Some (handle n m) else find_from (n + 1) ms d) ≡ None → cond b n (number_from (suc n) d (map (λ x. x.value) ms)) ≡ 0
missing_by n d m ms true rest p = absurd (cc)
missing_by n d m ms false rest p = let k : suc n ≡ n + 1 = omega arith in ap (λ j. number_from j d (map (λ x. x.value) ms)) k ∙ rest p

number_missing : (n : ℕ) (d : Datum) (ms : List Member) → find_from n ms d ≡ None → number_from n d (map (λ m. m.value) ms) ≡ 0
number_missing n d [] h = refl
number_missing n d (m ∷ ms) h = missing_by n d m ms (is_eq (datum_cmp d m.value)) (λ p. number_missing (n + 1) d ms p) h

pub no_number : (b : BaseState) (d : Datum) → find b d ≡ None → block_number d (values_of b) ≡ 0
no_number b d h = number_missing 1 d b.members h

-- ---- members and their numbers

some_same : {A : Type 0} {x y : A} → Some x ≡ Some y → x ≡ y
some_same p = cc

not_both : {A : Type 0} {x : A} → None ≡ Some x → ⊥
not_both p = cc

agree : (a b : Bool) → (a ≡ true → b ≡ true) → (b ≡ true → a ≡ true) → a ≡ b
agree a b f g = same_from_decides a b (f, g) (λ p. p, λ p. p)

same_number : (n k : ℕ) → eq_by_cmp nat_cmp n k ≡ true → n ≡ k
same_number n k h = grind (arith, nat_tests)

number_itself : (n : ℕ) → eq_by_cmp nat_cmp n n ≡ true
number_itself n = grind (arith, nat_tests)

at_number : (b : BaseState) (e : Elt) (d : Datum) → value_of b e ≡ Some d → value_at b e.block ≡ Some d
at_number b e d p = by (member_at b e.block) p
  where
    if_so : (t : Bool) (x : Datum) → cond t (Some x) None ≡ Some d → Some x ≡ Some d
    if_so true x q = q
    if_so false x q = absurd (not_both q)

    by : (o : Option Member) → option_and_then (value_in e.generation) o ≡ Some d → option_map (λ m. m.value) o ≡ Some d
    by None q = absurd (not_both q)
    by (Some m) q = if_so _ m.value q

itself : (g : ℕ) (d : Datum) → (if g == g then Some d else None) ≡ Some d
itself g d = ap (λ b. if b then Some d else None) (eq-eqb g g refl)

-- the block of a member is found by its value
found_at : (b : BaseState) (n : ℕ) (x : Datum) → IsBase b → value_at b n ≡ Some x → (m : Member) × (find b x ≡ Some (handle n m))
found_at b n x k h = by (member_at b n) refl h
  where
    by : (o : Option Member) → member_at b n ≡ o → option_map (λ m. m.value) o ≡ Some x → (m : Member) × (find b x ≡ Some (handle n m))
    by None e p = absurd (not_both p)
    by (Some m) e p = (m, k.found (handle n m) x (ap (option_and_then (value_in m.generation)) e ∙ itself m.generation m.value ∙ p))

-- a member is the one at a number exactly where its value is that one's
same_by_number : (b : BaseState) (n : ℕ) (x : Datum) (e : Elt) (k : Datum) → IsBase b → value_at b n ≡ Some x → value_of b e ≡ Some k → eq_by_cmp nat_cmp n e.block ≡ is_eq (datum_cmp x k)
same_by_number b n x e k is h p =
    agree (eq_by_cmp nat_cmp n e.block) (is_eq (datum_cmp x k))
    (λ t. (eq_iff_same x k).1 (some_same (sym h ∙ ap (value_at b) (same_number n e.block t) ∙ at_number b e k p)))
    (λ t.
    let m = found_at b n x is h in
    let one : n ≡ e.block = ap (λ (o : Option Elt). unwrap_or (option_map (λ (y : Elt). y.block) o) n) (sym m.1 ∙ ap (find b) (same_if_eq x k t) ∙ is.found e k p) in
    subst (λ j. eq_by_cmp nat_cmp n j ≡ true) one (number_itself n))

no_member : (b : BaseState) (n : ℕ) (x k : Datum) → IsBase b → value_at b n ≡ Some x → find b k ≡ None → is_eq (datum_cmp x k) ≡ false
no_member b n x k is h p =
    ⊎_elim
    (λ t. let m = found_at b n x is h in absurd (not_both (sym p ∙ ap (find b) (sym (same_if_eq x k t)) ∙ m.1)))
    (λ f. f)
    (cases_Bool (is_eq (datum_cmp x k)))

-- ---- one value more

pub with_none : (b : BaseState) (ns : set.FinSet nat_cmp) → IsWith b None ns ns
with_none b ns = record { living = λ l. l; exact = λ n d h. refl }

pub with_missing : (b : BaseState) (ns : set.FinSet nat_cmp) (k : Datum) → IsBase b → find b k ≡ None → IsWith b (Some k) ns ns
with_missing b ns k is p = record { living = λ l. l; exact = λ n d h. ap (λ t. t || set.contains ns n) (sym (no_member b n d k is h p)) }

pub with_found : (b : BaseState) (ns ms : set.FinSet nat_cmp) (e : Elt) (k : Datum) → IsBase b → value_of b e ≡ Some k → ms ≡ set.insert ns e.block → IsWith b (Some k) ns ms
with_found b ns ms e k is p s = record {
  living = λ l n c. ⊎_elim
      (λ t. subst (λ j. IsSome (value_at b j)) (sym (same_number n e.block t)) (subst (λ o. IsSome o) (sym (at_number b e k p)) refl))
      (λ t. l n t)
      (or_cases _ _ (sym (has n) ∙ c));
  exact = λ n d h. has n ∙ ap (λ t. t || set.contains ns n) (same_by_number b n d e k is h p);
}
  where
    has : (n : ℕ) → set.contains ms n ≡ (eq_by_cmp nat_cmp n e.block || set.contains ns n)
    has n = ap (λ q. set.contains q n) s ∙ set.contains-insert nat_cmp_total ns e.block n

-- ---- all values

-- the numbers of those of `all` that don't come any more
pub record IsBuilt (b : BaseState) (ns : set.FinSet nat_cmp) (rest all : List Datum) : Type 0 where
  pub living : AreLiving b ns
  pub exact : (n : ℕ) (d : Datum) → value_at b n ≡ Some d → (has_datum d rest || set.contains ns n) ≡ has_datum d all

or_none : (a : Bool) → (a || false) ≡ a
or_none true = refl
or_none false = refl

or_moves : (a b c : Bool) → (a || (b || c)) ≡ ((b || a) || c)
or_moves true true c = refl
or_moves true false c = refl
or_moves false true c = refl
or_moves false false c = refl

pub starts : (b : BaseState) (ns : set.FinSet nat_cmp) (all : List Datum) → ns ≡ set.empty → IsBuilt b ns all all
starts b ns all e = subst (λ n. IsBuilt b n all all) (sym e) (record {
  living = λ n c. absurd (false≢true (sym (set.contains-empty nat_cmp n) ∙ c));
  exact = λ n d h. ap (λ t. has_datum d all || t) (set.contains-empty nat_cmp n) ∙ or_none (has_datum d all);
})

has_first : (d : Datum) (o : Option Datum) (ds : List Datum) → has_datum d (cons_option o ds) ≡ (is_datum d o || has_datum d ds)
has_first d None ds = refl
has_first d (Some k) ds = refl

pub steps : (b : BaseState) (ns ms : set.FinSet nat_cmp) (o : Option Datum) (rest all : List Datum) → IsWith b o ns ms → IsBuilt b ns (cons_option o rest) all → IsBuilt b ms rest all
steps b ns ms o rest all w h = record {
  living = w.living h.living;
  exact = λ n d p.
      ap (λ t. has_datum d rest || t) (w.exact n d p)
      ∙ or_moves (has_datum d rest) (is_datum d o) (set.contains ns n)
      ∙ ap (λ t. t || set.contains ns n) (sym (has_first d o rest))
      ∙ h.exact n d p;
}

pub ends : (b : BaseState) (ns : set.FinSet nat_cmp) (all : List Datum) → IsBuilt b ns [] all → AreNumbersOf b ns all
ends b ns all h = record { living = h.living; exact = h.exact }

pub keys_all : (ds : List Datum) → keys false ds ≡ ds
keys_all [] = refl
keys_all (d ∷ ds) = ap (λ l. d ∷ l) (keys_all ds)

-- ---- the pairs of a set

all_by : (b : Bool) (d : Datum) (ds : List Datum) → (is_map ds ≡ true → ds ≡ pairs_in ds) → (b && is_map ds) ≡ true → d ∷ ds ≡ cond b (d ∷ pairs_in ds) (pairs_in ds)
all_by true d ds h e = ap (λ l. d ∷ l) (h e)
all_by false d ds h e = absurd (false≢true e)

pub all_pairs : (ds : List Datum) → is_map ds ≡ true → ds ≡ pairs_in ds
all_pairs [] e = refl
all_pairs (d ∷ ds) e = all_by (is_some (pair_parts d)) d ds (all_pairs ds) e

pub one_pair : (d : Datum) → is_some (pair_parts d) ≡ true → pairs_in (d ∷ []) ≡ d ∷ []
one_pair d e = ap (λ b. cond b (d ∷ []) []) e

pub no_pair : (d : Datum) → is_some (pair_parts d) ≡ false → pairs_in (d ∷ []) ≡ []
no_pair d e = ap (λ b. cond b (d ∷ []) []) e

pub more_pairs : (old new : List Datum) (d : Datum) (rest all : List Datum) → new ≡ old ++ pairs_in (d ∷ []) → old ++ pairs_in (d ∷ rest) ≡ all → new ++ pairs_in rest ≡ all
more_pairs old new d rest all p q =
    ap (λ l. l ++ pairs_in rest) p ∙ append_assoc old (pairs_in (d ∷ [])) (pairs_in rest) ∙ ap (λ l. old ++ l) (sym (filter-append (λ e. is_some (pair_parts e)) (d ∷ []) rest)) ∙ q

rising_members : (ds : List Datum) → IsSetList ds → IsRising ds
rising_members ds v = subst (λ l. IsRising l) (element_list-elements_of ds) v.0.1

pub rising_pairs : (ds : List Datum) → IsSetList ds → IsRising (pairs_in ds)
rising_pairs ds v = IsStrictlySortedBy-filter datum_cmp (λ d. is_some (pair_parts d)) ds (rising_members ds v)

shallow_by : (b : Bool) (d : Datum) (ds kept : List Datum) → elements_depth (elements_of kept) ≤ elements_depth (elements_of ds) → elements_depth (elements_of (cond b (d ∷ kept) kept)) ≤ elements_depth (elements_of (d ∷ ds))
shallow_by true d ds kept h = omega (arith, h)
shallow_by false d ds kept h = omega (arith, h)

shallower : (ds : List Datum) → elements_depth (elements_of (pairs_in ds)) ≤ elements_depth (elements_of ds)
shallower [] = omega arith
shallower (d ∷ ds) = shallow_by (is_some (pair_parts d)) d ds (pairs_in ds) (shallower ds)

pub shallow_pairs : (ds : List Datum) → IsSetList ds → depth (set_of (pairs_in ds)) ≤ 500
shallow_pairs ds v = omega (arith, shallower ds, v.1)

-- ---- images

at_pairs : (x d : Datum) (f : List Datum) (o : Option (Datum × Datum)) → pair_parts d ≡ o → pairs_at x (pairs_in f) ≡ pairs_at x f → pairs_at x (pairs_in (d ∷ f)) ≡ pairs_at x (d ∷ f)
at_pairs x d f None e h =
    ap (λ q. pairs_at x (cond (is_some q) (d ∷ pairs_in f) (pairs_in f))) e ∙ h ∙ sym (ap (λ q. cond (is_datum x (first_of q)) (d ∷ pairs_at x f) (pairs_at x f)) e)
at_pairs x d f (Some p) e h =
    ap (λ q. pairs_at x (cond (is_some q) (d ∷ pairs_in f) (pairs_in f))) e ∙ ap (λ l. cond (is_datum x (first_of (pair_parts d))) (d ∷ l) l) h

pairs_of_pairs : (x : Datum) (f : List Datum) → pairs_at x (pairs_in f) ≡ pairs_at x f
pairs_of_pairs x [] = refl
pairs_of_pairs x (d ∷ f) = at_pairs x d f (pair_parts d) refl (pairs_of_pairs x f)

-- what is no pair has no images
pub images_of_pairs : (x : Datum) (f : List Datum) → images x (pairs_in f) ≡ images x f
images_of_pairs x f = ap (filter_map (λ d. second_of (pair_parts d))) (pairs_of_pairs x f)

abbrev pub is_there : List Datum → Bool
is_there [] = false
is_there (y ∷ ys) = true

by_test : (d : Datum) (ps : List Datum) (b : Bool) → filter_map (λ c. second_of (pair_parts c)) (cond b (d ∷ ps) ps) ≡ cond b (cons_option (second_of (pair_parts d)) (filter_map (λ c. second_of (pair_parts c)) ps)) (filter_map (λ c. second_of (pair_parts c)) ps)
by_test d ps true = refl
by_test d ps false = refl

pair_has : (x : Datum) (p : Datum × Datum) (ks ys : List Datum) (b : Bool) → has_datum x ks ≡ is_there ys → (b || has_datum x ks) ≡ is_there (cond b (p.1 ∷ ys) ys)
pair_has x p ks ys true h = refl
pair_has x p ks ys false h = h

key_has : (x : Datum) (o : Option (Datum × Datum)) (ks ys : List Datum) → has_datum x ks ≡ is_there ys
    → has_datum x (cons_option (first_of o) ks) ≡ is_there (cond (is_datum x (first_of o)) (cons_option (second_of o) ys) ys)
key_has x None ks ys h = h
key_has x (Some p) ks ys h = pair_has x p ks ys (is_eq (datum_cmp x p.0)) h

-- a value is a first part exactly where it has images
pub has_images : (x : Datum) (f : List Datum) → has_datum x (keys true f) ≡ is_there (images x f)
has_images x [] = refl
has_images x (d ∷ f) = key_has x (pair_parts d) (keys true f) (images x f) (has_images x f) ∙ ap is_there (sym (by_test d (pairs_at x f) (is_datum x (first_of (pair_parts d)))))
