-- The members of a base by their numbers, and the texts of sets of them.
use Rattle.std.proofs.Common.{◌≡◌, ◌∙◌, ℕ, zero, suc, ◌+◌, ◌<◌, ◌≤◌, Bool, true, false, cond, if◌then◌else◌, List, [], ◌∷◌, ◌++◌, length, map, drop, decimal, Option, Some, None, nat_eq, refl, ap, sym, subst, arith}
use Rattle.std.specs.Prelude.{slice_get, IsSome}
use Rattle.std.specs.List.{list_any}
use Rattle.std.specs.List.Sorted.{IsStrictlyIncreasing}
use Rattle.std.specs.Option.{option_map, unwrap_or}
use Rattle.std.specs.Ordering.{nat_cmp, is_eq}
use Rattle.std.specs.FinSet as set
use Rattle.std.proofs.lemmas.Bool.{false≢true}
use Rattle.setl_value.specs.Datum.{Datum}
use Rattle.setl_value.specs.Order.{datum_cmp}
use Rattle.setl_set.specs.Sets.{has_datum}
use Rattle.setl_base.specs.declared.Elt.{Elt}
use Rattle.setl_base.specs.Base.{Member, BaseState, IsBase, handle, value_of, find_from}
use Rattle.setl_modes_dump.specs.Dump.{number_from, block_number, numbers_from, digits_of, component}
use Rattle.setl_rep_forms.specs.Laws.{TestedAtNumber}
use Rattle.setl_rep_forms.specs.Stands.{value_at, members_at, parts_at, AreLiving, AreHandles}
use Rattle.setl_rep_layout.specs.Members.{as_list, member_list, values_of}
use Rattle.setl_rep_layout.specs.Texts.{handle_text, handle_texts}
use Rattle.setl_rep_layout.proofs.Walks.{one, walk, walk_list, rise_within}

get_map : (xs : List Member) (i : ℕ) → slice_get (map (λ m. m.value) xs) i ≡ option_map (λ m. m.value) (slice_get xs i)
get_map [] i = refl
get_map (x ∷ xs) zero = refl
get_map (x ∷ xs) (suc i) = get_map xs i

-- the value of a block is that of its place
pub at_value : (b : BaseState) (i : ℕ) → value_at b (suc i) ≡ slice_get (values_of b) i
at_value b i = sym (get_map b.members i)

pub tested : TestedAtNumber → (b : BaseState) (ns : set.FinSet nat_cmp) → IsBase b → (i : ℕ) (d : Datum) → slice_get (values_of b) i ≡ Some d → has_datum d (members_at b ns) ≡ set.contains ns (suc i)
tested law b ns k i d h = law b ns d (suc i) k (at_value b i ∙ h)

-- ---- numbers that live

got_within : (xs : List Datum) (i : ℕ) → IsSome (slice_get xs i) → i < length xs
got_within [] i h = absurd (false≢true h)
got_within (x ∷ xs) zero h = omega arith
got_within (x ∷ xs) (suc i) h = omega (arith, got_within xs i h)

pub living_within : (b : BaseState) (n : ℕ) → IsSome (value_at b n) → (1 ≤ n) × (n < 1 + length (values_of b))
living_within b zero h = absurd (false≢true h)
living_within b (suc i) h = (omega arith, omega (arith, got_within (values_of b) i (subst (λ o. IsSome o) (at_value b i) h)))

-- ---- the number of a member

number_by : (n : ℕ) (d : Datum) (m : Member) (ms : List Member) (e : Elt) (b : Bool) → (find_from (n + 1) ms d ≡ Some e → number_from (n + 1) d (map (λ x. x.value) ms) ≡ e.block)
    → (if b then Some (handle n m) else find_from (n + 1) ms d) ≡ Some e → cond b n (number_from (suc n) d (map (λ x. x.value) ms)) ≡ e.block
number_by n d m ms e true rest p = ap (λ (o : Option Elt). unwrap_or (option_map (λ (x : Elt). x.block) o) n) p
number_by n d m ms e false rest p = let k : suc n ≡ n + 1 = omega arith in ap (λ j. number_from j d (map (λ x. x.value) ms)) k ∙ rest p

pub number_found : (n : ℕ) (d : Datum) (ms : List Member) (e : Elt) → find_from n ms d ≡ Some e → number_from n d (map (λ m. m.value) ms) ≡ e.block
number_found n d [] e h = absurd (cc)
number_found n d (m ∷ ms) e h = number_by n d m ms e (is_eq (datum_cmp d m.value)) (λ p. number_found (n + 1) d ms e p) h

pub element_number : (b : BaseState) (e : Elt) (d : Datum) → IsBase b → value_of b e ≡ Some d → block_number d (values_of b) ≡ e.block
element_number b e d k h = number_found 1 d b.members e (k.found e d h)

-- ---- handles

one_component : (b : BaseState) (e : Elt) (o : Option Datum) → IsBase b → value_of b e ≡ o → IsSome o → decimal e.block ≡ component (values_of b) o
one_component b e None k h s = absurd (false≢true s)
one_component b e (Some d) k h s = ap decimal (sym (element_number b e d k h))

pub components : (b : BaseState) (es : List (Option Elt)) → IsBase b → AreHandles b es → handle_texts es ≡ map (component (values_of b)) (parts_at b es)
components b [] k h = refl
components b (None ∷ es) k h = ap (λ l. handle_text None ∷ l) (components b es k h)
components b (Some e ∷ es) k h = (λ i. one_component b e (value_of b e) k refl h.0 i ∷ components b es k h.1 i)

-- ---- the numbers of a set

choice : (b : Bool) (t : List ℕ) (ts : List (List ℕ)) → cond b (t ∷ ts) ts ≡ one (cond b (Some t) None) ++ ts
choice true t ts = refl
choice false t ts = refl

numbers_walk : (s : List Datum) (test : ℕ → Bool) (n : ℕ) (es : List Datum) → ((i : ℕ) (d : Datum) → slice_get es i ≡ Some d → has_datum d s ≡ test (n + i))
    → numbers_from n s es ≡ walk (λ m. cond (test m) (Some (decimal m)) None) n (length es)
numbers_walk s test n [] h = refl
numbers_walk s test n (e ∷ es) h =
    let at : n + 0 ≡ n = omega arith in
    ap (λ b. cond b (decimal n ∷ numbers_from (suc n) s es) (numbers_from (suc n) s es)) (h 0 e refl ∙ ap test at)
    ∙ choice (test n) (decimal n) (numbers_from (suc n) s es)
    ∙ ap (λ l. one (cond (test n) (Some (decimal n)) None) ++ l) (numbers_walk s test (suc n) es (λ i d g. let up : n + suc i ≡ suc n + i = omega arith in h (suc i) d g ∙ ap test up))

pub numbers_listed : TestedAtNumber → (b : BaseState) (ns : set.FinSet nat_cmp) (list : List ℕ) → IsBase b → AreLiving b ns → IsStrictlyIncreasing list
    → ((n : ℕ) → list_any (nat_eq n) list ≡ set.contains ns n) → numbers_from 1 (members_at b ns) (values_of b) ≡ map decimal list
numbers_listed law b ns list k living rising has =
    numbers_walk (members_at b ns) (set.contains ns) 1 (values_of b) (λ i d g. let e : suc i ≡ 1 + i = omega arith in tested law b ns k i d g ∙ ap (set.contains ns) e)
    ∙ walk_list (λ m. cond (set.contains ns m) (Some (decimal m)) None) decimal 1 (length (values_of b)) list
    (rise_within 1 (1 + length (values_of b)) list rising (λ m h. living_within b m (living m (sym (has m) ∙ h))))
    (λ m l. ap (λ x. cond x (Some (decimal m)) None) (sym (has m)))

-- ---- digits

pub digit_next : (s : List Datum) (vs : List Datum) (n : ℕ) (on : Bool) → n < length vs → ((d : Datum) → slice_get vs n ≡ Some d → has_datum d s ≡ on)
    → digits_of s (drop n vs) ≡ (if on then 49 else 48) ∷ digits_of s (drop (suc n) vs)
digit_next s [] n on h t = absurd (omega (arith, h))
digit_next s (v ∷ vs) zero on h t = by on (t v refl)
  where
    by : (b : Bool) → has_datum v s ≡ b → digits_of s (v ∷ vs) ≡ (if b then 49 else 48) ∷ digits_of s vs
    by true e = ap (λ b. cond b 49 48 ∷ digits_of s vs) e
    by false e = ap (λ b. cond b 49 48 ∷ digits_of s vs) e
digit_next s (v ∷ vs) (suc n) on h t = digit_next s vs n on (omega (arith, h)) t

-- ---- the list of the members

rest_from : (vs : List Datum) (n : ℕ) → drop n vs ≡ as_list (slice_get vs n) ++ drop (suc n) vs
rest_from [] zero = refl
rest_from [] (suc n) = refl
rest_from (v ∷ vs) zero = refl
rest_from (v ∷ vs) (suc n) = rest_from vs n

-- the member of the next number, and the ones behind it
pub members_next : (b : BaseState) (n : ℕ) → drop n (values_of b) ≡ member_list b (n + 1) ++ drop (n + 1) (values_of b)
members_next b n =
    let e : suc n ≡ n + 1 = omega arith in
    rest_from (values_of b) n ∙ ap (λ o. as_list o ++ drop (suc n) (values_of b)) (sym (at_value b n)) ∙ ap (λ k. member_list b k ++ drop k (values_of b)) e

drop_past : (vs : List Datum) (n : ℕ) → length vs ≤ n → drop n vs ≡ []
drop_past [] zero h = refl
drop_past [] (suc n) h = refl
drop_past (v ∷ vs) zero h = absurd (omega (arith, h))
drop_past (v ∷ vs) (suc n) h = drop_past vs n (omega (arith, h))

values_count : (ms : List Member) → length (map (λ m. m.value) ms) ≡ length ms
values_count [] = refl
values_count (m ∷ ms) = ap suc (values_count ms)

pub count_of : (b : BaseState) → length (values_of b) ≡ length b.members
count_of b = values_count b.members

pub members_end : (b : BaseState) (n : ℕ) → length b.members ≤ n → drop n (values_of b) ≡ []
members_end b n h = drop_past (values_of b) n (omega (arith, h, count_of b))
