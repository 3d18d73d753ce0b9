-- Where `find` finds a member.
use Rattle.std.proofs.Common.{◌≡◌, ℕ, zero, suc, eqb, eqb-true, eq-eqb, ◌+◌, Bool, true, false, cond, not, nat_lt, List, [], ◌∷◌, ◌++◌, length, position, slice_get, Option, Some, None, option_and_then, IsSome, refl, ap, sym, ◌∙◌, subst, arith, add-zero}
use Rattle.std.proofs.lemmas.Cmp.{eq_by_cmp_equiv}
use Rattle.std.proofs.lemmas.Map.Keys.{IsDistinct-head, IsDistinct-tail}
use Rattle.std.proofs.lemmas.Option.{slice_get-map}
use Rattle.std.specs.List.{position_or_len, AllByRecursion, IsDistinct}
use Rattle.std.specs.Map.{keys_of, lookup}
use Rattle.std.specs.Option.{option_map, option_or}
use Rattle.std.specs.Ordering.{is_eq}
use Rattle.setl_value.specs.declared.Value.{Value}
use Rattle.setl_value.specs.Datum.{Datum}
use Rattle.setl_value.specs.code.DatumOf.{datum}
use Rattle.setl_value.specs.Order.{datum_cmp}
use Rattle.setl_value.specs.OrderLaws.{datum_cmp_total, same_if_eq}
use Rattle.setl_base.specs.declared.Elt.{Elt}
use Rattle.setl_base.specs.Base.{Member, BaseState, handle, find_from, find, member_at, value_in, value_of}
use Rattle.setl_base.specs.Table.{member_of, members_of}

abbrev same : Datum → Datum → Bool
same a b = is_eq (datum_cmp a b)

pub same_back : (a b : Datum) → is_eq (datum_cmp a b) ≡ is_eq (datum_cmp b a)
same_back a b = (eq_by_cmp_equiv datum_cmp_total).symm a b

-- ---- by the table

-- the place of the first entry whose value is d
abbrev place : Datum → List (Value × ℕ) → ℕ
place d es = position_or_len (λ (k : Value). same d (datum k)) (keys_of es)

at_place : (d : Datum) (es : List (Value × ℕ)) (n : ℕ) → find_from n (members_of es) d ≡ option_map (λ (e : Value × ℕ). handle (n + place d es) (member_of e)) (slice_get es (place d es))
at_place d [] n = refl
at_place d (e ∷ es) n = by (same d (datum e.0)) (at_place d es (n + 1))
  where
    by : (b : Bool) → find_from (n + 1) (members_of es) d ≡ option_map (λ (x : Value × ℕ). handle (n + 1 + place d es) (member_of x)) (slice_get es (place d es))
        → cond b (Some (handle n (member_of e))) (find_from (n + 1) (members_of es) d) ≡ option_map (λ (x : Value × ℕ). handle (n + cond (not b) (1 + place d es) 0) (member_of x)) (slice_get (e ∷ es) (cond (not b) (1 + place d es) 0))
    by true h = λ i. Some (handle (sym (add-zero n) i) (member_of e))
    by false h =
        let next : suc (place d es) ≡ 1 + place d es = omega arith in
        let number : n + 1 + place d es ≡ n + (1 + place d es) = omega arith in
        h ∙ (λ i. option_map (λ (x : Value × ℕ). handle (number i) (member_of x)) (slice_get (e ∷ es) (next i)))

-- what the table finds at a place
pub found_at : (d : Datum) (es : List (Value × ℕ)) (i : ℕ) (k : Value) (g : ℕ) → position (λ (x : Value). is_eq (datum_cmp d (datum x))) (keys_of es) ≡ Some i → slice_get es i ≡ Some (k, g) → find_from 1 (members_of es) d ≡ Some (record { block = i + 1; generation = g })
found_at d es i k g p q =
    let here : place d es ≡ i = by (nat_lt (place d es) (length (keys_of es))) p in
    let entry : slice_get es (place d es) ≡ Some (k, g) = ap (slice_get es) here ∙ q in
    let number : 1 + place d es ≡ i + 1 = omega arith in
    at_place d es 1 ∙ ap (option_map (λ (e : Value × ℕ). handle (1 + place d es) (member_of e))) entry ∙ (λ j. Some (record { block = number j; generation = g }))
  where
    by : (b : Bool) → cond b (Some (place d es)) None ≡ Some i → place d es ≡ i
    by true h = cc
    by false h = cc

pub none_found : (d : Datum) (es : List (Value × ℕ)) (n : ℕ) → lookup (λ (k : Value). is_eq (datum_cmp d (datum k))) es ≡ None → find_from n (members_of es) d ≡ None
none_found d [] n p = refl
none_found d (e ∷ es) n p = by (same d (datum e.0)) p (none_found d es (n + 1))
  where
    by : (b : Bool) → cond b (Some e.1) (lookup (λ (k : Value). same d (datum k)) es) ≡ None → (lookup (λ (k : Value). same d (datum k)) es ≡ None → find_from (n + 1) (members_of es) d ≡ None)
        → cond b (Some (handle n (member_of e))) (find_from (n + 1) (members_of es) d) ≡ None
    by true h rest = cc
    by false h rest = rest h

-- ---- a member at the end

pub find_put : (d : Datum) (m : Member) (ms : List Member) (n : ℕ) → find_from n (ms ++ m ∷ []) d ≡ option_or (find_from n ms d) (cond (is_eq (datum_cmp d m.value)) (Some (handle (n + length ms) m)) None)
find_put d m [] n = λ i. cond (same d m.value) (Some (handle (sym (add-zero n) i) m)) None
find_put d m (x ∷ xs) n = by (same d x.value) (find_put d m xs (n + 1))
  where
    by : (b : Bool) → find_from (n + 1) (xs ++ m ∷ []) d ≡ option_or (find_from (n + 1) xs d) (cond (same d m.value) (Some (handle (n + 1 + length xs) m)) None)
        → cond b (Some (handle n x)) (find_from (n + 1) (xs ++ m ∷ []) d) ≡ option_or (cond b (Some (handle n x)) (find_from (n + 1) xs d)) (cond (same d m.value) (Some (handle (n + length (x ∷ xs)) m)) None)
    by true h = refl
    by false h =
        let number : n + 1 + length xs ≡ n + length (x ∷ xs) = omega arith in
        h ∙ (λ i. option_or (find_from (n + 1) xs d) (cond (same d m.value) (Some (handle (number i) m)) None))

-- ---- what is found

-- a handle that `find_from` gives
pub record IsFound (n : ℕ) (ms : List Member) (d : Datum) (e : Elt) : Type 0 where
  pub place : ℕ
  pub member : Member
  pub is : e ≡ handle (n + place) member
  pub stands : slice_get ms place ≡ Some member
  pub value : d ≡ member.value

pub found : (n : ℕ) (ms : List Member) (d : Datum) (e : Elt) → find_from n ms d ≡ Some e → IsFound n ms d e
found n [] d e p = cc
found n (m ∷ ms) d e p = by (same d m.value) refl p (found (n + 1) ms d e)
  where
    by : (b : Bool) → same d m.value ≡ b → cond b (Some (handle n m)) (find_from (n + 1) ms d) ≡ Some e → (find_from (n + 1) ms d ≡ Some e → IsFound (n + 1) ms d e) → IsFound n (m ∷ ms) d e
    by true h q rest =
        let number : n ≡ n + 0 = omega arith in
        let is : e ≡ handle n m = cc in
        record { place = 0; member = m; is = is ∙ ap (λ k. handle k m) number; stands = refl; value = same_if_eq d m.value h }
    by false h q rest =
        let f = rest q in
        let number : n + 1 + f.place ≡ n + suc f.place = omega arith in
        record { place = suc f.place; member = f.member; is = f.is ∙ ap (λ k. handle k f.member) number; stands = f.stands; value = f.value }

-- ---- living blocks

-- the place of the living block that a handle names
pub record Lives (b : BaseState) (n g : ℕ) (d : Datum) : Type 0 where
  pub place : ℕ
  pub member : Member
  pub number : n ≡ suc place
  pub stands : slice_get b.members place ≡ Some member
  pub generation : member.generation ≡ g
  pub value : member.value ≡ d

lives_at : (b : BaseState) (n g : ℕ) (d : Datum) → option_and_then (value_in g) (member_at b n) ≡ Some d → Lives b n g d
lives_at b zero g d p = cc
lives_at b (suc i) g d p = by (slice_get b.members i) refl p
  where
    tells : (m : Member) (t : Bool) → eqb m.generation g ≡ t → slice_get b.members i ≡ Some m → cond t (Some m.value) None ≡ Some d → Lives b (suc i) g d
    tells m true h stands q = record { place = i; member = m; number = refl; stands = stands; generation = eqb-true m.generation g h; value = cc }
    tells m false h stands q = cc

    by : (o : Option Member) → slice_get b.members i ≡ o → option_and_then (value_in g) o ≡ Some d → Lives b (suc i) g d
    by None h q = cc
    by (Some m) h q = tells m (eqb m.generation g) refl h q

pub lives : (b : BaseState) (e : Elt) (d : Datum) → value_of b e ≡ Some d → Lives b e.block e.generation d
lives b e d p = lives_at b e.block e.generation d p

-- the value of a living block
pub living_value : {A : Type 0} (o : Option A) → IsSome o → (x : A) × (o ≡ Some x)
living_value None p = cc
living_value (Some x) p = (x, refl)

-- the value of a block by its place
pub value_by_place : (b : BaseState) (e : Elt) (i : ℕ) (m : Member) → e.block ≡ suc i → slice_get b.members i ≡ Some m → m.generation ≡ e.generation → value_of b e ≡ Some m.value
value_by_place b e i m number stands generation =
    ap (λ k. option_and_then (value_in e.generation) (member_at b k)) number ∙ ap (option_and_then (value_in e.generation)) stands ∙ ap (λ t. cond t (Some m.value) None) (eq-eqb m.generation e.generation generation)

pub value_at : (b : BaseState) (i : ℕ) (m : Member) → slice_get b.members i ≡ Some m → value_of b (handle (suc i) m) ≡ Some m.value
value_at b i m p = ap (option_and_then (value_in m.generation)) p ∙ ap (λ t. cond t (Some m.value) None) (eq-eqb m.generation m.generation refl)

-- what is found lives and has the value
pub found_lives : (b : BaseState) (d : Datum) (e : Elt) → find b d ≡ Some e → value_of b e ≡ Some d
found_lives b d e p =
    let f = found 1 b.members d e p in
    let number : 1 + f.place ≡ suc f.place = omega arith in
    let is : e ≡ handle (suc f.place) f.member = f.is ∙ ap (λ k. handle k f.member) number in
    ap (value_of b) is ∙ value_at b f.place f.member f.stands ∙ ap (λ x. Some x) (sym f.value)

-- ---- entries

-- the member of an entry
pub entry_member : (es : List (Value × ℕ)) (cuts n i : ℕ) (v : Value) (g : ℕ) → n ≡ suc i → slice_get es i ≡ Some (v, g) → member_at (record { members = members_of es; cuts = cuts }) n ≡ Some (record { value = datum v; generation = g })
entry_member es cuts n i v g number stands =
    ap (member_at (record { members = members_of es; cuts = cuts })) number ∙ slice_get-map member_of es i ∙ ap (option_map member_of) stands

-- an entry of a member
pub record HasEntry (es : List (Value × ℕ)) (i : ℕ) (m : Member) : Type 0 where
  pub entry : Value × ℕ
  pub stands : slice_get es i ≡ Some entry
  pub is : member_of entry ≡ m

pub member_entry : (es : List (Value × ℕ)) (i : ℕ) (m : Member) → slice_get (members_of es) i ≡ Some m → HasEntry es i m
member_entry es i m p = by (slice_get es i) refl (sym (slice_get-map member_of es i) ∙ p)
  where
    by : (o : Option (Value × ℕ)) → slice_get es i ≡ o → option_map member_of o ≡ Some m → HasEntry es i m
    by None h q = cc
    by (Some e) h q = record { entry = e; stands = h; is = cc }

pub same_itself : (d : Datum) → is_eq (datum_cmp d d) ≡ true
same_itself d = (eq_by_cmp_equiv datum_cmp_total).refl d

-- a test of all keys, at an entry
key_at : (P : Value → Type 0) (es : List (Value × ℕ)) (i : ℕ) (e : Value × ℕ) → AllByRecursion P (keys_of es) → slice_get es i ≡ Some e → P e.0
key_at P [] i e h p = cc
key_at P (x ∷ xs) zero e h p = let is : x ≡ e = cc in subst (λ (y : Value × ℕ). P y.0) is h.0
key_at P (x ∷ xs) (suc i) e h p = key_at P xs i e h.1 p

abbrev pub same_key : Value → Value → Bool
same_key v w = is_eq (datum_cmp (datum v) (datum w))

-- where keys are different, a member is found at its own place
pub found_own : (n : ℕ) (es : List (Value × ℕ)) (i : ℕ) (e : Value × ℕ) → IsDistinct same_key (keys_of es) → slice_get es i ≡ Some e → find_from n (members_of es) (datum e.0) ≡ Some (handle (n + i) (member_of e))
found_own n [] i e h p = cc
found_own n (x ∷ xs) zero e h p =
    let is : x ≡ e = cc in
    let test : is_eq (datum_cmp (datum e.0) (datum x.0)) ≡ true = ap (λ (y : Value × ℕ). is_eq (datum_cmp (datum e.0) (datum y.0))) is ∙ same_itself (datum e.0) in
    let number : n ≡ n + 0 = omega arith in
    ap (λ b. cond b (Some (handle n (member_of x))) (find_from (n + 1) (members_of xs) (datum e.0))) test ∙ (λ j. Some (handle (number j) (member_of (is j))))
found_own n (x ∷ xs) (suc i) e h p =
    let other : is_eq (datum_cmp (datum x.0) (datum e.0)) ≡ false = key_at (λ y. same_key x.0 y ≡ false) xs i e (IsDistinct-head same_key x.0 (keys_of xs) h) p in
    let test : is_eq (datum_cmp (datum e.0) (datum x.0)) ≡ false = same_back (datum e.0) (datum x.0) ∙ other in
    let number : n + 1 + i ≡ n + suc i = omega arith in
    ap (λ b. cond b (Some (handle n (member_of x))) (find_from (n + 1) (members_of xs) (datum e.0))) test ∙ found_own (n + 1) xs i e (IsDistinct-tail same_key x.0 (keys_of xs) h) p ∙ ap (λ k. Some (handle k (member_of e))) number

-- what isn't found isn't in the table
pub none_in_table : (d : Datum) (es : List (Value × ℕ)) (n : ℕ) → find_from n (members_of es) d ≡ None → lookup (λ (k : Value). is_eq (datum_cmp d (datum k))) es ≡ None
none_in_table d [] n p = refl
none_in_table d (e ∷ es) n p = by (same d (datum e.0)) p (none_in_table d es (n + 1))
  where
    by : (b : Bool) → cond b (Some (handle n (member_of e))) (find_from (n + 1) (members_of es) d) ≡ None → (find_from (n + 1) (members_of es) d ≡ None → lookup (λ (k : Value). same d (datum k)) es ≡ None)
        → cond b (Some e.1) (lookup (λ (k : Value). same d (datum k)) es) ≡ None
    by true h rest = cc
    by false h rest = rest h

pub none_left : {A : Type 0} (o : Option A) → ((x : A) → o ≡ Some x → ⊥) → o ≡ None
none_left None other = refl
none_left (Some x) other = absurd (other x refl)
