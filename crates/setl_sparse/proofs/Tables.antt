-- A table of numbers with their contents beside them, read by number.
use Rattle.std.proofs.Common.{◌≡◌, ◌∙◌, ℕ, suc, zero, ◌-◌, ◌<◌, Bool, true, false, cond, List, [], ◌∷◌, ◌++◌, length, set, get_or, Option, None, Some, refl, sym, ap, arith, slice_get, nat_eq, is_some, position, true≢false, subst, if◌then◌else◌, length-take}
use Rattle.std.specs.List.{zip, list_any, swap_remove, IsDistinct, IsAmong, AllByRecursion}
use Rattle.std.specs.List.Sorted.{IsPermutation}
use Rattle.std.specs.Map.{keys_of, values_of}
use Rattle.std.specs.Cmp.{nat_eq_equiv}
use Rattle.std.proofs.lemmas.Map.Made.{is_some-lookup, keys_of-zip, Contains-tail}
use Rattle.std.proofs.lemmas.Map.Keys.{IsDistinct-head, IsDistinct-tail}
use Rattle.std.proofs.lemmas.Map.Views.{exact_unsigned_eq, Contains-from_lookup, lookup-from_Contains}
use Rattle.std.proofs.lemmas.List.{length-set}
use Rattle.std.proofs.lemmas.List.Elements.{Contains-append_right}
use Rattle.std.proofs.lemmas.List.Sorted.{IsPermutation-swap_remove, Contains-permutation, IsPermutation-sym}
use Rattle.std.proofs.lemmas.Slice.Zip.{get_or-zip, length-zip, seconds-zip}
use Rattle.std.proofs.lemmas.List.Quantifiers.{position-Some}
use Rattle.std.proofs.lemmas.Option.{slice_get-get_or}
use Rattle.indexmap.specs.IndexSet.{insert_key, swap_remove_by}
use Rattle.setl_sparse.specs.Entries.{IsTable, content_at, Puts}
use Rattle.setl_sparse.proofs.Lists.{zip-push, zip-swap_remove, removed_at}

itself : (n : ℕ) → nat_eq n n ≡ true
itself n = nat_eq_equiv.refl n

flipped : (m n : ℕ) → nat_eq m n ≡ nat_eq n m
flipped m n = nat_eq_equiv.symm m n

exchanged : {T : Type 0} (a b : Bool) (x y z : T) → (a ≡ true → b ≡ true → ⊥) → cond a x (cond b y z) ≡ cond b y (cond a x z)
exchanged true true x y z apart = absurd (apart refl refl)
exchanged true false x y z apart = refl
exchanged false b x y z apart = refl

repeated : {T : Type 0} (b : Bool) (x y z : T) → cond b x z ≡ cond b x (cond b y z)
repeated true x y z = refl
repeated false x y z = refl

-- the number at a place differs from a number that differs from all
apart_at : (k n : ℕ) (ks : List ℕ) (i : ℕ) → AllByRecursion (λ y. nat_eq k y ≡ false) ks → slice_get ks i ≡ Some n → nat_eq k n ≡ false
apart_at k n [] i all at = cc
apart_at k n (x ∷ xs) zero all at = let e : x ≡ n = cc in ap (nat_eq k) (sym e) ∙ all.0
apart_at k n (x ∷ xs) (suc i) all at = apart_at k n xs i all.1 at

number_at : (ks : List ℕ) (n i : ℕ) → position (nat_eq n) ks ≡ Some i → slice_get ks i ≡ Some n
number_at ks n i e =
    let p = position-Some (nat_eq n) ks i n e in
    slice_get-get_or ks i n p.0 ∙ ap Some (sym (exact_unsigned_eq n (get_or ks i n) p.1))

short : {X : Type 0} (xs : List X) (i : ℕ) (d : X) → length (swap_remove xs i d) ≡ length xs - 1
short xs i d =
    let all = length-set xs i (get_or xs (length xs - 1) d) in
    let kept = length-take (length xs - 1) (set xs i (get_or xs (length xs - 1) d)) in
    omega arith

module _ {T : Type 0} where
  pub is_some-content : (ks : List ℕ) (vs : List T) (n : ℕ) → length vs ≡ length ks → is_some (content_at (zip ks vs) n) ≡ list_any (nat_eq n) ks
  is_some-content ks vs n e = is_some-lookup (nat_eq n) (zip ks vs) ∙ ap (list_any (nat_eq n)) (keys_of-zip ks vs e)

  none : (o : Option T) → is_some o ≡ false → o ≡ None
  none None e = refl
  none (Some w) e = absurd (true≢false e)

  pub no_content : (ks : List ℕ) (vs : List T) (n : ℕ) → length vs ≡ length ks → list_any (nat_eq n) ks ≡ false → content_at (zip ks vs) n ≡ None
  no_content ks vs n e absent = none _ (is_some-content ks vs n e ∙ absent)

  content_found : (ks : List ℕ) (vs : List T) (i n : ℕ) (v : T) → IsDistinct nat_eq ks → slice_get ks i ≡ Some n → slice_get vs i ≡ Some v → content_at (zip ks vs) n ≡ Some v
  content_found [] vs i n v distinct at there = cc
  content_found (k ∷ ks) [] i n v distinct at there = cc
  content_found (k ∷ ks) (w ∷ ws) zero n v distinct at there =
      let e : k ≡ n = cc in
      ap (λ b. cond b (Some w) (content_at (zip ks ws) n)) (ap (nat_eq n) e ∙ itself n) ∙ there
  content_found (k ∷ ks) (w ∷ ws) (suc i) n v distinct at there =
      ap (λ b. cond b (Some w) (content_at (zip ks ws) n)) (flipped n k ∙ apart_at k n ks i (IsDistinct-head nat_eq k ks distinct) at)
      ∙ content_found ks ws i n v (IsDistinct-tail nat_eq k ks distinct) at there

  pub content_by_place : (ks : List ℕ) (vs : List T) (i n : ℕ) (v : T) → IsTable ks vs → position (nat_eq n) ks ≡ Some i → v ≡ get_or vs i v → content_at (zip ks vs) n ≡ Some v
  content_by_place ks vs i n v table e is =
      let below = (position-Some (nat_eq n) ks i n e).0 in
      content_found ks vs i n v table.1 (number_at ks n i e) (slice_get-get_or vs i v (omega (arith, table.0)) ∙ ap Some (sym is))

  pub content_among : (ks : List ℕ) (vs : List T) (i n : ℕ) (v : T) → length vs ≡ length ks → position (nat_eq n) ks ≡ Some i → v ≡ get_or vs i v → IsAmong (values_of (zip ks vs)) v
  content_among ks vs i n v e at is =
      let below = (position-Some (nat_eq n) ks i n at).0 in
      subst (λ l. IsAmong l v) (sym (seconds-zip ks vs e)) (i, (omega arith, is))

  -- a content in the place of another one
  content_replaced : (ks : List ℕ) (vs : List T) (i n : ℕ) (c : T) → length vs ≡ length ks → IsDistinct nat_eq ks → slice_get ks i ≡ Some n
      → Puts n (Some c) (zip ks vs) (zip ks (set vs i c))
  content_replaced [] vs i n c e distinct at q = cc
  content_replaced (k ∷ ks) [] i n c e distinct at q = absurd (omega arith)
  content_replaced (k ∷ ks) (w ∷ ws) zero n c e distinct at q =
      let same : k ≡ n = cc in
      ap (λ b. cond b (Some c) (content_at (zip ks ws) q)) (ap (nat_eq q) same ∙ flipped q n)
      ∙ repeated (nat_eq n q) (Some c) (Some w) (content_at (zip ks ws) q)
      ∙ ap (λ b. cond (nat_eq n q) (Some c) (cond b (Some w) (content_at (zip ks ws) q))) (sym (ap (nat_eq q) same ∙ flipped q n))
  content_replaced (k ∷ ks) (w ∷ ws) (suc i) n c e distinct at q =
      let other = apart_at k n ks i (IsDistinct-head nat_eq k ks distinct) at in
      ap (cond (nat_eq q k) (Some w)) (content_replaced ks ws i n c (omega arith) (IsDistinct-tail nat_eq k ks distinct) at q)
      ∙ exchanged (nat_eq q k) (nat_eq n q) (Some w) (Some c) (content_at (zip ks ws) q)
      (λ here there. true≢false (sym (itself k) ∙ ap (nat_eq k) (sym (exact_unsigned_eq q k here) ∙ sym (exact_unsigned_eq n q there)) ∙ other))

  pub content_replaced_by_place : (ks : List ℕ) (vs : List T) (i n : ℕ) (c : T) → IsTable ks vs → position (nat_eq n) ks ≡ Some i → Puts n (Some c) (zip ks vs) (zip ks (set vs i c))
  content_replaced_by_place ks vs i n c table e = content_replaced ks vs i n c table.0 table.1 (number_at ks n i e)

  pushed : (es : List (ℕ × T)) (n : ℕ) (c : T) → content_at es n ≡ None → Puts n (Some c) es (es ++ (n, c) ∷ [])
  pushed [] n c absent q = ap (λ b. cond b (Some c) None) (flipped q n)
  pushed (e ∷ es) n c absent q =
      elim (nat_eq n e.0) as (λ b. nat_eq n e.0 ≡ b → cond b (Some e.1) (content_at es n) ≡ None → cond (nat_eq q e.0) (Some e.1) (content_at (es ++ (n, c) ∷ []) q) ≡ cond (nat_eq n q) (Some c) (cond (nat_eq q e.0) (Some e.1) (content_at es q))) [
        | true ↦ λ here absent. cc
        | false ↦ λ other absent.
            ap (cond (nat_eq q e.0) (Some e.1)) (pushed es n c absent q)
            ∙ exchanged (nat_eq q e.0) (nat_eq n q) (Some e.1) (Some c) (content_at es q)
            (λ here there. true≢false (sym (ap (λ m. nat_eq m e.0) (exact_unsigned_eq n q there) ∙ here) ∙ other))
      ] refl absent

  -- a number that isn't there, with its content, at the end
  pub content_pushed : (ks : List ℕ) (vs : List T) (n : ℕ) (c : T) (more : List ℕ) (all : List T) → length vs ≡ length ks → list_any (nat_eq n) ks ≡ false
      → more ≡ insert_key nat_eq ks n → all ≡ vs ++ c ∷ [] → Puts n (Some c) (zip ks vs) (zip more all)
  content_pushed ks vs n c more all e absent is also q =
      let last : more ≡ ks ++ n ∷ [] = is ∙ ap (λ b. if b then ks else ks ++ n ∷ []) absent in
      (λ i. content_at (zip (last i) (also i)) q) ∙ ap (λ es. content_at es q) (zip-push ks vs n c e) ∙ pushed (zip ks vs) n c (no_content ks vs n e absent) q

  -- nothing changes where the number isn't there
  pub content_absent : (ks : List ℕ) (vs : List T) (n : ℕ) (same : List ℕ) → length vs ≡ length ks → list_any (nat_eq n) ks ≡ false → same ≡ ks → Puts n None (zip ks vs) (zip same vs)
  content_absent ks vs n same e absent is q =
      ap (λ l. content_at (zip l vs) q) is
      ∙ elim (nat_eq n q) as (λ b. nat_eq n q ≡ b → content_at (zip ks vs) q ≡ cond b None (content_at (zip ks vs) q)) [
        | true ↦ λ here. ap (content_at (zip ks vs)) (sym (exact_unsigned_eq n q here)) ∙ no_content ks vs n e absent
        | false ↦ λ away. refl
      ] refl

  same_options : (o p : Option T) → ((w : T) → o ≡ Some w → p ≡ Some w) → ((w : T) → p ≡ Some w → o ≡ Some w) → o ≡ p
  same_options None None f g = refl
  same_options None (Some w) f g = g w refl
  same_options (Some w) p f g = sym (f w refl)

  -- entries that are others with one more, whose number they don't have
  one_less : (es fs : List (ℕ × T)) (n : ℕ) (v : T) → IsDistinct nat_eq (keys_of es) → IsDistinct nat_eq (keys_of fs) → IsPermutation es ((n, v) ∷ fs)
      → content_at fs n ≡ None → Puts n None es fs
  one_less es fs n v one other moved absent q =
      elim (nat_eq n q) as (λ b. nat_eq n q ≡ b → content_at fs q ≡ cond b None (content_at es q)) [
        | true ↦ λ here. ap (content_at fs) (sym (exact_unsigned_eq n q here)) ∙ absent
        | false ↦ λ away. same_options _ _
            (λ w found. lookup-from_Contains nat_eq_equiv q w es one
            (Contains-permutation ((n, v) ∷ fs) es (q, w) (IsPermutation-sym _ _ moved)
            (Contains-append_right ((n, v) ∷ []) fs (q, w) (Contains-from_lookup exact_unsigned_eq q w fs found))))
            (λ w found. lookup-from_Contains nat_eq_equiv q w fs other
            (Contains-tail (n, v) fs (q, w)
            (λ same. true≢false (sym (itself q) ∙ ap (λ m. nat_eq m q) (sym (ap (λ p. p.0) same)) ∙ away))
            (Contains-permutation es ((n, v) ∷ fs) (q, w) moved (Contains-from_lookup exact_unsigned_eq q w es found))))
      ] refl

  pub content_removed : (ks : List ℕ) (vs : List T) (i n : ℕ) (v : T) (left : List ℕ) (right : List T) → IsTable ks vs → position (nat_eq n) ks ≡ Some i → v ≡ get_or vs i v
      → left ≡ swap_remove_by (nat_eq n) ks → right ≡ swap_remove vs i v → IsDistinct nat_eq left
      → ((q : ℕ) → list_any (nat_eq q) left ≡ cond (nat_eq n q) false (list_any (nat_eq q) ks)) → Puts n None (zip ks vs) (zip left right)
  content_removed ks vs i n v left right table e content is also distinct others =
      let entries = zip ks vs in
      let p = position-Some (nat_eq n) ks i n e in
      let below = p.0 in
      let number : n ≡ get_or ks i n = exact_unsigned_eq n (get_or ks i n) p.1 in
      let left_is : left ≡ swap_remove ks i n = is ∙ removed_at (nat_eq n) ks i n e in
      let beside : length right ≡ length left = ap length also ∙ short vs i v ∙ ap (λ m. m - 1) table.0 ∙ sym (ap length left_is ∙ short ks i n) in
      let rest : zip left right ≡ swap_remove entries i (n, v) = (λ j. zip (left_is j) (also j)) ∙ zip-swap_remove ks vs i n v table.0 below in
      let within : i < length entries = omega (arith, length-zip ks vs, table.0) in
      let at : (n, v) ≡ get_or entries i (n, v) = (λ j. (number j, content j)) ∙ sym (get_or-zip ks vs i (n, v) below (omega (arith, table.0))) in
      let absent : list_any (nat_eq n) left ≡ false = others n ∙ ap (λ b. cond b false (list_any (nat_eq n) ks)) (itself n) in
      one_less entries (zip left right) n v
      (subst (IsDistinct nat_eq) (sym (keys_of-zip ks vs table.0)) table.1)
      (subst (IsDistinct nat_eq) (sym (keys_of-zip left right beside)) distinct)
      (subst (λ l. IsPermutation entries ((n, v) ∷ l)) (sym rest) (IsPermutation-swap_remove entries i (n, v) within at))
      (no_content left right n beside absent)
