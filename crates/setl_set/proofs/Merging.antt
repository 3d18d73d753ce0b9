-- The merge of two rising lists, member by member.
use Rattle.std.specs.Prelude.{◌≡◌, ℕ, ◌≤◌, Bool, true, false, not, ◌&&◌, ◌||◌, List, [], ◌∷◌, ◌++◌, ◌⊎◌, Option, None, Some, refl}
use Rattle.std.specs.List.{AllByRecursion}
use Rattle.std.specs.List.Sorted.{IsStrictlySortedBy}
use Rattle.std.specs.declared.cmp.Ordering.{Ordering}
use Rattle.std.specs.declared.cmp.Ordering.TheVariants.{Less, Equal, Greater}
use Rattle.std.specs.Ordering.{is_eq}
use Rattle.std.specs.Borrow.{Bor}
use Rattle.std.proofs.Common.{ap, sym, ◌∙◌, subst, inl, inr, append_assoc, append-nil}
use Rattle.std.proofs.lemmas.List.Folds.{list_any-append}
use Rattle.std.proofs.lemmas.Option.{none-some}
use Rattle.setl_value.specs.Datum.{Datum, depth, elements_depth, elements_of}
use Rattle.setl_value.specs.code.DatumOf.{datum}
use Rattle.setl_value.specs.declared.Value.{Value}
use Rattle.setl_value.specs.Order.{datum_cmp, IsRising}
use Rattle.setl_value.specs.OrderLaws.{same_datum, same_if_eq}
use Rattle.setl_set.specs.declared.merge.Keep.{Keep}
use Rattle.setl_set.specs.code.Merge.{is_kept, kept_if, front, IsMerge}
use Rattle.setl_set.specs.Sets.{has_datum, union_of, minus_of, meet_of, symm_of}
use Rattle.setl_set.proofs.Members.{IsBelow, turned, below_cons, none_above, rising_unique}
use Rattle.setl_set.proofs.Places.{depths_in, depths_out}
use Rattle.setl_set.proofs.Results.{rising_set_from, has_union, has_minus, has_meet, has_symm, rising_filter}

-- ---- the merge

-- by how x, the first of the left, stands to y, the first of the right
abbrev merged_by : Ordering → Keep → Datum → Datum → List Datum → List Datum → List Datum → List Datum
merged_by Less k x y left both right = kept_if k.left (x ∷ []) ++ left
merged_by Equal k x y left both right = kept_if k.both (x ∷ []) ++ both
merged_by Greater k x y left both right = kept_if k.right (y ∷ []) ++ right

-- the merge of x and xs with a list, where `rest` merges xs
abbrev merged_from : Keep → Datum → List Datum → (List Datum → List Datum) → List Datum → List Datum
merged_from k x xs rest [] = kept_if k.left (x ∷ xs)
merged_from k x xs rest (y ∷ ys) = merged_by (datum_cmp x y) k x y (rest (y ∷ ys)) (rest ys) (merged_from k x xs rest ys)

abbrev pub merged : Keep → List Datum → List Datum → List Datum
merged k [] ys = kept_if k.right ys
merged k (x ∷ xs) ys = merged_from k x xs (merged k xs) ys

-- ---- each of the merge is of one of the two lists

all_append : (P : Datum → Type 0) (xs ys : List Datum) → AllByRecursion P xs → AllByRecursion P ys → AllByRecursion P (xs ++ ys)
all_append P [] ys a b = b
all_append P (x ∷ xs) ys a b = (a.0, all_append P xs ys a.1 b)

all_kept : (P : Datum → Type 0) (k : Bool) (ds : List Datum) → AllByRecursion P ds → AllByRecursion P (kept_if k ds)
all_kept P true ds a = a
all_kept P false ds a = tt

all_by : (o : Ordering) (P : Datum → Type 0) (k : Keep) (x y : Datum) (left both right : List Datum) → P x → P y
    → AllByRecursion P left → AllByRecursion P both → AllByRecursion P right → AllByRecursion P (merged_by o k x y left both right)
all_by Less P k x y left both right p q a b c = all_append P (kept_if k.left (x ∷ [])) left (all_kept P k.left (x ∷ []) (p, tt)) a
all_by Equal P k x y left both right p q a b c = all_append P (kept_if k.both (x ∷ [])) both (all_kept P k.both (x ∷ []) (p, tt)) b
all_by Greater P k x y left both right p q a b c = all_append P (kept_if k.right (y ∷ [])) right (all_kept P k.right (y ∷ []) (q, tt)) c

pub all_merged : (P : Datum → Type 0) (k : Keep) (xs ys : List Datum) → AllByRecursion P xs → AllByRecursion P ys → AllByRecursion P (merged k xs ys)
all_merged P k [] ys a b = all_kept P k.right ys b
all_merged P k (x ∷ xs) [] a b = all_kept P k.left (x ∷ xs) a
all_merged P k (x ∷ xs) (y ∷ ys) a b =
    all_by (datum_cmp x y) P k x y (merged k xs (y ∷ ys)) (merged k xs ys) (merged k (x ∷ xs) ys) a.0 b.0
    (all_merged P k xs (y ∷ ys) a.1 b) (all_merged P k xs ys a.1 b.1) (all_merged P k (x ∷ xs) ys a b.1)

-- ---- the merge rises

rising_kept : (b : Bool) (ds : List Datum) → IsRising ds → IsRising (kept_if b ds)
unfolding IsStrictlySortedBy
rising_kept true ds r = r
rising_kept false ds r = tt

rising_then : (b : Bool) (x : Datum) (ds : List Datum) → IsBelow x ds → IsRising ds → IsRising (kept_if b (x ∷ []) ++ ds)
unfolding IsStrictlySortedBy
rising_then true x ds a r = (a, r)
rising_then false x ds a r = r

rising_by : (o : Ordering) (k : Keep) (x y : Datum) (xs ys : List Datum) → datum_cmp x y ≡ o → IsRising (x ∷ xs) → IsRising (y ∷ ys)
    → IsRising (merged k xs (y ∷ ys)) → IsRising (merged k xs ys) → IsRising (merged k (x ∷ xs) ys)
    → IsRising (merged_by o k x y (merged k xs (y ∷ ys)) (merged k xs ys) (merged k (x ∷ xs) ys))
unfolding IsStrictlySortedBy
rising_by Less k x y xs ys p r s a b c =
    rising_then k.left x (merged k xs (y ∷ ys)) (all_merged (λ z. datum_cmp x z ≡ Less) k xs (y ∷ ys) r.0 (below_cons x y ys p s)) a
rising_by Equal k x y xs ys p r s a b c =
    rising_then k.both x (merged k xs ys) (all_merged (λ z. datum_cmp x z ≡ Less) k xs ys r.0 (subst (λ z. IsBelow z ys) (sym (same_datum x y p)) s.0)) b
rising_by Greater k x y xs ys p r s a b c =
    rising_then k.right y (merged k (x ∷ xs) ys) (all_merged (λ z. datum_cmp y z ≡ Less) k (x ∷ xs) ys (below_cons y x xs (turned x y p) r) s.0) c

rising_merged : (k : Keep) (xs ys : List Datum) → IsRising xs → IsRising ys → IsRising (merged k xs ys)
unfolding IsStrictlySortedBy
rising_merged k [] ys r s = rising_kept k.right ys s
rising_merged k (x ∷ xs) [] r s = rising_kept k.left (x ∷ xs) r
rising_merged k (x ∷ xs) (y ∷ ys) r s =
    rising_by (datum_cmp x y) k x y xs ys refl r s (rising_merged k xs (y ∷ ys) r.1 s) (rising_merged k xs ys r.1 s.1) (rising_merged k (x ∷ xs) ys r s.1)

-- ---- what the merge has

has_kept : (d : Datum) (b : Bool) (ds : List Datum) → has_datum d (kept_if b ds) ≡ (b && has_datum d ds)
has_kept d true ds = refl
has_kept d false ds = refl

and_true : (b : Bool) → (b && true) ≡ b
and_true true = refl
and_true false = refl

and_false : (b : Bool) → (b && false) ≡ false
and_false true = refl
and_false false = refl

or_false : (b : Bool) → (b || false) ≡ b
or_false true = refl
or_false false = refl

kept_right : (k : Keep) (q : Bool) → (k.right && q) ≡ is_kept k false q
kept_right k true = and_true k.right
kept_right k false = and_false k.right

kept_left : (k : Keep) (p : Bool) → (k.left && p) ≡ is_kept k p false
kept_left k true = and_true k.left
kept_left k false = and_false k.left

-- the first of the left, where e tells that it is the datum, p that it is among the others and q that it is in the right
step_left : (k : Keep) (e p q : Bool) → (e ≡ true → p ≡ false) → (e ≡ true → q ≡ false) → ((k.left && (e || false)) || is_kept k p q) ≡ is_kept k (e || p) q
step_left k true p q f g =
    ap (λ b. b || is_kept k p q) (and_true k.left)
    ∙ ap (λ b. k.left || is_kept k b q) (f refl) ∙ ap (λ b. k.left || is_kept k false b) (g refl) ∙ or_false k.left
    ∙ ap (λ b. is_kept k true b) (sym (g refl))
step_left k false p q f g = ap (λ b. b || is_kept k p q) (and_false k.left)

step_both : (k : Keep) (e p q : Bool) → (e ≡ true → p ≡ false) → (e ≡ true → q ≡ false) → ((k.both && (e || false)) || is_kept k p q) ≡ is_kept k (e || p) (e || q)
step_both k true p q f g =
    ap (λ b. b || is_kept k p q) (and_true k.both)
    ∙ ap (λ b. k.both || is_kept k b q) (f refl) ∙ ap (λ b. k.both || is_kept k false b) (g refl) ∙ or_false k.both
step_both k false p q f g = ap (λ b. b || is_kept k p q) (and_false k.both)

step_right : (k : Keep) (e p q : Bool) → (e ≡ true → p ≡ false) → (e ≡ true → q ≡ false) → ((k.right && (e || false)) || is_kept k p q) ≡ is_kept k p (e || q)
step_right k true p q f g =
    ap (λ b. b || is_kept k p q) (and_true k.right)
    ∙ ap (λ b. k.right || is_kept k b q) (f refl) ∙ ap (λ b. k.right || is_kept k false b) (g refl) ∙ or_false k.right
    ∙ ap (λ b. is_kept k b true) (sym (f refl))
step_right k false p q f g = ap (λ b. b || is_kept k p q) (and_false k.right)

has_then : (d x : Datum) (b : Bool) (ds : List Datum) → has_datum d (kept_if b (x ∷ []) ++ ds) ≡ ((b && (is_eq (datum_cmp d x) || false)) || has_datum d ds)
has_then d x b ds = list_any-append (λ e. is_eq (datum_cmp d e)) (kept_if b (x ∷ [])) ds ∙ ap (λ c. c || has_datum d ds) (has_kept d b (x ∷ []))

none_of : (d x : Datum) (xs : List Datum) → IsBelow x xs → is_eq (datum_cmp d x) ≡ true → has_datum d xs ≡ false
none_of d x xs b e = subst (λ z. has_datum z xs ≡ false) (sym (same_if_eq d x e)) (none_above x xs b)

has_by : (o : Ordering) (k : Keep) (d x y : Datum) (xs ys : List Datum) → datum_cmp x y ≡ o → IsRising (x ∷ xs) → IsRising (y ∷ ys)
    → has_datum d (merged k xs (y ∷ ys)) ≡ is_kept k (has_datum d xs) (has_datum d (y ∷ ys))
    → has_datum d (merged k xs ys) ≡ is_kept k (has_datum d xs) (has_datum d ys)
    → has_datum d (merged k (x ∷ xs) ys) ≡ is_kept k (has_datum d (x ∷ xs)) (has_datum d ys)
    → has_datum d (merged_by o k x y (merged k xs (y ∷ ys)) (merged k xs ys) (merged k (x ∷ xs) ys)) ≡ is_kept k (has_datum d (x ∷ xs)) (has_datum d (y ∷ ys))
unfolding IsStrictlySortedBy
has_by Less k d x y xs ys p r s a b c =
    has_then d x k.left (merged k xs (y ∷ ys)) ∙ ap (λ t. (k.left && (is_eq (datum_cmp d x) || false)) || t) a
    ∙ step_left k (is_eq (datum_cmp d x)) (has_datum d xs) (has_datum d (y ∷ ys)) (none_of d x xs r.0) (none_of d x (y ∷ ys) (below_cons x y ys p s))
has_by Equal k d x y xs ys p r s a b c =
    let e : x ≡ y = same_datum x y p in
    has_then d x k.both (merged k xs ys) ∙ ap (λ t. (k.both && (is_eq (datum_cmp d x) || false)) || t) b
    ∙ step_both k (is_eq (datum_cmp d x)) (has_datum d xs) (has_datum d ys) (none_of d x xs r.0) (none_of d x ys (subst (λ z. IsBelow z ys) (sym e) s.0))
    ∙ ap (λ z. is_kept k (has_datum d (x ∷ xs)) (is_eq (datum_cmp d z) || has_datum d ys)) e
has_by Greater k d x y xs ys p r s a b c =
    has_then d y k.right (merged k (x ∷ xs) ys) ∙ ap (λ t. (k.right && (is_eq (datum_cmp d y) || false)) || t) c
    ∙ step_right k (is_eq (datum_cmp d y)) (has_datum d (x ∷ xs)) (has_datum d ys) (none_of d y (x ∷ xs) (below_cons y x xs (turned x y p) r)) (none_of d y ys s.0)

has_merged : (k : Keep) (d : Datum) (xs ys : List Datum) → IsRising xs → IsRising ys → has_datum d (merged k xs ys) ≡ is_kept k (has_datum d xs) (has_datum d ys)
unfolding IsStrictlySortedBy
has_merged k d [] ys r s = has_kept d k.right ys ∙ kept_right k (has_datum d ys)
has_merged k d (x ∷ xs) [] r s = has_kept d k.left (x ∷ xs) ∙ kept_left k (has_datum d (x ∷ xs))
has_merged k d (x ∷ xs) (y ∷ ys) r s =
    has_by (datum_cmp x y) k d x y xs ys refl r s (has_merged k d xs (y ∷ ys) r.1 s) (has_merged k d xs ys r.1 s.1) (has_merged k d (x ∷ xs) ys r s.1)

pub is_merge : (k : Keep) (xs ys : List Datum) → IsRising xs → IsRising ys → IsMerge k xs ys (merged k xs ys)
is_merge k xs ys r s = record { rising = rising_merged k xs ys r s; members = λ d. has_merged k d xs ys r s }

pub depth_merged : (k : Keep) (xs ys : List Datum) (n : ℕ) → elements_depth (elements_of xs) ≤ n → elements_depth (elements_of ys) ≤ n → elements_depth (elements_of (merged k xs ys)) ≤ n
depth_merged k xs ys n p q = depths_out n (merged k xs ys) (all_merged (λ d. depth d ≤ n) k xs ys (depths_in n xs p) (depths_in n ys q))

-- ---- the end of the loop

kept_nothing : (b : Bool) → kept_if b [] ≡ []
kept_nothing true = refl
kept_nothing false = refl

merged_end : (k : Keep) (x y : Option (Bor Value)) (left right : List Datum) → (x ≡ None) ⊎ (y ≡ None)
    → kept_if k.left (front x left) ++ kept_if k.right (front y right) ≡ merged k (front x left) (front y right)
merged_end k None y left right e = ap (λ l. l ++ kept_if k.right (front y right)) (kept_nothing k.left)
merged_end k (Some v) None left right e = ap (λ l. kept_if k.left (datum v.now ∷ left) ++ l) (kept_nothing k.right) ∙ append-nil (kept_if k.left (datum v.now ∷ left))
merged_end k (Some v) (Some w) left right e = absurd (both_there v w e)
  where
    both_there : (v w : Bor Value) → ((Some v ≡ None) ⊎ (Some w ≡ None)) → ⊥
    both_there v w (inl p) = none-some v (sym p)
    both_there v w (inr p) = none-some w (sym p)

-- the members that the loop kept, then what is left of either set
pub merged_whole : (k : Keep) (x y : Option (Bor Value)) (left right kept one two all : List Datum) → (x ≡ None) ⊎ (y ≡ None)
    → kept ++ merged k (front x left) (front y right) ≡ all
    → one ≡ kept ++ kept_if k.left (front x left)
    → two ≡ one ++ kept_if k.right (front y right)
    → two ≡ all
merged_whole k x y left right kept one two all e h p q =
    q ∙ ap (λ l. l ++ kept_if k.right (front y right)) p
    ∙ append_assoc kept (kept_if k.left (front x left)) (kept_if k.right (front y right))
    ∙ ap (λ l. kept ++ l) (merged_end k x y left right e) ∙ h

-- ---- the four operations

pub is_union : (xs ys ds : List Datum) → IsMerge (record { left = true; both = true; right = true }) xs ys ds → ds ≡ union_of xs ys
is_union xs ys ds m = rising_unique ds (union_of xs ys) m.rising (rising_set_from (xs ++ ys)) (λ d. m.members d ∙ test (has_datum d xs) (has_datum d ys) ∙ sym (has_union d xs ys))
  where
    test : (p q : Bool) → is_kept (record { left = true; both = true; right = true }) p q ≡ (p || q)
    test true true = refl
    test true false = refl
    test false true = refl
    test false false = refl

pub is_minus : (xs ys ds : List Datum) → IsRising xs → IsMerge (record { left = true; both = false; right = false }) xs ys ds → ds ≡ minus_of xs ys
is_minus xs ys ds r m =
    rising_unique ds (minus_of xs ys) m.rising (rising_filter (λ e. not (has_datum e ys)) xs r) (λ d. m.members d ∙ test (has_datum d xs) (has_datum d ys) ∙ sym (has_minus d xs ys))
  where
    test : (p q : Bool) → is_kept (record { left = true; both = false; right = false }) p q ≡ (not q && p)
    test true true = refl
    test true false = refl
    test false true = refl
    test false false = refl

pub is_meet : (xs ys ds : List Datum) → IsRising xs → IsMerge (record { left = false; both = true; right = false }) xs ys ds → ds ≡ meet_of xs ys
is_meet xs ys ds r m =
    rising_unique ds (meet_of xs ys) m.rising (rising_filter (λ e. has_datum e ys) xs r) (λ d. m.members d ∙ test (has_datum d xs) (has_datum d ys) ∙ sym (has_meet d xs ys))
  where
    test : (p q : Bool) → is_kept (record { left = false; both = true; right = false }) p q ≡ (q && p)
    test true true = refl
    test true false = refl
    test false true = refl
    test false false = refl

pub is_symm : (xs ys ds : List Datum) → IsMerge (record { left = true; both = false; right = true }) xs ys ds → ds ≡ symm_of xs ys
is_symm xs ys ds m =
    rising_unique ds (symm_of xs ys) m.rising (rising_set_from (minus_of xs ys ++ minus_of ys xs)) (λ d. m.members d ∙ test (has_datum d xs) (has_datum d ys) ∙ sym (has_symm d xs ys))
  where
    test : (p q : Bool) → is_kept (record { left = true; both = false; right = true }) p q ≡ ((not q && p) || (not p && q))
    test true true = refl
    test true false = refl
    test false true = refl
    test false false = refl
