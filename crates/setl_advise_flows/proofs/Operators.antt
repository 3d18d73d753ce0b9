-- Each operator gives what its flow has.
use Rattle.std.proofs.Common.{◌≡◌, refl, ℕ, Bool, true, false, List, [], ◌∷◌, Option, Some, None}
use Rattle.std.specs.Prelude.{◌++◌, ℤ, pos, negsuc, not, nat_le, Result, Ok, Err, if◌then◌else◌}
use Rattle.std.specs.List.{AllByRecursion}
use Rattle.std.specs.Ordering.{is_eq}
use Rattle.setl_value.specs.Datum.{Datum, bool, int, text, atom, tuple, set, element_list, part_list, set_of, tuple_of, depth}
use Rattle.setl_value.specs.Pairs.{pair_parts, is_map, is_datum, first_of}
use Rattle.setl_value.specs.Order.{datum_cmp}
use Rattle.setl_value.specs.Copies.{copies}
use Rattle.setl_scalar.specs.declared.ScalarFault.{ScalarFault}
use Rattle.setl_scalar.specs.declared.ScalarFault.TheVariants.{Wide, Zero, Range, NoMemory}
use Rattle.setl_scalar.specs.Integers.{add_of, sub_of, mul_of, mod_of}
use Rattle.setl_set.specs.Sets.{union_of, minus_of, meet_of, has_datum, insert_datum, remove_datum}
use Rattle.setl_tuple.specs.Tuples.{with_of}
use Rattle.setl_map.specs.Maps.{without_point}
use Rattle.setl_operators_table.specs.Outcome.{Outcome, Gives, Fails, Overspends, KindFault, DeepFault, value, set_value, tuple_value, within_depth, adding, charging, all_values, one_more, unary, binary}
use Rattle.setl_operators_table.specs.Numbers.{whole, plus, minus, replicated, times, modulo}
use Rattle.setl_operators_table.specs.Collections.{with_datum, less_datum, on_map, lessf_datum}
use Rattle.setl_advise_flows.specs.Flow.{Whole, Letters, Truth, Token, Flow, Nothing, Scalar, Set, Tuple, Map, Any, join, tuple_flow}
use Rattle.setl_advise_flows.specs.Has.{HasPart, Has, Covers}
use Rattle.setl_advise_flows.specs.Operators.{Plain, Have, OutcomeShape, times_flow, with_flow}
use Rattle.setl_advise_flows.proofs.Joining.{cap_covers, joins, each_by, part_by}
use Rattle.setl_advise_flows.proofs.Moving.{adds}
use Rattle.setl_advise_flows.proofs.Lists.{each_append, each_filter, each_insert, each_union, each_copies, set_has, tuple_has}
use Rattle.setl_advise_flows.proofs.Views.{no_set, no_tuple, MemberOf, PartOf, members_of, set_again, pair_in, parts_of, tuple_again}

abbrev pub In : Flow → Outcome → Type 0
In f o = OutcomeShape (Plain f) o

-- ---- operands

pub one_by : (t : List Flow → Flow) (f : Datum → Outcome) → ((a : Flow) (d : Datum) → Has a d → In (t (a ∷ [])) (f d)) → (fs : List Flow) (vs : List (Option Datum)) → Have fs vs → In (t fs) (unary f (all_values vs))
one_by t f k [] [] h = tt
one_by t f k (a ∷ []) (None ∷ []) h = tt
one_by t f k (a ∷ []) (Some d ∷ []) h = k a d h.0
one_by t f k (a ∷ fs) (None ∷ v ∷ vs) h = tt
one_by t f k (a ∷ fs) (Some d ∷ None ∷ vs) h = tt
one_by t f k (a ∷ fs) (Some d ∷ Some e ∷ vs) h = go (all_values vs)
  where
    go : (o : Option (List Datum)) → In (t (a ∷ fs)) (unary f (one_more d (one_more e o)))
    go None = tt
    go (Some ds) = tt
one_by t f k [] (v ∷ vs) h = absurd h
one_by t f k (a ∷ fs) [] h = absurd h
one_by t f k (a ∷ b ∷ fs) (v ∷ []) h = absurd h.1

pub two_by : (t : List Flow → Flow) (f : Datum → Datum → Outcome) → ((a b : Flow) (d e : Datum) → Has a d → Has b e → In (t (a ∷ b ∷ [])) (f d e)) → (fs : List Flow) (vs : List (Option Datum)) → Have fs vs → In (t fs) (binary f (all_values vs))
two_by t f k [] [] h = tt
two_by t f k (a ∷ fs) (None ∷ vs) h = tt
two_by t f k (a ∷ []) (Some d ∷ []) h = tt
two_by t f k (a ∷ fs) (Some d ∷ None ∷ vs) h = tt
two_by t f k (a ∷ b ∷ []) (Some d ∷ Some e ∷ []) h = k a b d e h.0 h.1.0
two_by t f k (a ∷ b ∷ fs) (Some d ∷ Some e ∷ None ∷ vs) h = tt
two_by t f k (a ∷ b ∷ fs) (Some d ∷ Some e ∷ Some c ∷ vs) h = go (all_values vs)
  where
    go : (o : Option (List Datum)) → In (t (a ∷ b ∷ fs)) (binary f (one_more d (one_more e (one_more c o))))
    go None = tt
    go (Some ds) = tt
two_by t f k [] (v ∷ vs) h = absurd h
two_by t f k (a ∷ fs) [] h = absurd h
two_by t f k (a ∷ b ∷ fs) (Some d ∷ []) h = absurd h.1
two_by t f k (a ∷ []) (Some d ∷ Some e ∷ vs) h = absurd h.1
two_by t f k (a ∷ b ∷ c ∷ fs) (Some d ∷ Some e ∷ []) h = absurd h.1.1

pub if_in : (f : Flow) (b : Bool) (x y : Outcome) → In f x → In f y → In f (if b then x else y)
if_in f true x y h k = h
if_in f false x y h k = k

pub deep_in : (f : Flow) (d : Datum) → Has f d → In f (within_depth d)
deep_in f d h = if_in f (nat_le (depth d) 500) (value d) (Fails DeepFault) h tt

pub charged_in : (f : Flow) (n left : ℕ) (o : Outcome) → In f o → In f (charging n left o)
charged_in f n left o h = if_in f (nat_le n left) (adding n o) Overspends (adds (Plain f) n o h) tt

pub mapped_in : (f : Flow) (make : List Datum → Outcome) (ds : List Datum) → (is_map ds ≡ true → In f (make ds)) → In f (on_map make ds)
mapped_in f make ds h = go (is_map ds) h
  where
    go : (b : Bool) → (b ≡ true → In f (make ds)) → In f (if b then make ds else Fails KindFault)
    go true k = k refl
    go false k = tt

pub whole_in : (r : Result ℤ ScalarFault) → In (Scalar Whole) (whole r)
whole_in (Ok z) = tt
whole_in (Err Zero) = tt
whole_in (Err Range) = tt
whole_in (Err Wide) = tt
whole_in (Err NoMemory) = tt

pub whole_at : (a : Flow) (z : ℤ) → Has a (int z) → (r : Result ℤ ScalarFault) → In a (whole r)
whole_at a z h (Err Zero) = tt
whole_at a z h (Err Range) = tt
whole_at a z h (Err Wide) = tt
whole_at a z h (Err NoMemory) = tt
whole_at Any z h (Ok y) = tt
whole_at (Scalar Whole) z h (Ok y) = tt
whole_at (Scalar Letters) z h (Ok y) = absurd h
whole_at (Scalar Truth) z h (Ok y) = absurd h
whole_at (Scalar Token) z h (Ok y) = absurd h
whole_at Nothing z h (Ok y) = absurd h
whole_at (Set f) z h (Ok y) = absurd h
whole_at (Tuple f) z h (Ok y) = absurd h
whole_at (Map f g) z h (Ok y) = absurd h

pub text_at : (a : Flow) (t : List ℕ) → Has a (text t) → (u : List ℕ) → Has a (text u)
text_at Any z h y = tt
text_at (Scalar Letters) z h y = tt
text_at (Scalar Whole) z h y = absurd h
text_at (Scalar Truth) z h y = absurd h
text_at (Scalar Token) z h y = absurd h
text_at Nothing z h y = absurd h
text_at (Set f) z h y = absurd h
text_at (Tuple f) z h y = absurd h
text_at (Map f g) z h y = absurd h

-- ---- sums, differences, products

pub left_in : (a b : Flow) → Covers a (join a b)
left_in a b = (joins 3 a b).0

pub right_in : (a b : Flow) → Covers b (join a b)
right_in a b = (joins 3 a b).1

pub unions : (f : Flow) (x y : _) → Has f (set x) → Has f (set y) → (xs ys : List Datum) → AllByRecursion (MemberOf f) xs → AllByRecursion (MemberOf f) ys → Has f (set_of (union_of xs ys))
unions f x y h k xs ys m n = set_again f x h (union_of xs ys) (each_union (MemberOf f) xs ys m n)

pub plus_in : (a b : Flow) (d e : Datum) → Has a d → Has b e → In (join a b) (plus d e)
plus_in a b (bool x) (bool y) h k = tt
plus_in a b (bool x) (int y) h k = tt
plus_in a b (bool x) (text y) h k = tt
plus_in a b (bool x) (atom y) h k = tt
plus_in a b (bool x) (tuple y) h k = tt
plus_in a b (bool x) (set y) h k = tt
plus_in a b (int x) (bool y) h k = tt
plus_in a b (int x) (int y) h k = whole_at (join a b) x (left_in a b (int x) h) (add_of x y)
plus_in a b (int x) (text y) h k = tt
plus_in a b (int x) (atom y) h k = tt
plus_in a b (int x) (tuple y) h k = tt
plus_in a b (int x) (set y) h k = tt
plus_in a b (text x) (bool y) h k = tt
plus_in a b (text x) (int y) h k = tt
plus_in a b (text x) (text y) h k = text_at (join a b) x (left_in a b (text x) h) (x ++ y)
plus_in a b (text x) (atom y) h k = tt
plus_in a b (text x) (tuple y) h k = tt
plus_in a b (text x) (set y) h k = tt
plus_in a b (atom x) (bool y) h k = tt
plus_in a b (atom x) (int y) h k = tt
plus_in a b (atom x) (text y) h k = tt
plus_in a b (atom x) (atom y) h k = tt
plus_in a b (atom x) (tuple y) h k = tt
plus_in a b (atom x) (set y) h k = tt
plus_in a b (tuple x) (bool y) h k = tt
plus_in a b (tuple x) (int y) h k = tt
plus_in a b (tuple x) (text y) h k = tt
plus_in a b (tuple x) (atom y) h k = tt
plus_in a b (tuple x) (tuple y) h k = let c = left_in a b (tuple x) h in let f = right_in a b (tuple y) k in tuple_again (join a b) x c (part_list x ++ part_list y) (each_append (HasPart (PartOf (join a b))) (part_list x) (part_list y) (parts_of (join a b) x c) (parts_of (join a b) y f))
plus_in a b (tuple x) (set y) h k = tt
plus_in a b (set x) (bool y) h k = tt
plus_in a b (set x) (int y) h k = tt
plus_in a b (set x) (text y) h k = tt
plus_in a b (set x) (atom y) h k = tt
plus_in a b (set x) (tuple y) h k = tt
plus_in a b (set x) (set y) h k = let c = left_in a b (set x) h in let f = right_in a b (set y) k in unions (join a b) x y c f (element_list x) (element_list y) (members_of (join a b) x c) (members_of (join a b) y f)

pub modulo_in : (a b : Flow) (d e : Datum) → Has a d → Has b e → In (join a b) (modulo d e)
modulo_in a b (bool x) (bool y) h k = tt
modulo_in a b (bool x) (int y) h k = tt
modulo_in a b (bool x) (text y) h k = tt
modulo_in a b (bool x) (atom y) h k = tt
modulo_in a b (bool x) (tuple y) h k = tt
modulo_in a b (bool x) (set y) h k = tt
modulo_in a b (int x) (bool y) h k = tt
modulo_in a b (int x) (int y) h k = whole_at (join a b) x (left_in a b (int x) h) (mod_of x y)
modulo_in a b (int x) (text y) h k = tt
modulo_in a b (int x) (atom y) h k = tt
modulo_in a b (int x) (tuple y) h k = tt
modulo_in a b (int x) (set y) h k = tt
modulo_in a b (text x) (bool y) h k = tt
modulo_in a b (text x) (int y) h k = tt
modulo_in a b (text x) (text y) h k = tt
modulo_in a b (text x) (atom y) h k = tt
modulo_in a b (text x) (tuple y) h k = tt
modulo_in a b (text x) (set y) h k = tt
modulo_in a b (atom x) (bool y) h k = tt
modulo_in a b (atom x) (int y) h k = tt
modulo_in a b (atom x) (text y) h k = tt
modulo_in a b (atom x) (atom y) h k = tt
modulo_in a b (atom x) (tuple y) h k = tt
modulo_in a b (atom x) (set y) h k = tt
modulo_in a b (tuple x) (bool y) h k = tt
modulo_in a b (tuple x) (int y) h k = tt
modulo_in a b (tuple x) (text y) h k = tt
modulo_in a b (tuple x) (atom y) h k = tt
modulo_in a b (tuple x) (tuple y) h k = tt
modulo_in a b (tuple x) (set y) h k = tt
modulo_in a b (set x) (bool y) h k = tt
modulo_in a b (set x) (int y) h k = tt
modulo_in a b (set x) (text y) h k = tt
modulo_in a b (set x) (atom y) h k = tt
modulo_in a b (set x) (tuple y) h k = tt
modulo_in a b (set x) (set y) h k = let c = left_in a b (set x) h in let f = right_in a b (set y) k in unions (join a b) x y c f (minus_of (element_list x) (element_list y)) (minus_of (element_list y) (element_list x)) (each_filter (MemberOf (join a b)) (λ z. not (has_datum z (element_list y))) (element_list x) (members_of (join a b) x c)) (each_filter (MemberOf (join a b)) (λ z. not (has_datum z (element_list x))) (element_list y) (members_of (join a b) y f))

pub minus_in : (a : Flow) (d e : Datum) → Has a d → In a (minus d e)
minus_in a (bool x) (bool y) h = tt
minus_in a (bool x) (int y) h = tt
minus_in a (bool x) (text y) h = tt
minus_in a (bool x) (atom y) h = tt
minus_in a (bool x) (tuple y) h = tt
minus_in a (bool x) (set y) h = tt
minus_in a (int x) (bool y) h = tt
minus_in a (int x) (int y) h = whole_at a x h (sub_of x y)
minus_in a (int x) (text y) h = tt
minus_in a (int x) (atom y) h = tt
minus_in a (int x) (tuple y) h = tt
minus_in a (int x) (set y) h = tt
minus_in a (text x) (bool y) h = tt
minus_in a (text x) (int y) h = tt
minus_in a (text x) (text y) h = tt
minus_in a (text x) (atom y) h = tt
minus_in a (text x) (tuple y) h = tt
minus_in a (text x) (set y) h = tt
minus_in a (atom x) (bool y) h = tt
minus_in a (atom x) (int y) h = tt
minus_in a (atom x) (text y) h = tt
minus_in a (atom x) (atom y) h = tt
minus_in a (atom x) (tuple y) h = tt
minus_in a (atom x) (set y) h = tt
minus_in a (tuple x) (bool y) h = tt
minus_in a (tuple x) (int y) h = tt
minus_in a (tuple x) (text y) h = tt
minus_in a (tuple x) (atom y) h = tt
minus_in a (tuple x) (tuple y) h = tt
minus_in a (tuple x) (set y) h = tt
minus_in a (set x) (bool y) h = tt
minus_in a (set x) (int y) h = tt
minus_in a (set x) (text y) h = tt
minus_in a (set x) (atom y) h = tt
minus_in a (set x) (tuple y) h = tt
minus_in a (set x) (set y) h = set_again a x h (minus_of (element_list x) (element_list y)) (each_filter (MemberOf a) (λ z. not (has_datum z (element_list y))) (element_list x) (members_of a x h))

copies_in : (a : Flow) (left : ℕ) (n : ℤ) (d : Datum) → Has a d → In a (replicated left n d)
copies_in a left (pos n) (tuple x) h = charged_in a n left (tuple_value (copies n (part_list x))) (tuple_again a x h (copies n (part_list x)) (each_copies (HasPart (PartOf a)) n (part_list x) (parts_of a x h)))
copies_in a left (pos n) (text x) h = charged_in a n left (value (text (copies n x))) (text_at a x h (copies n x))
copies_in a left (negsuc n) (tuple x) h = tt
copies_in a left (negsuc n) (text x) h = tt
copies_in a left (pos n) (bool x) h = tt
copies_in a left (negsuc n) (bool x) h = tt
copies_in a left (pos n) (int x) h = tt
copies_in a left (negsuc n) (int x) h = tt
copies_in a left (pos n) (atom x) h = tt
copies_in a left (negsuc n) (atom x) h = tt
copies_in a left (pos n) (set x) h = tt
copies_in a left (negsuc n) (set x) h = tt

-- a product is in the flow of the right operand where the left one is an integer
int_first : (a b : Flow) (z : ℤ) (o : Outcome) → Has a (int z) → In b o → In (times_flow a b) o
int_first (Scalar Whole) b z o h k = k
int_first Any b z (Gives None n) h k = tt
int_first Any b z (Gives (Some d) n) h k = tt
int_first Any b z (Fails f) h k = tt
int_first Any b z Overspends h k = tt
int_first (Scalar Letters) b z o h k = absurd h
int_first (Scalar Truth) b z o h k = absurd h
int_first (Scalar Token) b z o h k = absurd h
int_first Nothing b z o h k = absurd h
int_first (Set f) b z o h k = absurd h
int_first (Tuple f) b z o h k = absurd h
int_first (Map f g) b z o h k = absurd h

-- and in the flow of the left one where that is none
other_first : (a b : Flow) (d : Datum) (o : Outcome) → Has a d → (Has (Scalar Whole) d → ⊥) → In a o → In (times_flow a b) o
other_first (Scalar Whole) b d o h apart k = absurd (apart h)
other_first Any b d o h apart k = k
other_first (Scalar Letters) b d o h apart k = k
other_first (Scalar Truth) b d o h apart k = k
other_first (Scalar Token) b d o h apart k = k
other_first Nothing b d o h apart k = k
other_first (Set f) b d o h apart k = k
other_first (Tuple f) b d o h apart k = k
other_first (Map f g) b d o h apart k = k

pub times_in : (a b : Flow) (left : ℕ) (d e : Datum) → Has a d → Has b e → In (times_flow a b) (times left d e)
times_in a b left (bool x) (bool y) h k = tt
times_in a b left (bool x) (int y) h k = other_first a b (bool x) (replicated left y (bool x)) h (λ z. z) (copies_in a left y (bool x) h)
times_in a b left (bool x) (text y) h k = tt
times_in a b left (bool x) (atom y) h k = tt
times_in a b left (bool x) (tuple y) h k = tt
times_in a b left (bool x) (set y) h k = tt
times_in a b left (int x) (bool y) h k = int_first a b x (replicated left x (bool y)) h (copies_in b left x (bool y) k)
times_in a b left (int x) (int y) h k = int_first a b x (whole (mul_of x y)) h (whole_at b y k (mul_of x y))
times_in a b left (int x) (text y) h k = int_first a b x (replicated left x (text y)) h (copies_in b left x (text y) k)
times_in a b left (int x) (atom y) h k = int_first a b x (replicated left x (atom y)) h (copies_in b left x (atom y) k)
times_in a b left (int x) (tuple y) h k = int_first a b x (replicated left x (tuple y)) h (copies_in b left x (tuple y) k)
times_in a b left (int x) (set y) h k = int_first a b x (replicated left x (set y)) h (copies_in b left x (set y) k)
times_in a b left (text x) (bool y) h k = tt
times_in a b left (text x) (int y) h k = other_first a b (text x) (replicated left y (text x)) h (λ z. z) (copies_in a left y (text x) h)
times_in a b left (text x) (text y) h k = tt
times_in a b left (text x) (atom y) h k = tt
times_in a b left (text x) (tuple y) h k = tt
times_in a b left (text x) (set y) h k = tt
times_in a b left (atom x) (bool y) h k = tt
times_in a b left (atom x) (int y) h k = other_first a b (atom x) (replicated left y (atom x)) h (λ z. z) (copies_in a left y (atom x) h)
times_in a b left (atom x) (text y) h k = tt
times_in a b left (atom x) (atom y) h k = tt
times_in a b left (atom x) (tuple y) h k = tt
times_in a b left (atom x) (set y) h k = tt
times_in a b left (tuple x) (bool y) h k = tt
times_in a b left (tuple x) (int y) h k = other_first a b (tuple x) (replicated left y (tuple x)) h (λ z. z) (copies_in a left y (tuple x) h)
times_in a b left (tuple x) (text y) h k = tt
times_in a b left (tuple x) (atom y) h k = tt
times_in a b left (tuple x) (tuple y) h k = tt
times_in a b left (tuple x) (set y) h k = tt
times_in a b left (set x) (bool y) h k = tt
times_in a b left (set x) (int y) h k = other_first a b (set x) (replicated left y (set x)) h (λ z. z) (copies_in a left y (set x) h)
times_in a b left (set x) (text y) h k = tt
times_in a b left (set x) (atom y) h k = tt
times_in a b left (set x) (tuple y) h k = tt
times_in a b left (set x) (set y) h k = other_first a b (set x) (set_value (meet_of (element_list x) (element_list y))) h (λ z. z) (set_again a x h (meet_of (element_list x) (element_list y)) (each_filter (MemberOf a) (λ z. has_datum z (element_list y)) (element_list x) (members_of a x h)))

-- ---- `with`, `less`, `lessf`

with_set : (a b : Flow) (x : _) (e : Datum) → Has a (set x) → Has b e → Has (with_flow a b) (set_of (insert_datum e (element_list x)))
with_set (Set f) b x e h k =
    cap_covers 3 (Set (join f b)) (set_of (insert_datum e (element_list x)))
    (set_has (Has (join f b)) (insert_datum e (element_list x)) (each_insert (Has (join f b)) e (element_list x) (right_in f b e k) (each_by (Has f) (Has (join f b)) (left_in f b) (element_list x) h)))
with_set (Map f g) b x e h k =
    let t = tuple_flow (join f g) in
    cap_covers 3 (Set (join t b)) (set_of (insert_datum e (element_list x)))
    (set_has (Has (join t b)) (insert_datum e (element_list x)) (each_insert (Has (join t b)) e (element_list x) (right_in t b e k)
    (each_by (MemberOf (Map f g)) (Has (join t b)) (λ d m. left_in t b d (pair_in f g d m)) (element_list x) h)))
with_set Any b x e h k = tt
with_set Nothing b x e h k = absurd h
with_set (Tuple f) b x e h k = absurd h
with_set (Scalar q) b x e h k = absurd (no_set q x h)

with_tuple : (a b : Flow) (x : _) (e : Datum) → Has a (tuple x) → Has b e → Has (with_flow a b) (tuple_of (with_of (part_list x) e))
with_tuple (Tuple f) b x e h k =
    cap_covers 3 (Tuple (join f b)) (tuple_of (with_of (part_list x) e))
    (tuple_has (Has (join f b)) (with_of (part_list x) e) (each_append (HasPart (Has (join f b))) (part_list x) (Some e ∷ [])
    (each_by (HasPart (Has f)) (HasPart (Has (join f b))) (part_by (Has f) (Has (join f b)) (left_in f b)) (part_list x) h) (right_in f b e k, tt)))
with_tuple Any b x e h k = tt
with_tuple Nothing b x e h k = absurd h
with_tuple (Set f) b x e h k = absurd h
with_tuple (Map f g) b x e h k = absurd h
with_tuple (Scalar q) b x e h k = absurd (no_tuple q x h)

pub with_in : (a b : Flow) (d e : Datum) → Has a d → Has b e → In (with_flow a b) (with_datum d e)
with_in a b (bool x) e h k = tt
with_in a b (int x) e h k = tt
with_in a b (text x) e h k = tt
with_in a b (atom x) e h k = tt
with_in a b (tuple x) e h k = deep_in (with_flow a b) (tuple_of (with_of (part_list x) e)) (with_tuple a b x e h k)
with_in a b (set x) e h k = deep_in (with_flow a b) (set_of (insert_datum e (element_list x))) (with_set a b x e h k)

pub less_in : (a : Flow) (d e : Datum) → Has a d → In a (less_datum d e)
less_in a (bool x) e h = tt
less_in a (int x) e h = tt
less_in a (text x) e h = tt
less_in a (atom x) e h = tt
less_in a (tuple x) e h = tt
less_in a (set x) e h = set_again a x h (remove_datum e (element_list x)) (each_filter (MemberOf a) (λ z. not (is_eq (datum_cmp e z))) (element_list x) (members_of a x h))

pub lessf_in : (a : Flow) (d e : Datum) → Has a d → In a (lessf_datum d e)
lessf_in a (bool x) e h = tt
lessf_in a (int x) e h = tt
lessf_in a (text x) e h = tt
lessf_in a (atom x) e h = tt
lessf_in a (tuple x) e h = tt
lessf_in a (set x) e h = mapped_in a (λ f. set_value (without_point e f)) (element_list x) (λ q. set_again a x h (without_point e (element_list x)) (each_filter (MemberOf a) (λ z. not (is_datum e (first_of (pair_parts z)))) (element_list x) (members_of a x h)))
