-- Slices, stepped ranges, images that are put, sets of subsets and folds.
use Rattle.std.proofs.Common.{◌≡◌, refl, subst, ℕ, Bool, true, false, List, [], ◌∷◌, Option, Some, None}
use Rattle.std.specs.Prelude.{◌^◌, ◌++◌, ◌==◌, ◌-ℤ◌, ◌&&◌, ◌||◌, ℤ, pos, negsuc, int_le, unsigned_abs, length, map, Result, Ok, Err, slice_range, if◌then◌else◌}
use Rattle.std.specs.List.{AllByRecursion}
use Rattle.setl_value.specs.Datum.{Datum, bool, int, text, atom, tuple, set, element_list, part_list, set_of}
use Rattle.setl_value.specs.WellFormed.{trim}
use Rattle.setl_value.specs.Copies.{are_places}
use Rattle.setl_scalar.specs.declared.ScalarFault.{ScalarFault}
use Rattle.setl_scalar.specs.Texts.{slice_of as slice_of_text}
use Rattle.setl_scalar.specs.Integers.{add_of}
use Rattle.setl_set.specs.Subsets.{subsets, subsets_of_size, set_of_sets, pow_of, npow_of}
use Rattle.setl_tuple.specs.declared.TupleFault.TheVariants.{Range}
use Rattle.setl_tuple.specs.Tuples.{index_of, slice_of as slice_of_tuple}
use Rattle.setl_operators_table.specs.Outcome.{Outcome, Fails, ZeroFault, within_depth, charging, all_values, one_more, ternary}
use Rattle.setl_map.specs.Maps.{put_images}
use Rattle.setl_operators_table.specs.Numbers.{plus, times, greater, lesser}
use Rattle.setl_operators_table.specs.Truths.{both, either}
use Rattle.setl_operators_table.specs.Collections.{all_subsets, some_subsets}
use Rattle.setl_operators_table.specs.Folds.{combined, fold_on, fold_list, fold_datum}
use Rattle.setl_operators_table.specs.Puts.{put_set}
use Rattle.setl_operators_table.specs.Ranges.{step_size, step_from}
use Rattle.setl_operators_table.specs.RangeRows.{stepped_integers}
use Rattle.setl_operators_table.specs.Selections.{slice, tail, part_of_tuple, part_of_text}
use Rattle.setl_advise_flows.specs.Flow.{Whole, Letters, Truth, Token, Flow, Nothing, Scalar, Set, Tuple, Map, Any, set_flow}
use Rattle.setl_advise_flows.specs.Has.{HasPart, Has, HasAt}
use Rattle.setl_advise_flows.specs.Operators.{el, Plain, Have, put_flow, put_images_flow, times_flow}
use Rattle.setl_advise_flows.proofs.Joining.{cap_covers, each_by}
use Rattle.setl_advise_flows.proofs.Moving.{goes_then}
use Rattle.setl_advise_flows.proofs.Lists.{each_append, each_filter, each_map, each_set_from, each_slice, each_trim, set_has}
use Rattle.setl_advise_flows.proofs.Views.{MemberOf, PartOf, members_of, set_again, member_in, parts_of, tuple_again, part_in}
use Rattle.setl_advise_flows.proofs.Operators.{In, unions, if_in, deep_in, charged_in, mapped_in, whole_at, text_at, times_in}
use Rattle.setl_advise_flows.proofs.Selecting.{ints}
use Rattle.setl_advise_flows.proofs.Putting.{images_put}

pub three_by : (t : List Flow → Flow) (f : Datum → Datum → Datum → Outcome) → ((a b c : Flow) (d e g : Datum) → Has a d → Has b e → Has c g → In (t (a ∷ b ∷ c ∷ [])) (f d e g)) → (fs : List Flow) (vs : List (Option Datum)) → Have fs vs → In (t fs) (ternary f (all_values vs))
three_by t f k fs [] h = tt
three_by t f k fs (None ∷ vs) h = tt
three_by t f k fs (Some d ∷ []) h = tt
three_by t f k fs (Some d ∷ None ∷ vs) h = tt
three_by t f k fs (Some d ∷ Some e ∷ []) h = tt
three_by t f k fs (Some d ∷ Some e ∷ None ∷ vs) h = tt
three_by t f k (a ∷ b ∷ c ∷ []) (Some d ∷ Some e ∷ Some g ∷ []) h = k a b c d e g h.0 h.1.0 h.1.1.0
three_by t f k fs (Some d ∷ Some e ∷ Some g ∷ None ∷ vs) h = tt
three_by t f k fs (Some d ∷ Some e ∷ Some g ∷ Some u ∷ vs) h = go (all_values vs)
  where
    go : (o : Option (List Datum)) → In (t fs) (ternary f (one_more d (one_more e (one_more g (one_more u o)))))
    go None = tt
    go (Some ds) = tt
three_by t f k [] (Some d ∷ Some e ∷ Some g ∷ []) h = absurd h
three_by t f k (a ∷ []) (Some d ∷ Some e ∷ Some g ∷ []) h = absurd h.1
three_by t f k (a ∷ b ∷ []) (Some d ∷ Some e ∷ Some g ∷ []) h = absurd h.1.1
three_by t f k (a ∷ b ∷ c ∷ u ∷ fs) (Some d ∷ Some e ∷ Some g ∷ []) h = absurd h.1.1.1

tuple_part : (a : Flow) (ps : _) → Has a (tuple ps) → (i j : ℤ) → In a (part_of_tuple (slice_of_tuple (part_list ps) i j))
tuple_part a ps h i j = go (are_places i j (length (part_list ps)))
  where
    qs : List (Option Datum)
    qs = slice_range (part_list ps) (index_of i) (unsigned_abs j)

    go : (b : Bool) → In a (part_of_tuple (if b then Ok (trim qs) else Err Range))
    go true = tuple_again a ps h (trim qs) (each_trim (PartOf a) qs (each_slice (HasPart (PartOf a)) (index_of i) (unsigned_abs j) (part_list ps) (parts_of a ps h)))
    go false = tt

text_part : (a : Flow) (t : List ℕ) → Has a (text t) → (r : Result (List ℕ) ScalarFault) → In a (part_of_text r)
text_part a t h (Ok u) = text_at a t h u
text_part a t h (Err e) = tt

pub slice_in : (a : Flow) (d e f : Datum) → Has a d → In a (slice d e f)
slice_in a (tuple ps) (int i) (int j) h = tuple_part a ps h i j
slice_in a (text t) (int i) (int j) h = text_part a t h (slice_of_text t i j)
slice_in a (bool x) e f h = tt
slice_in a (int x) e f h = tt
slice_in a (atom x) e f h = tt
slice_in a (set x) e f h = tt
slice_in a (tuple x) (bool i) f h = tt
slice_in a (tuple x) (int i) (bool j) h = tt
slice_in a (tuple x) (text i) f h = tt
slice_in a (tuple x) (int i) (text j) h = tt
slice_in a (tuple x) (atom i) f h = tt
slice_in a (tuple x) (int i) (atom j) h = tt
slice_in a (tuple x) (tuple i) f h = tt
slice_in a (tuple x) (int i) (tuple j) h = tt
slice_in a (tuple x) (set i) f h = tt
slice_in a (tuple x) (int i) (set j) h = tt
slice_in a (text x) (bool i) f h = tt
slice_in a (text x) (int i) (bool j) h = tt
slice_in a (text x) (text i) f h = tt
slice_in a (text x) (int i) (text j) h = tt
slice_in a (text x) (atom i) f h = tt
slice_in a (text x) (int i) (atom j) h = tt
slice_in a (text x) (tuple i) f h = tt
slice_in a (text x) (int i) (tuple j) h = tt
slice_in a (text x) (set i) f h = tt
slice_in a (text x) (int i) (set j) h = tt

pub tail_in : (a : Flow) (d e : Datum) → Has a d → In a (tail d e)
tail_in a (tuple ps) e h = slice_in a (tuple ps) e (int (pos (length (part_list ps)))) h
tail_in a (text t) e h = slice_in a (text t) e (int (pos (length t))) h
tail_in a (bool x) e h = tt
tail_in a (int x) e h = tt
tail_in a (atom x) e h = tt
tail_in a (set x) e h = tt

pub step_in : (f : Flow) (make : List Datum → Outcome) → ((ds : List Datum) → AllByRecursion (Has (Scalar Whole)) ds → In f (make ds)) → (left : ℕ) (d e g : Datum) → In f (stepped_integers make left d e g)
step_in f make k left (int a) (int b) (int c) =
    if_in f (unsigned_abs (b -ℤ a) == 0) (Fails ZeroFault) (charging (step_size a b c) left (make (step_from a b c))) tt
    (charged_in f (step_size a b c) left (make (step_from a b c)) (k (step_from a b c) (ints a (b -ℤ a) (step_size a b c))))
step_in f make k left (bool a) e g = tt
step_in f make k left (int a) (bool b) g = tt
step_in f make k left (int a) (int b) (bool c) = tt
step_in f make k left (text a) e g = tt
step_in f make k left (int a) (text b) g = tt
step_in f make k left (int a) (int b) (text c) = tt
step_in f make k left (atom a) e g = tt
step_in f make k left (int a) (atom b) g = tt
step_in f make k left (int a) (int b) (atom c) = tt
step_in f make k left (tuple a) e g = tt
step_in f make k left (int a) (tuple b) g = tt
step_in f make k left (int a) (int b) (tuple c) = tt
step_in f make k left (set a) e g = tt
step_in f make k left (int a) (set b) g = tt
step_in f make k left (int a) (int b) (set c) = tt

-- ---- subsets

all_subsets_in : (P : Datum → Type 0) (ds : List Datum) → AllByRecursion P ds → AllByRecursion (AllByRecursion P) (subsets ds)
all_subsets_in P [] h = (tt, tt)
all_subsets_in P (d ∷ ds) h =
    let rest = all_subsets_in P ds h.1 in
    each_append (AllByRecursion P) (map (λ xs. d ∷ xs) (subsets ds)) (subsets ds) (each_map (AllByRecursion P) (AllByRecursion P) (λ xs. d ∷ xs) (λ xs k. (h.0, k)) (subsets ds) rest) rest

sets_made : (a : Flow) (ms : _) → Has a (set ms) → (ls : List (List Datum)) → AllByRecursion (AllByRecursion (MemberOf a)) ls → Has (set_flow a) (set_of (set_of_sets ls))
sets_made a ms h ls k =
    cap_covers 3 (Set a) (set_of (set_of_sets ls))
    (set_has (Has a) (set_of_sets ls) (each_set_from (Has a) (map set_of ls) (each_map (AllByRecursion (MemberOf a)) (Has a) set_of (λ ds q. set_again a ms h ds q) ls k)))

pub pow_in : (a : Flow) (left : ℕ) (d : Datum) → Has a d → In (set_flow a) (all_subsets left d)
pow_in a left (bool x) h = tt
pow_in a left (int x) h = tt
pow_in a left (text x) h = tt
pow_in a left (atom x) h = tt
pow_in a left (tuple x) h = tt
pow_in a left (set x) h = charged_in (set_flow a) (2 ^ length (element_list x)) left (within_depth (set_of (pow_of (element_list x)))) (deep_in (set_flow a) (set_of (pow_of (element_list x))) (sets_made a x h (subsets (element_list x)) (all_subsets_in (MemberOf a) (element_list x) (members_of a x h))))

pub npow_in : (a : Flow) (left : ℕ) (e d : Datum) → Has a d → In (set_flow a) (some_subsets left e d)
npow_in a left (int (pos n)) (set x) h =
    let ls = subsets_of_size n (element_list x) in
    charged_in (set_flow a) (length ls) left (within_depth (set_of (npow_of n (element_list x))))
    (deep_in (set_flow a) (set_of (npow_of n (element_list x))) (sets_made a x h ls (each_filter (AllByRecursion (MemberOf a)) (λ xs. length xs == n) (subsets (element_list x)) (all_subsets_in (MemberOf a) (element_list x) (members_of a x h)))))
npow_in a left (int (negsuc n)) (set x) h = tt
npow_in a left (int (pos n)) (bool x) h = tt
npow_in a left (int (negsuc n)) (bool x) h = tt
npow_in a left (int (pos n)) (int x) h = tt
npow_in a left (int (negsuc n)) (int x) h = tt
npow_in a left (int (pos n)) (text x) h = tt
npow_in a left (int (negsuc n)) (text x) h = tt
npow_in a left (int (pos n)) (atom x) h = tt
npow_in a left (int (negsuc n)) (atom x) h = tt
npow_in a left (int (pos n)) (tuple x) h = tt
npow_in a left (int (negsuc n)) (tuple x) h = tt
npow_in a left (bool n) (bool x) h = tt
npow_in a left (bool n) (int x) h = tt
npow_in a left (bool n) (text x) h = tt
npow_in a left (bool n) (atom x) h = tt
npow_in a left (bool n) (tuple x) h = tt
npow_in a left (bool n) (set x) h = tt
npow_in a left (text n) (bool x) h = tt
npow_in a left (text n) (int x) h = tt
npow_in a left (text n) (text x) h = tt
npow_in a left (text n) (atom x) h = tt
npow_in a left (text n) (tuple x) h = tt
npow_in a left (text n) (set x) h = tt
npow_in a left (atom n) (bool x) h = tt
npow_in a left (atom n) (int x) h = tt
npow_in a left (atom n) (text x) h = tt
npow_in a left (atom n) (atom x) h = tt
npow_in a left (atom n) (tuple x) h = tt
npow_in a left (atom n) (set x) h = tt
npow_in a left (tuple n) (bool x) h = tt
npow_in a left (tuple n) (int x) h = tt
npow_in a left (tuple n) (text x) h = tt
npow_in a left (tuple n) (atom x) h = tt
npow_in a left (tuple n) (tuple x) h = tt
npow_in a left (tuple n) (set x) h = tt
npow_in a left (set n) (bool x) h = tt
npow_in a left (set n) (int x) h = tt
npow_in a left (set n) (text x) h = tt
npow_in a left (set n) (atom x) h = tt
npow_in a left (set n) (tuple x) h = tt
npow_in a left (set n) (set x) h = tt

-- ---- images that are put

members_el : (c : Flow) (ys : _) → Has c (set ys) → AllByRecursion (Has (el c)) (element_list ys)
members_el c ys h = each_by (MemberOf c) (Has (el c)) (member_in c ys h) (element_list ys) (members_of c ys h)

images_whole : (a b c : Flow) (ms : _) → Has a (set ms) → (d : Datum) → Has (put_flow a b (el c)) d → Has (put_images_flow a b c) d
images_whole (Map f g) b c ms h d k = k
images_whole (Set f) b c ms h d k = k
images_whole Any b c ms h d k = k
images_whole (Scalar q) b c ms h d k = k
images_whole Nothing b c ms h d k = absurd h
images_whole (Tuple f) b c ms h d k = absurd h

pub put_set_in : (a b c : Flow) (d x e : Datum) → Has a d → Has b x → Has c e → In (put_images_flow a b c) (put_set d x e)
put_set_in a b c (set ms) x (set ys) h k m =
    mapped_in (put_images_flow a b c) (λ f. within_depth (set_of (put_images x (element_list ys) f))) (element_list ms)
    (λ q. deep_in (put_images_flow a b c) (set_of (put_images x (element_list ys) (element_list ms)))
    (images_whole a b c ms h (set_of (put_images x (element_list ys) (element_list ms))) (images_put a b (el c) ms h x k (element_list ys) (members_el c ys m))))
put_set_in a b c (bool z) x e h k m = tt
put_set_in a b c (set z) x (bool y) h k m = tt
put_set_in a b c (int z) x e h k m = tt
put_set_in a b c (set z) x (int y) h k m = tt
put_set_in a b c (text z) x e h k m = tt
put_set_in a b c (set z) x (text y) h k m = tt
put_set_in a b c (atom z) x e h k m = tt
put_set_in a b c (set z) x (atom y) h k m = tt
put_set_in a b c (tuple z) x e h k m = tt
put_set_in a b c (set z) x (tuple y) h k m = tt

-- ---- folds

-- an operation on two values of a flow stays in it
abbrev pub Stays : Flow → (ℕ → Datum → Datum → Outcome) → Type 0
Stays f make = (left : ℕ) (d e : Datum) → Has f d → Has f e → In f (make left d e)

folds_on : (f : Flow) (make : ℕ → Datum → Datum → Outcome) → Stays f make → (vs : List (Option Datum)) (v : Option Datum) (left : ℕ) → HasAt f v → AllByRecursion (HasPart (Has f)) vs → In f (fold_on make v vs left)
folds_on f make stays [] v left h k = h
folds_on f make stays (w ∷ ws) v left h k =
    goes_then (Plain f) (Plain f) (combined make v w left) left (λ new later. fold_on make new ws later) (one v w h k.0) (λ new later x. folds_on f make stays ws new later x k.1)
  where
    one : (v w : Option Datum) → HasAt f v → HasAt f w → In f (combined make v w left)
    one None w h k = tt
    one (Some d) None h k = tt
    one (Some d) (Some e) h k = stays left d e h k

folds_list : (f : Flow) (make : ℕ → Datum → Datum → Outcome) → Stays f make → (vs : List (Option Datum)) (left : ℕ) → AllByRecursion (HasPart (Has f)) vs → In f (fold_list make vs left)
folds_list f make stays [] left h = tt
folds_list f make stays (v ∷ vs) left h = folds_on f make stays vs v left h.0 h.1

pub fold_in : (make : ℕ → Datum → Datum → Outcome) → ((f : Flow) → Stays f make) → (left : ℕ) (a : Flow) (d : Datum) → Has a d → In (el a) (fold_datum make left d)
fold_in make stays left a (bool x) h = tt
fold_in make stays left a (int x) h = tt
fold_in make stays left a (text x) h = tt
fold_in make stays left a (atom x) h = tt
fold_in make stays left a (tuple x) h = folds_list (el a) make (stays (el a)) (part_list x) left (each_by (HasPart (PartOf a)) (HasPart (Has (el a))) (part_in a x h) (part_list x) (parts_of a x h))
fold_in make stays left a (set x) h = folds_list (el a) make (stays (el a)) (map Some (element_list x)) left (each_map (Has (el a)) (HasPart (Has (el a))) Some (λ d k. k) (element_list x) (members_el a x h))

pub plus_stays : (f : Flow) → Stays f (λ now. plus)
plus_stays f left (bool x) (bool y) h k = tt
plus_stays f left (bool x) (int y) h k = tt
plus_stays f left (bool x) (text y) h k = tt
plus_stays f left (bool x) (atom y) h k = tt
plus_stays f left (bool x) (tuple y) h k = tt
plus_stays f left (bool x) (set y) h k = tt
plus_stays f left (int x) (bool y) h k = tt
plus_stays f left (int x) (int y) h k = whole_at f x h (add_of x y)
plus_stays f left (int x) (text y) h k = tt
plus_stays f left (int x) (atom y) h k = tt
plus_stays f left (int x) (tuple y) h k = tt
plus_stays f left (int x) (set y) h k = tt
plus_stays f left (text x) (bool y) h k = tt
plus_stays f left (text x) (int y) h k = tt
plus_stays f left (text x) (text y) h k = text_at f x h (x ++ y)
plus_stays f left (text x) (atom y) h k = tt
plus_stays f left (text x) (tuple y) h k = tt
plus_stays f left (text x) (set y) h k = tt
plus_stays f left (atom x) (bool y) h k = tt
plus_stays f left (atom x) (int y) h k = tt
plus_stays f left (atom x) (text y) h k = tt
plus_stays f left (atom x) (atom y) h k = tt
plus_stays f left (atom x) (tuple y) h k = tt
plus_stays f left (atom x) (set y) h k = tt
plus_stays f left (tuple x) (bool y) h k = tt
plus_stays f left (tuple x) (int y) h k = tt
plus_stays f left (tuple x) (text y) h k = tt
plus_stays f left (tuple x) (atom y) h k = tt
plus_stays f left (tuple x) (tuple y) h k = tuple_again f x h (part_list x ++ part_list y) (each_append (HasPart (PartOf f)) (part_list x) (part_list y) (parts_of f x h) (parts_of f y k))
plus_stays f left (tuple x) (set y) h k = tt
plus_stays f left (set x) (bool y) h k = tt
plus_stays f left (set x) (int y) h k = tt
plus_stays f left (set x) (text y) h k = tt
plus_stays f left (set x) (atom y) h k = tt
plus_stays f left (set x) (tuple y) h k = tt
plus_stays f left (set x) (set y) h k = unions f x y h k (element_list x) (element_list y) (members_of f x h) (members_of f y k)

same_times : (f : Flow) → times_flow f f ≡ f
same_times (Scalar Whole) = refl
same_times (Scalar Letters) = refl
same_times (Scalar Truth) = refl
same_times (Scalar Token) = refl
same_times Nothing = refl
same_times (Set f) = refl
same_times (Tuple f) = refl
same_times (Map f g) = refl
same_times Any = refl

pub times_stays : (f : Flow) → Stays f times
times_stays f left d e h k = subst (λ g. In g (times left d e)) (same_times f) (times_in f f left d e h k)

truth_at : (f : Flow) (b c : Bool) → Has f (bool b) → Has f (bool c)
truth_at (Scalar Truth) b c h = tt
truth_at Any b c h = tt
truth_at (Scalar Letters) b c h = absurd h
truth_at (Scalar Whole) b c h = absurd h
truth_at (Scalar Token) b c h = absurd h
truth_at Nothing b c h = absurd h
truth_at (Set f) b c h = absurd h
truth_at (Tuple f) b c h = absurd h
truth_at (Map f g) b c h = absurd h

pub greater_stays : (f : Flow) → Stays f (λ now. greater)
greater_stays f left (bool x) (bool y) h k = tt
greater_stays f left (bool x) (int y) h k = tt
greater_stays f left (bool x) (text y) h k = tt
greater_stays f left (bool x) (atom y) h k = tt
greater_stays f left (bool x) (tuple y) h k = tt
greater_stays f left (bool x) (set y) h k = tt
greater_stays f left (int x) (bool y) h k = tt
greater_stays f left (int x) (int y) h k = whole_at f x h (Ok (if int_le x y then y else x))
greater_stays f left (int x) (text y) h k = tt
greater_stays f left (int x) (atom y) h k = tt
greater_stays f left (int x) (tuple y) h k = tt
greater_stays f left (int x) (set y) h k = tt
greater_stays f left (text x) (bool y) h k = tt
greater_stays f left (text x) (int y) h k = tt
greater_stays f left (text x) (text y) h k = tt
greater_stays f left (text x) (atom y) h k = tt
greater_stays f left (text x) (tuple y) h k = tt
greater_stays f left (text x) (set y) h k = tt
greater_stays f left (atom x) (bool y) h k = tt
greater_stays f left (atom x) (int y) h k = tt
greater_stays f left (atom x) (text y) h k = tt
greater_stays f left (atom x) (atom y) h k = tt
greater_stays f left (atom x) (tuple y) h k = tt
greater_stays f left (atom x) (set y) h k = tt
greater_stays f left (tuple x) (bool y) h k = tt
greater_stays f left (tuple x) (int y) h k = tt
greater_stays f left (tuple x) (text y) h k = tt
greater_stays f left (tuple x) (atom y) h k = tt
greater_stays f left (tuple x) (tuple y) h k = tt
greater_stays f left (tuple x) (set y) h k = tt
greater_stays f left (set x) (bool y) h k = tt
greater_stays f left (set x) (int y) h k = tt
greater_stays f left (set x) (text y) h k = tt
greater_stays f left (set x) (atom y) h k = tt
greater_stays f left (set x) (tuple y) h k = tt
greater_stays f left (set x) (set y) h k = tt

pub lesser_stays : (f : Flow) → Stays f (λ now. lesser)
lesser_stays f left (bool x) (bool y) h k = tt
lesser_stays f left (bool x) (int y) h k = tt
lesser_stays f left (bool x) (text y) h k = tt
lesser_stays f left (bool x) (atom y) h k = tt
lesser_stays f left (bool x) (tuple y) h k = tt
lesser_stays f left (bool x) (set y) h k = tt
lesser_stays f left (int x) (bool y) h k = tt
lesser_stays f left (int x) (int y) h k = whole_at f x h (Ok (if int_le x y then x else y))
lesser_stays f left (int x) (text y) h k = tt
lesser_stays f left (int x) (atom y) h k = tt
lesser_stays f left (int x) (tuple y) h k = tt
lesser_stays f left (int x) (set y) h k = tt
lesser_stays f left (text x) (bool y) h k = tt
lesser_stays f left (text x) (int y) h k = tt
lesser_stays f left (text x) (text y) h k = tt
lesser_stays f left (text x) (atom y) h k = tt
lesser_stays f left (text x) (tuple y) h k = tt
lesser_stays f left (text x) (set y) h k = tt
lesser_stays f left (atom x) (bool y) h k = tt
lesser_stays f left (atom x) (int y) h k = tt
lesser_stays f left (atom x) (text y) h k = tt
lesser_stays f left (atom x) (atom y) h k = tt
lesser_stays f left (atom x) (tuple y) h k = tt
lesser_stays f left (atom x) (set y) h k = tt
lesser_stays f left (tuple x) (bool y) h k = tt
lesser_stays f left (tuple x) (int y) h k = tt
lesser_stays f left (tuple x) (text y) h k = tt
lesser_stays f left (tuple x) (atom y) h k = tt
lesser_stays f left (tuple x) (tuple y) h k = tt
lesser_stays f left (tuple x) (set y) h k = tt
lesser_stays f left (set x) (bool y) h k = tt
lesser_stays f left (set x) (int y) h k = tt
lesser_stays f left (set x) (text y) h k = tt
lesser_stays f left (set x) (atom y) h k = tt
lesser_stays f left (set x) (tuple y) h k = tt
lesser_stays f left (set x) (set y) h k = tt

pub both_stays : (f : Flow) → Stays f (λ now. both)
both_stays f left (bool x) (bool y) h k = truth_at f x (x && y) h
both_stays f left (bool x) (int y) h k = tt
both_stays f left (bool x) (text y) h k = tt
both_stays f left (bool x) (atom y) h k = tt
both_stays f left (bool x) (tuple y) h k = tt
both_stays f left (bool x) (set y) h k = tt
both_stays f left (int x) (bool y) h k = tt
both_stays f left (int x) (int y) h k = tt
both_stays f left (int x) (text y) h k = tt
both_stays f left (int x) (atom y) h k = tt
both_stays f left (int x) (tuple y) h k = tt
both_stays f left (int x) (set y) h k = tt
both_stays f left (text x) (bool y) h k = tt
both_stays f left (text x) (int y) h k = tt
both_stays f left (text x) (text y) h k = tt
both_stays f left (text x) (atom y) h k = tt
both_stays f left (text x) (tuple y) h k = tt
both_stays f left (text x) (set y) h k = tt
both_stays f left (atom x) (bool y) h k = tt
both_stays f left (atom x) (int y) h k = tt
both_stays f left (atom x) (text y) h k = tt
both_stays f left (atom x) (atom y) h k = tt
both_stays f left (atom x) (tuple y) h k = tt
both_stays f left (atom x) (set y) h k = tt
both_stays f left (tuple x) (bool y) h k = tt
both_stays f left (tuple x) (int y) h k = tt
both_stays f left (tuple x) (text y) h k = tt
both_stays f left (tuple x) (atom y) h k = tt
both_stays f left (tuple x) (tuple y) h k = tt
both_stays f left (tuple x) (set y) h k = tt
both_stays f left (set x) (bool y) h k = tt
both_stays f left (set x) (int y) h k = tt
both_stays f left (set x) (text y) h k = tt
both_stays f left (set x) (atom y) h k = tt
both_stays f left (set x) (tuple y) h k = tt
both_stays f left (set x) (set y) h k = tt

pub either_stays : (f : Flow) → Stays f (λ now. either)
either_stays f left (bool x) (bool y) h k = truth_at f x (x || y) h
either_stays f left (bool x) (int y) h k = tt
either_stays f left (bool x) (text y) h k = tt
either_stays f left (bool x) (atom y) h k = tt
either_stays f left (bool x) (tuple y) h k = tt
either_stays f left (bool x) (set y) h k = tt
either_stays f left (int x) (bool y) h k = tt
either_stays f left (int x) (int y) h k = tt
either_stays f left (int x) (text y) h k = tt
either_stays f left (int x) (atom y) h k = tt
either_stays f left (int x) (tuple y) h k = tt
either_stays f left (int x) (set y) h k = tt
either_stays f left (text x) (bool y) h k = tt
either_stays f left (text x) (int y) h k = tt
either_stays f left (text x) (text y) h k = tt
either_stays f left (text x) (atom y) h k = tt
either_stays f left (text x) (tuple y) h k = tt
either_stays f left (text x) (set y) h k = tt
either_stays f left (atom x) (bool y) h k = tt
either_stays f left (atom x) (int y) h k = tt
either_stays f left (atom x) (text y) h k = tt
either_stays f left (atom x) (atom y) h k = tt
either_stays f left (atom x) (tuple y) h k = tt
either_stays f left (atom x) (set y) h k = tt
either_stays f left (tuple x) (bool y) h k = tt
either_stays f left (tuple x) (int y) h k = tt
either_stays f left (tuple x) (text y) h k = tt
either_stays f left (tuple x) (atom y) h k = tt
either_stays f left (tuple x) (tuple y) h k = tt
either_stays f left (tuple x) (set y) h k = tt
either_stays f left (set x) (bool y) h k = tt
either_stays f left (set x) (int y) h k = tt
either_stays f left (set x) (text y) h k = tt
either_stays f left (set x) (atom y) h k = tt
either_stays f left (set x) (tuple y) h k = tt
either_stays f left (set x) (set y) h k = tt
