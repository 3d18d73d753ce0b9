-- Selections, enumerations, ranges and comparisons give what their flows have.
use Rattle.std.proofs.Common.{ℕ, zero, suc, Bool, true, false, List, [], ◌∷◌, Option, Some, None}
use Rattle.std.specs.Prelude.{Ok, Err, ◌+ℤ◌, ℤ, pos, int_le, map, slice_get, if◌then◌else◌}
use Rattle.std.specs.List.{AllByRecursion, filter_map}
use Rattle.std.specs.Option.{option_map, option_flatten}
use Rattle.setl_value.specs.Datum.{Datum, bool, int, text, atom, tuple, set, element_list, part_list, set_of}
use Rattle.setl_value.specs.Pairs.{pair_parts, images, second_of}
use Rattle.setl_set.specs.Sets.{set_from}
use Rattle.setl_tuple.specs.Tuples.{index_of, get_of}
use Rattle.setl_tuple.specs.declared.TupleFault.TheVariants.{Range}
use Rattle.setl_map.specs.Maps.{image, domain_of, range_of}
use Rattle.setl_operators_table.specs.Outcome.{Outcome, Gives, Fails, RangeFault, set_value, all_values, one_more}
use Rattle.setl_operators_table.specs.Truths.{is_below, is_at_most}
use Rattle.setl_operators_table.specs.Collections.{size, least, least_member, domain, range, enumerate_set}
use Rattle.setl_operators_table.specs.Selections.{get, images_of, letter, component}
use Rattle.setl_operators_table.specs.Ranges.{spread, range_size, range_from}
use Rattle.setl_operators_table.specs.RangeRows.{as_set, as_tuple, range_of_integers}
use Rattle.setl_advise_flows.specs.Flow.{Whole, Letters, Truth, Token, Flow, Nothing, Scalar, Set, Tuple, Map, Any, join, set_flow, map_flow}
use Rattle.setl_advise_flows.specs.Has.{HasPart, HasPair, Has, HasAt}
use Rattle.setl_advise_flows.specs.Operators.{el, Shape, Plain, Constant, Written, flows, HaveShapes, Have, get_flow, images_flow, domain_flow, all_joined, all_pairs, pair_joined, map_if, enumeration_flow}
use Rattle.setl_advise_flows.proofs.Joining.{cap_covers, joins, each_by, part_by, pair_by}
use Rattle.setl_advise_flows.proofs.Moving.{in_flow, at_by}
use Rattle.setl_advise_flows.proofs.Lists.{each_set_from, each_map, each_filter_map, set_has, tuple_has}
use Rattle.setl_advise_flows.proofs.Views.{no_set, no_tuple, MemberOf, PartOf, members_of, member_in, parts_of, pairs_of, images_in, image_in, domain_in, arg_flow, Pairs, second_by}
use Rattle.setl_advise_flows.proofs.Operators.{In, if_in, deep_in, charged_in, mapped_in}

-- ---- f(x), f{x}, domain, range, arb

part_got : (f : Flow) (x : _) → Has f (tuple x) → (v : Option Datum) → HasPart (PartOf f) v → HasAt (get_flow f) v
part_got f x h None k = tt
part_got (Tuple f) x h (Some d) k = k
part_got Any x h (Some d) k = tt
part_got Nothing x h (Some d) k = absurd h
part_got (Set f) x h (Some d) k = absurd h
part_got (Map f g) x h (Some d) k = absurd h
part_got (Scalar q) x h (Some d) k = absurd (no_tuple q x h)

at_place : (P : Datum → Type 0) (ps : List (Option Datum)) (n : ℕ) → AllByRecursion (HasPart P) ps → HasPart P (option_flatten (slice_get ps n))
at_place P [] n h = tt
at_place P (None ∷ ps) zero h = tt
at_place P (Some d ∷ ps) zero h = h.0
at_place P (p ∷ ps) (suc n) h = at_place P ps n h.1

component_in : (f : Flow) (x : _) → Has f (tuple x) → (i : ℤ) → In (get_flow f) (component (get_of (part_list x) i))
component_in f x h i = go (int_le (pos 1) i)
  where
    go : (b : Bool) → In (get_flow f) (component (if b then Ok (option_flatten (slice_get (part_list x) (index_of i))) else Err Range))
    go true = part_got f x h (option_flatten (slice_get (part_list x) (index_of i))) (at_place (PartOf f) (part_list x) (index_of i) (parts_of f x h))
    go false = tt

letter_in : (f : Flow) (t : List ℕ) → Has f (text t) → (i : ℤ) → In (get_flow f) (letter t i)
letter_in f t h i = if_in (get_flow f) (int_le (pos 1) i) (Gives (option_map (λ b. text (b ∷ [])) (slice_get t (index_of i))) 0) (Fails RangeFault) (go f h (slice_get t (index_of i))) tt
  where
    go : (f : Flow) → Has f (text t) → (o : Option ℕ) → HasAt (get_flow f) (option_map (λ b. text (b ∷ [])) o)
    go f h None = tt
    go (Scalar Letters) h (Some b) = tt
    go Any h (Some b) = tt
    go (Scalar Whole) h (Some b) = absurd h
    go (Scalar Truth) h (Some b) = absurd h
    go (Scalar Token) h (Some b) = absurd h
    go Nothing h (Some b) = absurd h
    go (Set f) h (Some b) = absurd h
    go (Tuple f) h (Some b) = absurd h
    go (Map f g) h (Some b) = absurd h

pub get_in : (f : Flow) (d e : Datum) → Has f d → In (get_flow f) (get d e)
get_in f (bool x) (bool y) h = tt
get_in f (bool x) (int y) h = tt
get_in f (bool x) (text y) h = tt
get_in f (bool x) (atom y) h = tt
get_in f (bool x) (tuple y) h = tt
get_in f (bool x) (set y) h = tt
get_in f (int x) (bool y) h = tt
get_in f (int x) (int y) h = tt
get_in f (int x) (text y) h = tt
get_in f (int x) (atom y) h = tt
get_in f (int x) (tuple y) h = tt
get_in f (int x) (set y) h = tt
get_in f (text x) (bool y) h = tt
get_in f (text x) (int y) h = letter_in f x h y
get_in f (text x) (text y) h = tt
get_in f (text x) (atom y) h = tt
get_in f (text x) (tuple y) h = tt
get_in f (text x) (set y) h = tt
get_in f (atom x) (bool y) h = tt
get_in f (atom x) (int y) h = tt
get_in f (atom x) (text y) h = tt
get_in f (atom x) (atom y) h = tt
get_in f (atom x) (tuple y) h = tt
get_in f (atom x) (set y) h = tt
get_in f (tuple x) (bool y) h = tt
get_in f (tuple x) (int y) h = component_in f x h y
get_in f (tuple x) (text y) h = tt
get_in f (tuple x) (atom y) h = tt
get_in f (tuple x) (tuple y) h = tt
get_in f (tuple x) (set y) h = tt
get_in f (set x) (bool y) h = mapped_in (get_flow f) (λ m. Gives (image (bool y) m) 0) (element_list x) (λ q. image_in (Has (arg_flow f)) (Has (get_flow f)) (bool y) (element_list x) (pairs_of f x h q))
get_in f (set x) (int y) h = mapped_in (get_flow f) (λ m. Gives (image (int y) m) 0) (element_list x) (λ q. image_in (Has (arg_flow f)) (Has (get_flow f)) (int y) (element_list x) (pairs_of f x h q))
get_in f (set x) (text y) h = mapped_in (get_flow f) (λ m. Gives (image (text y) m) 0) (element_list x) (λ q. image_in (Has (arg_flow f)) (Has (get_flow f)) (text y) (element_list x) (pairs_of f x h q))
get_in f (set x) (atom y) h = mapped_in (get_flow f) (λ m. Gives (image (atom y) m) 0) (element_list x) (λ q. image_in (Has (arg_flow f)) (Has (get_flow f)) (atom y) (element_list x) (pairs_of f x h q))
get_in f (set x) (tuple y) h = mapped_in (get_flow f) (λ m. Gives (image (tuple y) m) 0) (element_list x) (λ q. image_in (Has (arg_flow f)) (Has (get_flow f)) (tuple y) (element_list x) (pairs_of f x h q))
get_in f (set x) (set y) h = mapped_in (get_flow f) (λ m. Gives (image (set y) m) 0) (element_list x) (λ q. image_in (Has (arg_flow f)) (Has (get_flow f)) (set y) (element_list x) (pairs_of f x h q))

-- a set of images, and of arguments
images_made : (f : Flow) (x : _) → Has f (set x) → (ds : List Datum) → AllByRecursion (Has (get_flow f)) ds → Has (images_flow f) (set_of ds)
images_made (Map f g) x h ds k = cap_covers 3 (Set g) (set_of ds) (set_has (Has g) ds k)
images_made (Set (Tuple f)) x h ds k = cap_covers 3 (Set f) (set_of ds) (set_has (Has f) ds k)
images_made (Set Nothing) x h ds k = set_has (Has Nothing) ds k
images_made (Set Any) x h ds k = tt
images_made (Set (Scalar q)) x h ds k = tt
images_made (Set (Set g)) x h ds k = tt
images_made (Set (Map g q)) x h ds k = tt
images_made Any x h ds k = tt
images_made Nothing x h ds k = absurd h
images_made (Tuple f) x h ds k = absurd h
images_made (Scalar q) x h ds k = absurd (no_set q x h)

domain_made : (f : Flow) (x : _) → Has f (set x) → (ds : List Datum) → AllByRecursion (Has (arg_flow f)) ds → Has (domain_flow f) (set_of ds)
domain_made (Map f g) x h ds k = cap_covers 3 (Set f) (set_of ds) (set_has (Has f) ds k)
domain_made (Set f) x h ds k = images_made (Set f) x h ds k
domain_made Any x h ds k = tt
domain_made Nothing x h ds k = absurd h
domain_made (Tuple f) x h ds k = absurd h
domain_made (Scalar q) x h ds k = absurd (no_set q x h)

pub images_of_in : (f : Flow) (d e : Datum) → Has f d → In (images_flow f) (images_of d e)
images_of_in f (bool x) e h = tt
images_of_in f (int x) e h = tt
images_of_in f (text x) e h = tt
images_of_in f (atom x) e h = tt
images_of_in f (tuple x) e h = tt
images_of_in f (set x) e h = mapped_in (images_flow f) (λ m. set_value (images e m)) (element_list x) (λ q. images_made f x h (images e (element_list x)) (images_in (Has (arg_flow f)) (Has (get_flow f)) e (element_list x) (pairs_of f x h q)))

pub domain_is_in : (f : Flow) (d : Datum) → Has f d → In (domain_flow f) (domain d)
domain_is_in f (bool x) h = tt
domain_is_in f (int x) h = tt
domain_is_in f (text x) h = tt
domain_is_in f (atom x) h = tt
domain_is_in f (tuple x) h = tt
domain_is_in f (set x) h = mapped_in (domain_flow f) (λ m. set_value (domain_of m)) (element_list x) (λ q. domain_made f x h (domain_of (element_list x)) (domain_in (Has (arg_flow f)) (Has (get_flow f)) (element_list x) (pairs_of f x h q)))

seconds_in : (P Q : Datum → Type 0) (ds : List Datum) → Pairs P Q ds → AllByRecursion Q (range_of ds)
seconds_in P Q ds h =
    each_set_from Q (filter_map (λ d. second_of (pair_parts d)) ds)
    (each_filter_map (λ m. HasPair P Q (pair_parts m)) Q (λ d. second_of (pair_parts d)) (λ m k y e. second_by P Q (pair_parts m) k y e) ds h)

pub range_is_in : (f : Flow) (d : Datum) → Has f d → In (images_flow f) (range d)
range_is_in f (bool x) h = tt
range_is_in f (int x) h = tt
range_is_in f (text x) h = tt
range_is_in f (atom x) h = tt
range_is_in f (tuple x) h = tt
range_is_in f (set x) h = mapped_in (images_flow f) (λ m. set_value (range_of m)) (element_list x) (λ q. images_made f x h (range_of (element_list x)) (seconds_in (Has (arg_flow f)) (Has (get_flow f)) (element_list x) (pairs_of f x h q)))

least_is_in : (f : Flow) (x : _) → Has f (set x) → (ds : List Datum) → AllByRecursion (MemberOf f) ds → HasAt (el f) (least ds)
least_is_in f x h [] k = tt
least_is_in f x h (d ∷ ds) k = member_in f x h d k.0

pub arb_in : (f : Flow) (d : Datum) → Has f d → In (el f) (least_member d)
arb_in f (bool x) h = tt
arb_in f (int x) h = tt
arb_in f (text x) h = tt
arb_in f (atom x) h = tt
arb_in f (tuple x) h = tt
arb_in f (set x) h = least_is_in f x h (element_list x) (members_of f x h)

-- ---- enumerations

-- shapes of operands as lists of flows
pub have_flows : (ws : List Shape) (vs : List (Option Datum)) → HaveShapes ws vs → Have (flows ws) vs
have_flows [] [] h = tt
have_flows (w ∷ ws) (v ∷ vs) h = (in_flow w v h.0, have_flows ws vs h.1)
have_flows [] (v ∷ vs) h = absurd h
have_flows (w ∷ ws) [] h = absurd h

pub joined_parts : (fs : List Flow) (vs : List (Option Datum)) → Have fs vs → AllByRecursion (HasPart (Has (all_joined fs))) vs
joined_parts [] [] h = tt
joined_parts (f ∷ fs) (v ∷ vs) h =
    let j = all_joined fs in
    (at_by f (join f j) (joins 3 f j).0 v h.0, each_by (HasPart (Has j)) (HasPart (Has (join f j))) (at_by j (join f j) (joins 3 f j).1) vs (joined_parts fs vs h.1))
joined_parts [] (v ∷ vs) h = absurd h
joined_parts (f ∷ fs) [] h = absurd h

abbrev ValuesHave : (Datum → Type 0) → Option (List Datum) → Type 0
ValuesHave P None = Unit {0}
ValuesHave P (Some ds) = AllByRecursion P ds

values_have : (P : Datum → Type 0) (vs : List (Option Datum)) → AllByRecursion (HasPart P) vs → ValuesHave P (all_values vs)
values_have P [] h = tt
values_have P (None ∷ vs) h = tt
values_have P (Some d ∷ vs) h = go (all_values vs) (values_have P vs h.1)
  where
    go : (o : Option (List Datum)) → ValuesHave P o → ValuesHave P (one_more d o)
    go None k = tt
    go (Some ds) k = (h.0, k)

set_made : (f : Flow) (P : Datum → Type 0) → ((ds : List Datum) → AllByRecursion P ds → Has f (set_of ds)) → (o : Option (List Datum)) → ValuesHave P o → In f (enumerate_set o)
set_made f P whole None h = tt
set_made f P whole (Some ds) h = deep_in f (set_of (set_from ds)) (whole (set_from ds) (each_set_from P ds h))

abbrev PairsBy : Option (Flow × Flow) → Datum → Type 0
PairsBy None d = Unit {0}
PairsBy (Some p) d = HasPair (Has p.0) (Has p.1) (pair_parts d)

all_true : (vs : List (Option Datum)) → AllByRecursion (HasPart (PairsBy None)) vs
all_true [] = tt
all_true (None ∷ vs) = (tt, all_true vs)
all_true (Some d ∷ vs) = (tt, all_true vs)

written_pairs : (ws : List Shape) (vs : List (Option Datum)) → HaveShapes ws vs → AllByRecursion (HasPart (PairsBy (all_pairs ws))) vs
written_pairs [] [] h = tt
written_pairs (Written f g ∷ ws) (Some d ∷ vs) h = go (all_pairs ws) (written_pairs ws vs h.1)
  where
    go : (o : Option (Flow × Flow)) → AllByRecursion (HasPart (PairsBy o)) vs → AllByRecursion (HasPart (PairsBy (pair_joined (Written f g) o))) (Some d ∷ vs)
    go None k = (tt, k)
    go (Some p) k = (
      pair_by (Has f) (Has g) (Has (join f p.0)) (Has (join g p.1)) (joins 3 f p.0).0 (joins 3 g p.1).0 (pair_parts d) h.0,
      each_by (HasPart (PairsBy (Some p))) (HasPart (PairsBy (Some (join f p.0, join g p.1))))
          (part_by (PairsBy (Some p)) (PairsBy (Some (join f p.0, join g p.1))) (λ d m. pair_by (Has p.0) (Has p.1) (Has (join f p.0)) (Has (join g p.1)) (joins 3 f p.0).1 (joins 3 g p.1).1 (pair_parts d) m)) vs k,
    )
written_pairs (Written f g ∷ ws) (None ∷ vs) h = absurd h.0
written_pairs (Plain f ∷ ws) (v ∷ vs) h = all_true (v ∷ vs)
written_pairs (Constant f ∷ ws) (v ∷ vs) h = all_true (v ∷ vs)
written_pairs [] (v ∷ vs) h = absurd h
written_pairs (w ∷ ws) [] h = absurd h

pub set_enumerated : (ws : List Shape) (vs : List (Option Datum)) → HaveShapes ws vs → In (enumeration_flow ws) (enumerate_set (all_values vs))
set_enumerated [] [] h = deep_in (Set Nothing) (set_of []) tt
set_enumerated (w ∷ ws) vs h = go (all_pairs (w ∷ ws)) (written_pairs (w ∷ ws) vs h)
  where
    plain : In (set_flow (all_joined (flows (w ∷ ws)))) (enumerate_set (all_values vs))
    plain =
        let j = all_joined (flows (w ∷ ws)) in
        set_made (set_flow j) (Has j) (λ ds k. cap_covers 3 (Set j) (set_of ds) (set_has (Has j) ds k)) (all_values vs) (values_have (Has j) vs (joined_parts (flows (w ∷ ws)) vs (have_flows (w ∷ ws) vs h)))

    go : (o : Option (Flow × Flow)) → AllByRecursion (HasPart (PairsBy o)) vs → In (map_if o (set_flow (all_joined (flows (w ∷ ws))))) (enumerate_set (all_values vs))
    go None k = plain
    go (Some p) k = set_made (map_flow p.0 p.1) (PairsBy (Some p)) (λ ds m. cap_covers 3 (Map p.0 p.1) (set_of ds) (set_has (PairsBy (Some p)) ds m)) (all_values vs) (values_have (PairsBy (Some p)) vs k)
set_enumerated [] (v ∷ vs) h = absurd h

-- ---- ranges

pub ints : (a by : ℤ) (n : ℕ) → AllByRecursion (Has (Scalar Whole)) (spread a by n)
ints a by zero = tt
ints a by (suc n) = (tt, ints (a +ℤ by) by n)

pub set_of_ints : (ds : List Datum) → AllByRecursion (Has (Scalar Whole)) ds → In (Set (Scalar Whole)) (as_set ds)
set_of_ints ds h = set_has (Has (Scalar Whole)) (set_from ds) (each_set_from (Has (Scalar Whole)) ds h)

pub tuple_of_ints : (ds : List Datum) → AllByRecursion (Has (Scalar Whole)) ds → In (Tuple (Scalar Whole)) (as_tuple ds)
tuple_of_ints ds h = tuple_has (Has (Scalar Whole)) (map Some ds) (each_map (Has (Scalar Whole)) (HasPart (Has (Scalar Whole))) Some (λ d k. k) ds h)

pub range_in : (f : Flow) (make : List Datum → Outcome) → ((ds : List Datum) → AllByRecursion (Has (Scalar Whole)) ds → In f (make ds)) → (left : ℕ) (d e : Datum) → In f (range_of_integers make left d e)
range_in f make k left (bool x) (bool y) = tt
range_in f make k left (bool x) (int y) = tt
range_in f make k left (bool x) (text y) = tt
range_in f make k left (bool x) (atom y) = tt
range_in f make k left (bool x) (tuple y) = tt
range_in f make k left (bool x) (set y) = tt
range_in f make k left (int x) (bool y) = tt
range_in f make k left (int x) (int y) = charged_in f (range_size x y) left (make (range_from x y)) (k (range_from x y) (ints x (pos 1) (range_size x y)))
range_in f make k left (int x) (text y) = tt
range_in f make k left (int x) (atom y) = tt
range_in f make k left (int x) (tuple y) = tt
range_in f make k left (int x) (set y) = tt
range_in f make k left (text x) (bool y) = tt
range_in f make k left (text x) (int y) = tt
range_in f make k left (text x) (text y) = tt
range_in f make k left (text x) (atom y) = tt
range_in f make k left (text x) (tuple y) = tt
range_in f make k left (text x) (set y) = tt
range_in f make k left (atom x) (bool y) = tt
range_in f make k left (atom x) (int y) = tt
range_in f make k left (atom x) (text y) = tt
range_in f make k left (atom x) (atom y) = tt
range_in f make k left (atom x) (tuple y) = tt
range_in f make k left (atom x) (set y) = tt
range_in f make k left (tuple x) (bool y) = tt
range_in f make k left (tuple x) (int y) = tt
range_in f make k left (tuple x) (text y) = tt
range_in f make k left (tuple x) (atom y) = tt
range_in f make k left (tuple x) (tuple y) = tt
range_in f make k left (tuple x) (set y) = tt
range_in f make k left (set x) (bool y) = tt
range_in f make k left (set x) (int y) = tt
range_in f make k left (set x) (text y) = tt
range_in f make k left (set x) (atom y) = tt
range_in f make k left (set x) (tuple y) = tt
range_in f make k left (set x) (set y) = tt

-- ---- comparisons

pub below_in : (d e : Datum) → In (Scalar Truth) (is_below d e)
below_in (bool x) (bool y) = tt
below_in (bool x) (int y) = tt
below_in (bool x) (text y) = tt
below_in (bool x) (atom y) = tt
below_in (bool x) (tuple y) = tt
below_in (bool x) (set y) = tt
below_in (int x) (bool y) = tt
below_in (int x) (int y) = tt
below_in (int x) (text y) = tt
below_in (int x) (atom y) = tt
below_in (int x) (tuple y) = tt
below_in (int x) (set y) = tt
below_in (text x) (bool y) = tt
below_in (text x) (int y) = tt
below_in (text x) (text y) = tt
below_in (text x) (atom y) = tt
below_in (text x) (tuple y) = tt
below_in (text x) (set y) = tt
below_in (atom x) (bool y) = tt
below_in (atom x) (int y) = tt
below_in (atom x) (text y) = tt
below_in (atom x) (atom y) = tt
below_in (atom x) (tuple y) = tt
below_in (atom x) (set y) = tt
below_in (tuple x) (bool y) = tt
below_in (tuple x) (int y) = tt
below_in (tuple x) (text y) = tt
below_in (tuple x) (atom y) = tt
below_in (tuple x) (tuple y) = tt
below_in (tuple x) (set y) = tt
below_in (set x) (bool y) = tt
below_in (set x) (int y) = tt
below_in (set x) (text y) = tt
below_in (set x) (atom y) = tt
below_in (set x) (tuple y) = tt
below_in (set x) (set y) = tt

pub at_most_in : (d e : Datum) → In (Scalar Truth) (is_at_most d e)
at_most_in (bool x) (bool y) = tt
at_most_in (bool x) (int y) = tt
at_most_in (bool x) (text y) = tt
at_most_in (bool x) (atom y) = tt
at_most_in (bool x) (tuple y) = tt
at_most_in (bool x) (set y) = tt
at_most_in (int x) (bool y) = tt
at_most_in (int x) (int y) = tt
at_most_in (int x) (text y) = tt
at_most_in (int x) (atom y) = tt
at_most_in (int x) (tuple y) = tt
at_most_in (int x) (set y) = tt
at_most_in (text x) (bool y) = tt
at_most_in (text x) (int y) = tt
at_most_in (text x) (text y) = tt
at_most_in (text x) (atom y) = tt
at_most_in (text x) (tuple y) = tt
at_most_in (text x) (set y) = tt
at_most_in (atom x) (bool y) = tt
at_most_in (atom x) (int y) = tt
at_most_in (atom x) (text y) = tt
at_most_in (atom x) (atom y) = tt
at_most_in (atom x) (tuple y) = tt
at_most_in (atom x) (set y) = tt
at_most_in (tuple x) (bool y) = tt
at_most_in (tuple x) (int y) = tt
at_most_in (tuple x) (text y) = tt
at_most_in (tuple x) (atom y) = tt
at_most_in (tuple x) (tuple y) = tt
at_most_in (tuple x) (set y) = tt
at_most_in (set x) (bool y) = tt
at_most_in (set x) (int y) = tt
at_most_in (set x) (text y) = tt
at_most_in (set x) (atom y) = tt
at_most_in (set x) (tuple y) = tt
at_most_in (set x) (set y) = tt

pub size_in : (d : Datum) → In (Scalar Whole) (size d)
size_in (bool x) = tt
size_in (int x) = tt
size_in (text x) = tt
size_in (atom x) = tt
size_in (tuple x) = tt
size_in (set x) = tt
