-- The members of sets and the components of tuples in a flow.
use Rattle.std.proofs.Common.{◌≡◌, refl, subst, Bool, true, false, List, [], ◌∷◌, Option, Some, None}
use Rattle.std.specs.Prelude.{◌&&◌, is_some}
use Rattle.std.specs.List.{AllByRecursion, filter_map}
use Rattle.setl_value.specs.Datum.{Datum, bool, int, text, atom, tuple, set, no_part, om_then, part_then, element_list, part_list, set_of, tuple_of}
use Rattle.setl_value.specs.Pairs.{pair_parts, is_map, first_of, second_of, pairs_at, images, is_datum}
use Rattle.setl_map.specs.Maps.{only, image, domain_of}
use Rattle.setl_advise_flows.specs.Flow.{Kind, Whole, Letters, Truth, Token, Flow, Nothing, Scalar, Set, Tuple, Map, Any, join, tuple_flow}
use Rattle.setl_advise_flows.specs.Has.{IsOf, HasPart, HasPair, Has, HasAt}
use Rattle.setl_advise_flows.specs.Operators.{el, get_flow}
use Rattle.setl_advise_flows.proofs.Joining.{cap_covers, pair_is_tuple, joins}
use Rattle.setl_advise_flows.proofs.Lists.{each_filter, each_filter_map, each_set_from, set_has, tuple_has}

pub all_there : {X : Type 0} (ds : List X) → AllByRecursion (λ d. Unit {0}) ds
all_there [] = tt
all_there (d ∷ ds) = (tt, all_there ds)

pub no_set : (k : Kind) (ms : _) → IsOf k (set ms) → ⊥
no_set Whole ms h = h
no_set Letters ms h = h
no_set Truth ms h = h
no_set Token ms h = h

pub no_tuple : (k : Kind) (ps : _) → IsOf k (tuple ps) → ⊥
no_tuple Whole ps h = h
no_tuple Letters ps h = h
no_tuple Truth ps h = h
no_tuple Token ps h = h

abbrev pub MemberOf : Flow → Datum → Type 0
MemberOf (Set f) d = Has f d
MemberOf (Map f g) d = HasPair (Has f) (Has g) (pair_parts d)
MemberOf f d = Unit {0}

abbrev pub PartOf : Flow → Datum → Type 0
PartOf (Tuple f) d = Has f d
PartOf f d = Unit {0}

pub members_of : (f : Flow) (ms : _) → Has f (set ms) → AllByRecursion (MemberOf f) (element_list ms)
members_of (Set f) ms h = h
members_of (Map f g) ms h = h
members_of Any ms h = all_there (element_list ms)
members_of Nothing ms h = absurd h
members_of (Tuple f) ms h = absurd h
members_of (Scalar k) ms h = absurd (no_set k ms h)

-- another set of such members
pub set_again : (f : Flow) (ms : _) → Has f (set ms) → (ds : List Datum) → AllByRecursion (MemberOf f) ds → Has f (set_of ds)
set_again (Set f) ms h ds k = set_has (Has f) ds k
set_again (Map f g) ms h ds k = set_has (λ m. HasPair (Has f) (Has g) (pair_parts m)) ds k
set_again Any ms h ds k = tt
set_again Nothing ms h ds k = absurd h
set_again (Tuple f) ms h ds k = absurd h
set_again (Scalar k) ms h ds x = absurd (no_set k ms h)

pub pair_in : (f g : Flow) (d : Datum) → HasPair (Has f) (Has g) (pair_parts d) → Has (tuple_flow (join f g)) d
pair_in f g d h = cap_covers 3 (Tuple (join f g)) d (pair_is_tuple f g (join f g) (joins 3 f g).0 (joins 3 f g).1 d h)

-- a member is in the flow of the members
pub member_in : (f : Flow) (ms : _) → Has f (set ms) → (d : Datum) → MemberOf f d → Has (el f) d
member_in (Set f) ms h d k = k
member_in (Map f g) ms h d k = pair_in f g d k
member_in Any ms h d k = tt
member_in Nothing ms h d k = absurd h
member_in (Tuple f) ms h d k = absurd h
member_in (Scalar k) ms h d x = absurd (no_set k ms h)

pub parts_of : (f : Flow) (ps : _) → Has f (tuple ps) → AllByRecursion (HasPart (PartOf f)) (part_list ps)
parts_of (Tuple f) ps h = h
parts_of Any ps h = all_parts (part_list ps)
  where
    all_parts : (ps : List (Option Datum)) → AllByRecursion (HasPart (PartOf Any)) ps
    all_parts [] = tt
    all_parts (None ∷ ps) = (tt, all_parts ps)
    all_parts (Some d ∷ ps) = (tt, all_parts ps)
parts_of Nothing ps h = absurd h
parts_of (Set f) ps h = absurd h
parts_of (Map f g) ps h = absurd h
parts_of (Scalar k) ps h = absurd (no_tuple k ps h)

pub tuple_again : (f : Flow) (ps : _) → Has f (tuple ps) → (qs : List (Option Datum)) → AllByRecursion (HasPart (PartOf f)) qs → Has f (tuple_of qs)
tuple_again (Tuple f) ps h qs k = tuple_has (Has f) qs k
tuple_again Any ps h qs k = tt
tuple_again Nothing ps h qs k = absurd h
tuple_again (Set f) ps h qs k = absurd h
tuple_again (Map f g) ps h qs k = absurd h
tuple_again (Scalar k) ps h qs x = absurd (no_tuple k ps h)

pub part_in : (f : Flow) (ps : _) → Has f (tuple ps) → (v : Option Datum) → HasPart (PartOf f) v → HasAt (el f) v
part_in f ps h None k = tt
part_in (Tuple f) ps h (Some d) k = k
part_in Any ps h (Some d) k = tt
part_in Nothing ps h (Some d) k = absurd h
part_in (Set f) ps h (Some d) k = absurd h
part_in (Map f g) ps h (Some d) k = absurd h
part_in (Scalar k) ps h (Some d) x = absurd (no_tuple k ps h)

-- ---- maps

both_true : (a b : Bool) → a && b ≡ true → (a ≡ true) × (b ≡ true)
both_true true true h = (refl, refl)
both_true true false h = (refl, h)
both_true false b h = cc

-- the flow of the arguments of a map
abbrev pub arg_flow : Flow → Flow
arg_flow (Map f g) = f
arg_flow f = get_flow f

pair_of_tuple : (f : Flow) (d : Datum) → Has (Tuple f) d → is_some (pair_parts d) ≡ true → HasPair (Has f) (Has f) (pair_parts d)
pair_of_tuple f (tuple (part_then x (part_then y no_part))) h e = (h.0, h.1.0)
pair_of_tuple f (tuple no_part) h e = cc
pair_of_tuple f (tuple (om_then ps)) h e = cc
pair_of_tuple f (tuple (part_then x no_part)) h e = cc
pair_of_tuple f (tuple (part_then x (om_then ps))) h e = cc
pair_of_tuple f (tuple (part_then x (part_then y (om_then ps)))) h e = cc
pair_of_tuple f (tuple (part_then x (part_then y (part_then z ps)))) h e = cc
pair_of_tuple f (bool b) h e = absurd h
pair_of_tuple f (int b) h e = absurd h
pair_of_tuple f (text b) h e = absurd h
pair_of_tuple f (atom b) h e = absurd h
pair_of_tuple f (set b) h e = absurd h

any_pair : (o : Option (Datum × Datum)) → is_some o ≡ true → HasPair (Has Any) (Has Any) o
any_pair (Some q) e = (tt, tt)
any_pair None e = cc

each_pair : (P Q R : Datum → Type 0) → ((d : Datum) → P d → is_some (pair_parts d) ≡ true → HasPair Q R (pair_parts d)) → (ds : List Datum) → AllByRecursion P ds → is_map ds ≡ true → AllByRecursion (λ m. HasPair Q R (pair_parts m)) ds
each_pair P Q R f [] h e = tt
each_pair P Q R f (d ∷ ds) h e =
    let both = both_true (is_some (pair_parts d)) (is_map ds) e in (f d h.0 both.0, each_pair P Q R f ds h.1 both.1)

pub pairs_of : (f : Flow) (ms : _) → Has f (set ms) → is_map (element_list ms) ≡ true → AllByRecursion (λ m. HasPair (Has (arg_flow f)) (Has (get_flow f)) (pair_parts m)) (element_list ms)
pairs_of (Map f g) ms h e = h
pairs_of (Set (Tuple f)) ms h e = each_pair (Has (Tuple f)) (Has f) (Has f) (pair_of_tuple f) (element_list ms) h e
pairs_of (Set Nothing) ms h e = each_pair (Has Nothing) (Has Nothing) (Has Nothing) (λ d x e. absurd x) (element_list ms) h e
pairs_of (Set Any) ms h e = each_pair (Has Any) (Has Any) (Has Any) (λ d x e. any_pair (pair_parts d) e) (element_list ms) h e
pairs_of (Set (Scalar k)) ms h e = each_pair (Has (Scalar k)) (Has Any) (Has Any) (λ d x e. any_pair (pair_parts d) e) (element_list ms) h e
pairs_of (Set (Set g)) ms h e = each_pair (Has (Set g)) (Has Any) (Has Any) (λ d x e. any_pair (pair_parts d) e) (element_list ms) h e
pairs_of (Set (Map g k)) ms h e = each_pair (Has (Map g k)) (Has Any) (Has Any) (λ d x e. any_pair (pair_parts d) e) (element_list ms) h e
pairs_of Any ms h e = each_pair (λ d. Unit {0}) (Has Any) (Has Any) (λ d x e. any_pair (pair_parts d) e) (element_list ms) (all_there (element_list ms)) e
pairs_of Nothing ms h e = absurd h
pairs_of (Tuple f) ms h e = absurd h
pairs_of (Scalar k) ms h e = absurd (no_set k ms h)

abbrev pub Pairs : (Datum → Type 0) → (Datum → Type 0) → List Datum → Type 0
Pairs P Q ds = AllByRecursion (λ m. HasPair P Q (pair_parts m)) ds

pub second_by : (P Q : Datum → Type 0) (o : Option (Datum × Datum)) → HasPair P Q o → (y : Datum) → second_of o ≡ Some y → Q y
second_by P Q (Some q) h y e = subst (λ o. HasPart Q o) e h.1
second_by P Q None h y e = absurd h

first_by : (P Q : Datum → Type 0) (o : Option (Datum × Datum)) → HasPair P Q o → (y : Datum) → first_of o ≡ Some y → P y
first_by P Q (Some q) h y e = subst (λ o. HasPart P o) e h.0
first_by P Q None h y e = absurd h

pub images_in : (P Q : Datum → Type 0) (x : Datum) (ds : List Datum) → Pairs P Q ds → AllByRecursion Q (images x ds)
images_in P Q x ds h =
    each_filter_map (λ m. HasPair P Q (pair_parts m)) Q (λ d. second_of (pair_parts d)) (λ m k y e. second_by P Q (pair_parts m) k y e) (pairs_at x ds)
    (each_filter (λ m. HasPair P Q (pair_parts m)) (λ d. is_datum x (first_of (pair_parts d))) ds h)

pub image_in : (P Q : Datum → Type 0) (x : Datum) (ds : List Datum) → Pairs P Q ds → HasPart Q (image x ds)
image_in P Q x ds h = go (images x ds) (images_in P Q x ds h)
  where
    go : (ys : List Datum) → AllByRecursion Q ys → HasPart Q (only ys)
    go [] k = tt
    go (y ∷ []) k = k.0
    go (y ∷ z ∷ ys) k = tt

pub domain_in : (P Q : Datum → Type 0) (ds : List Datum) → Pairs P Q ds → AllByRecursion P (domain_of ds)
domain_in P Q ds h =
    each_set_from P (filter_map (λ d. first_of (pair_parts d)) ds)
    (each_filter_map (λ m. HasPair P Q (pair_parts m)) P (λ d. first_of (pair_parts d)) (λ m k y e. first_by P Q (pair_parts m) k y e) ds h)
