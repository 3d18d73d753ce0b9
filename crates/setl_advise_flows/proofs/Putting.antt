-- The wholes after `f(x) := y` and `f{x} := s`.
use Rattle.std.proofs.Common.{ℕ, List, [], ◌∷◌, Option, Some, None}
use Rattle.std.specs.Prelude.{◌++◌, ◌+◌, ◌-◌, pos, not, int_le, take, drop, replicate, length, map}
use Rattle.std.specs.List.{AllByRecursion}
use Rattle.setl_value.specs.Datum.{Datum, bool, int, text, atom, tuple, set, element_list, part_list, set_of, tuple_of}
use Rattle.setl_value.specs.Pairs.{pair, pair_parts, is_datum, first_of}
use Rattle.setl_set.specs.Sets.{insert_datum}
use Rattle.setl_tuple.specs.Tuples.{index_of, put_of}
use Rattle.setl_map.specs.Maps.{without_point, put_image, put_images}
use Rattle.setl_operators_table.specs.Outcome.{Fails, RangeFault, within_depth}
use Rattle.setl_operators_table.specs.Puts.{put_part, put_value, put}
use Rattle.setl_advise_flows.specs.Flow.{Flow, Nothing, Scalar, Set, Tuple, Map, Any, join, tuple_flow}
use Rattle.setl_advise_flows.specs.Has.{HasPart, HasPair, Has, HasAt}
use Rattle.setl_advise_flows.specs.Operators.{Have, put_flow, three_flows}
use Rattle.setl_advise_flows.proofs.Joining.{cap_covers, each_by, part_by, pair_by}
use Rattle.setl_advise_flows.proofs.Moving.{at_by}
use Rattle.setl_advise_flows.proofs.Lists.{each_append, each_filter, each_insert, each_map, each_union, each_take, each_drop, each_replicate, each_trim, set_has, tuple_has}
use Rattle.setl_advise_flows.proofs.Views.{no_set, no_tuple, MemberOf, members_of, pair_in}
use Rattle.setl_advise_flows.proofs.Operators.{In, if_in, deep_in, charged_in, mapped_in, left_in, right_in}

-- the members of a map after a part was put, and the flow of the whole
abbrev MapWith : Flow → Flow → Flow → Datum → Type 0
MapWith (Map f g) b c d = HasPair (Has (join f b)) (Has (join g c)) (pair_parts d)
MapWith (Set Nothing) b c d = HasPair (Has b) (Has c) (pair_parts d)
MapWith (Set h) b c d = Has (join h (tuple_flow (join b c))) d
MapWith a b c d = Unit {0}

old_kept : (a b c : Flow) (ms : _) → Has a (set ms) → AllByRecursion (MapWith a b c) (element_list ms)
old_kept (Map f g) b c ms h =
    each_by (MemberOf (Map f g)) (MapWith (Map f g) b c) (λ d m. pair_by (Has f) (Has g) (Has (join f b)) (Has (join g c)) (left_in f b) (left_in g c) (pair_parts d) m) (element_list ms) h
old_kept (Set Nothing) b c ms h = each_by (Has Nothing) (MapWith (Set Nothing) b c) (λ d m. absurd m) (element_list ms) h
old_kept (Set Any) b c ms h = each_by (Has Any) (MapWith (Set Any) b c) (left_in Any (tuple_flow (join b c))) (element_list ms) h
old_kept (Set (Scalar k)) b c ms h = each_by (Has (Scalar k)) (MapWith (Set (Scalar k)) b c) (left_in (Scalar k) (tuple_flow (join b c))) (element_list ms) h
old_kept (Set (Set f)) b c ms h = each_by (Has (Set f)) (MapWith (Set (Set f)) b c) (left_in (Set f) (tuple_flow (join b c))) (element_list ms) h
old_kept (Set (Tuple f)) b c ms h = each_by (Has (Tuple f)) (MapWith (Set (Tuple f)) b c) (left_in (Tuple f) (tuple_flow (join b c))) (element_list ms) h
old_kept (Set (Map f g)) b c ms h = each_by (Has (Map f g)) (MapWith (Set (Map f g)) b c) (left_in (Map f g) (tuple_flow (join b c))) (element_list ms) h
old_kept Any b c ms h = each_by (MemberOf Any) (MapWith Any b c) (λ d m. tt) (element_list ms) (members_of Any ms h)
old_kept Nothing b c ms h = absurd h
old_kept (Tuple f) b c ms h = absurd h
old_kept (Scalar k) b c ms h = absurd (no_set k ms h)

new_put : (a b c : Flow) (x y : Datum) → Has b x → Has c y → MapWith a b c (pair x y)
new_put (Map f g) b c x y h k = (right_in f b x h, right_in g c y k)
new_put (Set Nothing) b c x y h k = (h, k)
new_put (Set Any) b c x y h k = right_in Any (tuple_flow (join b c)) (pair x y) (pair_in b c (pair x y) (h, k))
new_put (Set (Scalar q)) b c x y h k = right_in (Scalar q) (tuple_flow (join b c)) (pair x y) (pair_in b c (pair x y) (h, k))
new_put (Set (Set f)) b c x y h k = right_in (Set f) (tuple_flow (join b c)) (pair x y) (pair_in b c (pair x y) (h, k))
new_put (Set (Tuple f)) b c x y h k = right_in (Tuple f) (tuple_flow (join b c)) (pair x y) (pair_in b c (pair x y) (h, k))
new_put (Set (Map f g)) b c x y h k = right_in (Map f g) (tuple_flow (join b c)) (pair x y) (pair_in b c (pair x y) (h, k))
new_put Any b c x y h k = tt
new_put Nothing b c x y h k = tt
new_put (Tuple f) b c x y h k = tt
new_put (Scalar q) b c x y h k = tt

whole_put : (a b c : Flow) (ms : _) → Has a (set ms) → (ds : List Datum) → AllByRecursion (MapWith a b c) ds → Has (put_flow a b c) (set_of ds)
whole_put (Map f g) b c ms h ds k = cap_covers 3 (Map (join f b) (join g c)) (set_of ds) (set_has (MapWith (Map f g) b c) ds k)
whole_put (Set Nothing) b c ms h ds k = cap_covers 3 (Map b c) (set_of ds) (set_has (MapWith (Set Nothing) b c) ds k)
whole_put (Set Any) b c ms h ds k = cap_covers 3 (Set (join Any (tuple_flow (join b c)))) (set_of ds) (set_has (MapWith (Set Any) b c) ds k)
whole_put (Set (Scalar q)) b c ms h ds k = cap_covers 3 (Set (join (Scalar q) (tuple_flow (join b c)))) (set_of ds) (set_has (MapWith (Set (Scalar q)) b c) ds k)
whole_put (Set (Set f)) b c ms h ds k = cap_covers 3 (Set (join (Set f) (tuple_flow (join b c)))) (set_of ds) (set_has (MapWith (Set (Set f)) b c) ds k)
whole_put (Set (Tuple f)) b c ms h ds k = cap_covers 3 (Set (join (Tuple f) (tuple_flow (join b c)))) (set_of ds) (set_has (MapWith (Set (Tuple f)) b c) ds k)
whole_put (Set (Map f g)) b c ms h ds k = cap_covers 3 (Set (join (Map f g) (tuple_flow (join b c)))) (set_of ds) (set_has (MapWith (Set (Map f g)) b c) ds k)
whole_put Any b c ms h ds k = tt
whole_put Nothing b c ms h ds k = absurd h
whole_put (Tuple f) b c ms h ds k = absurd h
whole_put (Scalar q) b c ms h ds k = absurd (no_set q ms h)

without_in : (a b c : Flow) (ms : _) → Has a (set ms) → (x : Datum) → AllByRecursion (MapWith a b c) (without_point x (element_list ms))
without_in a b c ms h x = each_filter (MapWith a b c) (λ d. not (is_datum x (first_of (pair_parts d)))) (element_list ms) (old_kept a b c ms h)

image_put : (a b c : Flow) (ms : _) → Has a (set ms) → (x : Datum) → Has b x → (y : Option Datum) → HasAt c y → Has (put_flow a b c) (set_of (put_image x y (element_list ms)))
image_put a b c ms h x k None m = whole_put a b c ms h (without_point x (element_list ms)) (without_in a b c ms h x)
image_put a b c ms h x k (Some y) m =
    whole_put a b c ms h (insert_datum (pair x y) (without_point x (element_list ms)))
    (each_insert (MapWith a b c) (pair x y) (without_point x (element_list ms)) (new_put a b c x y k m) (without_in a b c ms h x))

part_put : (a b c : Flow) (ps : _) → Has a (tuple ps) → (i : ℕ) (y : Option Datum) → HasAt c y → Has (put_flow a b c) (tuple_of (put_of (part_list ps) i y))
part_put (Tuple f) b c ps h i y k =
    let j = join f c in
    let old = each_by (HasPart (Has f)) (HasPart (Has j)) (part_by (Has f) (Has j) (left_in f c)) (part_list ps) h in
    let qs = take i (part_list ps) ++ replicate (i - length (part_list ps)) None ++ y ∷ drop (i + 1) (part_list ps) in
    cap_covers 3 (Tuple j) (tuple_of (put_of (part_list ps) i y))
    (tuple_has (Has j) (put_of (part_list ps) i y) (each_trim (Has j) qs
    (each_append (HasPart (Has j)) (take i (part_list ps) ++ replicate (i - length (part_list ps)) None) (y ∷ drop (i + 1) (part_list ps))
    (each_append (HasPart (Has j)) (take i (part_list ps)) (replicate (i - length (part_list ps)) None) (each_take (HasPart (Has j)) i (part_list ps) old) (each_replicate (HasPart (Has j)) (i - length (part_list ps)) None tt))
    (at_by c j (right_in f c) y k, each_drop (HasPart (Has j)) (i + 1) (part_list ps) old))))
part_put Any b c ps h i y k = tt
part_put Nothing b c ps h i y k = absurd h
part_put (Set f) b c ps h i y k = absurd h
part_put (Map f g) b c ps h i y k = absurd h
part_put (Scalar q) b c ps h i y k = absurd (no_tuple q ps h)

part_put_in : (a b c : Flow) (left : ℕ) (ps : _) → Has a (tuple ps) → (i : ℕ) (y : Option Datum) → HasAt c y → In (put_flow a b c) (put_part left i y (part_list ps))
part_put_in a b c left ps h i None k = part_put a b c ps h i None k
part_put_in a b c left ps h i (Some d) k =
    charged_in (put_flow a b c) (i - length (part_list ps)) left (within_depth (tuple_of (put_of (part_list ps) i (Some d))))
    (deep_in (put_flow a b c) (tuple_of (put_of (part_list ps) i (Some d))) (part_put a b c ps h i (Some d) k))

value_put : (a b c : Flow) (left : ℕ) (d x : Datum) (y : Option Datum) → Has a d → Has b x → HasAt c y → In (put_flow a b c) (put_value left d x y)
value_put a b c left (set ms) x y h k m = mapped_in (put_flow a b c) (λ f. within_depth (set_of (put_image x y f))) (element_list ms) (λ q. deep_in (put_flow a b c) (set_of (put_image x y (element_list ms))) (image_put a b c ms h x k y m))
value_put a b c left (tuple ps) (int i) y h k m = if_in (put_flow a b c) (int_le (pos 1) i) (put_part left (index_of i) y (part_list ps)) (Fails RangeFault) (part_put_in a b c left ps h (index_of i) y m) tt
value_put a b c left (tuple ps) (bool i) y h k m = tt
value_put a b c left (tuple ps) (text i) y h k m = tt
value_put a b c left (tuple ps) (atom i) y h k m = tt
value_put a b c left (tuple ps) (tuple i) y h k m = tt
value_put a b c left (tuple ps) (set i) y h k m = tt
value_put a b c left (bool ps) x y h k m = tt
value_put a b c left (int ps) x y h k m = tt
value_put a b c left (text ps) x y h k m = tt
value_put a b c left (atom ps) x y h k m = tt

pub put_in : (left : ℕ) (fs : List Flow) (vs : List (Option Datum)) → Have fs vs → In (three_flows put_flow fs) (put left vs)
put_in left fs [] h = tt
put_in left fs (None ∷ vs) h = tt
put_in left fs (Some d ∷ []) h = tt
put_in left fs (Some d ∷ None ∷ vs) h = tt
put_in left fs (Some d ∷ Some x ∷ []) h = tt
put_in left fs (Some d ∷ Some x ∷ y ∷ z ∷ vs) h = tt
put_in left (a ∷ b ∷ c ∷ []) (Some d ∷ Some x ∷ y ∷ []) h = value_put a b c left d x y h.0 h.1.0 h.1.1.0
put_in left [] (Some d ∷ Some x ∷ y ∷ []) h = absurd h
put_in left (a ∷ []) (Some d ∷ Some x ∷ y ∷ []) h = absurd h.1
put_in left (a ∷ b ∷ []) (Some d ∷ Some x ∷ y ∷ []) h = absurd h.1.1
put_in left (a ∷ b ∷ c ∷ e ∷ fs) (Some d ∷ Some x ∷ y ∷ []) h = absurd h.1.1.1

pub images_put : (a b c : Flow) (ms : _) → Has a (set ms) → (x : Datum) → Has b x → (ys : List Datum) → AllByRecursion (Has c) ys → Has (put_flow a b c) (set_of (put_images x ys (element_list ms)))
images_put a b c ms h x k ys m =
    whole_put a b c ms h (put_images x ys (element_list ms))
    (each_union (MapWith a b c) (without_point x (element_list ms)) (map (λ y. pair x y) ys) (without_in a b c ms h x) (each_map (Has c) (MapWith a b c) (λ y. pair x y) (λ y q. new_put a b c x y k q) ys m))
