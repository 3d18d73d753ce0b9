-- What iterators run over, and what formers collect.
use Rattle.std.proofs.Common.{◌≡◌, refl, subst, ℕ, zero, suc, Bool, true, false, List, [], ◌∷◌, Option, Some, None}
use Rattle.std.specs.Prelude.{◌==◌, ◌-ℤ◌, ◌+ℤ◌, ℤ, pos, unsigned_abs, if◌then◌else◌}
use mathlib.Core.List.{reverse_aux}
use Rattle.std.specs.List.{AllByRecursion}
use Rattle.setl_value.specs.Datum.{Datum, bool, int, text, atom, tuple, set, element_list, part_list, set_of, tuple_of}
use Rattle.setl_value.specs.WellFormed.{trim}
use Rattle.setl_value.specs.Pairs.{pair_parts, is_map}
use Rattle.setl_set.specs.Sets.{set_from}
use Rattle.setl_model_runs.specs.Variable.{Variable}
use Rattle.setl_operators_table.specs.Outcome.{KindFault, ZeroFault, all_values, one_more}
use Rattle.setl_operators_table.specs.Ranges.{spread, range_size, range_from, step_size, step_from}
use Rattle.setl_map.specs.Maps.{image, domain_of}
use Rattle.setl_program.specs.declared.kinds.Collection.TheVariants.{OfSet, OfTuple}
use Rattle.setl_program.specs.declared.kinds.Source.TheVariants.{Values, Between, SetSteps, TupleSteps}
use Rattle.setl_program.specs.Program.{Binding, Member, Components, Point, Members, Points}
use Rattle.setl_program.specs.Formed.{BindsMembers}
use Rattle.setl_model.specs.Collections.{collected}
use Rattle.setl_model.specs.Core.{Item, One, Two}
use Rattle.setl_model.specs.Iterations.{Started, Starts, Refuses, singles, members, letters, map_points, place_points, values_of, points_of, integers_between, integers_stepped, one_source, of_values}
use Rattle.setl_advise_flows.specs.Flow.{Whole, Letters, Truth, Token, Flow, Nothing, Scalar, Set, Tuple, Map, Any}
use Rattle.setl_advise_flows.specs.Has.{HasPart, HasPair, Has, HasAt}
use Rattle.setl_advise_flows.specs.Operators.{el, get_flow, Shape, Plain, Constant, Written, flow_of, flows, HasShape, HaveShapes}
use Rattle.setl_advise_flows.specs.Expressions.{Flows, source_flow, argument_flow, member_shape, of_members, BindingBelow}
use Rattle.setl_advise_flows.specs.Invariant.{ItemMember, ItemIn, SelectsFrom}
use Rattle.setl_advise_flows.proofs.Joining.{each_by, cap_covers}
use Rattle.setl_advise_flows.proofs.Moving.{in_flow, below_at}
use Rattle.setl_advise_flows.proofs.Lists.{each_onto, each_map, each_set_from, each_trim, set_has, tuple_has}
use Rattle.setl_advise_flows.proofs.Views.{MemberOf, PartOf, members_of, parts_of, pairs_of, image_in, domain_in, arg_flow, no_set, no_tuple}
use Rattle.setl_advise_flows.proofs.Statements.{parting_in}
use Rattle.setl_advise_flows.proofs.Iterations.{StartedIn, ItemsIn, CollectionsIn}

-- ---- collections

abbrev ValuesIn : Shape → Option (List Datum) → Type 0
ValuesIn m None = Unit {0}
ValuesIn m (Some ds) = AllByRecursion (λ d. HasShape m (Some d)) ds

values_in : (m : Shape) (vs : List (Option Datum)) → AllByRecursion (HasShape m) vs → ValuesIn m (all_values vs)
values_in m [] h = tt
values_in m (None ∷ vs) h = tt
values_in m (Some d ∷ vs) h = go (all_values vs) (values_in m vs h.1)
  where
    go : (o : Option (List Datum)) → ValuesIn m o → ValuesIn m (one_more d o)
    go None k = tt
    go (Some ds) k = (h.0, k)

set_in : (m : Shape) (ds : List Datum) → AllByRecursion (λ d. HasShape m (Some d)) ds → Has (of_members OfSet m) (set_of (set_from ds))
set_in (Written f g) ds h =
    let P : Datum → Type 0 = λ d. HasPair (Has f) (Has g) (pair_parts d) in
    cap_covers 3 (Map f g) (set_of (set_from ds)) (set_has P (set_from ds) (each_set_from P ds h))
set_in (Plain f) ds h = cap_covers 3 (Set f) (set_of (set_from ds)) (set_has (Has f) (set_from ds) (each_set_from (Has f) ds h))
set_in (Constant f) ds h = cap_covers 3 (Set f) (set_of (set_from ds)) (set_has (Has f) (set_from ds) (each_set_from (Has f) ds h))

pub collects : CollectionsIn
collects OfSet m got h = go (all_values got) (values_in m got h)
  where
    go : (o : Option (List Datum)) → ValuesIn m o → Has (of_members OfSet m) (collected OfSet (reverse_aux got []) o)
    go None k = set_in m [] tt
    go (Some ds) k = set_in m ds k
collects OfTuple m got h =
    let f = flow_of m in
    cap_covers 3 (Tuple f) (tuple_of (trim (reverse_aux got [])))
    (tuple_has (Has f) (trim (reverse_aux got [])) (each_trim (Has f) (reverse_aux got []) (each_onto (HasPart (Has f)) got [] (each_by (HasShape m) (HasPart (Has f)) (in_flow m) got h) tt)))

-- ---- items

member_flow : (f : Flow) → flow_of (member_shape f) ≡ el f
member_flow (Map f g) = refl
member_flow Nothing = refl
member_flow (Scalar k) = refl
member_flow (Set f) = refl
member_flow (Tuple f) = refl
member_flow Any = refl

module _ (s : Flows) (selects : Bool) (m : Shape) where
  item_member : (b : Binding) (f : Flow) → BindsMembers b → SelectsFrom selects m b f → (v : Option Datum) → HasShape (member_shape f) v → ItemMember selects m (One v)
  item_member b f binds k v h = go selects b binds k
    where
      go : (t : Bool) (b : Binding) → BindsMembers b → SelectsFrom t m b f → ItemMember t m (One v)
      go false b binds k = tt
      go true (Member q x) binds k = k v h
      go true (Components q xs) binds k = k v h
      go true (Point y x) binds k = absurd binds

  member_item : (b : Binding) (f : Flow) → BindsMembers b → BindingBelow s b f → SelectsFrom selects m b f → (v : Option Datum) → HasShape (member_shape f) v → ItemIn s selects m b (One v)
  member_item (Member q x) f binds below k v h =
      ((below_at (el f) (s.of x) below v (subst (λ g. HasAt g v) (member_flow f) (in_flow (member_shape f) v h)), tt), item_member (Member q x) f binds k v h)
  member_item (Components q xs) f binds below k v h =
      (parting_in s (el f) xs v below (subst (λ g. HasAt g v) (member_flow f) (in_flow (member_shape f) v h)), item_member (Components q xs) f binds k v h)
  member_item (Point y x) f binds below k v h = absurd binds

  member_shaped : (f : Flow) (ms : _) → Has f (set ms) → (d : Datum) → MemberOf f d → HasShape (member_shape f) (Some d)
  member_shaped (Set f) ms h d k = k
  member_shaped (Map f g) ms h d k = k
  member_shaped Any ms h d k = tt
  member_shaped Nothing ms h d k = absurd h
  member_shaped (Tuple f) ms h d k = absurd h
  member_shaped (Scalar k) ms h d x = absurd (no_set k ms h)

  part_shaped : (f : Flow) (ps : _) → Has f (tuple ps) → (v : Option Datum) → HasPart (PartOf f) v → HasShape (member_shape f) v
  part_shaped (Tuple f) ps h v k = k
  part_shaped Any ps h None k = tt
  part_shaped Any ps h (Some d) k = tt
  part_shaped Nothing ps h v k = absurd h
  part_shaped (Set f) ps h v k = absurd h
  part_shaped (Map f g) ps h v k = absurd h
  part_shaped (Scalar k) ps h v x = absurd (no_tuple k ps h)

  abbrev ItemsOf : Binding → List Item → Type 0
  ItemsOf b items = AllByRecursion (ItemIn s selects m b) items

  letters_in : (b : Binding) (f : Flow) → BindsMembers b → BindingBelow s b f → SelectsFrom selects m b f → ((t : List ℕ) → HasShape (member_shape f) (Some (text t))) → (t : List ℕ) → ItemsOf b (singles (letters t))
  letters_in b f binds below k each [] = tt
  letters_in b f binds below k each (c ∷ t) = (member_item b f binds below k (Some (text (c ∷ []))) (each (c ∷ [])), letters_in b f binds below k each t)

  letter_shaped : (f : Flow) (t : List ℕ) → Has f (text t) → (u : List ℕ) → HasShape (member_shape f) (Some (text u))
  letter_shaped (Scalar Letters) t h u = tt
  letter_shaped Any t h u = tt
  letter_shaped (Scalar Whole) t h u = absurd h
  letter_shaped (Scalar Truth) t h u = absurd h
  letter_shaped (Scalar Token) t h u = absurd h
  letter_shaped Nothing t h u = absurd h
  letter_shaped (Set f) t h u = absurd h
  letter_shaped (Tuple f) t h u = absurd h
  letter_shaped (Map f g) t h u = absurd h

  values_started : (b : Binding) (f : Flow) → BindsMembers b → BindingBelow s b f → SelectsFrom selects m b f → (d : Datum) → Has f d → StartedIn s selects m b (values_of d)
  values_started b f binds below k (set ms) h =
      each_map (MemberOf f) (ItemIn s selects m b) (λ d. One (Some d)) (λ d x. member_item b f binds below k (Some d) (member_shaped f ms h d x)) (element_list ms) (members_of f ms h)
  values_started b f binds below k (tuple ps) h =
      each_map (HasPart (PartOf f)) (ItemIn s selects m b) One (λ v x. member_item b f binds below k v (part_shaped f ps h v x)) (part_list ps) (parts_of f ps h)
  values_started b f binds below k (text t) h = letters_in b f binds below k (letter_shaped f t h) t
  values_started b f binds below k (bool z) h = tt
  values_started b f binds below k (int z) h = tt
  values_started b f binds below k (atom z) h = tt

  -- one value alone is a source
  by_one : (b : Binding) (make : Datum → Started) (ws : List Shape) (vs : List (Option Datum)) → HaveShapes ws vs → ((w : Shape) → ws ≡ w ∷ [] → (d : Datum) → HasShape w (Some d) → StartedIn s selects m b (make d)) → StartedIn s selects m b (of_values (one_source make) (all_values vs))
  by_one b make [] [] h k = tt
  by_one b make (w ∷ []) (None ∷ []) h k = tt
  by_one b make (w ∷ []) (Some d ∷ []) h k = k w refl d h.0
  by_one b make (w ∷ ws) (None ∷ v ∷ vs) h k = tt
  by_one b make (w ∷ ws) (Some d ∷ None ∷ vs) h k = tt
  by_one b make (w ∷ ws) (Some d ∷ Some e ∷ vs) h k = go (all_values vs)
    where
      go : (o : Option (List Datum)) → StartedIn s selects m b (of_values (one_source make) (one_more d (one_more e o)))
      go None = tt
      go (Some ds) = tt
  by_one b make [] (v ∷ vs) h k = absurd h
  by_one b make (w ∷ u ∷ ws) (v ∷ []) h k = absurd h.1
  by_one b make (w ∷ ws) [] h k = absurd h

  -- ---- ranges

  abbrev IsInt : Datum → Type 0
  IsInt d = Has (Scalar Whole) d

  spread_in : (a by : ℤ) (n : ℕ) → AllByRecursion IsInt (spread a by n)
  spread_in a by zero = tt
  spread_in a by (suc n) = (tt, spread_in (a +ℤ by) by n)

  integers_in : (b : Binding) (f : Flow) → BindsMembers b → BindingBelow s b f → SelectsFrom selects m b f → ((d : Datum) → IsInt d → HasShape (member_shape f) (Some d)) → (ds : List Datum) → AllByRecursion IsInt ds → ItemsOf b (members ds)
  integers_in b f binds below k each ds h = each_map IsInt (ItemIn s selects m b) (λ d. One (Some d)) (λ d x. member_item b f binds below k (Some d) (each d x)) ds h

  between_in : (b : Binding) (f : Flow) → BindsMembers b → BindingBelow s b f → SelectsFrom selects m b f → ((d : Datum) → IsInt d → HasShape (member_shape f) (Some d)) → (o : Option (List Datum)) → StartedIn s selects m b (of_values integers_between o)
  between_in b f binds below k each None = tt
  between_in b f binds below k each (Some []) = tt
  between_in b f binds below k each (Some (int a ∷ int c ∷ [])) = integers_in b f binds below k each (range_from a c) (spread_in a (pos 1) (range_size a c))
  between_in b f binds below k each (Some (int a ∷ int c ∷ d ∷ ds)) = tt
  between_in b f binds below k each (Some (int a ∷ [])) = tt
  between_in b f binds below k each (Some (bool a ∷ ds)) = tt
  between_in b f binds below k each (Some (int a ∷ bool c ∷ ds)) = tt
  between_in b f binds below k each (Some (text a ∷ ds)) = tt
  between_in b f binds below k each (Some (int a ∷ text c ∷ ds)) = tt
  between_in b f binds below k each (Some (atom a ∷ ds)) = tt
  between_in b f binds below k each (Some (int a ∷ atom c ∷ ds)) = tt
  between_in b f binds below k each (Some (tuple a ∷ ds)) = tt
  between_in b f binds below k each (Some (int a ∷ tuple c ∷ ds)) = tt
  between_in b f binds below k each (Some (set a ∷ ds)) = tt
  between_in b f binds below k each (Some (int a ∷ set c ∷ ds)) = tt

  stepped_in : (b : Binding) (f : Flow) → BindsMembers b → BindingBelow s b f → SelectsFrom selects m b f → ((d : Datum) → IsInt d → HasShape (member_shape f) (Some d)) → (order : List Datum → List Datum) → ((ds : List Datum) → AllByRecursion IsInt ds → AllByRecursion IsInt (order ds)) → (o : Option (List Datum)) → StartedIn s selects m b (of_values (integers_stepped order) o)
  stepped_in b f binds below k each order keeps None = tt
  stepped_in b f binds below k each order keeps (Some []) = tt
  stepped_in b f binds below k each order keeps (Some (int a ∷ [])) = tt
  stepped_in b f binds below k each order keeps (Some (int a ∷ int c ∷ [])) = tt
  stepped_in b f binds below k each order keeps (Some (int a ∷ int c ∷ int e ∷ d ∷ ds)) = tt
  stepped_in b f binds below k each order keeps (Some (int a ∷ int c ∷ int e ∷ [])) = go (unsigned_abs (c -ℤ a) == 0)
    where
      go : (t : Bool) → StartedIn s selects m b (if t then Refuses ZeroFault else Starts (members (order (step_from a c e))))
      go true = tt
      go false = integers_in b f binds below k each (order (step_from a c e)) (keeps (step_from a c e) (spread_in a (c -ℤ a) (step_size a c e)))
  stepped_in b f binds below k each order keeps (Some (bool a ∷ ds)) = tt
  stepped_in b f binds below k each order keeps (Some (int a ∷ bool c ∷ ds)) = tt
  stepped_in b f binds below k each order keeps (Some (int a ∷ int c ∷ bool e ∷ ds)) = tt
  stepped_in b f binds below k each order keeps (Some (text a ∷ ds)) = tt
  stepped_in b f binds below k each order keeps (Some (int a ∷ text c ∷ ds)) = tt
  stepped_in b f binds below k each order keeps (Some (int a ∷ int c ∷ text e ∷ ds)) = tt
  stepped_in b f binds below k each order keeps (Some (atom a ∷ ds)) = tt
  stepped_in b f binds below k each order keeps (Some (int a ∷ atom c ∷ ds)) = tt
  stepped_in b f binds below k each order keeps (Some (int a ∷ int c ∷ atom e ∷ ds)) = tt
  stepped_in b f binds below k each order keeps (Some (tuple a ∷ ds)) = tt
  stepped_in b f binds below k each order keeps (Some (int a ∷ tuple c ∷ ds)) = tt
  stepped_in b f binds below k each order keeps (Some (int a ∷ int c ∷ tuple e ∷ ds)) = tt
  stepped_in b f binds below k each order keeps (Some (set a ∷ ds)) = tt
  stepped_in b f binds below k each order keeps (Some (int a ∷ set c ∷ ds)) = tt
  stepped_in b f binds below k each order keeps (Some (int a ∷ int c ∷ set e ∷ ds)) = tt

  -- ---- `y = f(x)`

  argument_in : (f : Flow) (ms : _) → Has f (set ms) → (d : Datum) → Has (arg_flow f) d → Has (argument_flow f) d
  argument_in (Map f g) ms h d k = cap_covers 2 f d k
  argument_in (Set (Tuple f)) ms h d k = cap_covers 2 f d k
  argument_in (Set Nothing) ms h d k = k
  argument_in (Set Any) ms h d k = tt
  argument_in (Set (Scalar q)) ms h d k = tt
  argument_in (Set (Set g)) ms h d k = tt
  argument_in (Set (Map g q)) ms h d k = tt
  argument_in Any ms h d k = tt
  argument_in Nothing ms h d k = absurd h
  argument_in (Tuple f) ms h d k = absurd h
  argument_in (Scalar q) ms h d k = absurd (no_set q ms h)

  point_item : (y x : Variable) (f : Flow) → BindingBelow s (Point y x) f → SelectsFrom selects m (Point y x) f → (a v : Option Datum) → HasAt (argument_flow f) a → HasAt (get_flow f) v → ItemIn s selects m (Point y x) (Two a v)
  point_item y x f below k a v h j =
      ((below_at (argument_flow f) (s.of x) below.0 a h, (below_at (get_flow f) (s.of y) below.1 v j, tt)), go selects k)
    where
      go : (t : Bool) → SelectsFrom t m (Point y x) f → ItemMember t m (Two a v)
      go true k = absurd k
      go false k = tt

  number_in : (f : Flow) (ps : _) → Has f (tuple ps) → (n : ℕ) → Has (argument_flow f) (int (pos n))
  number_in (Tuple f) ps h n = tt
  number_in Any ps h n = tt
  number_in Nothing ps h n = absurd h
  number_in (Set f) ps h n = absurd h
  number_in (Map f g) ps h n = absurd h
  number_in (Scalar q) ps h n = absurd (no_tuple q ps h)

  part_got : (f : Flow) (ps : _) → Has f (tuple ps) → (v : Option Datum) → HasPart (PartOf f) v → HasAt (get_flow f) v
  part_got f ps h None k = tt
  part_got (Tuple f) ps h (Some d) k = k
  part_got Any ps h (Some d) k = tt
  part_got Nothing ps h (Some d) k = absurd h
  part_got (Set f) ps h (Some d) k = absurd h
  part_got (Map f g) ps h (Some d) k = absurd h
  part_got (Scalar q) ps h (Some d) k = absurd (no_tuple q ps h)

  places_in : (y x : Variable) (f : Flow) → BindingBelow s (Point y x) f → SelectsFrom selects m (Point y x) f → ((n : ℕ) → Has (argument_flow f) (int (pos n))) → (n : ℕ) (vs : List (Option Datum)) → AllByRecursion (HasPart (Has (get_flow f))) vs → ItemsOf (Point y x) (place_points n vs)
  places_in y x f below k each n [] h = tt
  places_in y x f below k each n (v ∷ vs) h = (point_item y x f below k (Some (int (pos n))) v (each n) h.0, places_in y x f below k each (suc n) vs h.1)

  letters_got : (f : Flow) (t : List ℕ) → Has f (text t) → ((n : ℕ) → Has (argument_flow f) (int (pos n))) × ((u : List ℕ) → AllByRecursion (HasPart (Has (get_flow f))) (letters u))
  letters_got (Scalar Letters) t h = ((λ n. tt), each)
    where
      each : (u : List ℕ) → AllByRecursion (HasPart (Has (Scalar Letters))) (letters u)
      each [] = tt
      each (c ∷ u) = (tt, each u)
  letters_got Any t h = ((λ n. tt), each)
    where
      each : (u : List ℕ) → AllByRecursion (HasPart (Has Any)) (letters u)
      each [] = tt
      each (c ∷ u) = (tt, each u)
  letters_got (Scalar Whole) t h = absurd h
  letters_got (Scalar Truth) t h = absurd h
  letters_got (Scalar Token) t h = absurd h
  letters_got Nothing t h = absurd h
  letters_got (Set f) t h = absurd h
  letters_got (Tuple f) t h = absurd h
  letters_got (Map f g) t h = absurd h

  points_started : (y x : Variable) (f : Flow) → BindingBelow s (Point y x) f → SelectsFrom selects m (Point y x) f → (d : Datum) → Has f d → StartedIn s selects m (Point y x) (points_of d)
  points_started y x f below k (set ms) h = go (is_map (element_list ms)) refl
    where
      P : Datum → Type 0
      P = Has (arg_flow f)

      go : (t : Bool) → is_map (element_list ms) ≡ t → StartedIn s selects m (Point y x) (if t then Starts (map_points (element_list ms) (domain_of (element_list ms))) else Refuses KindFault)
      go false e = tt
      go true e =
          let pairs = pairs_of f ms h e in
          each_map P (ItemIn s selects m (Point y x)) (λ d. Two (Some d) (image d (element_list ms)))
          (λ d q. point_item y x f below k (Some d) (image d (element_list ms)) (argument_in f ms h d q) (image_in P (Has (get_flow f)) d (element_list ms) pairs)) (domain_of (element_list ms)) (domain_in P (Has (get_flow f)) (element_list ms) pairs)
  points_started y x f below k (tuple ps) h =
      places_in y x f below k (number_in f ps h) 1 (part_list ps) (each_by (HasPart (PartOf f)) (HasPart (Has (get_flow f))) (part_got f ps h) (part_list ps) (parts_of f ps h))
  points_started y x f below k (text t) h = let g = letters_got f t h in places_in y x f below k g.0 1 (letters t) (g.1 t)
  points_started y x f below k (bool z) h = tt
  points_started y x f below k (int z) h = tt
  points_started y x f below k (atom z) h = tt

pub items_in : (s : Flows) → ItemsIn s
items_in s selects m (Member Values x) ws vs have h =
    by_one s selects m (Member Values x) values_of ws vs have
    (λ w e d k. values_started s selects m (Member Values x) (flow_of w) tt (subst (λ ws. BindingBelow s (Member Values x) (source_flow (Members Values) (flows ws))) e h.0) (subst (λ ws. SelectsFrom selects m (Member Values x) (source_flow (Members Values) (flows ws))) e h.1) d (in_flow w (Some d) k))
items_in s selects m (Member Between x) ws vs have h = between_in s selects m (Member Between x) (Set (Scalar Whole)) tt h.0 h.1 (λ d k. k) (all_values vs)
items_in s selects m (Member SetSteps x) ws vs have h = stepped_in s selects m (Member SetSteps x) (Set (Scalar Whole)) tt h.0 h.1 (λ d k. k) set_from (each_set_from (Has (Scalar Whole))) (all_values vs)
items_in s selects m (Member TupleSteps x) ws vs have h = stepped_in s selects m (Member TupleSteps x) (Tuple (Scalar Whole)) tt h.0 h.1 (λ d k. k) (λ ds. ds) (λ ds k. k) (all_values vs)
items_in s selects m (Components Values xs) ws vs have h =
    by_one s selects m (Components Values xs) values_of ws vs have
    (λ w e d k. values_started s selects m (Components Values xs) (flow_of w) tt (subst (λ ws. BindingBelow s (Components Values xs) (source_flow (Members Values) (flows ws))) e h.0) (subst (λ ws. SelectsFrom selects m (Components Values xs) (source_flow (Members Values) (flows ws))) e h.1) d (in_flow w (Some d) k))
items_in s selects m (Components Between xs) ws vs have h = between_in s selects m (Components Between xs) (Set (Scalar Whole)) tt h.0 h.1 (λ d k. k) (all_values vs)
items_in s selects m (Components SetSteps xs) ws vs have h = stepped_in s selects m (Components SetSteps xs) (Set (Scalar Whole)) tt h.0 h.1 (λ d k. k) set_from (each_set_from (Has (Scalar Whole))) (all_values vs)
items_in s selects m (Components TupleSteps xs) ws vs have h = stepped_in s selects m (Components TupleSteps xs) (Tuple (Scalar Whole)) tt h.0 h.1 (λ d k. k) (λ ds. ds) (λ ds k. k) (all_values vs)
items_in s selects m (Point y x) ws vs have h =
    by_one s selects m (Point y x) points_of ws vs have
    (λ w e d k. points_started s selects m y x (flow_of w) (subst (λ ws. BindingBelow s (Point y x) (source_flow Points (flows ws))) e h.0) (subst (λ ws. SelectsFrom selects m (Point y x) (source_flow Points (flows ws))) e h.1) d (in_flow w (Some d) k))
