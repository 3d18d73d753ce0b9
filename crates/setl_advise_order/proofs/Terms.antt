-- What is stored grows with the flows of variables and results.
use Rattle.std.proofs.Common.{◌≡◌, refl, List, [], ◌∷◌}
use Rattle.setl_value.specs.Datum.{Datum, bool, int, text, atom, tuple, set}
use Rattle.setl_program.specs.declared.kinds.Collection.{Collection}
use Rattle.setl_program.specs.declared.kinds.Collection.TheVariants.{OfSet, OfTuple}
use Rattle.setl_program.specs.declared.kinds.Source.TheVariants.{Values, Between, SetSteps, TupleSteps}
use Rattle.setl_program.specs.Program.{Begin, Members, Points, begin_of, Expr, Literal, Undefined, Name, Apply, Connect, Choose, Former, Selection, Quantified, Call, Newat, Eof, Ok, Exprs, no_expr, more_exprs, Selectors, no_selector, round_selector, brace_selector, Place}
use Rattle.setl_advise_flows.specs.Flow.{Flow, Nothing, Scalar, Set, Tuple, Map, Any, set_flow, map_flow}
use Rattle.setl_advise_flows.specs.Operators.{el, part, Plain, flow_of, flows, op_shape}
use Rattle.setl_advise_flows.specs.Expressions.{Flows, literal_flow, source_flow, member_shape, of_members, shape_of, shapes_of, flow_at, ats_of}
use Rattle.setl_advise_conditions.specs.Conditions.{Term, Anything, Unset, Held, Value, Component, Member, MemberComponent, Argument, Image, Assigned, Updated, Taken, Remaining, term_flow, place_flow, after_flow}
use Rattle.setl_advise_order.specs.Order.{IsNothing, Le, Within, AreBelow, AreWithin}
use Rattle.setl_advise_order.proofs.Orders.{le_any, le_itself}
use Rattle.setl_advise_order.proofs.Caps.{cap_within}
use Rattle.setl_advise_order.proofs.Transfers.{set_m, map_m, el_m, part_m, part_w, argument_m, argument_w}
use Rattle.setl_advise_order.proofs.Puts.{LeAts, map_in_set, part_at_m, part_at_w, whole_m, whole_w}
use Rattle.setl_advise_order.proofs.Shapes.{Lower, LeFlows, LeShape, LeShapes, join_l, set_l, tuple_l, el_l, get_l, flow_l, flows_l, op_shape_l}

itself_l : (f : Flow) → Within 3 f → Lower f f
itself_l f w = (le_itself f, w)

literal_l : (d : Datum) → Lower (literal_flow d) (literal_flow d)
literal_l (int z) = (refl, tt)
literal_l (text t) = (refl, tt)
literal_l (bool b) = (refl, tt)
literal_l (atom n) = (refl, tt)
literal_l (tuple t) = (tt, tt)
literal_l (set s) = (tt, tt)

-- ---- iterators

one_source : (fs gs : List Flow) → LeFlows fs gs → Lower (source_flow Points fs) (source_flow Points gs)
one_source [] [] h = (tt, tt)
one_source (a ∷ []) (x ∷ []) h = h.0
one_source (a ∷ b ∷ fs) (x ∷ y ∷ gs) h = (tt, tt)
one_source [] (x ∷ gs) h = absurd h
one_source (a ∷ fs) [] h = absurd h
one_source (a ∷ []) (x ∷ y ∷ gs) h = absurd h.1
one_source (a ∷ b ∷ fs) (x ∷ []) h = absurd h.1

value_source : (fs gs : List Flow) → LeFlows fs gs → Lower (source_flow (Members Values) fs) (source_flow (Members Values) gs)
value_source [] [] h = (tt, tt)
value_source (a ∷ []) (x ∷ []) h = h.0
value_source (a ∷ b ∷ fs) (x ∷ y ∷ gs) h = (tt, tt)
value_source [] (x ∷ gs) h = absurd h
value_source (a ∷ fs) [] h = absurd h
value_source (a ∷ []) (x ∷ y ∷ gs) h = absurd h.1
value_source (a ∷ b ∷ fs) (x ∷ []) h = absurd h.1

source_l : (b : Begin) (fs gs : List Flow) → LeFlows fs gs → Lower (source_flow b fs) (source_flow b gs)
source_l (Members Values) fs gs h = value_source fs gs h
source_l (Members Between) fs gs h = (refl, tt)
source_l (Members SetSteps) fs gs h = (refl, tt)
source_l (Members TupleSteps) fs gs h = (refl, tt)
source_l Points fs gs h = one_source fs gs h

-- the set of the members of flows
abbrev members : Flow → Flow
members f = of_members OfSet (member_shape f)

no_members : (f g k : Flow) → IsNothing f → Le (set_flow f) (map_flow g k)
no_members Nothing g k n = tt
no_members (Scalar l) g k n = absurd n
no_members (Set f) g k n = absurd n
no_members (Tuple f) g k n = absurd n
no_members (Map f h) g k n = absurd n
no_members Any g k n = absurd n

members_m : (a b : Flow) → Within 3 b → Le a b → Le (members a) (members b)
members_m Nothing Nothing w h = tt
members_m Nothing (Scalar l) w h = tt
members_m Nothing (Set g) w h = tt
members_m Nothing (Tuple g) w h = tt
members_m Nothing (Map g k) w h = tt
members_m Nothing Any w h = tt
members_m (Map f g) (Map i k) w h = map_m f g i k h.0 h.1
members_m (Map f g) (Set i) w h = map_in_set f g i h.0 h.1
members_m (Map f g) Any w h = map_in_set f g Any tt tt
members_m (Set f) (Map g k) w h = no_members f g k h
members_m (Scalar k) (Scalar l) w h = set_m (el (Scalar k)) (el (Scalar l)) (el_m (Scalar k) (Scalar l) w h)
members_m (Set f) (Set g) w h = set_m f g h
members_m (Tuple f) (Tuple g) w h = set_m f g h
members_m (Scalar k) Any w h = set_m (el (Scalar k)) Any (le_any (el (Scalar k)))
members_m (Set f) Any w h = set_m f Any (le_any f)
members_m (Tuple f) Any w h = set_m f Any (le_any f)
members_m Any Any w h = tt
members_m a b w h = absurd h

members_w : (a : Flow) → Within 3 (members a)
members_w Nothing = tt
members_w (Scalar k) = cap_within 3 (Set (el (Scalar k)))
members_w (Set f) = cap_within 3 (Set f)
members_w (Tuple f) = cap_within 3 (Set f)
members_w (Map f g) = cap_within 3 (Map f g)
members_w Any = tt

member_is : (f : Flow) → flow_of (member_shape f) ≡ el f
member_is Nothing = refl
member_is (Scalar k) = refl
member_is (Set f) = refl
member_is (Tuple f) = refl
member_is (Map f g) = refl
member_is Any = refl

selected_l : (k : Collection) (a b : Flow) → Lower a b → Lower (of_members k (member_shape a)) (of_members k (member_shape b))
selected_l OfSet a b h = (members_m a b h.1 h.0, members_w b)
selected_l OfTuple a b h = rw (member_is a, member_is b) (tuple_l (el a) (el b) (el_l a b h))

collected_l : (k : Collection) (a b : Flow) → Lower a b → Lower (of_members k (Plain a)) (of_members k (Plain b))
collected_l OfSet a b h = set_l a b h
collected_l OfTuple a b h = tuple_l a b h

-- ---- expressions and terms

module _ (s u : Flows) (below : AreBelow s u) (within : AreWithin u) where
  mutual
    shape_l : (e : Expr) → LeShape (shape_of s e) (shape_of u e)
    shape_l (Literal d) = literal_l d
    shape_l Undefined = (tt, tt)
    shape_l (Name x) = (below.of x, within.of x)
    shape_l (Apply o es) = op_shape_l o (shapes_of s es) (shapes_of u es) (shapes_l es)
    shape_l (Connect k a b) = (refl, tt)
    shape_l (Choose t a b) =
        join_l (flow_of (shape_of s a)) (flow_of (shape_of s b)) (flow_of (shape_of u a)) (flow_of (shape_of u b))
        (flow_l (shape_of s a) (shape_of u a) (shape_l a)) (flow_l (shape_of s b) (shape_of u b) (shape_l b))
    shape_l (Former k e is t) = collected_l k (flow_of (shape_of s e)) (flow_of (shape_of u e)) (flow_l (shape_of s e) (shape_of u e) (shape_l e))
    shape_l (Selection k b es t) =
        selected_l k (source_flow (begin_of b) (flows (shapes_of s es))) (source_flow (begin_of b) (flows (shapes_of u es)))
        (source_l (begin_of b) (flows (shapes_of s es)) (flows (shapes_of u es)) (flows_l (shapes_of s es) (shapes_of u es) (shapes_l es)))
    shape_l (Quantified q is t) = (refl, tt)
    shape_l (Call f all) = (below.result f, within.result f)
    shape_l Newat = (refl, tt)
    shape_l Eof = (refl, tt)
    shape_l Ok = (refl, tt)

    shapes_l : (es : Exprs) → LeShapes (shapes_of s es) (shapes_of u es)
    shapes_l no_expr = tt
    shapes_l (more_exprs e rest) = (shape_l e, shapes_l rest)

  value_l : (e : Expr) → Lower (flow_at s e) (flow_at u e)
  value_l e = flow_l (shape_of s e) (shape_of u e) (shape_l e)

  ran_l : (b : Begin) (es : Exprs) → Lower (source_flow b (flows (shapes_of s es))) (source_flow b (flows (shapes_of u es)))
  ran_l b es = source_l b (flows (shapes_of s es)) (flows (shapes_of u es)) (flows_l (shapes_of s es) (shapes_of u es) (shapes_l es))

  ats_l : (ss : Selectors) → LeAts (ats_of s ss) (ats_of u ss)
  ats_l no_selector = tt
  ats_l (round_selector e rest) = ((value_l e).0, ats_l rest)
  ats_l (brace_selector e rest) = ((value_l e).0, ats_l rest)

  place_l : (p : Place) → Lower (place_flow s p) (place_flow u p)
  place_l p = (part_at_m (ats_of s p.selectors) (ats_of u p.selectors) (s.of p.variable) (u.of p.variable) (ats_l p.selectors) (below.of p.variable), part_at_w (ats_of u p.selectors) (u.of p.variable) (within.of p.variable))

  after_l : (p : Place) (f g : Flow) → Lower f g → Lower (after_flow s p f) (after_flow u p g)
  after_l p f g h = (
    whole_m (ats_of s p.selectors) (ats_of u p.selectors) (s.of p.variable) (u.of p.variable) f g h.1 (ats_l p.selectors) (below.of p.variable) h.0,
    whole_w (ats_of u p.selectors) (u.of p.variable) g h.1,
  )

  part_l : (a b : Flow) → Lower a b → Lower (part a) (part b)
  part_l a b h = (part_m a b h.0, part_w b h.1)

  pub term_l : (t : Term) → Lower (term_flow s t) (term_flow u t)
  term_l Anything = (tt, tt)
  term_l Unset = (tt, tt)
  term_l (Held x) = (below.of x, within.of x)
  term_l (Value e) = value_l e
  term_l (Component e) = part_l (flow_at s e) (flow_at u e) (value_l e)
  term_l (Member b es) = el_l _ _ (ran_l b es)
  term_l (MemberComponent b es) = part_l _ _ (el_l _ _ (ran_l b es))
  term_l (Argument b es) = let h = ran_l b es in (argument_m _ _ h.0, argument_w _)
  term_l (Image b es) = get_l _ _ (ran_l b es)
  term_l (Assigned p e) = after_l p (flow_at s e) (flow_at u e) (value_l e)
  term_l (Updated o p e) =
      let was = Plain (place_flow s p) ∷ shape_of s e ∷ [] in
      let is = Plain (place_flow u p) ∷ shape_of u e ∷ [] in
      after_l p (flow_of (op_shape o was)) (flow_of (op_shape o is)) (flow_l (op_shape o was) (op_shape o is) (op_shape_l o was is (place_l p, (shape_l e, tt))))
  term_l (Taken p) = el_l (place_flow s p) (place_flow u p) (place_l p)
  term_l (Remaining p) = after_l p (place_flow s p) (place_flow u p) (place_l p)
