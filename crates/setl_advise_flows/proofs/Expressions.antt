-- Expressions and calls keep each value in its flow.
use Rattle.std.proofs.Common.{◌≡◌, refl, ℕ, suc, Bool, true, false, List, [], ◌∷◌, Option, Some, None}
use Rattle.std.specs.Prelude.{slice_get, ◌+◌}
use mathlib.Core.List.{reverse_aux}
use Rattle.setl_value.specs.Datum.{Datum, bool, int, text, atom, tuple, set}
use Rattle.setl_model_runs.specs.Variable.{Environment, value_in}
use Rattle.setl_model_runs.specs.Turns.{left_after}
use Rattle.setl_model_runs.specs.Run.{Moves}
use Rattle.setl_model_runs.specs.Events.{Called}
use Rattle.setl_operators_table.specs.Operators.{op_of}
use Rattle.setl_operators_table.specs.declared.Operator.{Operator}
use Rattle.setl_program.specs.declared.kinds.Connective.{Connective}
use Rattle.setl_program.specs.declared.kinds.Connective.TheVariants.{And, Or, Implies}
use Rattle.setl_program.specs.Program.{Binding, Member, Components, Point, begin_of, Expr, Literal, Undefined, Name, Apply, Connect, Choose, Former, Selection, Quantified, Call, Newat, Eof, Ok, Exprs, no_expr, more_exprs, Iterators, no_iterator, more_iterators, only_if, Arguments, no_argument, rd_argument, wr_argument, rw_argument, Parameter, Procedure, Program}
use Rattle.setl_program.specs.Formed.{BindsMembers}
use Rattle.setl_model.specs.Core.{Execute, Evaluate, Result, HandBacks, ExprFrame, Operands, ConnectLeft, ConnectRight, ChooseTest, Collect, Select, Decide, Argument, Activation, Frame, InExpr, InCall, Core, read_variable, line_of}
use Rattle.setl_model.specs.World.{branch}
use Rattle.setl_model.specs.Moves.{go}
use Rattle.setl_model.specs.Expressions.{operands, evaluate, connect, result_in_expr}
use Rattle.setl_model.specs.Calls.{parameter, bindings, hand_backs, handed_back, enter, arguments, leave}
use Rattle.setl_advise_flows.specs.Flow.{Flow, join}
use Rattle.setl_advise_flows.specs.Has.{HasAt}
use Rattle.setl_advise_flows.specs.Operators.{Shape, Plain, flows, flow_of, HasShape, HaveShapes, op_shape, OperatorsIn}
use Rattle.setl_advise_flows.specs.Expressions.{Flows, literal_flow, shape_of, shapes_of, argument_shapes, source_flow, member_shape, ParametersAbove, BacksBelow, CallFlows, ExprFlows, ExprsFlows, IteratorsFlows, ArgumentsFlows, Solves}
use Rattle.setl_advise_flows.specs.Invariant.{Passes, onto, nothing, truth, StoresIn, EnvironmentIn, SelectsFrom, WaitingIn, ExprFrameIn, Waits, CoreIn, MoveIn}
use Rattle.setl_advise_flows.proofs.Joining.{joins}
use Rattle.setl_advise_flows.proofs.Moving.{itself, empty_in, read_in, going, goes_with, delivers, decides, outcome_by, have_onto, in_flow, at_by, below_at, below_shape}
use Rattle.setl_advise_flows.proofs.Iterations.{ItemsIn, CollectionsIn, goes_inward, member_due}

literal_in : (d : Datum) → HasAt (literal_flow d) (Some d)
literal_in (int z) = tt
literal_in (text t) = tt
literal_in (bool b) = tt
literal_in (atom n) = tt
literal_in (tuple ps) = tt
literal_in (set ms) = tt

literal_has : (s : Flows) (d : Datum) → HasShape (shape_of s (Literal d)) (Some d)
literal_has s (int z) = tt
literal_has s (text t) = tt
literal_has s (bool b) = tt
literal_has s (atom n) = tt
literal_has s (tuple ps) = tt
literal_has s (set ms) = tt

parameters_in : (s : Flows) (body : ℕ) (xs : List Parameter) (ws : List Shape) (vs : List (Option Datum)) → ParametersAbove s body xs ws → HaveShapes ws vs → StoresIn s (bindings body xs vs)
parameters_in s body [] ws vs h k = tt
parameters_in s body (x ∷ xs) [] [] h k = (tt, parameters_om xs)
  where
    parameters_om : (xs : List Parameter) → StoresIn s (bindings body xs [])
    parameters_om [] = tt
    parameters_om (x ∷ xs) = (tt, parameters_om xs)
parameters_in s body (x ∷ xs) (w ∷ ws) (v ∷ vs) h k = (below_shape w (s.of (parameter body x)) h.0 v k.0, parameters_in s body xs ws vs h.1 k.1)
parameters_in s body (x ∷ xs) [] (v ∷ vs) h k = absurd k
parameters_in s body (x ∷ xs) (w ∷ ws) [] h k = absurd k

backs_in : (s : Flows) (bs : HandBacks) (own : Environment) → BacksBelow s bs → EnvironmentIn s own → StoresIn s (handed_back bs own)
backs_in s [] own h k = tt
backs_in s (b ∷ bs) own h k = (below_at (s.of b.0) (s.of b.1) h.0 (value_in own b.0) (k b.0), backs_in s bs own h.1 k)

module _ (p : Program) (s : Flows) (solves : Solves p s) (ops : OperatorsIn) (items_in : ItemsIn s) (collects : CollectionsIn) where
  -- ---- operators

  pub applies : (es : Exprs) (o : Operator) (ws : List Shape) (got : List (Option Datum)) (out : Shape) (r : Flow) (work : List Frame) (c : Core) → CoreIn p s c →
      HaveShapes ws got → ExprsFlows p s es → Passes (op_shape o (onto ws (shapes_of s es))) out → Waits p s r true out work → MoveIn p s (operands o got es work c)
  applies no_expr o ws got out r work c h have fl up a =
      delivers p s out (op_of o (reverse_aux got []) c.shared.world.left) r work c h
      (outcome_by (op_shape o (onto ws [])) out up (op_of o (reverse_aux got []) c.shared.world.left) (ops o (onto ws []) (reverse_aux got []) c.shared.world.left (have_onto ws [] got [] have tt))) a
  applies (more_exprs e rest) o ws got out r work c h have fl up a =
      going p s c h r (Evaluate e) (InExpr (Operands o got rest) ∷ work) (shape_of s e, fl.0, itself (shape_of s e), (out, (ws, have, fl.1, up), a))

  connects : (k : Connective) (b : Expr) (v : Option Datum) (out : Shape) (r : Flow) (work : List Frame) (c : Core) → CoreIn p s c → ExprFlows p s b → Passes truth out → Waits p s r true out work → MoveIn p s (connect k b v work c)
  connects k b v out r work c h fl up a = by_kind k
    where
      right : MoveIn p s (go (Evaluate b) (InExpr ConnectRight ∷ work) c)
      right = going p s c h r (Evaluate b) (InExpr ConnectRight ∷ work) (shape_of s b, fl, itself (shape_of s b), (out, up, a))

      known : (t : Bool) → MoveIn p s (go (Result (Some (bool t))) work c)
      known t = going p s c h r (Result (Some (bool t))) work (out, up (Some (bool t)) tt, (true, a))

      by_kind : (k : Connective) → MoveIn p s (connect k b v work c)
      by_kind And = decides p s v (line_of work) (go (Evaluate b) (InExpr ConnectRight ∷ work) c) (go (Result (Some (bool false))) work c) right (known false)
      by_kind Or = decides p s v (line_of work) (go (Result (Some (bool true))) work c) (go (Evaluate b) (InExpr ConnectRight ∷ work) c) (known true) right
      by_kind Implies = decides p s v (line_of work) (go (Evaluate b) (InExpr ConnectRight ∷ work) c) (go (Result (Some (bool true))) work c) right (known true)

  -- the right part of a connective is a truth value
  truths : (v : Option Datum) (out : Shape) (r : Flow) (work : List Frame) (c : Core) → CoreIn p s c → Passes truth out → Waits p s r true out work → MoveIn p s (branch v (line_of work) (go (Result v) work c) (go (Result v) work c))
  truths (Some (bool true)) out r work c h up a = going p s c h r (Result (Some (bool true))) work (out, up (Some (bool true)) tt, (true, a))
  truths (Some (bool false)) out r work c h up a = going p s c h r (Result (Some (bool false))) work (out, up (Some (bool false)) tt, (true, a))
  truths None out r work c h up a = tt
  truths (Some (int z)) out r work c h up a = tt
  truths (Some (text z)) out r work c h up a = tt
  truths (Some (atom z)) out r work c h up a = tt
  truths (Some (tuple z)) out r work c h up a = tt
  truths (Some (set z)) out r work c h up a = tt

  pub expr_takes : (f : ExprFrame) (v : Option Datum) (w out : Shape) (r : Flow) (work : List Frame) (c : Core) → CoreIn p s c → ExprFrameIn p s w f out → HasShape w v → Waits p s r true out work → MoveIn p s (result_in_expr f v work c)
  expr_takes (Operands o got rest) v w out r work c h x y a = applies rest o (w ∷ x.0) (v ∷ got) out r work c h (y, x.1) x.2 x.3 a
  expr_takes (ConnectLeft k b) v w out r work c h x y a = connects k b v out r work c h x.0 x.1 a
  expr_takes ConnectRight v w out r work c h x y a = truths v out r work c h x a
  expr_takes (ChooseTest e f) v w out r work c h x y a =
      decides p s v (line_of work) (go (Evaluate e) work c) (go (Evaluate f) work c)
      (going p s c h r (Evaluate e) work (out, x.0, x.2, a)) (going p s c h r (Evaluate f) work (out, x.1, x.3, a))

  -- ---- calls

  enters : (f : ℕ) (q : Option Procedure) → slice_get p.procedures f ≡ q → (all : Arguments) (ws : List Shape) (vs : List (Option Datum)) (out : Shape) (r : Flow) (work : List Frame) (c : Core) → CoreIn p s c →
      HaveShapes ws vs → CallFlows s (suc f) q all ws → Passes (Plain (s.result f)) out → Waits p s r true out work → MoveIn p s (enter (suc f) q all vs work c)
  enters f None at all ws vs out r work c h have fl up a = tt
  enters f (Some q) at all ws vs out r work c h have fl up a =
      goes_with p s (left_after 1 c.shared.world.left) c
      (λ d. Moves [] (Called (line_of work) q.name ∷ [])
      (record d {
        shared = record d.shared { own = [] };
        hand = Execute q.body;
        work = InCall (Activation q.name (hand_backs (suc f) q.parameters all) d.shared.own) ∷ work;
      })
      (line_of work) (bindings (suc f) q.parameters vs))
      (λ n. (
        record {
          globals = h.globals;
          own = empty_in s;
          result = s.result f;
          hand = (solves.procedures f q at, (r, out, nothing_passes (s.result f), up, fl.1, h.own, a));
          kept = h.kept;
        },
        parameters_in s (suc f) q.parameters ws vs fl.0 have,
      ))
    where
      nothing_passes : (g : Flow) → Passes nothing (Plain g)
      nothing_passes g None x = tt
      nothing_passes g (Some d) x = absurd x

  pub passes : (rest : Arguments) (f : ℕ) (all : Arguments) (ws : List Shape) (got : List (Option Datum)) (out : Shape) (r : Flow) (work : List Frame) (c : Core) → CoreIn p s c →
      HaveShapes ws got → ArgumentsFlows p s rest → CallFlows s (suc f) (slice_get p.procedures f) all (onto ws (argument_shapes s rest)) → Passes (Plain (s.result f)) out → Waits p s r true out work →
      MoveIn p s (arguments p f all got rest work c)
  passes no_argument f all ws got out r work c h have fl k up a =
      enters f (slice_get p.procedures f) refl all (onto ws []) (reverse_aux got []) out r work c h (have_onto ws [] got [] have tt) k up a
  passes (rd_argument e rest) f all ws got out r work c h have fl k up a =
      going p s c h r (Evaluate e) (InCall (Argument f all got rest) ∷ work) (shape_of s e, fl.0, itself (shape_of s e), (ws, out, have, fl.1, k, up, a))
  passes (wr_argument x rest) f all ws got out r work c h have fl k up a =
      going p s c h r (Result None) (InCall (Argument f all got rest) ∷ work) (nothing, tt, (true, (ws, out, have, fl, k, up, a)))
  passes (rw_argument x rest) f all ws got out r work c h have fl k up a =
      going p s c h r (Result (read_variable x c.shared)) (InCall (Argument f all got rest) ∷ work) (Plain (s.of x), read_in p s x c h, (true, (ws, out, have, fl, k, up, a)))

  pub leaves : (name : List ℕ) (backs : HandBacks) (own : Environment) (v : Option Datum) (out : Shape) (r around : Flow) (work : List Frame) (c : Core) → CoreIn p s c →
      BacksBelow s backs → EnvironmentIn s own → HasShape out v → Waits p s around true out work → MoveIn p s (leave name backs own v work c)
  leaves name backs own v out r around work c h b e x a =
      (record { globals = h.globals; own = e; result = around; hand = (out, x, (true, (backs_in s backs c.shared.own b h.own, a))); kept = h.kept }, tt)

  -- ---- expressions

  pub waiting_in : (is : Iterators) (m : Shape) → IteratorsFlows p s is → WaitingIn p s false m is
  waiting_in no_iterator m h = tt
  waiting_in (more_iterators b es rest) m h = (h.0, (h.1, tt), waiting_in rest m h.2)

  selects_from : (b : Binding) (f : Flow) → BindsMembers b → SelectsFrom true (member_shape f) b f
  selects_from (Member k x) f h = itself (member_shape f)
  selects_from (Components k xs) f h = itself (member_shape f)
  selects_from (Point y x) f h = absurd h

  joined_left : (a b : Shape) → Passes a (Plain (join (flow_of a) (flow_of b)))
  joined_left a b v h = at_by (flow_of a) (join (flow_of a) (flow_of b)) (joins 3 (flow_of a) (flow_of b)).0 v (in_flow a v h)

  joined_right : (a b : Shape) → Passes b (Plain (join (flow_of a) (flow_of b)))
  joined_right a b v h = at_by (flow_of b) (join (flow_of a) (flow_of b)) (joins 3 (flow_of a) (flow_of b)).1 v (in_flow b v h)

  pub evaluates : (e : Expr) (w : Shape) (r : Flow) (work : List Frame) (c : Core) → CoreIn p s c → ExprFlows p s e → Passes (shape_of s e) w → Waits p s r true w work → MoveIn p s (evaluate p e work c)
  evaluates (Literal d) w r work c h fl up a = going p s c h r (Result (Some d)) work (w, up (Some d) (literal_has s d), (true, a))
  evaluates Undefined w r work c h fl up a = going p s c h r (Result None) work (w, up None tt, (true, a))
  evaluates (Name x) w r work c h fl up a = going p s c h r (Result (read_variable x c.shared)) work (w, up (read_variable x c.shared) (read_in p s x c h), (true, a))
  evaluates (Apply o es) w r work c h fl up a = applies es o [] [] w r work c h tt fl up a
  evaluates (Connect k x y) w r work c h fl up a = going p s c h r (Evaluate x) (InExpr (ConnectLeft k y) ∷ work) (shape_of s x, fl.0, itself (shape_of s x), (w, (fl.1, up), a))
  evaluates (Choose t x y) w r work c h fl up a =
      going p s c h r (Evaluate t) (InExpr (ChooseTest x y) ∷ work)
      (shape_of s t, fl.0, itself (shape_of s t), (w, (fl.1, fl.2, (λ v k. up v (joined_left (shape_of s x) (shape_of s y) v k)), (λ v k. up v (joined_right (shape_of s x) (shape_of s y) v k))), a))
  evaluates (Former k e is t) w r work c h fl up a =
      let m = Plain (flow_of (shape_of s e)) in
      goes_inward p s items_in collects is (Collect k e []) t [] r false m work c h
      (w, ((fl.0, in_flow (shape_of s e), tt, up), fl.2, tt, waiting_in is m fl.1), a) (member_due p s items_in collects is m (Collect k e []) tt)
  evaluates (Selection k b es t) w r work c h fl up a =
      let f = source_flow (begin_of b) (flows (shapes_of s es)) in
      goes_inward p s items_in collects (more_iterators b es no_iterator) (Select k None []) (only_if t) [] r true (member_shape f) work c h
      (w, ((refl, tt, up), fl.3, tt, (fl.1, (fl.2, selects_from b f fl.0), tt)), a) tt
  evaluates (Quantified q is t) w r work c h fl up a =
      goes_inward p s items_in collects is (Decide q) (only_if t) [] r false truth work c h
      (w, (up, fl.1, tt, waiting_in is truth fl.0), a) (member_due p s items_in collects is truth (Decide q) tt)
  evaluates (Call f all) w r work c h fl up a = passes all f all [] [] w r work c h tt fl.1 fl.0 up a
  evaluates Newat w r work c h fl up a =
      goes_with p s (left_after 1 c.shared.world.left) c
      (λ d. go (Result (Some (atom d.shared.world.atom))) work (record d { shared = record d.shared { world = record d.shared.world { atom = d.shared.world.atom + 1 } } }))
      (λ n. (record { globals = h.globals; own = h.own; result = r; hand = (w, up (Some (atom c.shared.world.atom)) tt, (true, a)); kept = h.kept }, tt))
  evaluates Eof w r work c h fl up a = going p s c h r (Result (Some (bool c.shared.world.eof))) work (w, up (Some (bool c.shared.world.eof)) tt, (true, a))
  evaluates Ok w r work c h fl up a =
      (record { globals = h.globals; own = h.own; result = r; hand = (w, up (Some (bool true)) tt, (true, a)); kept = ((h.globals, h.own, (r, w, up, a)), h.kept) }, tt)
