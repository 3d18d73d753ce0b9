-- Statements keep each value in its flow.
use Rattle.std.proofs.Common.{refl, subst, ℕ, Bool, true, false, List, [], ◌∷◌, Option, Some, None}
use Rattle.std.specs.List.{AllByRecursion}
use Rattle.setl_value.specs.Datum.{Datum, bool, int, text, atom, tuple, set, part_list}
use Rattle.setl_model_runs.specs.Variable.{Variable}
use Rattle.setl_model_runs.specs.Turns.{left_after}
use Rattle.setl_model_runs.specs.Events.{Back, Forgot}
use Rattle.setl_model_runs.specs.Run.{Moves}
use Rattle.setl_text.specs.Reading.{Reading, Denotes, AtEnd, NotForm, TooWide, TooDeep, read_denotation}
use Rattle.setl_program.specs.Program.{Slots, Exprs, no_expr, more_exprs, Stmt, Assign, Update, AssignParts, TakeFrom, Perform, If, For, While, Quit, Continue, Fail, Succeed, Stop, Pass, Return, Print, Read, Block, no_stmt, more_stmts, Program}
use Rattle.setl_model.specs.Slots.{Parting, Parted, NotParted, slot_stores, parting}
use Rattle.setl_model.specs.Core.{Execute, Evaluate, Result, Iterate, Goal, Collect, Select, Decide, Repeat, Iteration, Sources, ToBind, IsBound, Testing, Body, Paused, Argument, Activation, Puts, Combines, Takes, StmtFrame, AssignRight, UpdateRight, PartsRight, RoundSelector, BraceSelector, IfTest, WhileTest, WhileBody, PrintParts, Returning, Dropping, Round, Brace, Frame, InExpr, InIteration, InCall, InStmt, Storing, Then, Snapshot, Core}
use Rattle.setl_model.specs.World.{with_left}
use Rattle.setl_model.specs.Moves.{holding, go, turn}
use Rattle.setl_model.specs.Statements.{print_parts, take_reading, read_values, take_apart, quit, continue_loop, return_value, fail, succeed, perform, end_of_body, after_all, execute, result_in_stmt}
use Rattle.setl_advise_flows.specs.Flow.{Flow, Tuple, Nothing, Scalar, Set, Map, Any}
use Rattle.setl_advise_flows.specs.Has.{Has, HasAt, HasPart}
use Rattle.setl_advise_flows.specs.Operators.{part, Shape, Plain, flow_of, HasShape, OperatorsIn}
use Rattle.setl_advise_flows.specs.Expressions.{Flows, shape_of, RoundAt, BraceAt, Putting, Combining, Taking, SlotsBelow, ExprsFlows, ReadFlows, StmtFlows, BlockFlows, Solves}
use Rattle.setl_advise_flows.specs.Invariant.{nothing, gives_result, StoresIn, PartingIn, SnapshotIn, StmtFrameIn, Waits, CoreIn, MoveIn}
use Rattle.setl_advise_flows.proofs.Moving.{itself, going, spent, goes_with, stops, decides, in_flow, below_at, below_shape}
use Rattle.setl_advise_flows.proofs.Iterations.{ItemsIn, CollectionsIn, goes_inward, member_due, next_step}
use Rattle.setl_advise_flows.proofs.Places.{TakesIn, selects}
use Rattle.setl_advise_flows.proofs.Expressions.{waiting_in}

slots_in : (s : Flows) (f : Flow) (xs : Slots) (vs : List (Option Datum)) → SlotsBelow s f xs → AllByRecursion (HasPart (Has f)) vs → StoresIn s (slot_stores xs vs)
slots_in s f [] vs h k = tt
slots_in s f (None ∷ xs) [] h k = slots_in s f xs [] h tt
slots_in s f (Some x ∷ xs) [] h k = (tt, slots_in s f xs [] h.1 tt)
slots_in s f (None ∷ xs) (v ∷ vs) h k = slots_in s f xs vs h k.1
slots_in s f (Some x ∷ xs) (v ∷ vs) h k = (below_at f (s.of x) h.0 v k.0, slots_in s f xs vs h.1 k.1)

all_any : (vs : List (Option Datum)) → AllByRecursion (HasPart (Has Any)) vs
all_any [] = tt
all_any (None ∷ vs) = (tt, all_any vs)
all_any (Some d ∷ vs) = (tt, all_any vs)

-- the components of a tuple are in the part of its flow
pub parts_in : (f : Flow) (vs : _) → Has f (tuple vs) → AllByRecursion (HasPart (Has (part f))) (part_list vs)
parts_in (Tuple f) vs h = h
parts_in Nothing vs h = absurd h
parts_in Any vs h = all_any (part_list vs)
parts_in (Scalar k) vs h = all_any (part_list vs)
parts_in (Set f) vs h = all_any (part_list vs)
parts_in (Map f g) vs h = all_any (part_list vs)

pub parting_in : (s : Flows) (f : Flow) (xs : Slots) (v : Option Datum) → SlotsBelow s (part f) xs → HasAt f v → PartingIn s (parting xs v)
parting_in s f xs (Some (tuple vs)) h k = slots_in s (part f) xs (part_list vs) h (parts_in f vs k)
parting_in s f xs None h k = tt
parting_in s f xs (Some (bool z)) h k = tt
parting_in s f xs (Some (int z)) h k = tt
parting_in s f xs (Some (text z)) h k = tt
parting_in s f xs (Some (atom z)) h k = tt
parting_in s f xs (Some (set z)) h k = tt

module _ (p : Program) (s : Flows) (solves : Solves p s) (ops : OperatorsIn) (takes : TakesIn) (items_in : ItemsIn s) (collects : CollectionsIn) where
  ends : (r : Flow) (work : List Frame) (c : Core) → CoreIn p s c → Waits p s r false nothing work → MoveIn p s (go (Execute no_stmt) work c)
  ends r work c h a = going p s c h r (Execute no_stmt) work (tt, a)

  prints : (es : Exprs) (line : ℕ) (got : List (Option Datum)) (r : Flow) (work : List Frame) (c : Core) → CoreIn p s c → ExprsFlows p s es → Waits p s r false nothing work → MoveIn p s (print_parts line got es work c)
  prints no_expr line got r work c h fl a = (record { globals = h.globals; own = h.own; result = r; hand = (tt, a); kept = h.kept }, tt)
  prints (more_exprs e rest) line got r work c h fl a =
      going p s c h r (Evaluate e) (InStmt line (PrintParts got rest) ∷ work) (shape_of s e, fl.0, itself (shape_of s e), (fl.1, a))

  reads : (o : Reading) (line : ℕ) (x : Variable) (xs : List Variable) (r : Flow) (work : List Frame) (c : Core) → CoreIn p s c → ReadFlows s (x ∷ xs) → Waits p s r false nothing work → MoveIn p s (take_reading o line x xs work c)
  reads (Denotes v rest) line x xs r work c h fl a =
      (record { globals = h.globals; own = h.own; result = r; hand = (nothing, tt, (true, ((below_at Any (s.of x) fl.0 v (any_at v), tt), (tt, ((fl.1, tt), a))))); kept = h.kept }, tt)
    where
      any_at : (v : Option Datum) → HasAt Any v
      any_at None = tt
      any_at (Some d) = tt
  reads AtEnd line x xs r work c h fl a =
      (record { globals = h.globals; own = h.own; result = r; hand = (nothing, tt, (true, ((tt, tt), (tt, ((fl.1, tt), a))))); kept = h.kept }, tt)
  reads NotForm line x xs r work c h fl a = tt
  reads TooWide line x xs r work c h fl a = tt
  reads TooDeep line x xs r work c h fl a = tt

  read_all : (xs : List Variable) (line : ℕ) (r : Flow) (work : List Frame) (c : Core) → CoreIn p s c → ReadFlows s xs → Waits p s r false nothing work → MoveIn p s (read_values line xs work c)
  read_all [] line r work c h fl a = ends r work c h a
  read_all (x ∷ xs) line r work c h fl a = reads (read_denotation c.shared.world.input) line x xs r work c h fl a

  takes_apart : (o : Parting) (line : ℕ) (r : Flow) (work : List Frame) (c : Core) → CoreIn p s c → PartingIn s o → Waits p s r false nothing work → MoveIn p s (take_apart o line work c)
  takes_apart (Parted xs) line r work c h x a = going p s c h r (Result None) (Storing xs ∷ InStmt line Dropping ∷ work) (nothing, tt, (true, (x, (tt, a))))
  takes_apart (NotParted fault) line r work c h x a = stops p s fault line

  fails : (line : ℕ) (ks : List Snapshot) (c : Core) → CoreIn p s c → AllByRecursion (SnapshotIn p s) ks → MoveIn p s (fail line ks c)
  fails line [] c h k = tt
  fails line (q ∷ older) c h k =
      goes_with p s (left_after 1 c.shared.world.left) c
      (λ d. Moves [] (Back ∷ [])
      (record d {
        shared = record d.shared { globals = q.globals; own = q.own };
        hand = Result (Some (bool false));
        work = q.work;
        kept = older;
      })
      0 [])
      (λ n. (record { globals = k.0.0; own = k.0.1; result = k.0.2.0; hand = (k.0.2.1, k.0.2.2 (Some (bool false)) tt, (true, k.0.2.3)); kept = k.1 }, tt))

  succeeds : (line : ℕ) (ks : List Snapshot) (r : Flow) (work : List Frame) (c : Core) → CoreIn p s c → AllByRecursion (SnapshotIn p s) ks → Waits p s r false nothing work → MoveIn p s (succeed line ks work c)
  succeeds line [] r work c h k a = tt
  succeeds line (q ∷ older) r work c h k a = (record { globals = h.globals; own = h.own; result = r; hand = (tt, a); kept = k.1 }, tt)

  quits : (work : List Frame) (w : Shape) (r : Flow) (c : Core) → CoreIn p s c → Waits p s r false w work → MoveIn p s (quit work c)
  quits (Then b ∷ work) w r c h a = quits work nothing r c h a.1
  quits (InStmt line (WhileBody e b) ∷ work) w r c h a = ends r work c h a.1
  quits (InIteration Body i ∷ work) w r c h a = by_goal i.goal i.condition i.started i.waiting a
    where
      by_goal : (g : Goal) (t : _) (ls : _) (is : _) → Waits p s r false w (InIteration Body (record { goal = g; condition = t; started = ls; waiting = is }) ∷ work) → MoveIn p s (go (Execute no_stmt) work c)
      by_goal (Repeat line b) t ls is a = ends r work c h (subst (λ w. Waits p s r false w work) a.4.0.1 a.5)
      by_goal (Collect k e got) t ls is a = cc
      by_goal (Select k e got) t ls is a = cc
      by_goal (Decide q) t ls is a = cc
  quits [] w r c h a = tt
  quits (InExpr f ∷ work) w r c h a = tt
  quits (InCall f ∷ work) w r c h a = tt
  quits (Storing xs ∷ work) w r c h a = tt
  quits (InStmt line (AssignRight q) ∷ work) w r c h a = tt
  quits (InStmt line (UpdateRight o q) ∷ work) w r c h a = tt
  quits (InStmt line (PartsRight xs) ∷ work) w r c h a = tt
  quits (InStmt line (RoundSelector x n g q) ∷ work) w r c h a = tt
  quits (InStmt line (BraceSelector x n g q) ∷ work) w r c h a = tt
  quits (InStmt line (IfTest x y) ∷ work) w r c h a = tt
  quits (InStmt line (WhileTest x y) ∷ work) w r c h a = tt
  quits (InStmt line (PrintParts g q) ∷ work) w r c h a = tt
  quits (InStmt line Returning ∷ work) w r c h a = tt
  quits (InStmt line Dropping ∷ work) w r c h a = tt
  quits (InIteration (Sources g q) i ∷ work) w r c h a = tt
  quits (InIteration (ToBind q) i ∷ work) w r c h a = tt
  quits (InIteration IsBound i ∷ work) w r c h a = tt
  quits (InIteration Testing i ∷ work) w r c h a = tt
  quits (InIteration Paused i ∷ work) w r c h a = tt

  continues : (work : List Frame) (due : Bool) (w : Shape) (r : Flow) (c : Core) → CoreIn p s c → Waits p s r due w work → MoveIn p s (continue_loop work c)
  continues (Then b ∷ work) due w r c h a = continues work false nothing r c h a.1
  continues (InStmt line (WhileBody e b) ∷ work) due w r c h a = going p s c h r (Evaluate e) (InStmt line (WhileTest e b) ∷ work) (shape_of s e, a.0.0, itself (shape_of s e), (a.0, a.1))
  continues (InIteration Body i ∷ work) due w r c h a = next_step p s items_in collects r a.1 a.2 i work c h (a.0, a.4, a.5)
  continues [] due w r c h a = tt
  continues (InExpr f ∷ work) due w r c h a = tt
  continues (InCall f ∷ work) due w r c h a = tt
  continues (Storing xs ∷ work) due w r c h a = tt
  continues (InStmt line (AssignRight q) ∷ work) due w r c h a = tt
  continues (InStmt line (UpdateRight o q) ∷ work) due w r c h a = tt
  continues (InStmt line (PartsRight xs) ∷ work) due w r c h a = tt
  continues (InStmt line (RoundSelector x n g q) ∷ work) due w r c h a = tt
  continues (InStmt line (BraceSelector x n g q) ∷ work) due w r c h a = tt
  continues (InStmt line (IfTest x y) ∷ work) due w r c h a = tt
  continues (InStmt line (WhileTest x y) ∷ work) due w r c h a = tt
  continues (InStmt line (PrintParts g q) ∷ work) due w r c h a = tt
  continues (InStmt line Returning ∷ work) due w r c h a = tt
  continues (InStmt line Dropping ∷ work) due w r c h a = tt
  continues (InIteration (Sources g q) i ∷ work) due w r c h a = tt
  continues (InIteration (ToBind q) i ∷ work) due w r c h a = tt
  continues (InIteration IsBound i ∷ work) due w r c h a = tt
  continues (InIteration Testing i ∷ work) due w r c h a = tt
  continues (InIteration Paused i ∷ work) due w r c h a = tt

  returns : (work : List Frame) (due : Bool) (w : Shape) (r : Flow) (v : Option Datum) (c : Core) → CoreIn p s c → HasAt r v → Waits p s r due w work → MoveIn p s (return_value v work c)
  returns (Then b ∷ work) due w r v c h x a = returns work false nothing r v c h x a.1
  returns (InStmt line (WhileBody e b) ∷ work) due w r v c h x a = returns work false nothing r v c h x a.1
  returns (InIteration Body i ∷ work) due w r v c h x a = returns work (gives_result i.goal) a.0 r v c h x a.5
  returns (InCall (Activation name backs own) ∷ work) due w r v c h x a =
      going p s c h r (Result v) (InCall (Activation name backs own) ∷ work) (Plain r, x, (true, (a.0, a.1, itself (Plain r), a.3, a.4, a.5, a.6)))
  returns (InCall (Argument f all got q) ∷ work) due w r v c h x a = tt
  returns [] due w r v c h x a = tt
  returns (InExpr f ∷ work) due w r v c h x a = tt
  returns (Storing xs ∷ work) due w r v c h x a = tt
  returns (InStmt line (AssignRight q) ∷ work) due w r v c h x a = tt
  returns (InStmt line (UpdateRight o q) ∷ work) due w r v c h x a = tt
  returns (InStmt line (PartsRight xs) ∷ work) due w r v c h x a = tt
  returns (InStmt line (RoundSelector y n g q) ∷ work) due w r v c h x a = tt
  returns (InStmt line (BraceSelector y n g q) ∷ work) due w r v c h x a = tt
  returns (InStmt line (IfTest y z) ∷ work) due w r v c h x a = tt
  returns (InStmt line (WhileTest y z) ∷ work) due w r v c h x a = tt
  returns (InStmt line (PrintParts g q) ∷ work) due w r v c h x a = tt
  returns (InStmt line Returning ∷ work) due w r v c h x a = tt
  returns (InStmt line Dropping ∷ work) due w r v c h x a = tt
  returns (InIteration (Sources g q) i ∷ work) due w r v c h x a = tt
  returns (InIteration (ToBind q) i ∷ work) due w r v c h x a = tt
  returns (InIteration IsBound i ∷ work) due w r v c h x a = tt
  returns (InIteration Testing i ∷ work) due w r v c h x a = tt
  returns (InIteration Paused i ∷ work) due w r v c h x a = tt

  after_body : (g : Goal) (i : Iteration) (r : Flow) (work : List Frame) (c : Core) → MoveIn p s (go Iterate (InIteration Paused i ∷ work) c) → MoveIn p s (end_of_body g i work c)
  after_body (Repeat line b) i r work c m = m
  after_body (Collect k e got) i r work c m = tt
  after_body (Select k e got) i r work c m = tt
  after_body (Decide q) i r work c m = tt

  goes_after : (work : List Frame) (r : Flow) (c : Core) → CoreIn p s c → Waits p s r false nothing work → MoveIn p s (after_all work c)
  goes_after [] r c h a = tt
  goes_after (Then b ∷ work) r c h a = going p s c h r (Execute b) work a
  goes_after (InStmt line (WhileBody e b) ∷ work) r c h a = going p s c h r (Evaluate e) (InStmt line (WhileTest e b) ∷ work) (shape_of s e, a.0.0, itself (shape_of s e), (a.0, a.1))
  goes_after (InIteration Body i ∷ work) r c h a = after_body i.goal i r work c (next_step p s items_in collects r a.1 a.2 i work c h (a.0, a.4, a.5))
  goes_after (InCall (Activation name backs own) ∷ work) r c h a = going p s c h r (Result None) (InCall (Activation name backs own) ∷ work) (nothing, tt, (true, a))
  goes_after (InCall (Argument f all got q) ∷ work) r c h a = tt
  goes_after (InExpr f ∷ work) r c h a = tt
  goes_after (Storing xs ∷ work) r c h a = tt
  goes_after (InStmt line (AssignRight q) ∷ work) r c h a = tt
  goes_after (InStmt line (UpdateRight o q) ∷ work) r c h a = tt
  goes_after (InStmt line (PartsRight xs) ∷ work) r c h a = tt
  goes_after (InStmt line (RoundSelector x n g q) ∷ work) r c h a = tt
  goes_after (InStmt line (BraceSelector x n g q) ∷ work) r c h a = tt
  goes_after (InStmt line (IfTest x y) ∷ work) r c h a = tt
  goes_after (InStmt line (WhileTest x y) ∷ work) r c h a = tt
  goes_after (InStmt line (PrintParts g q) ∷ work) r c h a = tt
  goes_after (InStmt line Returning ∷ work) r c h a = tt
  goes_after (InStmt line Dropping ∷ work) r c h a = tt
  goes_after (InIteration (Sources g q) i ∷ work) r c h a = tt
  goes_after (InIteration (ToBind q) i ∷ work) r c h a = tt
  goes_after (InIteration IsBound i ∷ work) r c h a = tt
  goes_after (InIteration Testing i ∷ work) r c h a = tt
  goes_after (InIteration Paused i ∷ work) r c h a = tt

  performs : (a : Stmt) (line : ℕ) (r : Flow) (work : List Frame) (c : Core) → CoreIn p s c → StmtFlows p s r a → Waits p s r false nothing work → MoveIn p s (perform line a work c)
  performs (Assign l e) line r work c h fl a = going p s c h r (Evaluate e) (InStmt line (AssignRight l) ∷ work) (shape_of s e, fl.0, itself (shape_of s e), ((fl.1, fl.2), a))
  performs (Update o l e) line r work c h fl a = going p s c h r (Evaluate e) (InStmt line (UpdateRight o l) ∷ work) (shape_of s e, fl.0, itself (shape_of s e), ((fl.1, fl.2), a))
  performs (AssignParts xs e) line r work c h fl a = going p s c h r (Evaluate e) (InStmt line (PartsRight xs) ∷ work) (shape_of s e, fl.0, itself (shape_of s e), (fl.1, a))
  performs (TakeFrom k x l) line r work c h fl a = selects p s ops takes l.selectors line l.variable (Taking x) (Takes k x) [] [] r work c h fl.0 tt refl fl.1 a
  performs (Perform e) line r work c h fl a = going p s c h r (Evaluate e) (InStmt line Dropping ∷ work) (shape_of s e, fl, itself (shape_of s e), (tt, a))
  performs (If e x y) line r work c h fl a = going p s c h r (Evaluate e) (InStmt line (IfTest x y) ∷ work) (shape_of s e, fl.0, itself (shape_of s e), ((fl.1, fl.2), a))
  performs (For is t b) line r work c h fl a =
      goes_inward p s items_in collects is (Repeat line b) t [] r false nothing work c h (nothing, ((fl.2, refl), fl.1, tt, waiting_in p s solves ops items_in collects is nothing fl.0), a) (member_due p s items_in collects is nothing (Repeat line b) tt)
  performs (While e b) line r work c h fl a = going p s c h r (Evaluate e) (InStmt line (WhileTest e b) ∷ work) (shape_of s e, fl.0, itself (shape_of s e), (fl, a))
  performs Quit line r work c h fl a = quits work nothing r c h a
  performs Continue line r work c h fl a = continues work false nothing r c h a
  performs Fail line r work c h fl a = fails line c.kept c h h.kept
  performs Succeed line r work c h fl a = succeeds line c.kept r work c h h.kept a
  performs Stop line r work c h fl a = tt
  performs Pass line r work c h fl a = ends r work c h a
  performs (Return e) line r work c h fl a = going p s c h r (Evaluate e) (InStmt line Returning ∷ work) (shape_of s e, fl.0, itself (shape_of s e), (below_shape (shape_of s e) r fl.1, a))
  performs (Print es) line r work c h fl a = prints es line [] r work c h fl a
  performs (Read xs) line r work c h fl a = read_all xs line r work c h fl a

  pub executes : (b : Block) (r : Flow) (work : List Frame) (c : Core) → CoreIn p s c → BlockFlows p s r b → Waits p s r false nothing work → MoveIn p s (execute b work c)
  executes no_stmt r work c h fl a = goes_after work r c h a
  executes (more_stmts line b rest) r work c h fl a = performs b line r (Then rest ∷ work) c h fl.0 (fl.1, a)

  pub stmt_takes : (f : StmtFrame) (line : ℕ) (v : Option Datum) (w : Shape) (r : Flow) (work : List Frame) (c : Core) → CoreIn p s c → StmtFrameIn p s r w f → HasShape w v → Waits p s r false nothing work → MoveIn p s (result_in_stmt line f v work c)
  stmt_takes (AssignRight l) line v w r work c h x y a = selects p s ops takes l.selectors line l.variable (Putting (flow_of w)) (Puts v) [] [] r work c h x.0 tt (in_flow w v y) x.1 a
  stmt_takes (UpdateRight o l) line v w r work c h x y a = selects p s ops takes l.selectors line l.variable (Combining o w) (Combines o v) [] [] r work c h x.0 tt (refl, y) x.1 a
  stmt_takes (PartsRight xs) line v w r work c h x y a = takes_apart (parting xs v) line r work c h (parting_in s (flow_of w) xs v x (in_flow w v y)) a
  stmt_takes (RoundSelector z n got rest) line v w r work c h x y a =
      selects p s ops takes rest line z x.1.1 n (RoundAt (flow_of w) ∷ x.1.0) (Round v ∷ got) r work c h x.0 (in_flow w v y, x.1.2) x.1.3 x.1.4 a
  stmt_takes (BraceSelector z n got rest) line v w r work c h x y a =
      selects p s ops takes rest line z x.1.1 n (BraceAt (flow_of w) ∷ x.1.0) (Brace v ∷ got) r work c h x.0 (in_flow w v y, x.1.2) x.1.3 x.1.4 a
  stmt_takes (IfTest d e) line v w r work c h x y a = decides p s v line (go (Execute d) work c) (go (Execute e) work c) (going p s c h r (Execute d) work (x.0, a)) (going p s c h r (Execute e) work (x.1, a))
  stmt_takes (WhileTest e b) line v w r work c h x y a =
      decides p s v line (turn c (λ d. go (Execute b) (InStmt line (WhileBody e b) ∷ work) d)) (go (Execute no_stmt) work c)
      (goes_with p s (left_after 1 c.shared.world.left) c (λ d. go (Execute b) (InStmt line (WhileBody e b) ∷ work) d)
      (λ n. going p s (with_left holding n c) (spent p s c h n) r (Execute b) (InStmt line (WhileBody e b) ∷ work) (x.1, (x, a))))
      (ends r work c h a)
  stmt_takes (WhileBody e b) line v w r work c h x y a = tt
  stmt_takes (PrintParts got rest) line v w r work c h x y a = prints rest line (v ∷ got) r work c h x a
  stmt_takes Returning line v w r work c h x y a = returns work false nothing r v c h (x v y) a
  stmt_takes Dropping line v w r work c h x y a = ends r work c h a
