-- States in which each value is in its flow.
use Rattle.std.specs.Prelude.{◌≡◌, suc, Bool, true, false, List, [], ◌∷◌, slice_get, Option}
use Rattle.std.specs.List.{AllByRecursion}
use Rattle.setl_value.specs.Datum.{Datum}
use Rattle.setl_model_runs.specs.Variable.{Variable, Environment, value_in}
use Rattle.setl_model_runs.specs.Events.{Unfit, End, Stopped}
use Rattle.setl_model_runs.specs.Run.{Store, Move, Moves, Halts}
use Rattle.setl_program.specs.Program.{Binding, Point, begin_of, Iterators, no_iterator, more_iterators, Program}
use Rattle.setl_model.specs.Slots.{Parting, Parted, NotParted}
use Rattle.setl_model.specs.Iterations.{item_stores}
use Rattle.setl_model.specs.Core.{Hand, Execute, Evaluate, Result, Iterate, ExprFrame, Operands, ConnectLeft, ConnectRight, ChooseTest, Goal, Collect, Select, Decide, Repeat, Item, One, Two, Level, Iteration, IterationFrame, Sources, ToBind, IsBound, Testing, Body, Paused, Argument, Activation, Selected, Round, Brace, Change, Puts, Combines, Takes, StmtFrame, AssignRight, UpdateRight, PartsRight, RoundSelector, BraceSelector, IfTest, WhileTest, WhileBody, PrintParts, Returning, Dropping, Frame, InExpr, InIteration, InCall, InStmt, Storing, Then, Snapshot, Core}
use Rattle.setl_advise_flows.specs.Flow.{Truth, Flow, Nothing, Scalar}
use Rattle.setl_advise_flows.specs.Has.{HasAt}
use Rattle.setl_advise_flows.specs.Operators.{Shape, Plain, flow_of, flows, HasShape, HaveShapes, op_shape, part}
use Rattle.setl_advise_flows.specs.Expressions.{Flows, shape_of, shapes_of, argument_shapes, source_flow, member_shape, of_members, SlotsBelow, BindingBelow, BacksBelow, CallFlows, ExprFlows, ExprsFlows, ConditionFlows, ArgumentsFlows, At, RoundAt, BraceAt, Doing, Putting, Combining, Taking, UpdateFlows, ats_of, SelectorsFlows, BlockFlows}

-- what has the first shape has the second
abbrev pub Passes : Shape → Shape → Type 0
Passes a b = (v : Option Datum) → HasShape a v → HasShape b v

-- the end of statements, and what is due between two steps, hand on no value
abbrev pub nothing : Shape
nothing = Plain Nothing

abbrev pub truth : Shape
truth = Plain (Scalar Truth)

-- the first list turned round, before the second
abbrev pub onto : {X : Type 0} → List X → List X → List X
onto [] ys = ys
onto (x ∷ xs) ys = onto xs (x ∷ ys)

abbrev pub EnvironmentIn : Flows → Environment → Type 0
EnvironmentIn s env = (x : Variable) → HasAt (s.of x) (value_in env x)

abbrev pub StoresIn : Flows → List Store → Type 0
StoresIn s xs = AllByRecursion (λ x. HasAt (s.of x.0) x.1) xs

abbrev pub PartingIn : Flows → Parting → Type 0
PartingIn s (Parted xs) = StoresIn s xs
PartingIn s (NotParted e) = Unit {0}

-- ---- iterations; `m` is the shape of what is collected, and `selects` says whether members themselves are

abbrev pub ItemMember : Bool → Shape → Item → Type 0
ItemMember true m (One v) = HasShape m v
ItemMember true m (Two x y) = ⊥
ItemMember false m item = Unit {0}

abbrev pub ItemIn : Flows → Bool → Shape → Binding → Item → Type 0
ItemIn s selects m b item = PartingIn s (item_stores b item) × ItemMember selects m item

abbrev pub SelectsFrom : Bool → Shape → Binding → Flow → Type 0
SelectsFrom true m (Point y x) f = ⊥
SelectsFrom true m b f = Passes (member_shape f) m
SelectsFrom false m b f = Unit {0}

-- an iterator whose sources have these shapes
abbrev pub BindingIn : Flows → Bool → Shape → Binding → List Shape → Type 0
BindingIn s selects m b ws = BindingBelow s b (source_flow (begin_of b) (flows ws)) × SelectsFrom selects m b (source_flow (begin_of b) (flows ws))

abbrev pub LevelIn : Program → Flows → Bool → Shape → Level → Type 0
LevelIn p s selects m l = ExprsFlows p s l.sources × BindingIn s selects m l.binding (shapes_of s l.sources) × AllByRecursion (ItemIn s selects m l.binding) l.left

abbrev pub WaitingIn : Program → Flows → Bool → Shape → Iterators → Type 0
WaitingIn p s selects m no_iterator = Unit {0}
WaitingIn p s selects m (more_iterators b es rest) = ExprsFlows p s es × BindingIn s selects m b (shapes_of s es) × WaitingIn p s selects m rest

-- what an iteration is for, over frames that wait for w
abbrev pub GoalIn : Program → Flows → Flow → Bool → Shape → Shape → Goal → Type 0
GoalIn p s r selects m w (Collect k e got) = ExprFlows p s e × Passes (shape_of s e) m × AllByRecursion (HasShape m) got × Passes (Plain (of_members k m)) w
GoalIn p s r selects m w (Select k v got) = (selects ≡ true) × AllByRecursion (HasShape m) got × Passes (Plain (of_members k m)) w
GoalIn p s r selects m w (Decide q) = Passes truth w
GoalIn p s r selects m w (Repeat line b) = BlockFlows p s r b × (w ≡ nothing)

-- the member in hand is bound
abbrev pub MemberIn : Shape → Goal → Type 0
MemberIn m (Select k v got) = HasShape m v
MemberIn m g = Unit {0}

abbrev pub SourcesIn : Program → Flows → Bool → Shape → List Shape → Iterators → Type 0
SourcesIn p s selects m ws no_iterator = Unit {0}
SourcesIn p s selects m ws (more_iterators b es rest) = BindingIn s selects m b ws

abbrev pub HeadIn : Flows → Bool → Shape → Item → List Level → Type 0
HeadIn s selects m item [] = Unit {0}
HeadIn s selects m item (l ∷ ls) = ItemIn s selects m l.binding item

-- the result of a body is collected; only a loop's body has none
abbrev pub BodyIn : Shape → Bool → Shape → Goal → Type 0
BodyIn m due w (Repeat line b) = Unit {0}
BodyIn m due w g = (due ≡ true) × Passes w m

-- all but a loop gives a result
abbrev pub gives_result : Goal → Bool
gives_result (Repeat line b) = false
gives_result g = true

abbrev pub IterationFrameIn : Program → Flows → Bool → Shape → (due : Bool) → Shape → IterationFrame → Iteration → Type 0
IterationFrameIn p s selects m due w (Sources got rest) i =
    (ws : List Shape) × HaveShapes ws got × ExprsFlows p s rest × SourcesIn p s selects m (onto ws (w ∷ shapes_of s rest)) i.waiting
IterationFrameIn p s selects m due w (ToBind item) i = HeadIn s selects m item i.started
IterationFrameIn p s selects m due w IsBound i = MemberIn m i.goal
IterationFrameIn p s selects m due w Testing i = MemberIn m i.goal
IterationFrameIn p s selects m due w Body i = BodyIn m due w i.goal
IterationFrameIn p s selects m due w Paused i = Unit {0}

abbrev pub IterationIn : Program → Flows → Flow → Bool → Shape → Shape → Iteration → Type 0
IterationIn p s r selects m out i =
    GoalIn p s r selects m out i.goal × ConditionFlows p s i.condition × AllByRecursion (LevelIn p s selects m) i.started × WaitingIn p s selects m i.waiting

-- ---- frames; `w` is the shape of the result that is handed to a frame, and `out` of what it hands on

abbrev pub ExprFrameIn : Program → Flows → Shape → ExprFrame → Shape → Type 0
ExprFrameIn p s w (Operands o got rest) out =
    (ws : List Shape) × HaveShapes ws got × ExprsFlows p s rest × Passes (op_shape o (onto ws (w ∷ shapes_of s rest))) out
ExprFrameIn p s w (ConnectLeft k b) out = ExprFlows p s b × Passes truth out
ExprFrameIn p s w ConnectRight out = Passes truth out
ExprFrameIn p s w (ChooseTest a b) out = ExprFlows p s a × ExprFlows p s b × Passes (shape_of s a) out × Passes (shape_of s b) out

abbrev pub SelectedIn : List At → List Selected → Type 0
SelectedIn [] [] = Unit {0}
SelectedIn (RoundAt f ∷ ats) (Round v ∷ got) = HasAt f v × SelectedIn ats got
SelectedIn (BraceAt f ∷ ats) (Brace v ∷ got) = HasAt f v × SelectedIn ats got
SelectedIn ats got = ⊥

abbrev pub ChangeIn : Doing → Change → Type 0
ChangeIn (Putting f) (Puts v) = HasAt f v
ChangeIn (Combining o w) (Combines n v) = (o ≡ n) × HasShape w v
ChangeIn (Taking x) (Takes k y) = x ≡ y
ChangeIn d c = ⊥

-- a selector of this flow is awaited, behind those with results and before the others
abbrev pub PlaceIn : Flows → Variable → Change → List Selected → At → List At → Type 0
PlaceIn s x change got here rest = (ats : List At) × (d : Doing) × SelectedIn ats got × ChangeIn d change × UpdateFlows s x (onto ats (here ∷ rest)) d

abbrev pub StmtFrameIn : Program → Flows → Flow → Shape → StmtFrame → Type 0
StmtFrameIn p s r w (AssignRight l) = SelectorsFlows p s l.selectors × UpdateFlows s l.variable (ats_of s l.selectors) (Putting (flow_of w))
StmtFrameIn p s r w (UpdateRight o l) = SelectorsFlows p s l.selectors × UpdateFlows s l.variable (ats_of s l.selectors) (Combining o w)
StmtFrameIn p s r w (PartsRight xs) = SlotsBelow s (part (flow_of w)) xs
StmtFrameIn p s r w (RoundSelector x change got rest) = SelectorsFlows p s rest × PlaceIn s x change got (RoundAt (flow_of w)) (ats_of s rest)
StmtFrameIn p s r w (BraceSelector x change got rest) = SelectorsFlows p s rest × PlaceIn s x change got (BraceAt (flow_of w)) (ats_of s rest)
StmtFrameIn p s r w (IfTest a b) = BlockFlows p s r a × BlockFlows p s r b
StmtFrameIn p s r w (WhileTest e b) = ExprFlows p s e × BlockFlows p s r b
StmtFrameIn p s r w (WhileBody e b) = ExprFlows p s e × BlockFlows p s r b
StmtFrameIn p s r w (PrintParts got rest) = ExprsFlows p s rest
StmtFrameIn p s r w Returning = Passes w (Plain r)
StmtFrameIn p s r w Dropping = Unit {0}

-- The frames can take a result of shape w, or, where none is due, the end of statements; r is the flow of the result of the procedure at work.
abbrev pub Waits : Program → Flows → Flow → (due : Bool) → Shape → List Frame → Type 0
Waits p s r due w [] = Unit {0}
Waits p s r due w (InExpr f ∷ work) = (out : Shape) × ExprFrameIn p s w f out × Waits p s r true out work
Waits p s r due w (InIteration f i ∷ work) =
    (out : Shape) × (selects : Bool) × (m : Shape) × IterationFrameIn p s selects m due w f i × IterationIn p s r selects m out i × Waits p s r (gives_result i.goal) out work
Waits p s r due w (InCall (Argument f all got rest) ∷ work) =
    (ws : List Shape) × (out : Shape) × HaveShapes ws got × ArgumentsFlows p s rest ×
    CallFlows s (suc f) (slice_get p.procedures f) all (onto ws (w ∷ argument_shapes s rest)) × Passes (Plain (s.result f)) out × Waits p s r true out work
Waits p s r due w (InCall (Activation name backs own) ∷ work) =
    (around : Flow) × (out : Shape) × Passes w (Plain r) × Passes (Plain r) out × BacksBelow s backs × EnvironmentIn s own × Waits p s around true out work
Waits p s r due w (InStmt line f ∷ work) = StmtFrameIn p s r w f × Waits p s r false nothing work
Waits p s r due w (Storing xs ∷ work) = StoresIn s xs × Waits p s r due w work
Waits p s r due w (Then b ∷ work) = BlockFlows p s r b × Waits p s r false nothing work

abbrev pub HandIn : Program → Flows → Flow → Hand → List Frame → Type 0
HandIn p s r (Execute b) work = BlockFlows p s r b × Waits p s r false nothing work
HandIn p s r (Evaluate e) work = (w : Shape) × ExprFlows p s e × Passes (shape_of s e) w × Waits p s r true w work
HandIn p s r (Result v) work = (w : Shape) × HasShape w v × ((due : Bool) × Waits p s r due w work)
HandIn p s r Iterate work = Waits p s r false nothing work

abbrev pub SnapshotIn : Program → Flows → Snapshot → Type 0
SnapshotIn p s k = EnvironmentIn s k.globals × EnvironmentIn s k.own × ((r : Flow) × (w : Shape) × Passes truth w × Waits p s r true w k.work)

-- each value of a core is in its flow
pub record CoreIn (p : Program) (s : Flows) (c : Core) : Type 0 where
  pub globals : EnvironmentIn s c.shared.globals
  pub own : EnvironmentIn s c.shared.own
  pub result : Flow
  pub hand : HandIn p s result c.hand c.work
  pub kept : AllByRecursion (SnapshotIn p s) c.kept

-- an end that isn't for a value that doesn't fit
abbrev pub FitsAtEnd : End → Type 0
FitsAtEnd (Stopped (Unfit x) line) = ⊥
FitsAtEnd e = Unit {0}

-- a move stores what is in the flows
abbrev pub MoveIn : Program → Flows → Move Core → Type 0
MoveIn p s (Moves said told to line xs) = CoreIn p s to × StoresIn s xs
MoveIn p s (Halts e) = FitsAtEnd e
