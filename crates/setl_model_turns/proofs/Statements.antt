-- Steps of statements.
use Rattle.std.proofs.Common.{refl, ℕ, List, [], ◌∷◌, Option}
use Rattle.setl_value.specs.Datum.{Datum}
use Rattle.setl_text.specs.Reading.{Reading, Denotes, AtEnd, NotForm, TooWide, TooDeep, read_denotation}
use Rattle.setl_program.specs.Program.{Exprs, no_expr, more_exprs, Stmt, Assign, Update, AssignParts, TakeFrom, Perform, If, For, While, Quit, Continue, Fail, Succeed, Stop, Pass, Return, Print, Read, Block, no_stmt, more_stmts}
use Rattle.setl_model_runs.specs.Variable.{Variable}
use Rattle.setl_model.specs.Core.{Execute, Goal, Collect, Select, Decide, Repeat, Iteration, Sources, ToBind, IsBound, Testing, Body, Paused, Argument, Activation, Puts, Combines, Takes, StmtFrame, AssignRight, UpdateRight, PartsRight, RoundSelector, BraceSelector, IfTest, WhileTest, WhileBody, PrintParts, Returning, Dropping, Round, Brace, Frame, InExpr, InIteration, InCall, InStmt, Storing, Then, Snapshot}
use Rattle.setl_model.specs.Slots.{Parting, Parted, NotParted, parting}
use Rattle.setl_model.specs.Statements.{print_parts, take_reading, read_values, take_apart, quit, continue_loop, return_value, fail, succeed, perform, end_of_body, after_all, execute, result_in_stmt}
use Rattle.setl_model_turns.proofs.Moves.{GoesOn, going, after_a_turn, deciding}
use Rattle.setl_model_turns.proofs.Iterations.{beginning}
use Rattle.setl_model_turns.proofs.Places.{selecting, changing}

printing : (es : Exprs) (line : ℕ) (got : List (Option Datum)) (work : List Frame) → GoesOn (print_parts line got es work)
printing no_expr line got work c n h = (n, h, refl)
printing (more_exprs e rest) line got work c n h = (n, h, refl)

reading : (r : Reading) (line : ℕ) (x : Variable) (xs : List Variable) (work : List Frame) → GoesOn (take_reading r line x xs work)
reading (Denotes v rest) line x xs work c n h = (n, h, refl)
reading AtEnd line x xs work c n h = (n, h, refl)
reading NotForm line x xs work c n h = refl
reading TooWide line x xs work c n h = refl
reading TooDeep line x xs work c n h = refl

reading_all : (xs : List Variable) (line : ℕ) (work : List Frame) → GoesOn (read_values line xs work)
reading_all [] line work c n h = (n, h, refl)
reading_all (x ∷ xs) line work c n h = reading (read_denotation c.shared.world.input) line x xs work c n h

taking_apart : (p : Parting) (line : ℕ) (work : List Frame) → GoesOn (take_apart p line work)
taking_apart (Parted xs) line work c n h = (n, h, refl)
taking_apart (NotParted fault) line work c n h = refl

quitting : (work : List Frame) → GoesOn (quit work)
quitting [] c n h = refl
quitting (Then b ∷ work) c n h = quitting work c n h
quitting (InStmt line (WhileBody e b) ∷ work) c n h = (n, h, refl)
quitting (InIteration Body i ∷ work) c n h = (n, h, refl)
quitting (InStmt line (AssignRight p) ∷ work) c n h = refl
quitting (InStmt line (UpdateRight o p) ∷ work) c n h = refl
quitting (InStmt line (PartsRight xs) ∷ work) c n h = refl
quitting (InStmt line (RoundSelector x change got rest) ∷ work) c n h = refl
quitting (InStmt line (BraceSelector x change got rest) ∷ work) c n h = refl
quitting (InStmt line (IfTest a b) ∷ work) c n h = refl
quitting (InStmt line (WhileTest e b) ∷ work) c n h = refl
quitting (InStmt line (PrintParts got rest) ∷ work) c n h = refl
quitting (InStmt line Returning ∷ work) c n h = refl
quitting (InStmt line Dropping ∷ work) c n h = refl
quitting (InIteration (Sources got rest) i ∷ work) c n h = refl
quitting (InIteration (ToBind item) i ∷ work) c n h = refl
quitting (InIteration IsBound i ∷ work) c n h = refl
quitting (InIteration Testing i ∷ work) c n h = refl
quitting (InIteration Paused i ∷ work) c n h = refl
quitting (InExpr f ∷ work) c n h = refl
quitting (InCall f ∷ work) c n h = refl
quitting (Storing xs ∷ work) c n h = refl

continuing : (work : List Frame) → GoesOn (continue_loop work)
continuing [] c n h = refl
continuing (Then b ∷ work) c n h = continuing work c n h
continuing (InStmt line (WhileBody e b) ∷ work) c n h = (n, h, refl)
continuing (InIteration Body i ∷ work) c n h = (n, h, refl)
continuing (InStmt line (AssignRight p) ∷ work) c n h = refl
continuing (InStmt line (UpdateRight o p) ∷ work) c n h = refl
continuing (InStmt line (PartsRight xs) ∷ work) c n h = refl
continuing (InStmt line (RoundSelector x change got rest) ∷ work) c n h = refl
continuing (InStmt line (BraceSelector x change got rest) ∷ work) c n h = refl
continuing (InStmt line (IfTest a b) ∷ work) c n h = refl
continuing (InStmt line (WhileTest e b) ∷ work) c n h = refl
continuing (InStmt line (PrintParts got rest) ∷ work) c n h = refl
continuing (InStmt line Returning ∷ work) c n h = refl
continuing (InStmt line Dropping ∷ work) c n h = refl
continuing (InIteration (Sources got rest) i ∷ work) c n h = refl
continuing (InIteration (ToBind item) i ∷ work) c n h = refl
continuing (InIteration IsBound i ∷ work) c n h = refl
continuing (InIteration Testing i ∷ work) c n h = refl
continuing (InIteration Paused i ∷ work) c n h = refl
continuing (InExpr f ∷ work) c n h = refl
continuing (InCall f ∷ work) c n h = refl
continuing (Storing xs ∷ work) c n h = refl

returning : (v : Option Datum) (work : List Frame) → GoesOn (return_value v work)
returning v [] c n h = refl
returning v (Then b ∷ work) c n h = returning v work c n h
returning v (InStmt line (WhileBody e b) ∷ work) c n h = returning v work c n h
returning v (InIteration Body i ∷ work) c n h = returning v work c n h
returning v (InCall (Activation name backs own) ∷ work) c n h = (n, h, refl)
returning v (InCall (Argument f all got rest) ∷ work) c n h = refl
returning v (InStmt line (AssignRight p) ∷ work) c n h = refl
returning v (InStmt line (UpdateRight o p) ∷ work) c n h = refl
returning v (InStmt line (PartsRight xs) ∷ work) c n h = refl
returning v (InStmt line (RoundSelector x change got rest) ∷ work) c n h = refl
returning v (InStmt line (BraceSelector x change got rest) ∷ work) c n h = refl
returning v (InStmt line (IfTest a b) ∷ work) c n h = refl
returning v (InStmt line (WhileTest e b) ∷ work) c n h = refl
returning v (InStmt line (PrintParts got rest) ∷ work) c n h = refl
returning v (InStmt line Returning ∷ work) c n h = refl
returning v (InStmt line Dropping ∷ work) c n h = refl
returning v (InIteration (Sources got rest) i ∷ work) c n h = refl
returning v (InIteration (ToBind item) i ∷ work) c n h = refl
returning v (InIteration IsBound i ∷ work) c n h = refl
returning v (InIteration Testing i ∷ work) c n h = refl
returning v (InIteration Paused i ∷ work) c n h = refl
returning v (InExpr f ∷ work) c n h = refl
returning v (Storing xs ∷ work) c n h = refl

failing : (line : ℕ) (kept : List Snapshot) → GoesOn (fail line kept)
failing line [] c n h = refl
failing line (s ∷ older) c n h = after_a_turn _ (λ d m k. (m, k, refl)) c n h

succeeding : (line : ℕ) (kept : List Snapshot) (work : List Frame) → GoesOn (succeed line kept work)
succeeding line [] work c n h = refl
succeeding line (s ∷ older) work c n h = (n, h, refl)

performing : (line : ℕ) (s : Stmt) (work : List Frame) → GoesOn (perform line s work)
performing line (Assign p e) work c n h = (n, h, refl)
performing line (Update o p e) work c n h = (n, h, refl)
performing line (AssignParts xs e) work c n h = (n, h, refl)
performing line (TakeFrom k x p) work c n h = changing line p (Takes k x) work c n h
performing line (Perform e) work c n h = (n, h, refl)
performing line (If e a b) work c n h = (n, h, refl)
performing line (For is t b) work c n h = beginning (Repeat line b) is t work c n h
performing line (While e b) work c n h = (n, h, refl)
performing line Quit work c n h = quitting work c n h
performing line Continue work c n h = continuing work c n h
performing line Fail work c n h = failing line c.kept c n h
performing line Succeed work c n h = succeeding line c.kept work c n h
performing line Stop work c n h = refl
performing line Pass work c n h = (n, h, refl)
performing line (Return e) work c n h = (n, h, refl)
performing line (Print es) work c n h = printing es line [] work c n h
performing line (Read xs) work c n h = reading_all xs line work c n h

ending_body : (g : Goal) (i : Iteration) (work : List Frame) → GoesOn (end_of_body g i work)
ending_body (Repeat line b) i work c n h = (n, h, refl)
ending_body (Collect k e got) i work c n h = refl
ending_body (Select k w got) i work c n h = refl
ending_body (Decide q) i work c n h = refl

after : (work : List Frame) → GoesOn (after_all work)
after [] c n h = refl
after (Then b ∷ work) c n h = (n, h, refl)
after (InStmt line (WhileBody e b) ∷ work) c n h = (n, h, refl)
after (InIteration Body i ∷ work) c n h = ending_body i.goal i work c n h
after (InCall (Activation name backs own) ∷ work) c n h = (n, h, refl)
after (InCall (Argument f all got rest) ∷ work) c n h = refl
after (InStmt line (AssignRight p) ∷ work) c n h = refl
after (InStmt line (UpdateRight o p) ∷ work) c n h = refl
after (InStmt line (PartsRight xs) ∷ work) c n h = refl
after (InStmt line (RoundSelector x change got rest) ∷ work) c n h = refl
after (InStmt line (BraceSelector x change got rest) ∷ work) c n h = refl
after (InStmt line (IfTest a b) ∷ work) c n h = refl
after (InStmt line (WhileTest e b) ∷ work) c n h = refl
after (InStmt line (PrintParts got rest) ∷ work) c n h = refl
after (InStmt line Returning ∷ work) c n h = refl
after (InStmt line Dropping ∷ work) c n h = refl
after (InIteration (Sources got rest) i ∷ work) c n h = refl
after (InIteration (ToBind item) i ∷ work) c n h = refl
after (InIteration IsBound i ∷ work) c n h = refl
after (InIteration Testing i ∷ work) c n h = refl
after (InIteration Paused i ∷ work) c n h = refl
after (InExpr f ∷ work) c n h = refl
after (Storing xs ∷ work) c n h = refl

pub executing : (b : Block) (work : List Frame) → GoesOn (execute b work)
executing no_stmt work c n h = after work c n h
executing (more_stmts line s rest) work c n h = performing line s (Then rest ∷ work) c n h

pub stmt_goes_on : (line : ℕ) (f : StmtFrame) (v : Option Datum) (work : List Frame) → GoesOn (result_in_stmt line f v work)
stmt_goes_on line (AssignRight p) v work c n h = changing line p (Puts v) work c n h
stmt_goes_on line (UpdateRight o p) v work c n h = changing line p (Combines o v) work c n h
stmt_goes_on line (PartsRight xs) v work c n h = taking_apart (parting xs v) line work c n h
stmt_goes_on line (RoundSelector x change got rest) v work c n h = selecting rest line x change (Round v ∷ got) work c n h
stmt_goes_on line (BraceSelector x change got rest) v work c n h = selecting rest line x change (Brace v ∷ got) work c n h
stmt_goes_on line (IfTest a b) v work c n h = deciding v line _ _ _ _ (n, h, refl) (n, h, refl)
stmt_goes_on line (WhileTest e b) v work c n h =
    deciding v line _ _ _ _ (after_a_turn _ (going (Execute b) (InStmt line (WhileBody e b) ∷ work)) c n h) (n, h, refl)
stmt_goes_on line (WhileBody e b) v work c n h = refl
stmt_goes_on line (PrintParts got rest) v work c n h = printing rest line (v ∷ got) work c n h
stmt_goes_on line Returning v work c n h = returning v work c n h
stmt_goes_on line Dropping v work c n h = (n, h, refl)
