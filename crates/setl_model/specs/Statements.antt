-- Steps of statements.
use Rattle.std.specs.Prelude.{ℕ, true, false, List, [], ◌∷◌, reverse, Option, Some, None}
use Rattle.setl_value.specs.Datum.{Datum, bool}
use Rattle.setl_model_runs.specs.Variable.{Variable}
use Rattle.setl_text.specs.Reading.{Reading, Denotes, AtEnd, NotForm, TooWide, TooDeep, read_denotation}
use Rattle.setl_program.specs.Program.{Exprs, no_expr, more_exprs, Stmt, Assign, Update, AssignParts, TakeFrom, Perform, If, For, While, Quit, Continue, Fail, Succeed, Stop, Pass, Return, Print, Read, Block, no_stmt, more_stmts}
use Rattle.setl_model_runs.specs.Events.{Printed, Back, Forgot, Done, Stuck, Stopped, Form, Wide, Deep, Nothing}
use Rattle.setl_model_runs.specs.Run.{Move, Moves, Halts}
use Rattle.setl_model.specs.Core.{Execute, Evaluate, Result, Iterate, Goal, Repeat, Iteration, Body, Paused, Activation, Puts, Combines, Takes, StmtFrame, AssignRight, UpdateRight, PartsRight, RoundSelector, BraceSelector, IfTest, WhileTest, WhileBody, PrintParts, Returning, Dropping, Round, Brace, Frame, InIteration, InCall, InStmt, Storing, Then, Snapshot, Core}
use Rattle.setl_model.specs.World.{World, stop, branch}
use Rattle.setl_model.specs.Moves.{holding, go, turn}
use Rattle.setl_model.specs.Slots.{Parting, Parted, NotParted, parting}
use Rattle.setl_model.specs.Iterations.{begin}
use Rattle.setl_model.specs.Places.{select, change_place}
use Rattle.setl_text.specs.Texts.{print_line}

-- the next argument of `print` from left to right, or the line of all of them
abbrev pub print_parts : ℕ → List (Option Datum) → Exprs → List Frame → Core → Move Core
print_parts line got no_expr work c =
    let said = print_line (reverse got) in
    Moves said (Printed said ∷ []) (record c { hand = Execute no_stmt; work = work }) 0 []
print_parts line got (more_exprs e rest) work c = go (Evaluate e) (InStmt line (PrintParts got rest) ∷ work) c

-- the core in another world
abbrev pub with_world : World → Core → Core
with_world w c = holding.put w c

-- one value that was read is to be stored, and then the others are read
abbrev pub store_read : ℕ → Variable → Option Datum → List Variable → List Frame → Core → Move Core
store_read line x v xs work c = go (Result None) (Storing ((x, v) ∷ []) ∷ InStmt line Dropping ∷ Then (more_stmts line (Read xs) no_stmt) ∷ work) c

abbrev pub take_reading : Reading → ℕ → Variable → List Variable → List Frame → Core → Move Core
take_reading (Denotes v rest) line x xs work c = store_read line x v xs work (with_world (record c.shared.world { input = rest }) c)
take_reading AtEnd line x xs work c = store_read line x None xs work (with_world (record c.shared.world { input = []; eof = true }) c)
take_reading NotForm line x xs work c = Halts (Stopped Form line)
take_reading TooWide line x xs work c = Halts (Stopped Wide line)
take_reading TooDeep line x xs work c = Halts (Stopped Deep line)

abbrev pub read_values : ℕ → List Variable → List Frame → Core → Move Core
read_values line [] work c = go (Execute no_stmt) work c
read_values line (x ∷ xs) work c = take_reading (read_denotation c.shared.world.input) line x xs work c

-- a tuple is taken apart
abbrev pub take_apart : Parting → ℕ → List Frame → Core → Move Core
take_apart (Parted xs) line work c = go (Result None) (Storing xs ∷ InStmt line Dropping ∷ work) c
take_apart (NotParted fault) line work c = stop fault line

-- `quit`: the frames inside the innermost loop go, and the loop ends
abbrev pub quit : List Frame → Core → Move Core
quit (Then b ∷ work) c = quit work c
quit (InStmt line (WhileBody e b) ∷ work) c = go (Execute no_stmt) work c
quit (InIteration Body i ∷ work) c = go (Execute no_stmt) work c
quit work c = Halts Stuck

-- `continue`: the frames inside the innermost loop go, and the loop goes on
abbrev pub continue_loop : List Frame → Core → Move Core
continue_loop (Then b ∷ work) c = continue_loop work c
continue_loop (InStmt line (WhileBody e b) ∷ work) c = go (Evaluate e) (InStmt line (WhileTest e b) ∷ work) c
continue_loop (InIteration Body i ∷ work) c = go Iterate (InIteration Paused i ∷ work) c
continue_loop work c = Halts Stuck

-- a result is returned: the frames inside the innermost activation go
abbrev pub return_value : Option Datum → List Frame → Core → Move Core
return_value v (Then b ∷ work) c = return_value v work c
return_value v (InStmt line (WhileBody e b) ∷ work) c = return_value v work c
return_value v (InIteration Body i ∷ work) c = return_value v work c
return_value v (InCall (Activation name backs own) ∷ work) c = go (Result v) (InCall (Activation name backs own) ∷ work) c
return_value v work c = Halts Stuck

-- `fail`: the latest snapshot is put back and leaves what is kept, and its `ok` is now false
abbrev pub fail : ℕ → List Snapshot → Core → Move Core
fail line [] c = Halts (Stopped Nothing line)
fail line (s ∷ older) c =
    turn c (λ d. Moves [] (Back ∷ [])
    (record d {
      shared = record d.shared { globals = s.globals; own = s.own };
      hand = Result (Some (bool false));
      work = s.work;
      kept = older;
    })
    0 [])

-- `succeed`: the latest snapshot leaves what is kept, and all changes stay
abbrev pub succeed : ℕ → List Snapshot → List Frame → Core → Move Core
succeed line [] work c = Halts (Stopped Nothing line)
succeed line (s ∷ older) work c = Moves [] (Forgot ∷ []) (record c { hand = Execute no_stmt; work = work; kept = older }) 0 []

-- a statement in hand, over the frames that wait for its end
abbrev pub perform : ℕ → Stmt → List Frame → Core → Move Core
perform line (Assign p e) work c = go (Evaluate e) (InStmt line (AssignRight p) ∷ work) c
perform line (Update o p e) work c = go (Evaluate e) (InStmt line (UpdateRight o p) ∷ work) c
perform line (AssignParts xs e) work c = go (Evaluate e) (InStmt line (PartsRight xs) ∷ work) c
perform line (TakeFrom k x p) work c = change_place line p (Takes k x) work c
perform line (Perform e) work c = go (Evaluate e) (InStmt line Dropping ∷ work) c
perform line (If e a b) work c = go (Evaluate e) (InStmt line (IfTest a b) ∷ work) c
perform line (For is t b) work c = begin (Repeat line b) is t work c
perform line (While e b) work c = go (Evaluate e) (InStmt line (WhileTest e b) ∷ work) c
perform line Quit work c = quit work c
perform line Continue work c = continue_loop work c
perform line Fail work c = fail line c.kept c
perform line Succeed work c = succeed line c.kept work c
perform line Stop work c = Halts Done
perform line Pass work c = go (Execute no_stmt) work c
perform line (Return e) work c = go (Evaluate e) (InStmt line Returning ∷ work) c
perform line (Print es) work c = print_parts line [] es work c
perform line (Read xs) work c = read_values line xs work c

-- the end of a loop's body, which for another iteration is none
abbrev pub end_of_body : Goal → Iteration → List Frame → Core → Move Core
end_of_body (Repeat line b) i work c = go Iterate (InIteration Paused i ∷ work) c
end_of_body g i work c = Halts Stuck

-- the end of a list of statements; a procedure that ends so returns `om`
abbrev pub after_all : List Frame → Core → Move Core
after_all [] c = Halts Done
after_all (Then b ∷ work) c = go (Execute b) work c
after_all (InStmt line (WhileBody e b) ∷ work) c = go (Evaluate e) (InStmt line (WhileTest e b) ∷ work) c
after_all (InIteration Body i ∷ work) c = end_of_body i.goal i work c
after_all (InCall (Activation name backs own) ∷ work) c = go (Result None) (InCall (Activation name backs own) ∷ work) c
after_all work c = Halts Stuck

-- statements in hand
abbrev pub execute : Block → List Frame → Core → Move Core
execute no_stmt work c = after_all work c
execute (more_stmts line s rest) work c = perform line s (Then rest ∷ work) c

-- a result of a part of a statement
abbrev pub result_in_stmt : ℕ → StmtFrame → Option Datum → List Frame → Core → Move Core
result_in_stmt line (AssignRight p) v work c = change_place line p (Puts v) work c
result_in_stmt line (UpdateRight o p) v work c = change_place line p (Combines o v) work c
result_in_stmt line (PartsRight xs) v work c = take_apart (parting xs v) line work c
result_in_stmt line (RoundSelector x change got rest) v work c = select line x change (Round v ∷ got) rest work c
result_in_stmt line (BraceSelector x change got rest) v work c = select line x change (Brace v ∷ got) rest work c
result_in_stmt line (IfTest a b) v work c = branch v line (go (Execute a) work c) (go (Execute b) work c)
result_in_stmt line (WhileTest e b) v work c =
    branch v line (turn c (λ d. go (Execute b) (InStmt line (WhileBody e b) ∷ work) d)) (go (Execute no_stmt) work c)
result_in_stmt line (WhileBody e b) v work c = Halts Stuck
result_in_stmt line (PrintParts got rest) v work c = print_parts line (v ∷ got) rest work c
result_in_stmt line Returning v work c = return_value v work c
result_in_stmt line Dropping v work c = go (Execute no_stmt) work c
