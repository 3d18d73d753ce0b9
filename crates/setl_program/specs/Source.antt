-- Short forms, by which programs are written down.
use Rattle.std.specs.Prelude.{ℕ, zero, suc, ◌+◌, true, false, List, [], ◌∷◌, codes, pos}
use Rattle.setl_value.specs.Datum.{Datum, bool, int, text, set, no_element, element_then}
use Rattle.setl_model_runs.specs.Variable.{Variable, Own}
use Rattle.setl_operators_table.specs.declared.Operator.{Operator}
use Rattle.setl_operators_table.specs.declared.Operator.TheVariants.{Negate, With, Get, Images, Slice, Tail, SetOf, TupleOf}
use Rattle.setl_modes.specs.Modes.{Mode}
use Rattle.setl_program.specs.declared.kinds.Collection.{Collection}
use Rattle.setl_program.specs.declared.kinds.Source.TheVariants.{Values, Between}
use Rattle.setl_tree.specs.declared.tree.Passing.TheVariants.{Rd, Wr, Rw}
use Rattle.setl_program.specs.Program.{Member, Expr, Literal, Apply, Selection, Exprs, no_expr, more_exprs, Iterators, no_iterator, more_iterators, no_selector, round_selector, brace_selector, Stmt, Assign, Update, Print, Block, no_stmt, more_stmts, Parameter, Procedure, Program}

-- ---- variables

-- an own variable of the main program, and of the first procedure
abbrev pub own : List ℕ → Variable
own name = Own 0 name

abbrev pub its : List ℕ → Variable
its name = Own 1 name

abbrev pub f : Variable
f = own (codes "f")

abbrev pub g : Variable
g = own (codes "g")

abbrev pub i : Variable
i = own (codes "i")

abbrev pub j : Variable
j = own (codes "j")

abbrev pub k : Variable
k = own (codes "k")

abbrev pub n : Variable
n = own (codes "n")

abbrev pub q : Variable
q = own (codes "q")

abbrev pub s : Variable
s = own (codes "s")

abbrev pub t : Variable
t = own (codes "t")

abbrev pub x : Variable
x = own (codes "x")

abbrev pub y : Variable
y = own (codes "y")

abbrev pub z : Variable
z = own (codes "z")

-- ---- expressions

abbrev pub yes : Expr
yes = Literal (bool true)

abbrev pub no : Expr
no = Literal (bool false)

abbrev pub number : ℕ → Expr
number m = Literal (int (pos m))

-- 't'
abbrev pub quoted : List ℕ → Expr
quoted bytes = Literal (text bytes)

abbrev pub exprs : List Expr → Exprs
exprs [] = no_expr
exprs (e ∷ es) = more_exprs e (exprs es)

abbrev pub numbers : List ℕ → List Expr
numbers [] = []
numbers (m ∷ ms) = number m ∷ numbers ms

abbrev pub one : Operator → Expr → Expr
one o a = Apply o (exprs (a ∷ []))

abbrev pub two : Operator → Expr → Expr → Expr
two o a b = Apply o (exprs (a ∷ b ∷ []))

abbrev pub three : Operator → Expr → Expr → Expr → Expr
three o a b c = Apply o (exprs (a ∷ b ∷ c ∷ []))

-- -m
abbrev pub minus : ℕ → Expr
minus m = one Negate (number m)

-- {e, ..} and [e, ..]
abbrev pub set_of : List Expr → Expr
set_of es = Apply SetOf (exprs es)

abbrev pub tuple_of : List Expr → Expr
tuple_of es = Apply TupleOf (exprs es)

-- the same of numbers
abbrev pub enumeration : List ℕ → Expr
enumeration ms = set_of (numbers ms)

abbrev pub row_of : List ℕ → Expr
row_of ms = tuple_of (numbers ms)

abbrev pub pair_of : ℕ → ℕ → Expr
pair_of a b = row_of (a ∷ b ∷ [])

-- e(i), e{i}, e(i..j) and e(i..)
abbrev pub at_round : Expr → Expr → Expr
at_round e a = two Get e a

abbrev pub at_brace : Expr → Expr → Expr
at_brace e a = two Images e a

abbrev pub from_to : Expr → Expr → Expr → Expr
from_to e a b = three Slice e a b

abbrev pub from_on : Expr → Expr → Expr
from_on e a = two Tail e a

-- ---- iterators

-- v in e
abbrev pub over : Variable → Expr → Iterators
over v e = more_iterators (Member Values v) (exprs (e ∷ [])) no_iterator

-- v in [a..b]
abbrev pub between : Variable → Expr → Expr → Iterators
between v a b = more_iterators (Member Between v) (exprs (a ∷ b ∷ [])) no_iterator

-- {v in e | c} or [v in e | c]
abbrev pub select_over : Collection → Variable → Expr → Expr → Expr
select_over k v e c = Selection k (Member Values v) (exprs (e ∷ [])) c

-- {v in [a..b] | c} or [v in [a..b] | c]
abbrev pub select_between : Collection → Variable → Expr → Expr → Expr → Expr
select_between k v a b c = Selection k (Member Between v) (exprs (a ∷ b ∷ [])) c

-- ---- statements

-- v := e
abbrev pub assign : Variable → Expr → Stmt
assign v e = Assign (record { variable = v; selectors = no_selector }) e

-- v(a) := e and v{a} := e
abbrev pub put : Variable → Expr → Expr → Stmt
put v a e = Assign (record { variable = v; selectors = round_selector a no_selector }) e

abbrev pub put_brace : Variable → Expr → Expr → Stmt
put_brace v a e = Assign (record { variable = v; selectors = brace_selector a no_selector }) e

-- v op:= e
abbrev pub combine : Operator → Variable → Expr → Stmt
combine o v e = Update o (record { variable = v; selectors = no_selector }) e

-- v with:= e
abbrev pub add_to : Variable → Expr → Stmt
add_to v e = combine With v e

-- v(a) op:= e and v{a} op:= e
abbrev pub combine_round : Operator → Variable → Expr → Expr → Stmt
combine_round o v a e = Update o (record { variable = v; selectors = round_selector a no_selector }) e

abbrev pub combine_brace : Operator → Variable → Expr → Expr → Stmt
combine_brace o v a e = Update o (record { variable = v; selectors = brace_selector a no_selector }) e

abbrev pub print : List Expr → Stmt
print es = Print (exprs es)

-- ---- statements in their order

-- statements on one line
abbrev pub on_line : ℕ → List Stmt → Block
on_line line [] = no_stmt
on_line line (st ∷ sts) = more_stmts line st (on_line line sts)

abbrev pub block : List Stmt → Block
block sts = on_line 1 sts

-- a statement at its line, before others
abbrev pub at : ℕ → Stmt → Block → Block
at line st rest = more_stmts line st rest

abbrev pub alone : ℕ → Stmt → Block
alone line st = more_stmts line st no_stmt

-- statements on lines from m on
abbrev pub lines_from : ℕ → List Stmt → Block
lines_from m [] = no_stmt
lines_from m (st ∷ sts) = more_stmts m st (lines_from (m + 1) sts)

-- ---- programs

-- a program of no name, whose last line has no number
abbrev pub with_modes : Block → List Procedure → List (Variable × Mode) → Program
with_modes b ps ms = record { name = []; vars = []; main = b; end_line = 0; procedures = ps; modes = ms }

abbrev pub with_procedures : Block → List Procedure → Program
with_procedures b ps = with_modes b ps []

-- a program without procedures and declarations
abbrev pub just : Block → Program
just b = with_procedures b []

abbrev pub program : List Stmt → Program
program sts = just (block sts)

-- a program whose statements stand on lines 2, 3 and on
abbrev pub lines : List Stmt → Program
lines sts = just (lines_from 2 sts)

abbrev pub rd_parameter : List ℕ → Parameter
rd_parameter name = record { passing = Rd; name = name; line = 0 }

abbrev pub wr_parameter : List ℕ → Parameter
wr_parameter name = record { passing = Wr; name = name; line = 0 }

abbrev pub rw_parameter : List ℕ → Parameter
rw_parameter name = record { passing = Rw; name = name; line = 0 }

abbrev pub procedure : List ℕ → List Parameter → Block → Procedure
procedure name parameters body = record { name = name; parameters = parameters; body = body; end_line = 0 }

-- ---- values that no literal spells

-- a set with one member, and so on, n times
abbrev nested : ℕ → Datum
nested zero = set no_element
nested (suc m) = set (element_then (nested m) no_element)

-- a set of depth 500, and its one member
abbrev pub deepest : Expr
deepest = Literal (nested 499)

abbrev pub nearly : Expr
nearly = Literal (nested 498)
