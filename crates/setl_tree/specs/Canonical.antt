-- The canonical tokens of a tree: those of the grammar, with as few parentheses as its text may have.
use Rattle.std.specs.Prelude.{ℕ, pos, Bool, true, false, if◌then◌else◌, List, [], ◌∷◌, ◌++◌, map, Option, Some, None}
use Rattle.setl_tree.specs.declared.kind.Kind.{Kind}
use Rattle.setl_tree.specs.declared.kind.Kind.TheVariants as k
use Rattle.setl_tree.specs.declared.expr.BinaryOp.{BinaryOp}
use Rattle.setl_tree.specs.declared.expr.BinaryOp.TheVariants as op
use Rattle.setl_tree.specs.declared.expr.Relation.{Relation}
use Rattle.setl_tree.specs.declared.expr.Relation.TheVariants as rel
use Rattle.setl_tree.specs.declared.expr.Fold.{Fold}
use Rattle.setl_tree.specs.declared.expr.Fold.TheVariants as fd
use Rattle.setl_tree.specs.declared.expr.Prefix.{Prefix}
use Rattle.setl_tree.specs.declared.expr.Prefix.TheVariants as pre
use Rattle.setl_tree.specs.declared.expr.Quantifier.{Quantifier}
use Rattle.setl_tree.specs.declared.expr.Quantifier.TheVariants as qu
use Rattle.setl_tree.specs.declared.expr.Slot.{Slot}
use Rattle.setl_tree.specs.declared.expr.Slot.TheVariants as sl
use Rattle.setl_tree.specs.declared.expr.Bound.{Bound}
use Rattle.setl_tree.specs.declared.expr.Bound.TheVariants as bd
use Rattle.setl_tree.specs.declared.expr.Expr.{Expr, fold-Expr}
use Rattle.setl_tree.specs.declared.expr.Expr.TheVariants as e
use Rattle.setl_tree.specs.declared.expr.Expr.TheOpen.{Expr-F, Inner-F, Iter-F, Selector-F}
use Rattle.setl_tree.specs.declared.expr.Inner.{Inner, fold-Inner}
use Rattle.setl_tree.specs.declared.expr.Iter.{Iter, fold-Iter}
use Rattle.setl_tree.specs.declared.expr.Selector.{Selector, fold-Selector}
use Rattle.setl_tree.specs.declared.stmt.Place.{Place}
use Rattle.setl_tree.specs.declared.stmt.FromEnd.{FromEnd}
use Rattle.setl_tree.specs.declared.stmt.FromEnd.TheVariants as fr
use Rattle.setl_tree.specs.declared.stmt.Stmt.{Stmt, fold-Stmt}
use Rattle.setl_tree.specs.declared.stmt.StmtKind.TheOpen.{StmtKind-F, Branch-F, Stmt-F}
use Rattle.setl_tree.specs.declared.mode.Attribute.{Attribute}
use Rattle.setl_tree.specs.declared.mode.Attribute.TheVariants as at
use Rattle.setl_tree.specs.declared.mode.WrittenMode.{WrittenMode, fold-WrittenMode}
use Rattle.setl_tree.specs.declared.mode.Core.TheOpen.{Core-F, WrittenMode-F}
use Rattle.setl_tree.specs.declared.mode.ReprLine.{ReprLine}
use Rattle.setl_tree.specs.declared.mode.ReprLine.TheVariants as rl
use Rattle.setl_tree.specs.declared.tree.Declared.{Declared}
use Rattle.setl_tree.specs.declared.tree.Param.{Param}
use Rattle.setl_tree.specs.declared.tree.Passing.{Passing}
use Rattle.setl_tree.specs.declared.tree.Passing.TheVariants as pa
use Rattle.setl_tree.specs.declared.tree.Proc.{Proc}
use Rattle.setl_tree.specs.declared.tree.Tree.{Tree}
use Rattle.setl_tree.specs.Tokens.{Token, Tokens}

-- ---- tokens

abbrev pub sign_at : ℕ → Kind → Token
sign_at line kind = record { kind = kind; text = []; value = pos 0; line = line }

abbrev pub sign : Kind → Token
sign kind = sign_at 0 kind

abbrev pub name_at : ℕ → List ℕ → Token
name_at line x = record { kind = k.Name; text = x; value = pos 0; line = line }

abbrev pub name_token : List ℕ → Token
name_token x = name_at 0 x

abbrev pub op_kind : BinaryOp → Kind
op_kind op.Impl = k.Impl
op_kind op.Or = k.Or
op_kind op.And = k.And
op_kind op.With = k.With
op_kind op.Less = k.Less
op_kind op.Lessf = k.Lessf
op_kind op.Npow = k.Npow
op_kind op.Plus = k.Plus
op_kind op.Minus = k.Minus
op_kind op.Max = k.Max
op_kind op.Min = k.Min
op_kind op.Times = k.Star
op_kind op.Div = k.Div
op_kind op.Mod = k.Mod
op_kind op.Power = k.Power

abbrev pub relation_kind : Relation → Kind
relation_kind rel.Equal = k.Equal
relation_kind rel.NotEqual = k.NotEqual
relation_kind rel.LessThan = k.LessThan
relation_kind rel.AtMost = k.AtMost
relation_kind rel.GreaterThan = k.GreaterThan
relation_kind rel.AtLeast = k.AtLeast
relation_kind rel.In = k.In
relation_kind rel.Notin = k.Notin
relation_kind rel.Subset = k.Subset
relation_kind rel.Incs = k.Incs

abbrev pub fold_kind : Fold → Kind
fold_kind fd.Plus = k.Plus
fold_kind fd.Times = k.Star
fold_kind fd.Max = k.Max
fold_kind fd.Min = k.Min
fold_kind fd.And = k.And
fold_kind fd.Or = k.Or

abbrev pub prefix_tokens : Prefix → Tokens
prefix_tokens pre.Not = sign k.Not ∷ []
prefix_tokens pre.Minus = sign k.Minus ∷ []
prefix_tokens pre.Size = sign k.Hash ∷ []
prefix_tokens pre.Abs = sign k.Abs ∷ []
prefix_tokens pre.Even = sign k.Even ∷ []
prefix_tokens pre.Odd = sign k.Odd ∷ []
prefix_tokens pre.Pow = sign k.Pow ∷ []
prefix_tokens pre.Domain = sign k.Domain ∷ []
prefix_tokens pre.Range = sign k.Range ∷ []
prefix_tokens pre.Arb = sign k.Arb ∷ []
prefix_tokens pre.Str = sign k.Str ∷ []
prefix_tokens pre.IsInteger = sign k.IsInteger ∷ []
prefix_tokens pre.IsString = sign k.IsString ∷ []
prefix_tokens pre.IsBoolean = sign k.IsBoolean ∷ []
prefix_tokens pre.IsAtom = sign k.IsAtom ∷ []
prefix_tokens pre.IsTuple = sign k.IsTuple ∷ []
prefix_tokens pre.IsSet = sign k.IsSet ∷ []
prefix_tokens pre.IsMap = sign k.IsMap ∷ []
prefix_tokens (pre.Folded f) = sign (fold_kind f) ∷ sign k.Slash ∷ []

abbrev pub quantifier_kind : Quantifier → Kind
quantifier_kind qu.Exists = k.Exists
quantifier_kind qu.Forall = k.Forall
quantifier_kind qu.Notexists = k.Notexists

-- ---- lists

-- all lists, one behind the other
abbrev pub all_of : List Tokens → Tokens
all_of [] = []
all_of (x ∷ xs) = x ++ all_of xs

abbrev pub behind_commas : List Tokens → Tokens
behind_commas [] = []
behind_commas (x ∷ xs) = sign k.Comma ∷ (x ++ behind_commas xs)

abbrev pub with_commas : List Tokens → Tokens
with_commas [] = []
with_commas (x ∷ xs) = x ++ behind_commas xs

abbrev pub bracketed : Kind → Tokens → Kind → Tokens
bracketed opened toks closed = sign opened ∷ (toks ++ sign closed ∷ [])

-- ---- expressions

-- the tokens of an expression, whether it stands in parentheses as an operand, and whether it is a selection
pub record Shown : Type 0 where
  pub tokens : Tokens
  pub is_operation : Bool
  pub is_selection : Bool

abbrev pub tokens_of : List Shown → List Tokens
tokens_of [] = []
tokens_of (x ∷ xs) = x.tokens ∷ tokens_of xs

abbrev pub as_operand : Shown → Tokens
as_operand x = if x.is_operation then bracketed k.LeftParen x.tokens k.RightParen else x.tokens

abbrev pub as_primary : Shown → Tokens
as_primary x = if x.is_selection then bracketed k.LeftParen x.tokens k.RightParen else as_operand x

abbrev pub alone : Tokens → Shown
alone toks = record { tokens = toks; is_operation = false; is_selection = false }

abbrev pub operation : Tokens → Shown
operation toks = record { tokens = toks; is_operation = true; is_selection = false }

abbrev pub selection : Tokens → Shown
selection toks = record { tokens = toks; is_operation = false; is_selection = true }

abbrev pub operand_tokens : List (BinaryOp × Shown) → Tokens
operand_tokens [] = []
operand_tokens (x ∷ xs) = sign (op_kind x.0) ∷ (as_operand x.1 ++ operand_tokens xs)

abbrev pub all_prefixes : List Prefix → Tokens
all_prefixes ps = all_of (map prefix_tokens ps)

abbrev pub slot_tokens : Slot → Tokens
slot_tokens (sl.Name x) = name_token x ∷ []
slot_tokens sl.Skip = sign k.Minus ∷ []

abbrev pub slots_tokens : List Slot → List Tokens
slots_tokens slots = map slot_tokens slots

abbrev pub pattern_tokens : List Slot → Tokens
pattern_tokens slots = bracketed k.LeftBracket (with_commas (slots_tokens slots)) k.RightBracket

abbrev pub bound_tokens : Bound → Tokens
bound_tokens (bd.Name x) = name_token x ∷ []
bound_tokens (bd.Pattern slots) = pattern_tokens slots

-- an optional part behind a token
abbrev pub behind : Kind → Option Shown → Tokens
behind kind None = []
behind kind (Some x) = sign kind ∷ x.tokens

abbrev pub optional_tokens : Option Shown → Tokens
optional_tokens None = []
optional_tokens (Some x) = x.tokens

abbrev pub inner_step : Inner-F Shown Tokens Tokens Tokens → Tokens
inner_step (Inner-F.List xs) = with_commas (tokens_of xs)
inner_step (Inner-F.Range a b c) = a.tokens ++ (behind k.Comma b ++ sign k.Dots ∷ c.tokens)
inner_step (Inner-F.Former x over c) = x.tokens ++ sign k.Colon ∷ (with_commas over ++ behind k.Bar c)
inner_step (Inner-F.Filter b s c) = bound_tokens b ++ sign k.In ∷ (as_operand s ++ sign k.Bar ∷ c.tokens)

abbrev pub iter_step : Iter-F Shown Tokens Tokens Tokens → Tokens
iter_step (Iter-F.Over b s) = bound_tokens b ++ sign k.In ∷ as_operand s
iter_step (Iter-F.Image y f x) = name_token y ∷ sign k.Equal ∷ name_token f ∷ sign k.LeftParen ∷ name_token x ∷ sign k.RightParen ∷ []

abbrev pub selector_step : Selector-F Shown Tokens Tokens Tokens → Tokens
selector_step (Selector-F.Round xs) = bracketed k.LeftParen (with_commas (tokens_of xs)) k.RightParen
selector_step (Selector-F.Slice a b) = sign k.LeftParen ∷ (a.tokens ++ sign k.Dots ∷ (optional_tokens b ++ sign k.RightParen ∷ []))
selector_step (Selector-F.Braces xs) = bracketed k.LeftBrace (with_commas (tokens_of xs)) k.RightBrace

abbrev pub expr_step : Expr-F Shown Tokens Tokens Tokens → Shown
expr_step (Expr-F.Number n) = alone (record { kind = k.Number; text = []; value = n; line = 0 } ∷ [])
expr_step (Expr-F.Text t) = alone (record { kind = k.StringLiteral; text = t; value = pos 0; line = 0 } ∷ [])
expr_step Expr-F.Om = alone (sign k.Om ∷ [])
expr_step Expr-F.True = alone (sign k.True ∷ [])
expr_step Expr-F.False = alone (sign k.False ∷ [])
expr_step Expr-F.Newat = alone (sign k.Newat ∷ [])
expr_step Expr-F.Eof = alone (sign k.Eof ∷ [])
expr_step Expr-F.Ok = alone (sign k.Ok ∷ [])
expr_step (Expr-F.Name x) = alone (name_token x ∷ [])
expr_step (Expr-F.If a b c) = operation (sign k.If ∷ (a.tokens ++ sign k.Then ∷ (b.tokens ++ sign k.Else ∷ (c.tokens ++ sign k.End ∷ []))))
expr_step (Expr-F.Set x) = alone (bracketed k.LeftBrace x k.RightBrace)
expr_step (Expr-F.Tuple x) = alone (bracketed k.LeftBracket x k.RightBracket)
expr_step (Expr-F.Chain first others) = operation (as_operand first ++ operand_tokens others)
expr_step (Expr-F.Compare a o b) = operation (as_operand a ++ sign (relation_kind o) ∷ as_operand b)
expr_step (Expr-F.Prefixed ps x) = operation (all_prefixes ps ++ as_operand x)
expr_step (Expr-F.Selected p ss) = selection (as_primary p ++ all_of ss)
expr_step (Expr-F.Quantified q over x) = operation (sign (quantifier_kind q) ∷ (with_commas over ++ sign k.Bar ∷ x.tokens))

abbrev pub shown : Expr → Shown
shown = fold-Expr Shown Tokens Tokens Tokens expr_step inner_step iter_step selector_step

abbrev pub inner_tokens : Inner → Tokens
inner_tokens = fold-Inner Shown Tokens Tokens Tokens expr_step inner_step iter_step selector_step

abbrev pub iter_tokens : Iter → Tokens
iter_tokens = fold-Iter Shown Tokens Tokens Tokens expr_step inner_step iter_step selector_step

abbrev pub selector_tokens : Selector → Tokens
selector_tokens = fold-Selector Shown Tokens Tokens Tokens expr_step inner_step iter_step selector_step

abbrev pub expr_tokens : Expr → Tokens
expr_tokens x = (shown x).tokens

-- ---- statements

abbrev pub from_kind : FromEnd → Kind
from_kind fr.From = k.From
from_kind fr.Fromb = k.Fromb
from_kind fr.Frome = k.Frome

-- "end" word ";"
abbrev pub ending_tokens : Kind → Tokens
ending_tokens word = sign k.End ∷ sign word ∷ sign k.Semicolon ∷ []

abbrev pub place_tokens : ℕ → Place → Tokens
place_tokens line p = name_at line p.name ∷ all_of (map selector_tokens p.selectors)

-- a list in round brackets and the end of a statement
abbrev pub in_round : List Tokens → Tokens
in_round xs = sign k.LeftParen ∷ (with_commas xs ++ sign k.RightParen ∷ sign k.Semicolon ∷ [])

abbrev pub elseif_tokens : List Tokens → Tokens
elseif_tokens [] = []
elseif_tokens (x ∷ xs) = sign k.Elseif ∷ (x ++ elseif_tokens xs)

abbrev pub else_tokens : Option (List Tokens) → Tokens
else_tokens None = []
else_tokens (Some body) = sign k.Else ∷ all_of body

abbrev pub bar_tokens : Option Expr → Tokens
bar_tokens None = []
bar_tokens (Some x) = sign k.Bar ∷ expr_tokens x

abbrev pub result_tokens : Option Expr → Tokens
result_tokens None = []
result_tokens (Some x) = expr_tokens x

abbrev pub single : List ℕ → Tokens
single x = name_token x ∷ []

-- a statement whose first token has this line
abbrev pub kind_step : StmtKind-F (ℕ → Tokens) Tokens Tokens → ℕ → Tokens
kind_step (StmtKind-F.Assign p x) line = place_tokens line p ++ sign k.Assign ∷ (expr_tokens x ++ sign k.Semicolon ∷ [])
kind_step (StmtKind-F.Update p o x) line = place_tokens line p ++ sign (op_kind o) ∷ sign k.Assign ∷ (expr_tokens x ++ sign k.Semicolon ∷ [])
kind_step (StmtKind-F.TupleAssign slots x) line = sign_at line k.LeftBracket ∷ (with_commas (slots_tokens slots) ++ sign k.RightBracket ∷ sign k.Assign ∷ (expr_tokens x ++ sign k.Semicolon ∷ []))
kind_step (StmtKind-F.Take x w p) line = name_at line x ∷ sign (from_kind w) ∷ (place_tokens 0 p ++ sign k.Semicolon ∷ [])
kind_step (StmtKind-F.Call f xs) line = name_at line f ∷ in_round (map expr_tokens xs)
kind_step (StmtKind-F.If first others last) line = sign_at line k.If ∷ (first ++ (elseif_tokens others ++ (else_tokens last ++ ending_tokens k.If)))
kind_step (StmtKind-F.For over c body) line = sign_at line k.LeftParen ∷ sign k.For ∷ (with_commas (map iter_tokens over) ++ (bar_tokens c ++ sign k.RightParen ∷ (all_of body ++ ending_tokens k.For)))
kind_step (StmtKind-F.While c body) line = sign_at line k.LeftParen ∷ sign k.While ∷ (expr_tokens c ++ sign k.RightParen ∷ (all_of body ++ ending_tokens k.While))
kind_step StmtKind-F.Quit line = sign_at line k.Quit ∷ sign k.Semicolon ∷ []
kind_step StmtKind-F.Continue line = sign_at line k.Continue ∷ sign k.Semicolon ∷ []
kind_step StmtKind-F.Fail line = sign_at line k.Fail ∷ sign k.Semicolon ∷ []
kind_step StmtKind-F.Succeed line = sign_at line k.Succeed ∷ sign k.Semicolon ∷ []
kind_step StmtKind-F.Stop line = sign_at line k.Stop ∷ sign k.Semicolon ∷ []
kind_step StmtKind-F.Pass line = sign_at line k.Pass ∷ sign k.Semicolon ∷ []
kind_step (StmtKind-F.Return x) line = sign_at line k.Return ∷ (result_tokens x ++ sign k.Semicolon ∷ [])
kind_step (StmtKind-F.Print xs) line = sign_at line k.Print ∷ in_round (map expr_tokens xs)
kind_step (StmtKind-F.Read xs) line = sign_at line k.Read ∷ in_round (map single xs)

abbrev pub branch_step : Branch-F (ℕ → Tokens) Tokens Tokens → Tokens
branch_step b = expr_tokens b.condition ++ sign k.Then ∷ all_of b.body

abbrev pub stmt_step : Stmt-F (ℕ → Tokens) Tokens Tokens → Tokens
stmt_step s = s.kind s.line

abbrev pub stmt_tokens : Stmt → Tokens
stmt_tokens = fold-Stmt (ℕ → Tokens) Tokens Tokens kind_step branch_step stmt_step

-- ---- modes

abbrev pub attribute_kind : Attribute → Kind
attribute_kind at.Local = k.Local
attribute_kind at.Remote = k.Remote
attribute_kind at.Sparse = k.Sparse

-- a mode without its attribute, whose first token has this line
abbrev pub core_step : Core-F (ℕ → Tokens) Tokens → ℕ → Tokens
core_step Core-F.General line = sign_at line k.General ∷ []
core_step Core-F.Int line = sign_at line k.Int ∷ []
core_step Core-F.Str line = sign_at line k.String ∷ []
core_step Core-F.Boolean line = sign_at line k.Boolean ∷ []
core_step Core-F.Atom line = sign_at line k.Atom ∷ []
core_step (Core-F.Elmt at_line b) line = sign_at at_line k.Elmt ∷ name_token b ∷ []
core_step (Core-F.Set m) line = sign_at line k.Set ∷ bracketed k.LeftParen m k.RightParen
core_step (Core-F.Tuple m) line = sign_at line k.Tuple ∷ bracketed k.LeftParen m k.RightParen
core_step (Core-F.Smap d r) line = sign_at line k.Smap ∷ sign k.LeftParen ∷ (d ++ sign k.RightParen ∷ r)
core_step (Core-F.Mmap d r) line = sign_at line k.Mmap ∷ sign k.LeftBrace ∷ (d ++ sign k.RightBrace ∷ r)

abbrev pub with_attribute : ℕ → Option Attribute → (ℕ → Tokens) → Tokens
with_attribute line None core = core line
with_attribute line (Some a) core = sign_at line (attribute_kind a) ∷ core 0

abbrev pub mode_step : WrittenMode-F (ℕ → Tokens) Tokens → Tokens
mode_step m = with_attribute m.line m.attribute m.core

abbrev pub mode_tokens : WrittenMode → Tokens
mode_tokens = fold-WrittenMode (ℕ → Tokens) Tokens core_step mode_step

abbrev pub declared_tokens : Declared → Tokens
declared_tokens d = name_at d.line d.name ∷ []

abbrev pub colon_tokens : Option WrittenMode → Tokens
colon_tokens None = []
colon_tokens (Some m) = sign k.Colon ∷ mode_tokens m

abbrev pub line_tokens : ReprLine → Tokens
line_tokens (rl.Base line xs m) = sign_at line k.Base ∷ (with_commas (map declared_tokens xs) ++ (colon_tokens m ++ sign k.Semicolon ∷ []))
line_tokens (rl.Variables line xs m) = with_commas (map declared_tokens xs) ++ sign k.Colon ∷ (mode_tokens m ++ sign k.Semicolon ∷ [])

-- a section, if it has lines
abbrev pub repr_tokens : List ReprLine → Tokens
repr_tokens [] = []
repr_tokens (x ∷ xs) = sign k.Repr ∷ (all_of (map line_tokens (x ∷ xs)) ++ ending_tokens k.Repr)

-- ---- programs

abbrev pub passing_kind : Passing → Kind
passing_kind pa.Rd = k.Rd
passing_kind pa.Wr = k.Wr
passing_kind pa.Rw = k.Rw

abbrev pub param_tokens : Param → Tokens
param_tokens p = sign_at p.line (passing_kind p.passing) ∷ name_token p.name ∷ []

abbrev pub optional_name : Option (List ℕ) → Tokens
optional_name None = []
optional_name (Some x) = name_token x ∷ []

-- "end" word [ name ] ";"
abbrev pub named_ending_tokens : ℕ → Kind → Option (List ℕ) → Tokens
named_ending_tokens line word x = sign_at line k.End ∷ sign word ∷ (optional_name x ++ sign k.Semicolon ∷ [])

abbrev pub proc_tokens : Proc → Tokens
proc_tokens p = sign_at p.line k.Proc ∷ name_token p.name ∷ sign k.LeftParen ∷ (with_commas (map param_tokens p.params) ++ sign k.RightParen ∷ sign k.Semicolon
    ∷ (all_of (map stmt_tokens p.body) ++ named_ending_tokens p.end_line k.Proc p.end_name))

-- the variables in one declaration, if there are any
abbrev pub var_tokens : List Declared → Tokens
var_tokens [] = []
var_tokens (x ∷ xs) = sign k.Var ∷ (with_commas (map declared_tokens (x ∷ xs)) ++ sign k.Semicolon ∷ [])

-- The canonical tokens of a program. Lines are those that the tree has; other tokens have line 0.
unfoldable pub canonical : Tree → Tokens
canonical t = sign k.Program ∷ name_token t.name ∷ sign k.Semicolon
    ∷ (var_tokens t.vars ++ (repr_tokens t.modes ++ (all_of (map stmt_tokens t.body) ++ (all_of (map proc_tokens t.procs) ++ named_ending_tokens t.end_line k.Program t.end_name))))
