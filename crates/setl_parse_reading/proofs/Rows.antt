-- Worked rows: a few lists of tokens, read.
use Rattle.std.proofs.Common.{◌≡◌, ℕ, List, [], ◌∷◌, Some, None, Ok, Err, refl, pos}
use Rattle.setl_tree.specs.declared.expr.Iter.TheVariants as it
use Rattle.setl_tree.specs.declared.kind.Kind.{Kind}
use Rattle.setl_tree.specs.declared.kind.Kind.TheVariants as k
use Rattle.setl_tree.specs.declared.expr.BinaryOp.TheVariants as op
use Rattle.setl_tree.specs.declared.expr.Relation.TheVariants as rel
use Rattle.setl_tree.specs.declared.expr.Prefix.TheVariants as pre
use Rattle.setl_tree.specs.declared.expr.Slot.TheVariants as sl
use Rattle.setl_tree.specs.declared.expr.Bound.TheVariants as bd
use Rattle.setl_tree.specs.declared.expr.Inner.TheVariants as inn
use Rattle.setl_tree.specs.declared.expr.Expr.{Expr}
use Rattle.setl_tree.specs.declared.expr.Expr.TheVariants as e
use Rattle.setl_tree.specs.Tokens.{Token, Tokens}
use Rattle.setl_tree.specs.Operators.{level_of, binary_op, op_at, update_op, relation_op, not_sign, prefix_op, fold_sign, quantifier, constant}
use Rattle.setl_parse_reading.specs.declared.fault.Fault.TheVariants.{Syntax, Nesting}
use Rattle.setl_tree.specs.declared.expr.Fold.TheVariants as fold
use Rattle.setl_parse_reading.specs.code.Reading.{Outcome, same_kind, expect, opening, one_of, opening_one_of, many_from, more, separated, listed, name}
use Rattle.setl_parse_reading.specs.code.Scan.{ends_slot, slots_ahead, ahead}
use Rattle.setl_parse_reading.specs.code.ReadExpressions as r
use Rattle.setl_parse_reading.specs.code.ReadStatements as s
use Rattle.setl_parse_reading.specs.code.ReadPrograms as p
use Rattle.setl_tree.specs.declared.expr.Selector.TheVariants as se
use Rattle.setl_tree.specs.declared.stmt.Stmt.{Stmt, roll-Stmt}
use Rattle.setl_tree.specs.declared.stmt.StmtKind.{StmtKind}
use Rattle.setl_tree.specs.declared.stmt.StmtKind.TheVariants as st
use Rattle.setl_tree.specs.Statements.{from_word, simple}
use Rattle.setl_parse_reading.specs.code.ReadExpressions.{expr}

abbrev sign : Kind → Token
sign kind = record { kind = kind; text = []; value = pos 0; line = 1 }

abbrev number : ℕ → Token
number n = record { kind = k.Number; text = []; value = pos n; line = 1 }

abbrev word : ℕ → Token
word n = record { kind = k.Name; text = n ∷ []; value = pos 0; line = 1 }

abbrev a : Expr
a = e.Name (1 ∷ [])

abbrev b : Expr
b = e.Name (2 ∷ [])

abbrev c : Expr
c = e.Name (3 ∷ [])

abbrev read : Tokens → Outcome Expr
read = expr 3

-- each list of tokens with what is read
abbrev pub rows : List (Outcome Expr)
rows =
    -- -2 ** 2: the prefix is applied first
    read (sign k.Minus ∷ number 2 ∷ sign k.Power ∷ number 2 ∷ [])
    -- 1 - 2 - 3 groups to the left
    ∷ read (number 1 ∷ sign k.Minus ∷ number 2 ∷ sign k.Minus ∷ number 3 ∷ [])
    -- 1 + 2 * 3: the tighter level is an operand of the other
    ∷ read (number 1 ∷ sign k.Plus ∷ number 2 ∷ sign k.Star ∷ number 3 ∷ [])
    -- a = b = c: comparisons do not chain
    ∷ read (word 1 ∷ sign k.Equal ∷ word 2 ∷ sign k.Equal ∷ word 3 ∷ [])
    -- {a in b} is an enumeration of one comparison
    ∷ read (sign k.LeftBrace ∷ word 1 ∷ sign k.In ∷ word 2 ∷ sign k.RightBrace ∷ [])
    -- {a in b and c} is an enumeration too
    ∷ read (sign k.LeftBrace ∷ word 1 ∷ sign k.In ∷ word 2 ∷ sign k.And ∷ word 3 ∷ sign k.RightBrace ∷ [])
    -- {a in b | c} is a filter
    ∷ read (sign k.LeftBrace ∷ word 1 ∷ sign k.In ∷ word 2 ∷ sign k.Bar ∷ word 3 ∷ sign k.RightBrace ∷ [])
    -- {[a, -] in b | c} is a filter
    ∷ read (sign k.LeftBrace ∷ sign k.LeftBracket ∷ word 1 ∷ sign k.Comma ∷ sign k.Minus ∷ sign k.RightBracket ∷ sign k.In ∷ word 2 ∷ sign k.Bar ∷ word 3 ∷ sign k.RightBrace ∷ [])
    -- {[a, -] in b} is faulty at }
    ∷ read (sign k.LeftBrace ∷ sign k.LeftBracket ∷ word 1 ∷ sign k.Comma ∷ sign k.Minus ∷ sign k.RightBracket ∷ sign k.In ∷ word 2 ∷ sign k.RightBrace ∷ [])
    -- {[a, 1] in b | c} is faulty at |
    ∷ read (sign k.LeftBrace ∷ sign k.LeftBracket ∷ word 1 ∷ sign k.Comma ∷ number 1 ∷ sign k.RightBracket ∷ sign k.In ∷ word 2 ∷ sign k.Bar ∷ word 3 ∷ sign k.RightBrace ∷ [])
    -- {(a) in b | c} is faulty at |
    ∷ read (sign k.LeftBrace ∷ sign k.LeftParen ∷ word 1 ∷ sign k.RightParen ∷ sign k.In ∷ word 2 ∷ sign k.Bar ∷ word 3 ∷ sign k.RightBrace ∷ [])
    -- [a, b .. c]
    ∷ read (sign k.LeftBracket ∷ word 1 ∷ sign k.Comma ∷ word 2 ∷ sign k.Dots ∷ word 3 ∷ sign k.RightBracket ∷ [])
    -- a and exists is faulty at exists
    ∷ read (word 1 ∷ sign k.And ∷ sign k.Exists ∷ [])
    -- +/ a
    ∷ read (sign k.Plus ∷ sign k.Slash ∷ word 1 ∷ [])
    -- a(), with no nesting left
    ∷ expr 0 (word 1 ∷ sign k.LeftParen ∷ sign k.RightParen ∷ [])
    ∷ []

pub they_are_read : rows ≡
    Ok (e.Chain (e.Prefixed (pre.Minus ∷ []) (e.Number (pos 2))) ((op.Power, e.Number (pos 2)) ∷ []), [])
    ∷ Ok (e.Chain (e.Number (pos 1)) ((op.Minus, e.Number (pos 2)) ∷ (op.Minus, e.Number (pos 3)) ∷ []), [])
    ∷ Ok (e.Chain (e.Number (pos 1)) ((op.Plus, e.Chain (e.Number (pos 2)) ((op.Times, e.Number (pos 3)) ∷ [])) ∷ []), [])
    ∷ Ok (e.Compare a rel.Equal b, sign k.Equal ∷ word 3 ∷ [])
    ∷ Ok (e.Set (inn.List (e.Compare a rel.In b ∷ [])), [])
    ∷ Ok (e.Set (inn.List (e.Chain (e.Compare a rel.In b) ((op.And, c) ∷ []) ∷ [])), [])
    ∷ Ok (e.Set (inn.Filter (bd.Name (1 ∷ [])) b c), [])
    ∷ Ok (e.Set (inn.Filter (bd.Pattern (sl.Name (1 ∷ []) ∷ sl.Skip ∷ [])) b c), [])
    ∷ Err (Syntax 1)
    ∷ Err (Syntax 3)
    ∷ Err (Syntax 3)
    ∷ Ok (e.Tuple (inn.Range a (Some b) c), [])
    ∷ Err (Syntax 1)
    ∷ Ok (e.Prefixed (pre.Folded fold.Plus ∷ []) a, [])
    ∷ Err (Nesting 2)
    ∷ []
unfolding same_kind expect opening one_of opening_one_of many_from more separated listed name level_of binary_op op_at relation_op not_sign prefix_op fold_sign quantifier constant expr r.nested r.whole r.e2 r.e5 r.e6 r.e7 r.after r.compared r.e11 r.e12 r.primary r.selectors r.selector r.begins_selector r.round r.arguments r.prefixes r.prefix r.fold r.begins_prefix r.nots r.operands r.parenthesized r.set r.tuple r.inner r.bound_first r.bound r.pattern r.slot r.filter r.filter_or_plain r.condition r.plain r.closes r.rest_of_inner r.unranged r.second r.third ends_slot slots_ahead ahead
they_are_read = refl

-- ---- statements and a program

abbrev stmts_read : Tokens → Outcome (List Stmt)
stmts_read = s.stmts 3

abbrev call_with_1 : Tokens → Tokens
call_with_1 toks = word 1 ∷ sign k.LeftParen ∷ number 1 ∷ sign k.RightParen ∷ toks

abbrev statement : StmtKind → Stmt
statement kind = roll-Stmt (record { line = 1; kind = kind })

abbrev pub statement_rows : List (Outcome (List Stmt))
statement_rows =
    -- a(1)(2); is faulty at ;
    stmts_read (call_with_1 (sign k.LeftParen ∷ number 2 ∷ sign k.RightParen ∷ sign k.Semicolon ∷ []))
    -- a{1}; is faulty at ;
    ∷ stmts_read (word 1 ∷ sign k.LeftBrace ∷ number 1 ∷ sign k.RightBrace ∷ sign k.Semicolon ∷ [])
    -- a - 1; is faulty at 1
    ∷ stmts_read (word 1 ∷ sign k.Minus ∷ number 1 ∷ sign k.Semicolon ∷ [])
    -- a = 1; is faulty at =
    ∷ stmts_read (word 1 ∷ sign k.Equal ∷ number 1 ∷ sign k.Semicolon ∷ [])
    -- a(1); is a call
    ∷ stmts_read (call_with_1 (sign k.Semicolon ∷ []))
    -- a(1) := 2; is a store
    ∷ stmts_read (call_with_1 (sign k.Assign ∷ number 2 ∷ sign k.Semicolon ∷ []))
    -- a +:= 1;
    ∷ stmts_read (word 1 ∷ sign k.Plus ∷ sign k.Assign ∷ number 1 ∷ sign k.Semicolon ∷ [])
    -- (for a in b | c) quit; end;
    ∷ stmts_read (sign k.LeftParen ∷ sign k.For ∷ word 1 ∷ sign k.In ∷ word 2 ∷ sign k.Bar ∷ word 3 ∷ sign k.RightParen ∷ sign k.Quit ∷ sign k.Semicolon ∷ sign k.End ∷ sign k.Semicolon ∷ [])
    -- (for a in b print is faulty at print
    ∷ stmts_read (sign k.LeftParen ∷ sign k.For ∷ word 1 ∷ sign k.In ∷ word 2 ∷ sign k.Print ∷ [])
    ∷ []

pub statements_are_read : statement_rows ≡
    Err (Syntax 1)
    ∷ Err (Syntax 1)
    ∷ Err (Syntax 2)
    ∷ Err (Syntax 3)
    ∷ Ok (statement (st.Call (1 ∷ []) (e.Number (pos 1) ∷ [])) ∷ [], [])
    ∷ Ok (statement (st.Assign (record { name = 1 ∷ []; selectors = se.Round (e.Number (pos 1) ∷ []) ∷ [] }) (e.Number (pos 2))) ∷ [], [])
    ∷ Ok (statement (st.Update (record { name = 1 ∷ []; selectors = [] }) op.Plus (e.Number (pos 1))) ∷ [], [])
    ∷ Ok (statement (st.For (it.Over (bd.Name (1 ∷ [])) b ∷ []) (Some c) (statement st.Quit ∷ [])) ∷ [], [])
    ∷ Err (Syntax 1)
    ∷ []
unfolding same_kind expect opening one_of opening_one_of many_from more separated listed name level_of binary_op op_at update_op relation_op not_sign prefix_op fold_sign quantifier constant expr r.nested r.whole r.e2 r.e5 r.e6 r.e7 r.after r.compared r.e11 r.e12 r.primary r.selectors r.selector r.begins_selector r.braces r.round r.arguments r.prefixes r.prefix r.fold r.begins_prefix r.nots r.operands r.iters r.iter r.named_iter r.condition from_word simple s.stmts s.nested_stmts s.stmt s.stmt_kind s.begins_stmt s.behind_name s.taken s.called_or_stored s.called s.no_arguments s.after_arguments s.selected_place s.braced_or_alone s.stored s.assigned s.updated s.place s.place_selectors s.place_selector s.place_round s.simple_stmt s.loop s.for_or_while s.for_loop s.ending
statements_are_read = refl

-- program a; end;
pub shortest : p.program 200 (sign k.Program ∷ word 1 ∷ sign k.Semicolon ∷ sign k.End ∷ sign k.Semicolon ∷ [])
    ≡ Ok (record { name = 1 ∷ []; vars = []; modes = []; body = []; procs = []; end_name = None; end_line = 1 }, [])
unfolding same_kind expect opening one_of many_from name p.program p.vars p.procs p.program_end p.named_ending p.begins_proc s.stmts s.begins_stmt
shortest = refl
