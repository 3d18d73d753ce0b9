-- What elaboration makes, and what it leaves of the elaborator.
use Rattle.std.specs.Prelude.{ℕ, List, [], ◌∷◌, ◌++◌, map, Option, Some, None}
use Rattle.std.specs.Option.{option_map}
use Rattle.setl_names.specs.Names.{Name}
use Rattle.setl_tree.specs.declared.expr.BinaryOp.{BinaryOp}
use Rattle.setl_tree.specs.declared.stmt.Place.{Place}
use Rattle.setl_program.specs.declared.expr.Expr.{Expr}
use Rattle.setl_program.specs.declared.kinds.Source.{Source}
use Rattle.setl_program.specs.Program as plain
use Rattle.setl_program.specs.code.Plain.{plain_expr}
use Rattle.setl_program.specs.Expressions.{Part, Range, optional}
use Rattle.setl_program.specs.Numbered.{Numbered, pure, ◌>>=◌}
use Rattle.setl_program.specs.Scope.{Scope, in_former}
use Rattle.setl_program.specs.Statements.{assignment, update}
use Rattle.setl_program_elaborate.specs.declared.elaborator.Elaborator.{Elaborator}

-- what is made there
abbrev pub made : {A : Type 0} → (Scope → Numbered A) → Elaborator → A
made m w = (m w.scope w.opened).0

-- the elaborator behind it, which has counted the formers in it
abbrev pub past : {A : Type 0} → (Scope → Numbered A) → Elaborator → Elaborator
past m w = record { alloc = w.alloc; scope = w.scope; opened = (m w.scope w.opened).1 }

-- what is made there, and the elaborator behind it
abbrev pub does : {A : Type 0} → (Scope → Numbered A) → Elaborator → A × Elaborator
does m w = (made m w, past m w)

-- the list with what is made there at its end, and the elaborator behind it
abbrev pub puts : {A : Type 0} → List A → (Scope → Numbered A) → Elaborator → List A × Elaborator
puts all m w = (all ++ made m w ∷ [], past m w)

-- the range that a kind of source and its expressions stand for
abbrev pub plain_range : Source × List Expr → Range
plain_range r = (r.0, map plain_expr r.1)

-- the bounds of a range, of which the second may not be there: as expressions of a program, and as those of a tree become them
abbrev pub plain_bounds : (Expr × Option Expr) × Expr → (plain.Expr × Option plain.Expr) × plain.Expr
plain_bounds r = ((plain_expr r.0.0, option_map plain_expr r.0.1), plain_expr r.1)

abbrev pub bounds_of : Part → Option Part → Part → Scope → Numbered ((plain.Expr × Option plain.Expr) × plain.Expr)
bounds_of a b c s = do x ← a.term s; y ← optional b s; z ← c.term s; pure ((x, y), z)

-- an assignment, or an update by an operator
abbrev pub assigned : Option BinaryOp → Place → Part → Scope → Numbered plain.Stmt
assigned None p x = assignment p x
assigned (Some op) p x = update p op x

-- the elaborator inside a former that binds these names
abbrev pub inside : ℕ → List Name → Elaborator → Elaborator
inside m names w = record { alloc = w.alloc; scope = in_former m names w.scope; opened = w.opened }
