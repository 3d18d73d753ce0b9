-- Worked rows: for each rule what breaks it and a sound neighbour, and the slots of some bodies.
use Rattle.std.specs.Prelude.{◌≡◌, ℕ, true, false, List, [], ◌∷◌, map, Option, Some, None}
use Rattle.setl_tree.specs.declared.tree.Passing.{Passing}
use Rattle.setl_tree.specs.declared.tree.Passing.TheVariants as pa
use Rattle.setl_tree.specs.declared.tree.Proc.{Proc}
use Rattle.setl_tree.specs.declared.tree.Tree.{Tree}
use Rattle.setl_names.specs.declared.broken.Break.{Break}
use Rattle.setl_names.specs.declared.occurrence.Argument.{Argument}
use Rattle.setl_names.specs.declared.occurrence.Argument.TheVariants as arg
use Rattle.setl_names.specs.declared.occurrence.What.{What}
use Rattle.setl_names.specs.declared.occurrence.What.TheVariants as what
use Rattle.setl_names.specs.Names.{Name}
use Rattle.setl_names.specs.Breaks.{breaks, break_at, occurrence_breaks, first_break}
use Rattle.setl_names.specs.Variables.{slots_among}

-- names of one letter; the program is p, its procedure f
abbrev p : Name
p = 112 ∷ []

abbrev f : Name
f = 102 ∷ []

abbrev s : Name
s = 115 ∷ []

abbrev t : Name
t = 116 ∷ []

abbrev x : Name
x = 120 ∷ []

abbrev y : Name
y = 121 ∷ []

-- the program p with these procedures, which ends on line 9
abbrev program : List Proc → Tree
program procs = record { name = p; vars = []; modes = []; body = []; procs = procs; end_name = None; end_line = 9 }

abbrev declared : List Name → Tree → Tree
declared names tree = record tree { vars = map (λ a. record { line = 1; name = a }) names }

abbrev ended : Option Name → Tree → Tree
ended end_name tree = record tree { end_name = end_name }

-- a procedure of this name on line 5, which ends on line 8, with parameters on line 6
abbrev proc : Name → List (Passing × Name) → Proc
proc a params = record { line = 5; name = a; params = map (λ q. record { passing = q.0; name = q.1; line = 6 }) params; body = []; end_name = None; end_line = 8 }

abbrev proc_ended : Name → Proc → Proc
proc_ended a q = record q { end_name = Some a }

-- f with one parameter, f that stores in one, f that stores in two
abbrev f_rd : Proc
f_rd = proc f ((pa.Rd, x) ∷ [])

abbrev f_rw : Proc
f_rw = proc f ((pa.Rw, x) ∷ [])

abbrev f_two : Proc
f_two = proc f ((pa.Rw, x) ∷ (pa.Wr, y) ∷ [])

-- ---- programs without statements, and their breaks

abbrev head_rows : List (Tree × List Break)
head_rows =
    -- 1: a name after `end program`
    (ended (Some s) (program []), break_at 9 1 ∷ [])
    ∷ (ended (Some p) (program []), [])
    -- 2: a name after `end proc`
    ∷ (program (proc_ended s (proc f []) ∷ []), break_at 8 2 ∷ [])
    ∷ (program (proc_ended f (proc f []) ∷ []), [])
    -- 3: two procedures f
    ∷ (program (f_rd ∷ f_rw ∷ []), break_at 5 3 ∷ [])
    ∷ (program (f_rd ∷ proc s [] ∷ []), [])
    -- 4: a procedure p
    ∷ (program (proc p [] ∷ []), break_at 5 4 ∷ [])
    -- 5: var x, y, x
    ∷ (declared (x ∷ y ∷ x ∷ []) (program []), break_at 1 5 ∷ [])
    ∷ (declared (x ∷ y ∷ []) (program []), [])
    -- 6: var x, f
    ∷ (declared (x ∷ f ∷ []) (program (f_rd ∷ [])), break_at 1 6 ∷ [])
    -- 7: f(rd x, rw x)
    ∷ (program (proc f ((pa.Rd, x) ∷ (pa.Rw, x) ∷ []) ∷ []), break_at 6 7 ∷ [])
    ∷ (program (f_two ∷ []), [])
    -- 8: f(rd f)
    ∷ (program (proc f ((pa.Rd, f) ∷ []) ∷ []), break_at 6 8 ∷ [])
    ∷ []

-- ---- what stands in a statement of line 2, the procedures, and the breaks

abbrev argument : Name → Argument
argument a = arg.Name a false false

abbrev call : Name → List Argument → What
call a xs = what.Applied a false xs

abbrev rules_broken : List ℕ → List Break
rules_broken rules = map (λ k. break_at 2 k) rules

abbrev rows : List (What × List Proc × List ℕ)
rows =
    -- 9: f := .., {f : f in s}
    (what.Name f false, f_rd ∷ [], 9 ∷ [])
    ∷ (what.Name f true, f_rd ∷ [], 9 ∷ [])
    ∷ (what.Name f false, [], [])
    -- 10: f() and f(x), where f has one parameter
    ∷ (call f [], f_rd ∷ [], 10 ∷ [])
    ∷ (call f (argument x ∷ []), f_rd ∷ [], [])
    -- 11: f(1), where f stores, and where it doesn't
    ∷ (call f (arg.Other ∷ []), f_rw ∷ [], 11 ∷ [])
    ∷ (call f (arg.Other ∷ []), f_rd ∷ [], [])
    -- 12: the statement f(1); without a procedure, x := s(), f()()
    ∷ (what.CallStatement f, [], 12 ∷ [])
    ∷ (what.CallStatement f, f_rd ∷ [], [])
    ∷ (call s [], f_rd ∷ [], 12 ∷ [])
    ∷ (call f [], proc f [] ∷ [], [])
    ∷ (what.EmptyList, f_rd ∷ [], 12 ∷ [])
    -- 13: quit outside and inside a loop
    ∷ (what.Quit false, [], 13 ∷ [])
    ∷ (what.Quit true, [], [])
    -- 14: return in the main program and in a procedure
    ∷ (what.Return false, [], 14 ∷ [])
    ∷ (what.Return true, [], [])
    -- 15: x in s, x in t
    ∷ (what.Bound (x ∷ x ∷ []), [], 15 ∷ [])
    ∷ (what.Bound (x ∷ y ∷ []), [], [])
    -- 16: {exists x in t | .. : x in s}, and f(x) in the source of x's own iterator
    ∷ (what.Quantified x true, [], 16 ∷ [])
    ∷ (what.Quantified x false, [], [])
    ∷ (call f (arg.Name x false true ∷ []), f_rw ∷ [], 16 ∷ [])
    -- {f(x) : x in s} breaks two rules
    ∷ (call f (arg.Name x true true ∷ []), f_rw ∷ [], 11 ∷ 16 ∷ [])
    ∷ (call f (arg.Name x true true ∷ []), f_rd ∷ [], [])
    -- 17: [x, x] := ..
    ∷ (what.Target (x ∷ x ∷ []), [], 17 ∷ [])
    ∷ (what.Target (x ∷ y ∷ []), [], [])
    -- 18: f(x, x), where f stores in both
    ∷ (call f (argument x ∷ argument x ∷ []), f_two ∷ [], 18 ∷ [])
    ∷ (call f (argument x ∷ argument y ∷ []), f_two ∷ [], [])
    ∷ []

-- ---- the slots of bodies

abbrev names_in_order : List What
names_in_order = what.Name y false ∷ what.Name x true ∷ what.Name t false ∷ call f (argument y ∷ []) ∷ call s [] ∷ what.Name y false ∷ what.Name x false ∷ []

-- with the parameter x and the name t in `var`, where f is a procedure
abbrev some_slots : List Name
some_slots = slots_among (f_rd ∷ []) (x ∷ []) (t ∷ []) (map (λ w. record { line = 2; what = w }) names_in_order)

-- Each worked program without statements has the breaks that stand beside it.
abbrev pub WorkedHeads : Type 0
WorkedHeads = map (λ r. breaks r.0) head_rows ≡ map (λ r. r.1) head_rows

-- Each thing that stands in a statement breaks the rules whose numbers stand beside it.
abbrev pub WorkedRules : Type 0
WorkedRules = map (λ r. occurrence_breaks r.1 (record { line = 2; what = r.0 })) rows ≡ map (λ r. rules_broken r.2) rows

-- Parameters, names in `var`, procedures and a former's own name are no slots; the others stand in order.
abbrev pub WorkedSlots : Type 0
WorkedSlots = some_slots ≡ y ∷ s ∷ []

-- The lower line comes first, and on one line the lower number.
abbrev pub WorkedOrder : Type 0
WorkedOrder = first_break (break_at 3 9 ∷ break_at 2 12 ∷ break_at 2 11 ∷ break_at 4 1 ∷ []) ≡ Some (break_at 2 11)
