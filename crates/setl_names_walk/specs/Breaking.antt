-- The name by which a rule of 1 to 18 is broken: that of the first thing on the line of a break which breaks its rule there.
use Rattle.std.specs.Prelude.{ℕ, ◌==◌, Bool, false, ◌&&◌, List, [], ◌∷◌, map, Option, Some, None, if◌then◌else◌}
use Rattle.setl_tree.specs.declared.tree.Proc.{Proc}
use Rattle.setl_tree.specs.declared.tree.Tree.{Tree}
use Rattle.setl_names.specs.declared.broken.Break.{Break}
use Rattle.setl_names.specs.declared.head.Entry.{Entry}
use Rattle.setl_names.specs.declared.occurrence.Occurrence.{Occurrence}
use Rattle.setl_names.specs.declared.occurrence.What.{What}
use Rattle.setl_names.specs.declared.occurrence.What.TheVariants as what
use Rattle.setl_names.specs.Bodies.{Body, bodies, occurrences}
use Rattle.setl_names.specs.Breaks.{all_occurrence_breaks, first_break}
use Rattle.setl_names.specs.Heads.{proc_entry, param_entry, declared_entry, is_other}
use Rattle.setl_names.specs.Names.{Name, has, with_name}
use Rattle.setl_names.specs.Procedures.{is_procedure}

-- the first of two names that may not be there
abbrev pub either : Option Name → Option Name → Option Name
either None y = y
either (Some x) y = Some x

-- ---- names that are declared

-- the first name that passes a test, of an entry of this line
abbrev pub first_at : (Name → Bool) → ℕ → List Entry → Option Name
first_at test line [] = None
first_at test line (e ∷ es) = if test e.name && e.line == line then Some e.name else first_at test line es

-- the first name that stands earlier or is among these, of an entry of this line
abbrev pub again_at : ℕ → List Name → List Entry → Option Name
again_at line names [] = None
again_at line names (e ∷ es) = if has names e.name && e.line == line then Some e.name else again_at line (with_name names e.name) es

-- the first name behind an `end proc` of this line that isn't the procedure's
abbrev pub end_at : ℕ → List Proc → Option Name
end_at line [] = None
end_at line (p ∷ ps) = if is_other p.end_name p.name && p.end_line == line then p.end_name else end_at line ps

-- the first parameter of this line that stands earlier in its list
abbrev pub parameter_again : ℕ → List Proc → Option Name
parameter_again line [] = None
parameter_again line (p ∷ ps) = either (again_at line [] (map param_entry p.params)) (parameter_again line ps)

-- the first parameter of this line that has a procedure's name
abbrev pub parameter_taken : List Proc → ℕ → List Proc → Option Name
parameter_taken procs line [] = None
parameter_taken procs line (p ∷ ps) = either (first_at (is_procedure procs) line (map param_entry p.params)) (parameter_taken procs line ps)

-- the name by which a rule of 1 to 8 is broken
abbrev pub in_heads : Tree → Break → Option Name
in_heads t b =
    if b.rule == 1 then t.end_name
    else if b.rule == 2 then end_at b.line t.procs
    else if b.rule == 3 then again_at b.line [] (map proc_entry t.procs)
    else if b.rule == 4 then Some t.name
    else if b.rule == 5 then again_at b.line [] (map declared_entry t.vars)
    else if b.rule == 6 then first_at (is_procedure t.procs) b.line (map declared_entry t.vars)
    else if b.rule == 7 then parameter_again b.line t.procs
    else if b.rule == 8 then parameter_taken t.procs b.line t.procs
    else None

-- ---- names in statements

-- the first name that stands earlier in a list or is among these
abbrev pub repeated : List Name → List Name → Option Name
repeated names [] = None
repeated names (x ∷ xs) = if has names x then Some x else repeated (with_name names x) xs

-- The name that something in a statement is about: of a call that of the procedure, and of names that are bound together or
-- assigned to together the one that stands there twice.
abbrev pub about : What → Option Name
about (what.Name x own) = Some x
about (what.Applied f own xs) = Some f
about (what.CallStatement f) = Some f
about what.EmptyList = None
about (what.Bound xs) = repeated [] xs
about (what.Quantified x inside) = Some x
about (what.Target xs) = repeated [] xs
about (what.Quit in_loop) = None
about (what.Return in_procedure) = None

-- whether a break that may not be there is this one
abbrev pub is_break : Break → Option Break → Bool
is_break b None = false
is_break b (Some a) = a.line == b.line && a.rule == b.rule

-- the name that something in a statement is about, if its own first break is this one
abbrev pub in_occurrence : List Proc → Break → Occurrence → Option Name
in_occurrence procs b u = if is_break b (first_break (all_occurrence_breaks procs (u ∷ []))) then about u.what else None

abbrev pub in_occurrences : List Proc → Break → List Occurrence → Option Name
in_occurrences procs b [] = None
in_occurrences procs b (u ∷ us) = either (in_occurrence procs b u) (in_occurrences procs b us)

abbrev pub in_bodies : List Proc → Break → List Body → Option Name
in_bodies procs b [] = None
in_bodies procs b (x ∷ xs) = either (in_occurrences procs b (occurrences x)) (in_bodies procs b xs)

-- ---- the name

-- the name by which a rule of 1 to 18 is broken, where it is by a name
abbrev pub breaking_name : Tree → Break → Option Name
breaking_name t b = either (in_heads t b) (in_bodies t.procs b (bodies t))
