-- Where expressions and statements stand.
use Rattle.std.specs.Prelude.{ℕ, true, List, []}
use Rattle.setl_names.specs.declared.around.Around.{Around}
use Rattle.setl_names.specs.Names.{Name, with_names}

-- Where an expression stands: the line of its statement, the names that mean a former's own name there, and the names
-- that the formers around it bind.
pub record Place : Type 0 where
  pub line : ℕ
  pub own : List Name
  pub inside : List Name

-- the place of the expressions in a statement of this line
abbrev pub in_statement : ℕ → Place
in_statement line = record { line = line; own = []; inside = [] }

-- the same place inside a former that binds these names, before it binds one
abbrev pub inside_former : List Name → Place → Place
inside_former names p = record p { inside = with_names p.inside names }

-- the same place where these names mean a former's own names
abbrev pub with_own : List Name → Place → Place
with_own names p = record p { own = with_names p.own names }

-- where the statements of a loop stand
abbrev pub in_a_loop : Around → Around
in_a_loop a = record a { in_loop = true }
