-- Scopes as the code keeps them.
use Rattle.std.specs.Prelude.{ℕ, [], take, length}
use Rattle.setl_names_walk.specs.declared.scope.Scope.{Scope}
use Rattle.setl_names_walk.specs.declared.scope.Mark.{Mark}
use Rattle.setl_names.specs.Places.{Place}

abbrev pub no_scope : Scope
no_scope = record { own = []; inside = [] }

-- the place of an expression in a statement of this line
abbrev pub place : ℕ → Scope → Place
place line s = record { line = line; own = s.own; inside = s.inside }

abbrev pub mark_of : Scope → Mark
mark_of s = record { own = length s.own; inside = length s.inside }

abbrev pub back_to : Mark → Scope → Scope
back_to m s = record { own = take m.own s.own; inside = take m.inside s.inside }
