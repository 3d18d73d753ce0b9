-- Walks over statements as the code keeps them.
use Rattle.std.specs.Prelude.{ℕ, true, List, [], ◌++◌}
use Rattle.std.specs.Global.{Global}
use Rattle.setl_names.specs.declared.occurrence.Occurrence.{Occurrence}
use Rattle.setl_names_walk.specs.declared.walk.Walk.{Walk}
use Rattle.setl_names.specs.Names.{Name, with_names}
use Rattle.setl_names.specs.Places.{Place}
use Rattle.setl_names.specs.Occurrences.{bound_names}
use Rattle.setl_names_walk.specs.Scopes.{no_scope, place}

abbrev pub no_walk : Global → Walk
no_walk alloc = record { alloc = alloc; scope = no_scope; found = [] }

-- the place of an expression in a statement of this line
abbrev pub here : ℕ → Walk → Place
here line w = place line w.scope

-- the walk behind a part in which this stands
abbrev pub after : List Occurrence → Walk → Walk
after more w = record { alloc = w.alloc; scope = w.scope; found = w.found ++ more }

-- the walk where these names, too, mean a former's own names
abbrev pub with_own : List Name → Walk → Walk
with_own names w = record { alloc = w.alloc; scope = record { own = with_names w.scope.own names; inside = w.scope.inside }; found = w.found }

-- the walk inside a former that binds these names, before it binds one
abbrev pub inside_former : List Name → Walk → Walk
inside_former names w = record { alloc = w.alloc; scope = record { own = w.scope.own; inside = with_names w.scope.inside names }; found = w.found }

-- the walk inside a former that collects these names, behind them
abbrev pub with_filter : ℕ → List Name → Walk → Walk
with_filter line names w = after (bound_names true names (here line (inside_former names w))) (inside_former names w)
