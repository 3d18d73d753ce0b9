-- The name by which a rule of 19 to 28 is broken: that of the first thing on the line of a break which breaks its rule there.
use Rattle.std.specs.Prelude.{ℕ, ◌==◌, Bool, not, ◌&&◌, List, [], ◌∷◌, map, Option, Some, None, if◌then◌else◌}
use Rattle.setl_tree.specs.declared.mode.ReprLine.{ReprLine}
use Rattle.setl_tree.specs.declared.tree.Tree.{Tree}
use Rattle.setl_names.specs.declared.broken.Break.{Break}
use Rattle.setl_names.specs.Heads.{declared_entry}
use Rattle.setl_names.specs.Names.{Name, has, with_names}
use Rattle.setl_names.specs.Variables.{var_names}
use Rattle.setl_names_walk.specs.Breaking.{either, first_at, again_at}
use Rattle.setl_modes_written.specs.Written.{Written, Element}
use Rattle.setl_modes_declarations.specs.Rules.{declared_bases, declared_variables, line_bases, line_parts, is_taken, is_declarable}

-- the first base that an `elmt` of this line names and that is none of these
abbrev pub unknown_at : ℕ → List Name → List Written → Option Name
unknown_at line bases [] = None
unknown_at line bases (Element a at b ∷ ms) = if not (has bases b) && at == line then Some b else unknown_at line bases ms
unknown_at line bases (m ∷ ms) = unknown_at line bases ms

-- the first base that an `elmt` of this line names and that no earlier `repr` line declares, where these are known before
abbrev pub unknown_from : ℕ → List Name → List ReprLine → Option Name
unknown_from line known [] = None
unknown_from line known (l ∷ ls) = either (unknown_at line known (line_parts l)) (unknown_from line (with_names known (var_names (line_bases l))) ls)

-- whether a name can't be that of a declared variable
abbrev pub is_undeclarable : Tree → Name → Bool
is_undeclarable t x = not (is_declarable t x)

-- the name by which a rule of 19 to 28 is broken, where it is by a name
abbrev pub breaking_name : Tree → Break → Option Name
breaking_name t b =
    if b.rule == 19 then again_at b.line [] (map declared_entry (declared_bases t.modes))
    else if b.rule == 20 then first_at (is_taken t) b.line (map declared_entry (declared_bases t.modes))
    else if b.rule == 21 then unknown_from b.line [] t.modes
    else if b.rule == 23 then again_at b.line [] (map declared_entry (declared_variables t.modes))
    else if b.rule == 24 then first_at (is_undeclarable t) b.line (map declared_entry (declared_variables t.modes))
    else None
