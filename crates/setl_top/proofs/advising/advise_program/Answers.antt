use Rattle.std.proofs.Common.{◌≡◌, List, [], ◌∷◌, None, refl, sym}
use Rattle.setl_tree.specs.declared.mode.ReprLine.{ReprLine}
use Rattle.setl_top_advice.specs.Advised.{first_line, has_repr_line}
use Rattle.setl_top.specs.code.Advises.{of_program, of_declared}
use Rattle.setl_top.proofs.advising.advise_program.Goals as goal

-- a section without a first line is empty
no_line : (ls : List ReprLine) → first_line ls ≡ None → ls ≡ []
no_line [] e = refl
no_line (l ∷ ls) e = absurd (cc)

pub write_advice-requires : goal.write_advice-requires
write_advice-requires g c = record { program = c.requires; bare = no_line c.args.tree.now.modes (sym c.in-None.ensures) }

pub returns-in-Some : goal.returns-in-Some
returns-in-Some g c =
    of_declared c.args.tree.now (has_repr_line c.in-Some.line) _ c.requires (record { at = c.in-Some.line; first = sym c.in-Some.ensures; tells = refl }) refl (c.tell_made.ensures.told _ c.has_repr.ensures)

pub returns-in-None : goal.returns-in-None
returns-in-None g c = of_program c.args.tree.now c.write_advice.result c.requires c.write_advice.ensures
