use Rattle.std.proofs.Common.{◌≡◌, ◌++◌, drop}
use Rattle.setl_program.specs.code.Plain.{plain_exprs}
use Rattle.setl_advise_flows.specs.Expressions as expressions
use Rattle.setl_advise_lattice.specs.code.Levels.{shape_of, shapes_of}
use Rattle.setl_advise_terms.specs.code.Plain.{flows_of}
use Rattle.setl_advise_terms.proofs.Links.{Rest}
use Rattle.setl_advise_terms.proofs.shapes.+shape.Given as goal

abbrev pub invariant-shapes-loop-e : goal.invariant-shapes-loop-e
invariant-shapes-loop-e l =
    let s = flows_of l.table in
    shapes_of l.all.items ++ expressions.shapes_of s (plain_exprs (drop l.e-index l.es)) ≡ expressions.shapes_of s (plain_exprs l.es)

-- what links that are left give of an expression of this shape is what all give of one of the first shape
abbrev pub invariant-links-loop-l : goal.invariant-links-loop-l
invariant-links-loop-l l = Rest (flows_of l.table) l.ls l.l-index (shape_of l.fn.w) (shape_of l.all)
