use Rattle.setl_modes_declarations.specs.Declares.{named_modes}
use Rattle.setl_modes_declarations.proofs.Lines.{line_bases_put, line_variables_put}
use Rattle.setl_modes_declarations.proofs.table.put_lines.Goals as goal

pub loop-line-preserved : goal.loop-line-preserved
loop-line-preserved c =
    let before = named_modes c.loop-line.bases.modes in
    let after = named_modes c.put_line.new.bases.modes in
    record {
      bases =
          line_bases_put c.args.lines.now c.loop-line.line-index c.line-item.result before after _
          c.loop-line-test.true c.line-item.is c.in_ok-put_line.ensures.bases c.loop-line.invariant.bases;
      vars =
          line_variables_put c.args.lines.now c.loop-line.line-index c.line-item.result before after (named_modes c.loop-line.vars) (named_modes c.put_line.new.vars) _
          c.loop-line-test.true c.line-item.is c.in_ok-put_line.ensures.bases c.in_ok-put_line.ensures.vars c.loop-line.invariant.vars;
      finds = c.in_ok-put_line.ensures.finds;
    }
