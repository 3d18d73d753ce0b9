use Rattle.std.proofs.Common.{◌+◌, ◌∷◌, ◌∙◌, take, sym, ap, arith}
use Rattle.std.proofs.lemmas.List.{take_rest}
use Rattle.setl_debug_script.specs.Lines.{lines}
use Rattle.setl_debug_script.proofs.LineEnds.{line_ends, line_open, text_before, text_whole}
use Rattle.setl_debug_script.proofs.lines.first_line.Goals as goal

pub returns-then-bytes-at-eq10-clause-first : goal.returns-then-bytes-at-eq10-clause-first
returns-then-bytes-at-eq10-clause-first c =
    line_ends c.args.bytes.now c.loop-at.at c.loop-at.invariant (omega arith) c.if-bytes-at-eq10.true
    ∙ ap (λ z. take c.loop-at.at c.args.bytes.now ∷ lines z) (sym (take_rest c.args.bytes.now (c.loop-at.at + 1)))

pub returns-then-bytes-at-eq10-clause-text : goal.returns-then-bytes-at-eq10-clause-text
returns-then-bytes-at-eq10-clause-text c = text_before c.args.bytes.now c.loop-at.at c.loop-at.invariant (omega arith)

pub returns-clause-first : goal.returns-clause-first
returns-clause-first c = line_open c.args.bytes.now c.requires (λ k lt e. c.loop-at.invariant k (omega arith) e)

pub returns-clause-text : goal.returns-clause-text
returns-clause-text c = text_whole c.args.bytes.now (λ k lt e. c.loop-at.invariant k (omega arith) e)
