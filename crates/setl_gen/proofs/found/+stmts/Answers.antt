use Rattle.setl_gen.proofs.FoundKinds.{found_if, found_for, found_while}
use Rattle.setl_gen.proofs.found.+stmts.Goals as goal

pub kind-returns-in_ok-block-in-If-2 : goal.kind-returns-in_ok-block-in-If-2
kind-returns-in_ok-block-in-If-2 t c =
    found_if c.args.kind.now c.in-If.c c.in-If.x c.as_slice-in-If.result.now c.in-If.further c.as_slice-in-If-2.result.now c.in-If.y c.as_slice-in-If-3.result.now c.args.all.now c.expr-in-If.new.all c.block.new.all c.branches.new.all c.block-in-If.new.all
    c.in-If.is c.as_slice-in-If.ensures c.as_slice-in-If-2.ensures c.as_slice-in-If-3.ensures c.in_ok-expr-in-If.ensures c.in_ok-block-in-If.ensures c.in_ok-branches-in-If.ensures c.in_ok-block-in-If-2.ensures

pub kind-returns-in_ok-block-in-For : goal.kind-returns-in_ok-block-in-For
kind-returns-in_ok-block-in-For t c =
    found_for c.args.kind.now c.in-For.is' c.as_slice-in-For.result.now c.in-For.t c.in-For.b c.as_slice-in-For-2.result.now c.args.all.now c.iterators.new.all c.optional.new.all c.block-in-For.new.all
    c.in-For.is c.as_slice-in-For.ensures c.as_slice-in-For-2.ensures c.in_ok-iterators-in-For.ensures c.in_ok-optional-in-For.ensures c.in_ok-block-in-For.ensures

pub kind-returns-in_ok-block-in-While : goal.kind-returns-in_ok-block-in-While
kind-returns-in_ok-block-in-While t c =
    found_while c.args.kind.now c.in-While.c c.in-While.b c.as_slice-in-While.result.now c.args.all.now c.expr-in-While.new.all c.block-in-While.new.all
    c.in-While.is c.as_slice-in-While.ensures c.in_ok-expr-in-While.ensures c.in_ok-block-in-While.ensures
