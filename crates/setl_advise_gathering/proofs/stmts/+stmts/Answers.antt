use Rattle.std.proofs.Common.{map}
use Rattle.std.proofs.lemmas.Result.{on_ok_weaker}
use Rattle.setl_program.specs.code.Plain.{plain_procedure}
use Rattle.setl_advise_gathering.specs.code.Plain.{listed}
use Rattle.setl_advise_gathering.proofs.Statements.{if_done, for_done, while_done, return_done, read_done}
use Rattle.setl_advise_gathering.proofs.stmts.+stmts.Goals as goal

pub kind-returns-in_ok-block-in-If-2 : goal.kind-returns-in_ok-block-in-If-2
kind-returns-in_ok-block-in-If-2 t c =
    if_done (map plain_procedure c.args.procedures.now) c.args.body c.args.k.now c.in-If.c c.in-If.x c.as_slice-in-If.result.now c.in-If.bs c.as_slice-in-If-2.result.now c.in-If.y c.as_slice-in-If-3.result.now (listed c.args.all.now.items) (listed c.expr-in-If.new.all.items) (listed c.block.new.all.items) (listed c.branches.new.all.items) (listed c.block-in-If.new.all.items)
    c.in-If.is c.as_slice-in-If.ensures c.as_slice-in-If-2.ensures c.as_slice-in-If-3.ensures c.in_ok-expr-in-If.ensures c.in_ok-block-in-If.ensures c.in_ok-branches-in-If.ensures c.in_ok-block-in-If-2.ensures

pub kind-returns-in_ok-block-in-For : goal.kind-returns-in_ok-block-in-For
kind-returns-in_ok-block-in-For t c =
    for_done (map plain_procedure c.args.procedures.now) c.args.body c.args.k.now c.in-For.is' c.as_slice-in-For.result.now c.in-For.t c.in-For.b c.as_slice-in-For-2.result.now (listed c.args.all.now.items) (listed c.iterators.new.all.items) (listed c.test.new.all.items) (listed c.block-in-For.new.all.items)
    c.in-For.is c.as_slice-in-For.ensures c.as_slice-in-For-2.ensures c.in_ok-iterators-in-For.ensures c.in_ok-test-in-For.ensures c.in_ok-block-in-For.ensures

pub kind-returns-in_ok-block-in-While : goal.kind-returns-in_ok-block-in-While
kind-returns-in_ok-block-in-While t c =
    while_done (map plain_procedure c.args.procedures.now) c.args.body c.args.k.now c.in-While.c c.in-While.b c.as_slice-in-While.result.now (listed c.args.all.now.items) (listed c.expr-in-While.new.all.items) (listed c.block-in-While.new.all.items)
    c.in-While.is c.as_slice-in-While.ensures c.in_ok-expr-in-While.ensures c.in_ok-block-in-While.ensures

pub kind-returns-in_ok-returned-in-Return : goal.kind-returns-in_ok-returned-in-Return
kind-returns-in_ok-returned-in-Return t c =
    on_ok_weaker c.expr-in-Return.result
    (return_done (map plain_procedure c.args.procedures.now) c.args.body c.args.k.now c.in-Return.e (listed c.args.all.now.items) (listed c.returned.new.all.items) (listed c.expr-in-Return.new.all.items) c.in-Return.is (c.in_ok-returned-in-Return.ensures (map plain_procedure c.args.procedures.now)))
    c.expr-in-Return.ensures

pub kind-returns-in-Read : goal.kind-returns-in-Read
kind-returns-in-Read t c =
    on_ok_weaker c.reads.result
    (read_done (map plain_procedure c.args.procedures.now) c.args.body c.args.k.now c.in-Read.xs c.as_slice-in-Read.result.now (listed c.args.all.now.items) (listed c.reads.new.all.items) c.in-Read.is c.as_slice-in-Read.ensures)
    c.reads.ensures
