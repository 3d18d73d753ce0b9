use Rattle.std.proofs.Common.{drop, Some}
use Rattle.std.proofs.lemmas.Result.{IfOk-weaker}
use Rattle.setl_value.specs.Datum.{bool}
use Rattle.setl_code.specs.Code.{Operate}
use Rattle.setl_machine.specs.Held.{TellsOfTwo}
use Rattle.setl_machine.specs.Operating.{PutsForTwo}
use Rattle.setl_machine_control.specs.Working.{Does}
use Rattle.setl_machine.proofs.Operated.{operated_two, two_there}
use Rattle.setl_machine.proofs.operating.operate_on_two_held.Goals as goal

pub put_for_two-requires-clause-two : goal.put_for_two-requires-clause-two
put_for_two-requires-clause-two c =
    let xs = c.args.store.now.core.now.operands in
    let t : TellsOfTwo c.args.what xs c.in-Some.truth = rw c.in-Some.is at c.in_ok-truth.ensures in
    two_there xs (drop 2 xs) t.0 t.1 t.2

pub returns-in-Some-clause-did : goal.returns-in-Some-clause-did
returns-in-Some-clause-did c =
    let old = c.args.store.now in
    let new = c.put_for_two.new.store in
    let from = c.args.control.now in
    let to = c.charge.new.self in
    let v = Some (bool c.in-Some.truth) in
    let t : TellsOfTwo c.args.what old.core.now.operands c.in-Some.truth = rw c.in-Some.is at c.in_ok-truth.ensures in
    IfOk-weaker c.put_for_two.result (λ e. PutsForTwo old v new e) (λ e. Does old from c.args.line (Operate c.args.what c.args.count) new to e)
    (λ e h. operated_two old new from to c.args.line c.args.count 0 c.args.what t.0 t.1 v e c.requires.two c.requires.fits t.2 (t.3 from.turns) c.charge.ensures h)
    c.put_for_two.ensures
