use Rattle.std.proofs.Common.{drop, Some}
use Rattle.std.proofs.lemmas.Result.{IfOk-weaker}
use Rattle.setl_value.specs.code.DatumOf.{datum}
use Rattle.setl_code.specs.Code.{Operate}
use Rattle.setl_machine.specs.Held.{GivesOfOne}
use Rattle.setl_machine.specs.Operating.{PutsForOne}
use Rattle.setl_machine_control.specs.Working.{Does}
use Rattle.setl_machine.proofs.Operated.{operated_one, plain_on_top}
use Rattle.setl_machine.proofs.operating.operate_on_one_held.Goals as goal

pub put_for_one-requires-clause-one : goal.put_for_one-requires-clause-one
put_for_one-requires-clause-one c =
    let xs = c.args.store.now.core.now.operands in
    let t : GivesOfOne c.args.what xs (datum c.in-Some.value) = c.in-Some.ensures in
    plain_on_top xs (drop 1 xs) t.0 t.1

pub returns-in-Some-clause-did : goal.returns-in-Some-clause-did
returns-in-Some-clause-did c =
    let old = c.args.store.now in
    let new = c.put_for_one.new.store in
    let from = c.args.control.now in
    let to = c.charge.new.self in
    let v = Some (datum c.in-Some.value) in
    let t : GivesOfOne c.args.what old.core.now.operands (datum c.in-Some.value) = c.in-Some.ensures in
    IfOk-weaker c.put_for_one.result (λ e. PutsForOne old v new e) (λ e. Does old from c.args.line (Operate c.args.what c.args.count) new to e)
    (λ e h. operated_one old new from to c.args.line c.args.count 0 c.args.what t.0 v e c.requires.one c.requires.fits t.1 (t.2 from.turns) c.charge.ensures h)
    c.put_for_one.ensures
