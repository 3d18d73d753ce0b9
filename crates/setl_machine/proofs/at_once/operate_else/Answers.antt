use Rattle.std.proofs.Common.{◌≡◌, ap, Some}
use Rattle.std.proofs.lemmas.Result.{IfOk-weaker}
use Rattle.setl_code.specs.Code.{Operate}
use Rattle.setl_value.specs.code.DatumOf.{datum}
use Rattle.setl_machine_control.specs.Working.{Does}
use Rattle.setl_machine.specs.Operating.{PutsForOne}
use Rattle.setl_machine.proofs.Operated.{plain_on_top_alone, operated_freely_alone}
use Rattle.setl_machine.proofs.AtOnce.{went}
use Rattle.setl_machine.proofs.Working.{does_untested}
use Rattle.setl_store.specs.Standing.{Standing}
use Rattle.setl_machine.proofs.Gaining.{does_stay, stays_ok}
use Rattle.setl_machine.proofs.at_once.operate_else.Goals as goal

pub put_for_one-requires-clause-one : goal.put_for_one-requires-clause-one
put_for_one-requires-clause-one c = plain_on_top_alone c.args.what c.args.store.now.core.now.operands (datum c.in-Some.value) c.in-Some.ensures

pub returns-in-Some-clause-did : goal.returns-in-Some-clause-did
returns-in-Some-clause-did c = λ modes.
    let old = c.args.store.now in
    let new = c.put_for_one.new.store in
    let k = c.args.control.now in
    let what = Operate c.args.what c.args.count in
    let d = datum c.in-Some.value in
    went modes old new k k c.args.line what c.put_for_one.result c.went_on.result c.went_on.ensures
    (does_untested modes old new k k c.args.line what c.put_for_one.result
    (IfOk-weaker c.put_for_one.result (λ e. PutsForOne old (Some d) new e) (λ e. Does old k c.args.line what new k e)
    (λ e h. operated_freely_alone old new k c.args.line c.args.count c.args.what d e c.requires.fits c.in-Some.ensures h) c.put_for_one.ensures))

pub returns-in-None-clause-did : goal.returns-in-None-clause-did
returns-in-None-clause-did c = λ modes.
    let s = c.args.store.now in
    let from = c.args.control.now in
    let what = Operate c.args.what c.args.count in
    went modes s c.operate_any.new.store from c.operate_any.new.control c.args.line what c.operate_any.result c.went_on-in-None.result c.went_on-in-None.ensures
    (does_untested modes s c.operate_any.new.store from c.operate_any.new.control c.args.line what c.operate_any.result c.operate_any.ensures.did)

pub returns-in-Some-clause-bases : goal.returns-in-Some-clause-bases
returns-in-Some-clause-bases c =
    let old = c.args.store.now in
    let new = c.put_for_one.new.store in
    stays_ok old.bases new.bases c.put_for_one.result c.went_on.result c.went_on.ensures
    (IfOk-weaker c.put_for_one.result (λ e. PutsForOne old (Some (datum c.in-Some.value)) new e) (λ e. new.bases ≡ old.bases) (λ e h. ap (λ (s : Standing). s.bases) h.1) c.put_for_one.ensures)

pub returns-in-None-clause-bases : goal.returns-in-None-clause-bases
returns-in-None-clause-bases c =
    does_stay c.args.store.now c.operate_any.new.store c.args.control.now c.operate_any.new.control c.args.line (Operate c.args.what c.args.count) c.operate_any.result c.went_on-in-None.result c.went_on-in-None.ensures c.operate_any.ensures.did
