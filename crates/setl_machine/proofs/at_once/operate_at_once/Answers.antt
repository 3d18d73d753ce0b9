use Rattle.std.proofs.Common.{◌≡◌, ap, Some}
use Rattle.std.proofs.lemmas.Result.{IfOk-weaker}
use Rattle.setl_code.specs.Code.{Operate}
use Rattle.setl_value.specs.code.DatumOf.{datum}
use Rattle.setl_machine_control.specs.Working.{Does}
use Rattle.setl_machine.specs.Operating.{PutsForTwo}
use Rattle.setl_machine.proofs.Operated.{two_on_top, operated_freely}
use Rattle.setl_machine.proofs.AtOnce.{went}
use Rattle.setl_machine.proofs.Working.{does_untested}
use Rattle.setl_store.specs.Standing.{Standing}
use Rattle.setl_machine.proofs.Gaining.{stays_ok}
use Rattle.setl_machine.proofs.at_once.operate_at_once.Goals as goal

pub put_for_two-requires-clause-two : goal.put_for_two-requires-clause-two
put_for_two-requires-clause-two c = two_on_top c.args.what c.args.store.now.core.now.operands (datum c.in-Some.value) c.in-Some.ensures

pub returns-in-Some-clause-did : goal.returns-in-Some-clause-did
returns-in-Some-clause-did c = λ modes.
    let old = c.args.store.now in
    let new = c.put_for_two.new.store in
    let k = c.args.control.now in
    let what = Operate c.args.what c.args.count in
    let d = datum c.in-Some.value in
    went modes old new k k c.args.line what c.put_for_two.result c.went_on.result c.went_on.ensures
    (does_untested modes old new k k c.args.line what c.put_for_two.result
    (IfOk-weaker c.put_for_two.result (λ e. PutsForTwo old (Some d) new e) (λ e. Does old k c.args.line what new k e)
    (λ e h. operated_freely old new k c.args.line c.args.count c.args.what d e c.requires.fits c.in-Some.ensures h) c.put_for_two.ensures))

pub returns-in-Some-clause-bases : goal.returns-in-Some-clause-bases
returns-in-Some-clause-bases c =
    let old = c.args.store.now in
    let new = c.put_for_two.new.store in
    stays_ok old.bases new.bases c.put_for_two.result c.went_on.result c.went_on.ensures
    (IfOk-weaker c.put_for_two.result (λ e. PutsForTwo old (Some (datum c.in-Some.value)) new e) (λ e. new.bases ≡ old.bases) (λ e h. ap (λ (s : Standing). s.bases) h.1) c.put_for_two.ensures)
