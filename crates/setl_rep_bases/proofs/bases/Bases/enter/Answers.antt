use Rattle.std.proofs.lemmas.Result.{on_ok_weaker, on_err_weaker, IfOk-weaker}
use Rattle.std.proofs.Common.{Some, ◌≡◌}
use Rattle.setl_value.specs.code.DatumOf.{datum}
use Rattle.setl_base.specs.Base.{find, entered}
use Rattle.setl_rep_bases.specs.Bases.{base_at}
use Rattle.setl_rep_bases.specs.Tables.{base_in, found, state_of}
use Rattle.setl_rep_bases.proofs.Tabled.{there, altered, unchanged, stays, found_at}
use Rattle.setl_rep_bases.proofs.bases.Bases.enter.Goals as goal

pub enter-requires : goal.enter-requires
enter-requires c = there c.self.inside.count c.self.inside.instances.entries c.self.inside.instances.entries c.args.self.now c.self.view_is c.args.i c.requires

pub returns-clause-entered : goal.returns-clause-entered
returns-clause-entered c =
    on_ok_weaker c.enter.result (λ h. altered c.self.inside.count c.self.inside.instances.entries c.enter.new.table.entries c.args.self.now c.self.view_is (λ b. entered b (datum c.args.v)) (λ t. t) c.args.i c.requires h) c.enter.ensures.entered

pub returns-clause-handle : goal.returns-clause-handle
returns-clause-handle c =
    let es = c.enter.new.table.entries in
    IfOk-weaker c.enter.result (λ e. find (base_in (found es c.args.i)) (datum c.args.v) ≡ Some e) (λ e. find (base_at (state_of c.self.inside.count es) c.args.i) (datum c.args.v) ≡ Some e)
    (λ e h. found_at c.self.inside.count es c.args.i (datum c.args.v) e h) c.enter.ensures.handle

pub returns-clause-refused : goal.returns-clause-refused
returns-clause-refused c =
    on_err_weaker c.enter.result (λ h. stays c.self.inside.count c.self.inside.instances.entries c.enter.new.table.entries c.args.self.now c.self.view_is (unchanged c.args.i c.self.inside.instances.entries c.enter.new.table.entries h)) c.enter.ensures.refused
