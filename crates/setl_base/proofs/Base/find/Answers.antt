use Rattle.std.proofs.Common.{sym, ◌∙◌}
use Rattle.setl_value.specs.code.DatumOf.{datum}
use Rattle.setl_base.proofs.Found.{none_found, found_at, found_lives}
use Rattle.setl_base.proofs.Base.find.Goals as goal

pub returns-in_err-place-clause-handle : goal.returns-in_err-place-clause-handle
returns-in_err-place-clause-handle c =
    rw (← c.self.view_is) (c.from_residual.ensures ∙ sym (none_found (datum c.args.v.now) c.self.inside.table.entries 1 (sym c.in_err-place.ensures.value)))

pub returns-clause-handle : goal.returns-clause-handle
returns-clause-handle c =
    rw (← c.self.view_is) (sym (found_at (datum c.args.v.now) c.self.inside.table.entries _ _ _ (sym c.in_ok-place.ensures.index) c.in_ok-place.ensures.entry))

pub returns-clause-living : goal.returns-clause-living
returns-clause-living c = found_lives c.args.self.now (datum c.args.v.now) _ (sym (returns-clause-handle c))
