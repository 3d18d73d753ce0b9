use Rattle.std.proofs.Common.{ap, sym, ◌∙◌}
use Rattle.std.specs.Prelude.{nat_lt}
use Rattle.setl_store.proofs.Keeping.{kept_counted}
use Rattle.setl_store.proofs.store.Store.is_kept.Goals as goal

pub returns : goal.returns
returns c = c.is_kept.ensures ∙ ap (nat_lt 0) (sym (kept_counted c.self.inside.code.now c.self.inside.bases c.self.inside.at c.self.inside.environment.now c.self.inside.environment.kept c.args.self.now c.self.view_is))
