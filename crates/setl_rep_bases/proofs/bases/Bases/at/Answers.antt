use Rattle.std.proofs.Common.{◌≡◌, ◌∙◌, subst}
use Rattle.setl_base.specs.Base.{IsBase}
use Rattle.setl_rep_bases.specs.Bases.{base_at}
use Rattle.setl_rep_bases.proofs.Tabled.{there, same_base}
use Rattle.setl_rep_bases.proofs.bases.Bases.at.Goals as goal

pub base_at-base-requires : goal.base_at-base-requires
base_at-base-requires c = there c.self.inside.count c.self.inside.instances.entries c.self.inside.instances.entries c.args.self.now c.self.view_is c.args.i c.requires

pub returns-clause-base : goal.returns-clause-base
returns-clause-base c = c.base_at-base.ensures ∙ same_base c.self.inside.count c.self.inside.instances.entries c.self.inside.instances.entries c.args.self.now c.self.view_is c.args.i

pub returns-clause-known : goal.returns-clause-known
returns-clause-known c =
    let same : c.base_at-base.result.now ≡ base_at c.args.self.now c.args.i = c.base_at-base.ensures ∙ same_base c.self.inside.count c.self.inside.instances.entries c.self.inside.instances.entries c.args.self.now c.self.view_is c.args.i in
    subst (λ b. IsBase b) same c.learn.ensures
