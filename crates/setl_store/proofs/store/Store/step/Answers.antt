use Rattle.std.proofs.Common.{sym, ap}
use Rattle.std.proofs.lemmas.Option.{IfSome_then}
use Rattle.setl_store.specs.Flat.{body_in}
use Rattle.setl_store.proofs.Steps.{step_found, step_missing, step_fits}
use Rattle.setl_store.proofs.store.Store.step.Goals as goal

pub returns-clause-some : goal.returns-clause-some
returns-clause-some c =
    IfSome_then c.step_at.result c.step_at.ensures.some
    (λ step found. step_found c.self.inside.code.now c.self.inside.bases c.self.inside.at c.self.inside.environment.now c.self.inside.environment.kept c.args.self.now c.innermost.result.body step.now c.self.invariant.1 c.self.view_is (sym (ap body_in c.innermost.ensures)) found)

pub returns-clause-none : goal.returns-clause-none
returns-clause-none c =
    step_missing c.step_at.result c.self.inside.code.now c.self.inside.bases c.self.inside.at c.self.inside.environment.now c.self.inside.environment.kept c.args.self.now c.innermost.result.body c.self.view_is (sym (ap body_in c.innermost.ensures)) c.step_at.ensures.none

pub returns-clause-fits : goal.returns-clause-fits
returns-clause-fits c =
    IfSome_then c.step_at.result c.step_at.ensures.some
    (λ step found. step_fits c.self.inside.code.now c.self.inside.bases c.self.inside.keeps c.self.inside.at c.self.inside.environment.now c.self.inside.environment.kept c.args.self.now c.innermost.result.body c.self.inside.at step.now c.self.invariant c.self.view_is (sym (ap body_in c.innermost.ensures)) found)
