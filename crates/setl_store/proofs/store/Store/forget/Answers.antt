use Rattle.std.proofs.Common.{◌+◌, refl, sym, ◌∙◌}
use Rattle.setl_store.proofs.Keeping.{ForgotLast, forgot_last}
use Rattle.setl_store.proofs.store.Store.forget.Goals as goal
use Rattle.setl_store.proofs.store.Store.forget.Goals.{After-self-1}

done : (c : After-self-1) → ForgotLast c.self.inside.code.now c.self.inside.bases c.self.inside.keeps (c.self.inside.at + 1) c.forget.new.self.now c.forget.new.self.kept c.args.self.now
done c =
    forgot_last c.forms_of_main_stay.ensures c.operands_stay.ensures c.cuts_are_exact.ensures.grown c.cuts_are_exact.ensures.before c.self.inside.code.now c.self.inside.bases c.self.inside.keeps c.self.inside.at (c.self.inside.at + 1) c.self.inside.environment.now c.forget.new.self.now c.self.inside.environment.kept c.forget.new.self.kept c.args.self.now
    c.self.invariant c.self.view_is refl c.forget.ensures.now c.forget.ensures.kept (sym c.forget.ensures.some ∙ c.if-not-forget.false)

pub invariant_of-self-2 : goal.invariant_of-self-2
invariant_of-self-2 c = (done c).holds

pub returns-clause-forgotten : goal.returns-clause-forgotten
returns-clause-forgotten c = (done c).forgotten_to

pub returns-clause-bases : goal.returns-clause-bases
returns-clause-bases c = (done c).bases_left
