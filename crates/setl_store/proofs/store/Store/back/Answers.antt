use Rattle.setl_code.specs.Plain.{plain_code}
use Rattle.setl_store.proofs.Keeping.{BroughtBack, brought_back, cut_seldom, marks_within}
use Rattle.setl_store.proofs.store.Store.back.Goals as goal
use Rattle.setl_store.proofs.store.Store.back.Goals.{After-drop-kept}

pub back_to-requires-clause-within : goal.back_to-requires-clause-within
back_to-requires-clause-within c =
    marks_within (plain_code c.self.inside.code.now) c.self.inside.bases c.self.inside.keeps c.self.inside.environment.now.slots c.self.inside.environment.kept c.back.new.self.kept (c.back.new.self.now, c.in-Some.kept) c.self.invariant.2 (rw c.in-Some.is at c.back.ensures.back)

pub back_to-requires-clause-few_cuts : goal.back_to-requires-clause-few_cuts
back_to-requires-clause-few_cuts c =
    cut_seldom (plain_code c.self.inside.code.now) c.self.inside.bases c.self.inside.keeps c.self.inside.environment.now.slots c.self.inside.environment.kept c.back.new.self.kept (c.back.new.self.now, c.in-Some.kept) c.self.invariant.2 (rw c.in-Some.is at c.back.ensures.back)

done : (c : After-drop-kept) → BroughtBack c.self.inside.code.now c.back_to.new.self c.self.inside.keeps c.in-Some.kept.at c.back.new.self.now c.back.new.self.kept c.args.self.now
done c =
    brought_back c.forms_of_main_stay.ensures c.operands_stay.ensures c.cuts_are_exact.ensures.grown c.cuts_are_exact.ensures.counted c.cuts_are_exact.ensures.same c.self.inside.code.now c.self.inside.bases c.back_to.new.self c.self.inside.keeps c.self.inside.at c.self.inside.environment.now c.back.new.self.now c.self.inside.environment.kept c.back.new.self.kept c.in-Some.kept c.args.self.now
    c.self.invariant c.self.view_is (rw c.in-Some.is at c.back.ensures.back) c.back_to.ensures

pub invariant_of-self-2 : goal.invariant_of-self-2
invariant_of-self-2 c = (done c).holds

pub returns-clause-back : goal.returns-clause-back
returns-clause-back c = (done c).restored_to

pub returns-clause-bases : goal.returns-clause-bases
returns-clause-bases c = (done c).bases_cut
