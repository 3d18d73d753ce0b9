use Rattle.std.proofs.Common.{◌≡◌, length, reverse, slice_get, refl, ap, ◌∙◌, Some}
use Rattle.setl_value.specs.code.DatumOf.{part}
use Rattle.setl_code.specs.MayRun.{MayRun}
use Rattle.setl_code.specs.Plain.{plain_code}
use Rattle.setl_store.specs.Bodies.{left}
use Rattle.setl_store.specs.Flat.{bases_of, stands, results, IsSound, AllSound}
use Rattle.setl_store.specs.Standing.{Standing}
use Rattle.setl_store.proofs.Leaving.{parameters_there, under, leaves, stays}
use Rattle.setl_store.proofs.store.Store.leave.Goals as goal
use Rattle.setl_store.proofs.store.Store.leave.Goals.{In_ok-end_activation}

pub handed_back-requires-clause-slots : goal.handed_back-requires-clause-slots
handed_back-requires-clause-slots c = parameters_there c.self.inside.code.now (reverse c.self.inside.environment.now.activations) (length c.self.inside.environment.now.slots) (length c.self.inside.environment.now.operands) c.self.invariant.1.shaped

pub returns-in_default-clause-left : goal.returns-in_default-clause-left
returns-in_default-clause-left c =
    let e = c.self.inside.environment.now in
    let xs = under (reverse e.activations) (results c.self.inside.bases e) in
    (stays c.self.inside.code.now c.self.inside.bases c.self.inside.keeps c.self.inside.at e c.self.inside.environment.kept c.args.self.now (part c.args.value) c.self.invariant c.self.view_is (rw c.in_default.is at (c.in_ok-values.ensures xs)), refl)

done : (c : In_ok-end_activation) →
    (left (slice_get (plain_code c.args.self.now.code).bodies c.args.self.now.core.now.body) (part c.args.value) c.args.self.now.core ≡ Some (stands c.self.inside.code.now c.self.inside.bases c.innermost-frame.result.from c.end_activation.new.environment.now c.end_activation.new.environment.kept).core)
    × (MayRun c.self.inside.code.now × IsSound (plain_code c.self.inside.code.now) c.self.inside.bases c.end_activation.new.environment.now × AllSound (plain_code c.self.inside.code.now) c.self.inside.bases c.self.inside.keeps c.end_activation.new.environment.now.slots c.end_activation.new.environment.kept)
done c =
    leaves c.self.inside.code.now c.self.inside.bases c.self.inside.keeps c.self.inside.at c.self.inside.environment.now c.end_activation.new.environment.now c.self.inside.environment.kept c.end_activation.new.environment.kept c.args.self.now c.innermost-frame.result c.members_of_lower-members.result (part c.args.value) c.in-Some.values.items
    c.self.invariant c.self.view_is
    (record {
      last = c.innermost-frame.ensures;
      has = c.members_of_lower-members.ensures.has;
      within = c.members_of_lower-members.ensures.fewer;
      pushed = c.in_ok-end_activation.ensures.now;
    })
    c.in_ok-end_activation.ensures.kept (λ xs. rw c.in-Some.is at (c.in_ok-values.ensures xs))

pub invariant_of-self-2 : goal.invariant_of-self-2
invariant_of-self-2 c = (done (goal.at.invariant_of-self-2 c).In_ok-end_activation).1

pub returns-clause-left : goal.returns-clause-left
returns-clause-left c = (done (goal.at.returns-clause-left c).In_ok-end_activation).0

pub returns-clause-bases : goal.returns-clause-bases
returns-clause-bases c = ap (bases_of c.self.inside.bases) c.in_ok-end_activation.ensures.kept ∙ ap (λ (x : Standing). x.bases) c.self.view_is
