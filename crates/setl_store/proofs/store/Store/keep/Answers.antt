use Rattle.std.proofs.Common.{◌+◌, refl, arith}
use Rattle.setl_store.specs.Gained.{with_kept as bases_kept}
use Rattle.setl_store.specs.Standing.{kept as with_kept}
use Rattle.setl_store.proofs.OperandLists.{Changed}
use Rattle.setl_store.proofs.Keeping.{all_kept}
use Rattle.setl_store.proofs.store.Store.keep.Goals as goal
use Rattle.setl_store.proofs.store.Store.keep.Goals.{In_ok-keep_answering}

done : (c : In_ok-keep_answering) → Changed c.self.inside.code.now c.self.inside.bases (c.self.inside.keeps + 1) (c.self.inside.at + 1) c.keep_answering.new.environment.now c.keep_answering.new.environment.kept (record c.args.self.now { bases = bases_kept c.args.self.now.bases }) (with_kept c.args.self.now.core)
done c =
    all_kept c.cuts_are_exact.ensures.whole c.cuts_are_exact.ensures.marks c.self.inside.code.now c.self.inside.bases c.self.inside.keeps c.self.inside.at (c.self.inside.at + 1) c.self.inside.environment.now c.keep_answering.new.environment.now c.self.inside.environment.kept c.keep_answering.new.environment.kept
    (record { at = c.self.inside.at + 1; marks = c.in_ok-marks.marks }) c.args.self.now c.self.invariant c.self.view_is refl refl c.in_ok-marks.ensures (omega (arith, c.self.invariant.2.few, c.if-self-eq-MOST_KEEPS.false))
    c.in_ok-keep_answering.ensures.now c.in_ok-keep_answering.ensures.kept

pub invariant_of-self-2 : goal.invariant_of-self-2
invariant_of-self-2 c = (done (goal.at.invariant_of-self-2 c).In_ok-keep_answering).holds

pub returns : goal.returns
returns c = (done (goal.at.returns c).In_ok-keep_answering).stands
