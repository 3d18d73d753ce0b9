use Rattle.std.proofs.Common.{◌≡◌, ◌<◌, ◌+◌, ◌-◌, ℕ, suc, sym, subst, arith, length, drop, List, add-one, ◌∙◌}
use Rattle.setl_tree.specs.declared.tree.Proc.{Proc}
use Rattle.setl_names.specs.code.Tables.{Finds}
use Rattle.setl_names.proofs.Tables.{one_before}
use Rattle.setl_names.proofs.procs.Procs.new.Goals as goal

pub loop-at-preserved : goal.loop-at-preserved
loop-at-preserved c =
    let positive = c.loop-at-test.true in
    let within = c.loop-at.invariant.within in
    let up : (c.loop-at.at - 1) + 1 ≡ c.loop-at.at = omega arith in
    let below : c.loop-at.at - 1 < length c.args.procs.now = omega arith in
    let next : c.loop-at.at ≡ suc (c.loop-at.at - 1) = sym up ∙ add-one (c.loop-at.at - 1) in
    record {
      within = omega arith;
      finds = subst (λ (ps : List Proc). Finds c.put_proc.new.table (λ r. (r.0, r.1.now)) (c.loop-at.at - 1) ps) (sym (one_before c.args.procs.now c.loop-at.at (c.loop-at.at - 1) c.index-procs-at.result up below c.index-procs-at.is))
          (c.in_ok-put_proc.ensures.ok (drop c.loop-at.at c.args.procs.now) (subst (λ (k : ℕ). Finds c.loop-at.table (λ r. (r.0, r.1.now)) k (drop c.loop-at.at c.args.procs.now)) next c.loop-at.invariant.finds));
    }
