use Rattle.std.proofs.Common.{◌≡◌}
use Rattle.std.specs.Option.{ForSome}
use Rattle.setl_base.specs.Base.{IsLiving}
use Rattle.setl_rep_based.specs.Numbers.{numbers_in}
use Rattle.setl_rep_based.specs.Walk.{left_after}
use Rattle.setl_rep_based.proofs.Walking.{above_count}
use Rattle.setl_rep_based.proofs.walk.next_in.Given as goal

-- the members of the base from `after` up to `at` are not in the set
abbrev pub invariant-loop-e : goal.invariant-loop-e
invariant-loop-e l = record {
  living : ForSome l.at (IsLiving l.base);
  same : left_after l.base (numbers_in l.numbers) l.fn.after ≡ left_after l.base (numbers_in l.numbers) l.at;
}

abbrev pub decreases-loop-e : goal.decreases-loop-e
decreases-loop-e l = above_count l.base l.at
