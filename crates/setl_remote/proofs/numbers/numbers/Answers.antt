use Rattle.std.proofs.Common.{◌∙◌, ◌*◌, sym, ap, subst, arith}
use Rattle.std.specs.List.Sorted.{IsStrictlyIncreasing}
use Rattle.std.specs.FinSet as set
use Rattle.setl_remote.proofs.Listing.{ones_are_members, ones_rise}
use Rattle.setl_remote.proofs.numbers.numbers.Goals as goal

pub returns-clause-rising : goal.returns-clause-rising
returns-clause-rising c = subst IsStrictlyIncreasing (sym c.loop-i.invariant) (ones_rise c.args.words.now (64 * c.loop-i.i))

pub returns-clause-members : goal.returns-clause-members
returns-clause-members c = ap set.from_list c.loop-i.invariant ∙ ones_are_members c.args.words.now c.loop-i.i (omega arith)
