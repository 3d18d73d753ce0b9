use Rattle.std.proofs.Common.{◌<◌, ◌≤◌, ◌^◌, length, sym, subst}
use Rattle.setl_base.specs.Base.{cut_back}
use Rattle.setl_rep_bases.proofs.Tabled.{there, same_base, altered}
use Rattle.setl_rep_bases.proofs.bases.Bases.back.Goals as goal

pub back-requires-clause-there : goal.back-requires-clause-there
back-requires-clause-there c = there c.self.inside.count c.self.inside.instances.entries c.self.inside.instances.entries c.args.self.now c.self.view_is c.args.i c.requires.there

pub back-requires-clause-within : goal.back-requires-clause-within
back-requires-clause-within c = subst (λ b. c.args.m.now.count ≤ length b.members) (sym (same_base c.self.inside.count c.self.inside.instances.entries c.self.inside.instances.entries c.args.self.now c.self.view_is c.args.i)) c.requires.within

pub back-requires-clause-few_cuts : goal.back-requires-clause-few_cuts
back-requires-clause-few_cuts c = subst (λ b. b.cuts < 2 ^ 63) (sym (same_base c.self.inside.count c.self.inside.instances.entries c.self.inside.instances.entries c.args.self.now c.self.view_is c.args.i)) c.requires.few_cuts

pub returns : goal.returns
returns c = altered c.self.inside.count c.self.inside.instances.entries c.back.new.table.entries c.args.self.now c.self.view_is (λ b. cut_back b c.args.m.now.count) (λ t. t) c.args.i c.requires.there c.back.ensures
