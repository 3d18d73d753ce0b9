use Rattle.std.proofs.Common.{◌≤◌, length, sym, subst}
use Rattle.setl_base.specs.Base.{undone}
use Rattle.setl_rep_bases.proofs.Tabled.{there, same_base, altered}
use Rattle.setl_rep_bases.proofs.bases.Bases.undo.Goals as goal

pub undo-requires-clause-there : goal.undo-requires-clause-there
undo-requires-clause-there c = there c.self.inside.count c.self.inside.instances.entries c.self.inside.instances.entries c.args.self.now c.self.view_is c.args.i c.requires.there

pub undo-requires-clause-within : goal.undo-requires-clause-within
undo-requires-clause-within c = subst (λ b. c.args.m.now.count ≤ length b.members) (sym (same_base c.self.inside.count c.self.inside.instances.entries c.self.inside.instances.entries c.args.self.now c.self.view_is c.args.i)) c.requires.within

pub returns : goal.returns
returns c = altered c.self.inside.count c.self.inside.instances.entries c.undo.new.table.entries c.args.self.now c.self.view_is (λ b. undone b c.args.m.now.count) (λ t. t) c.args.i c.requires.there c.undo.ensures
