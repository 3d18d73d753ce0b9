use Rattle.std.proofs.Common.{◌∙◌, sym, ap, is_some}
use Rattle.setl_rep_bases.proofs.Tabled.{at_state}
use Rattle.setl_rep_bases.proofs.bases.Bases.has.Goals as goal

pub returns : goal.returns
returns c = c.contains_key.ensures ∙ ap is_some (sym (at_state c.self.inside.count c.self.inside.instances.entries c.self.inside.instances.entries c.args.self.now c.self.view_is c.args.i))
