use Rattle.std.proofs.Common.{map, take, ◌∙◌, ap}
use Rattle.setl_names.proofs.NameLists.{items_of, taken}
use Rattle.setl_names.proofs.names.Names.truncate.Goals as goal

pub returns : goal.returns
returns c = ap (map items_of) c.truncate.ensures.keys ∙ taken c.args.len c.self.inside.names.keys ∙ ap (take c.args.len) c.self.view_is
