use Rattle.std.proofs.Common.{◌∙◌, ap, sym, subst}
use Rattle.setl_rep_bases.specs.Marks.{AreWithin, back_all}
use Rattle.setl_rep_bases.proofs.Bringing.{may_be_cut, brought_back}
use Rattle.setl_rep_bases.proofs.bases.Bases.back_to.Goals as goal

pub back_to-requires : goal.back_to-requires
back_to-requires c =
    may_be_cut c.self.inside.count c.self.inside.instances.entries c.marks.inside.table.entries c.args.self.now c.self.view_is (subst (λ m. AreWithin m c.args.self.now) (sym c.marks.view_is) c.requires.within) c.requires.few_cuts

pub returns : goal.returns
returns c =
    brought_back c.self.inside.count c.self.inside.instances.entries c.back_to.new.table.entries c.marks.inside.table.entries c.args.self.now c.self.view_is c.back_to.ensures
    ∙ ap (back_all c.args.self.now) c.marks.view_is
