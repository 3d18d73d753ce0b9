use Rattle.setl_advise_terms.specs.code.Plain.{flows_of}
use Rattle.setl_advise_solving.proofs.Works.{rose}
use Rattle.setl_advise_solving.proofs.looking.look.Goals as goal

pub returns : goal.returns
returns c =
    rose c.args.conditions.now c.args.k c.in-Some.c.now (flows_of c.args.table.now) (flows_of c.meet.new.table) c.in-Some.ensures.lookup.3.0 c.in-Some.ensures.lookup.1 (c.in_ok-meet.ensures.raised c.if-not-branch.false) (c.in_ok-meet.ensures.rises c.if-not-branch.false)
