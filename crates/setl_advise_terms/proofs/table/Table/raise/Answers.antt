use Rattle.std.proofs.Common.{◌∙◌, ap, refl}
use Rattle.setl_advise_gathering.specs.code.Plain.{plain_target}
use Rattle.setl_advise_lattice.specs.code.Levels.{flow_of}
use Rattle.setl_advise_terms.specs.Table.{flow_in}
use Rattle.setl_advise_terms.specs.code.Plain.{plain_table}
use Rattle.indexmap.specs.IndexMap.{insert_entry}
use Rattle.setl_advise_flows.specs.Flow.{join}
use Rattle.setl_advise_terms.proofs.Keys.{is_key, keys_are}
use Rattle.setl_advise_terms.proofs.Lookups.{is_raised}
use Rattle.setl_advise_terms.proofs.Ranks.{risen}
use Rattle.setl_advise_terms.proofs.table.Table.raise.Goals as goal

pub returns-clause-raised : goal.returns-clause-raised
returns-clause-raised c = λ e.
    is_raised is_key keys_are c.args.target c.args.f c.join-new.result c.args.self.now c.insert.new.self.entries
    (c.in_ok-insert.ensures.entries ∙ ap (λ es. insert_entry is_key es c.args.target c.join-new.result) c.self.view_is)
    (c.join-new.ensures ∙ ap (join (flow_of c.args.f)) c.get-old.ensures)

pub returns-clause-rises : goal.returns-clause-rises
returns-clause-rises c = λ e.
    risen c.args.f c.get-old.result (flow_in (plain_table c.args.self.now) (plain_target c.args.target)) c.get-old.ensures
    (λ same. c.if-is.ensures.other refl (c.join-new.ensures ∙ same))
