use Rattle.std.proofs.Common.{◌∙◌, ap}
use Rattle.setl_advise_gathering.specs.code.Plain.{plain_target}
use Rattle.setl_advise_terms.specs.Table.{flow_in}
use Rattle.setl_advise_terms.specs.code.Plain.{plain_table}
use Rattle.setl_advise_terms.proofs.Keys.{is_key, keys_are}
use Rattle.setl_advise_terms.proofs.Lookups.{looked_up}
use Rattle.setl_advise_terms.proofs.table.Table.get.Goals as goal

pub returns-in-None : goal.returns-in-None
returns-in-None c =
    looked_up is_key keys_are c.args.target c.self.inside.flows.entries _ c.in-None.ensures.value
    ∙ ap (λ es. flow_in (plain_table es) (plain_target c.args.target)) c.self.view_is

pub returns-in-Some : goal.returns-in-Some
returns-in-Some c =
    looked_up is_key keys_are c.args.target c.self.inside.flows.entries _ c.in-Some.ensures.value
    ∙ ap (λ es. flow_in (plain_table es) (plain_target c.args.target)) c.self.view_is
