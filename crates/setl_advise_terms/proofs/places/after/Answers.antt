use Rattle.std.proofs.Common.{◌∙◌, ap, map, List}
use Rattle.setl_advise_lattice.specs.code.Levels.{flow_of}
use Rattle.setl_advise_terms.specs.declared.places.Selected.{Selected}
use Rattle.setl_advise_terms.specs.code.Plain.{flows_of, plain_selected}
use Rattle.setl_advise_terms.proofs.Parts.{after_done}
use Rattle.setl_advise_terms.proofs.places.after.Goals as goal

pub returns : goal.returns
returns c =
    after_done (flows_of c.args.table.now) c.args.p.now c.as_slice.result.now (map plain_selected c.as_slice-2.result.now) (flow_of c.get-whole.result) (flow_of c.args.y) _
    c.as_slice.ensures (c.get-whole.ensures ∙ ap (λ x. (flows_of c.args.table.now).of x) c.name_of.ensures)
    (ap (λ (ls : List Selected). map plain_selected ls) c.as_slice-2.ensures.value ∙ c.in_ok-ls.ensures) c.rebuilt.ensures
