use Rattle.std.proofs.Common.{◌∙◌, map, ap, sym}
use Rattle.setl_model_runs.specs.Variable as run
use Rattle.setl_code.specs.Plain.{variable_at}
use Rattle.setl_gen_emitter.specs.Table.{Table}
use Rattle.setl_gen_emitter.proofs.SlotTables.{at_slot}
use Rattle.setl_gen_emitter.proofs.names.Names.slot_of_global.Goals as goal

pub returns-in-Some : goal.returns-in-Some
returns-in-Some c =
    let vars = c.self.inside.vars.now in
    let slot = c.in-Some.slot in
    ap (λ (t : Table). variable_at (map run.Global t.vars) slot) (sym c.self.view_is)
    ∙ at_slot (map run.Global vars) slot (run.Global c.bytes.result.now) (c.in-Some.ensures (map run.Global vars) c.self.invariant.0)
    ∙ ap run.Global c.bytes.ensures.value
