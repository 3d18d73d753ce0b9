use Rattle.std.proofs.Common.{◌≡◌, length, slice_get, Some, refl, rules}
use Rattle.std.proofs.lemmas.Option.{slice_get_read}
use Rattle.setl_model_runs.specs.Variable.{Global}
use Rattle.setl_code_listing.proofs.Variables.{variable_within, variable_past}
use Rattle.setl_code_listing.proofs.names.push_global.Goals as goal

pub returns-then-k-vars : goal.returns-then-k-vars
returns-then-k-vars c =
    let vars = c.args.vars.now in
    let x = c.index-vars-k.result in
    let at : slice_get vars c.args.k ≡ Some x = slice_get_read vars (length vars) c.args.k x refl c.if-k-vars.true c.index-vars-k.is in
    rw (variable_within Global vars c.args.k x at) (search rules)

pub returns-else-k-vars : goal.returns-else-k-vars
returns-else-k-vars c = rw (variable_past Global c.args.vars.now c.args.k c.if-k-vars.false) c.push_missing.ensures
