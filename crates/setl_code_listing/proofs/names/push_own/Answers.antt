use Rattle.std.proofs.Common.{◌≡◌, map, slice_get, Some, refl, rules}
use Rattle.std.proofs.lemmas.Option.{slice_get_read}
use Rattle.setl_tree.specs.declared.tree.Param.{Param}
use Rattle.setl_model_runs.specs.Variable.{Own}
use Rattle.setl_code.specs.Plain.{plain_name}
use Rattle.setl_code_listing.proofs.Variables.{variable_in_first, variable_in_second}
use Rattle.setl_code_listing.proofs.names.push_own.Goals as goal

pub returns-then-k-parameters : goal.returns-then-k-parameters
returns-then-k-parameters c =
    let ps = c.args.body.now.parameters in
    let x = c.index-parameters-k.result in
    let at : slice_get ps c.args.k ≡ Some x = rw c.as_slice-parameters.ensures at (slice_get_read c.as_slice-parameters.result.now _ c.args.k x refl c.if-k-parameters.true c.index-parameters-k.is) in
    rw (variable_in_first (λ (p : Param). Own 0 p.name) ps (map (plain_name 0) c.args.body.now.names) c.args.k x at) (search rules)

pub returns-else-k-parameters : goal.returns-else-k-parameters
returns-else-k-parameters c =
    let ps = c.args.body.now.parameters in
    let past = rw c.as_slice-parameters.ensures at c.if-k-parameters.false in
    rw (variable_in_second (λ (p : Param). Own 0 p.name) ps (map (plain_name 0) c.args.body.now.names) c.args.k past) (search rules)
