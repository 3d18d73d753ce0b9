use Rattle.std.proofs.Common.{◌≡◌, subst, sym, map}
use Rattle.setl_code.specs.Plain.{own_variables, plain_name}
use Rattle.setl_store.specs.Standing.{variables}
use Rattle.setl_debug_screen.proofs.variables.push_body.Goals as goal

pub push_parameters-requires-clause-names : goal.push_parameters-requires-clause-names
push_parameters-requires-clause-names c =
    let k = c.args.store.now.core in
    (map (plain_name k.now.body) c.args.body.now.names, subst (λ ps. (variables k).own ≡ own_variables k.now.body ps c.args.body.now.names) (sym c.as_slice.ensures) c.requires.names)
