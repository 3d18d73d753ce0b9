use Rattle.std.proofs.Common.{◌≡◌, ◌∙◌, ◌++◌, [], ap, sym, subst, map, None, Some, slice_get, append-nil, rules}
use Rattle.setl_code.specs.declared.code.Code.{Code}
use Rattle.setl_code.specs.Plain.{own_variables}
use Rattle.setl_model_runs.specs.Variable.{Global}
use Rattle.setl_store.specs.Standing.{variables}
use Rattle.setl_debug_screen.specs.code.Standing.{held_lines}
use Rattle.setl_debug_screen.proofs.Slots.{own_of, none_of}
use Rattle.setl_debug_screen.proofs.variables.push_variables.Goals as goal

pub push_body-requires-clause-names : goal.push_body-requires-clause-names
push_body-requires-clause-names c =
    let code = c.args.store.now.code in
    let k = c.args.store.now.core in
    let there : slice_get code.bodies c.body-body.result ≡ Some c.in-Some.body.now = ap (λ (x : Code). slice_get x.bodies c.body-body.result) (sym c.code-code.ensures) ∙ c.in-Some.ensures.some in
    let own : (variables k).own ≡ own_variables c.body-body.result c.in-Some.body.now.parameters c.in-Some.body.now.names = ap (λ v. v.own) c.body-body.ensures.variables ∙ own_of code c.body-body.result c.in-Some.body.now there in
    subst (λ n. (variables k).own ≡ own_variables n c.in-Some.body.now.parameters c.in-Some.body.now.names) c.body-body.ensures.number own

pub returns-in-None : goal.returns-in-None
returns-in-None c =
    let code = c.args.store.now.code in
    let k = c.args.store.now.core in
    let none : slice_get code.bodies c.body-body.result ≡ None = ap (λ (x : Code). slice_get x.bodies c.body-body.result) (sym c.code-code.ensures) ∙ c.in-None.ensures.none in
    let globals : (variables k).global ≡ map Global c.as_slice.result.now = search rules in
    let own : (variables k).own ≡ [] = ap (λ v. v.own) c.body-body.ensures.variables ∙ none_of code c.body-body.result none in
    c.in_ok-push_globals.ensures
    ∙ ap (λ ls. c.args.into.now.items ++ ls)
    (sym (append-nil (held_lines (map Global c.as_slice.result.now) k))
    ∙ ap (λ xs. held_lines xs k ++ []) (sym globals)
    ∙ ap (λ xs. held_lines (variables k).global k ++ held_lines xs k) (sym own))
