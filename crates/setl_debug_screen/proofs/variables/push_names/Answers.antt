use Rattle.std.proofs.Common.{◌≡◌, ◌∙◌, ◌+◌, ap, sym, map, Some, length, slice_get}
use Rattle.std.proofs.lemmas.Option.{slice_get-map, slice_get-get_or}
use Rattle.std.specs.Option.{option_map}
use Rattle.setl_code.specs.Plain.{plain_name}
use Rattle.setl_debug_screen.proofs.Slots.{later}
use Rattle.setl_debug_screen.proofs.variables.push_names.Goals as goal

pub push_name-requires-clause-here : goal.push_name-requires-clause-here
push_name-requires-clause-here c =
    let k = c.args.store.now.core in
    let r = c.requires.names in
    let names = map (plain_name k.now.body) c.args.names.now in
    let i = c.loop-name.name-index in
    let all = c.args.names.now in
    let item = c.name-item.result in
    let at_place = slice_get-get_or all i item c.loop-name-test.true in
    let is = c.name-item.is in
    let read : slice_get all i ≡ Some item = cc in
    let here : slice_get names i ≡ Some (plain_name k.now.body item) = slice_get-map (plain_name k.now.body) all i ∙ ap (option_map (plain_name k.now.body)) read in
    let at : c.loop-name.at ≡ length r.0 + c.loop-name.name-index = c.loop-name.invariant.at ∙ ap (λ n. n + c.loop-name.name-index) (sym r.2) in
    ap (λ xs. slice_get xs c.loop-name.at) r.1 ∙ ap (slice_get _) at ∙ later r.0 names c.loop-name.name-index ∙ here
