use Rattle.std.proofs.Common.{◌≡◌, List, ◌∷◌, map, drop, Option}
use Rattle.std.proofs.lemmas.Result.{IfOk-weaker}
use Rattle.std.specs.Global.{Vec}
use Rattle.std.specs.Option.{option_map}
use Rattle.setl_value.specs.code.DatumOf.{part}
use Rattle.setl_value.specs.declared.Value.{Value}
use Rattle.setl_code.specs.CodeCore as core
use Rattle.setl_store_slots.specs.Handed as cells
use Rattle.setl_store.specs.Flat.{helds}
use Rattle.setl_store.specs.Returning.{handed, pushed_on}
use Rattle.setl_store.proofs.Leaving.{handed_slots}
use Rattle.setl_store.proofs.returning.from_slots.Goals as goal

pub returns : goal.returns
returns c =
    let ps = c.args.parameters.now in
    let now = c.args.environment.now.now in
    let v = part c.args.value in
    IfOk-weaker c.handed_back.result
    (λ (all : Option (Vec (Option Value))). cells.handed c.args.bases.now ps (drop c.args.lowest now.slots) v ≡ option_map (λ (values : Vec (Option Value)). map part values.items) all)
    (λ (all : Option (Vec (Option Value))). (xs : List core.Operand) → handed ps (drop c.args.lowest (helds c.args.bases.now now)) (core.Result v ∷ xs) ≡ option_map (λ (values : Vec (Option Value)). pushed_on (map part values.items) xs) all)
    (λ all h xs. handed_slots c.args.bases.now ps now.slots c.args.lowest v all h xs)
    c.handed_back.ensures
