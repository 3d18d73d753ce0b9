use Rattle.std.proofs.Common.{◌≡◌, ◌∙◌, length, slice_get, Some, None, refl, sym, ap, arith}
use Rattle.std.proofs.lemmas.Option.{slice_get_read, slice_get_past}
use Rattle.setl_debug_machine.proofs.Bodies.{named, none_named}
use Rattle.setl_debug_machine.proofs.body.name_of_body.Goals as goal

pub returns-in-Some : goal.returns-in-Some
returns-in-Some c =
    let bodies = c.as_slice.result.now in
    let here = c.in-Some.ensures.lookup in
    let found : slice_get bodies c.args.body ≡ Some c.in-Some.body.now = slice_get_read bodies (length bodies) c.args.body c.in-Some.body.now refl here.3.0 here.1 in
    let get : slice_get c.args.code.now.bodies c.args.body ≡ Some c.in-Some.body.now = ap (λ bs. slice_get bs c.args.body) (sym c.as_slice.ensures) ∙ found in
    λ procedure is. c.bytes.ensures.value ∙ named c.args.code.now c.args.body c.in-Some.body.now (omega arith) get procedure is

pub returns-in-None : goal.returns-in-None
returns-in-None c =
    let bodies = c.as_slice.result.now in
    let found : slice_get bodies c.args.body ≡ None = slice_get_past bodies c.args.body c.in-None.ensures.lookup.3 in
    let get : slice_get c.args.code.now.bodies c.args.body ≡ None = ap (λ bs. slice_get bs c.args.body) (sym c.as_slice.ensures) ∙ found in
    none_named c.args.code.now c.args.body (omega arith) get
