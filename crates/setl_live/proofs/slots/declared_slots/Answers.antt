use Rattle.std.proofs.Common.{◌≡◌, ◌∙◌, List, map, Some, sym, ap}
use Rattle.std.proofs.lemmas.Option.{slice_get-get_or}
use Rattle.std.proofs.lemmas.Result.{IfOk-weaker}
use Rattle.std.specs.Prelude.{slice_get}
use Rattle.setl_code.specs.declared.code.Body.{Body}
use Rattle.setl_code_marked.specs.Marked.{declared_in}
use Rattle.setl_program.specs.code.Plain.{plain_declared}
use Rattle.setl_live.proofs.Tables.{tells_of}
use Rattle.setl_live.proofs.slots.declared_slots.Goals as goal

pub returns : goal.returns
returns c =
    let found = c.in-Some.ensures.lookup in
    let body : slice_get c.args.code.now.bodies 0 ≡ Some c.in-Some.body.now =
    ap (λ (bs : List Body). slice_get bs 0) (sym c.as_slice.ensures) ∙ slice_get-get_or c.as_slice.result.now 0 c.in-Some.body.now found.3.0 ∙ ap Some (sym found.1) in
    IfOk-weaker c.table_by.result _ _ (λ table is. tells_of (declared_in (map plain_declared c.args.declared.now)) c.requires c.in_ok-names.names c.in-Some.body.now (slice_get c.args.code.now.bodies 0) table.items c.in_ok-names.ensures body is) c.table_by.ensures
