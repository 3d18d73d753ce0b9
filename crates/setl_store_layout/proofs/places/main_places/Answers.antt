use Rattle.std.proofs.Common.{◌≡◌, ◌∙◌, List, Some, sym, ap, subst}
use Rattle.std.proofs.lemmas.Option.{slice_get-get_or}
use Rattle.std.proofs.lemmas.Result.{IfOk-weaker}
use Rattle.std.specs.Prelude.{slice_get}
use Rattle.setl_code.specs.declared.code.Body.{Body}
use Rattle.setl_code.specs.Plain.{own_variables}
use Rattle.setl_model_runs.specs.Variable.{Own}
use Rattle.setl_store.specs.MainProgram.{main_variables}
use Rattle.setl_store_layout.specs.Places.{Finds}
use Rattle.setl_store_layout.proofs.Naming.{own_is}
use Rattle.setl_store_layout.proofs.places.main_places.Goals as goal

pub returns-in-Some : goal.returns-in-Some
returns-in-Some c =
    let code = c.args.code.now in
    let found = c.in-Some.ensures.lookup in
    let body : slice_get code.bodies 0 ≡ Some c.in-Some.body.now =
    ap (λ (bs : List Body). slice_get bs 0) (sym c.as_slice.ensures) ∙ slice_get-get_or c.as_slice.result.now 0 c.in-Some.body.now found.3.0 ∙ ap Some (sym found.1) in
    let same : own_variables 0 c.as_slice-in-Some.result.now c.as_slice-in-Some-2.result.now ≡ (main_variables code).own =
    (λ i. own_variables 0 (c.as_slice-in-Some.ensures i) (c.as_slice-in-Some-2.ensures i)) ∙ sym (own_is code c.in-Some.body.now body) in
    IfOk-weaker c.own_places.result _ _ (λ table is. subst (λ xs. Finds (Own 0) 0 xs table) same is) c.own_places.ensures
