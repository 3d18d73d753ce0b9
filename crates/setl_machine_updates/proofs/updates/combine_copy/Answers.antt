use Rattle.std.proofs.Common.{◌∷◌, [], ◌∙◌, ap, refl, ℕ, Option}
use Rattle.std.specs.Prelude.{Err}
use Rattle.std.proofs.lemmas.Result.{err_from_is_err_and}
use Rattle.setl_value.specs.Datum.{Datum}
use Rattle.setl_value.specs.code.DatumOf.{part}
use Rattle.setl_operators_table.specs.Outcome.{Outcome}
use Rattle.setl_operators_table.specs.Operators.{op_of}
use Rattle.setl_model.specs.Places.{combined}
use Rattle.setl_machine_updates.specs.Selectors.{selected}
use Rattle.setl_machine_updates.proofs.Inside.{puts_back, fails_inside, fails_reading}
use Rattle.setl_machine_updates.proofs.updates.combine_copy.Goals as goal

pub returns-in_err-part-clause-updated : goal.returns-in_err-part-clause-updated
returns-in_err-part-clause-updated c =
    let s = selected c.args.at.now in
    let whole = part c.args.whole.now in
    let f : Option Datum → ℕ → Outcome = λ p now. op_of c.args.what (p ∷ part c.args.value.now ∷ []) now in
    let p = err_from_is_err_and c.from_residual.result c.from_residual.ensures.1 in
    fails_reading s whole f c.args.turns (combined (s ∷ []) whole f c.args.turns) refl c.in_err-part.field-0.0 c.from_residual.result (p.1 ∙ ap Err p.2) c.in_err-part.ensures

pub returns-in_err-left-clause-updated : goal.returns-in_err-left-clause-updated
returns-in_err-left-clause-updated c =
    let s = selected c.args.at.now in
    let whole = part c.args.whole.now in
    let f : Option Datum → ℕ → Outcome = λ p now. op_of c.args.what (p ∷ part c.args.value.now ∷ []) now in
    let read = c.in_ok-part.part in
    let r = c.from_residual-in_err-left.result in
    let p = err_from_is_err_and r c.from_residual-in_err-left.ensures.1 in
    fails_inside s whole f c.args.turns (combined (s ∷ []) whole f c.args.turns) refl (part read.value) read.left c.in_err-left.field-0.0 r (p.1 ∙ ap Err p.2)
    c.in_ok-part.ensures c.in_err-left.ensures.updated

pub returns-clause-updated : goal.returns-clause-updated
returns-clause-updated c =
    let s = selected c.args.at.now in
    let whole = part c.args.whole.now in
    let f : Option Datum → ℕ → Outcome = λ p now. op_of c.args.what (p ∷ part c.args.value.now ∷ []) now in
    let read = c.in_ok-part.part in
    puts_back s whole f c.args.turns (combined (s ∷ []) whole f c.args.turns) refl (part read.value) (part c.combine.new.whole) read.left c.in_ok-left.left (part c.put_part.new.whole) c.put_part.result
    c.in_ok-part.ensures c.in_ok-left.ensures.updated c.put_part.ensures.updated
