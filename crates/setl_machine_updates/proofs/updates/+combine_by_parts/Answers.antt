use Rattle.std.proofs.Common.{◌∷◌, [], ◌∙◌, ap, subst, map, ℕ, Option, arith}
use Rattle.std.specs.Prelude.{Err}
use Rattle.std.proofs.lemmas.Result.{err_from_is_err_and}
use Rattle.setl_value.specs.Datum.{Datum}
use Rattle.setl_value.specs.code.DatumOf.{part}
use Rattle.setl_operators_table.specs.Outcome.{Outcome}
use Rattle.setl_operators_table.specs.Operators.{op_of}
use Rattle.setl_model.specs.Places.{combined}
use Rattle.setl_machine_updates.specs.Selectors.{selected}
use Rattle.setl_machine_updates.specs.Updates.{Updates}
use Rattle.setl_machine_updates.proofs.Inside.{behind, combine_inside, combine_only, puts_back, fails_inside, fails_reading}
use Rattle.setl_machine_updates.proofs.updates.+combine_by_parts.Goals as goal

pub returns-in-len1-clause-updated : goal.returns-in-len1-clause-updated
returns-in-len1-clause-updated t c =
    let g : Option Datum → ℕ → Outcome = λ p now. op_of c.args.what (p ∷ part c.args.value ∷ []) now in
    let is = combine_only c.args.at.now c.only-item.result (part c.args.whole.now) g c.args.turns (omega (arith, c.in-len1.len_at_least, c.in-len1.len_below)) c.only-item.is in
    subst (λ o. Updates o c.args.turns (part c.combine_part.new.whole) c.combine_part.result) is c.combine_part.ensures.updated

pub returns-in_err-part-in-len1-up-clause-updated : goal.returns-in_err-part-in-len1-up-clause-updated
returns-in_err-part-in-len1-up-clause-updated t c =
    let at = c.args.at.now in
    let whole = part c.args.whole.now in
    let g : Option Datum → ℕ → Outcome = λ p now. op_of c.args.what (p ∷ part c.args.value ∷ []) now in
    let f : Option Datum → ℕ → Outcome = λ p now. combined (map selected (behind at)) p g now in
    let is = combine_inside at c.first-item.result whole g c.args.turns (omega (arith, c.in-len1-up.len_at_least)) c.first-item.is in
    let p = err_from_is_err_and c.from_residual.result c.from_residual.ensures.1 in
    fails_reading (selected c.first-item.result) whole f c.args.turns (combined (map selected at) whole g c.args.turns) is c.in_err-part-in-len1-up.field-0.0 c.from_residual.result (p.1 ∙ ap Err p.2) c.in_err-part-in-len1-up.ensures

pub returns-in_err-left-in-len1-up-clause-updated : goal.returns-in_err-left-in-len1-up-clause-updated
returns-in_err-left-in-len1-up-clause-updated t c =
    let at = c.args.at.now in
    let whole = part c.args.whole.now in
    let g : Option Datum → ℕ → Outcome = λ p now. op_of c.args.what (p ∷ part c.args.value ∷ []) now in
    let f : Option Datum → ℕ → Outcome = λ p now. combined (map selected (behind at)) p g now in
    let is = combine_inside at c.first-item.result whole g c.args.turns (omega (arith, c.in-len1-up.len_at_least)) c.first-item.is in
    let read = c.in_ok-part-in-len1-up.part in
    let r = c.from_residual-in_err-left-in-len1-up.result in
    let p = err_from_is_err_and r c.from_residual-in_err-left-in-len1-up.ensures.1 in
    fails_inside (selected c.first-item.result) whole f c.args.turns (combined (map selected at) whole g c.args.turns) is (part read.value) read.left c.in_err-left-in-len1-up.field-0.0 r (p.1 ∙ ap Err p.2)
    c.in_ok-part-in-len1-up.ensures c.in_err-left-in-len1-up.ensures.updated

pub returns-in_ok-left-in-len1-up-clause-updated : goal.returns-in_ok-left-in-len1-up-clause-updated
returns-in_ok-left-in-len1-up-clause-updated t c =
    let at = c.args.at.now in
    let whole = part c.args.whole.now in
    let g : Option Datum → ℕ → Outcome = λ p now. op_of c.args.what (p ∷ part c.args.value ∷ []) now in
    let f : Option Datum → ℕ → Outcome = λ p now. combined (map selected (behind at)) p g now in
    let is = combine_inside at c.first-item.result whole g c.args.turns (omega (arith, c.in-len1-up.len_at_least)) c.first-item.is in
    let read = c.in_ok-part-in-len1-up.part in
    puts_back (selected c.first-item.result) whole f c.args.turns (combined (map selected at) whole g c.args.turns) is (part read.value) (part c.combine_by_parts.new.whole) read.left c.in_ok-left-in-len1-up.left (part c.put_part.new.whole) c.put_part.result
    c.in_ok-part-in-len1-up.ensures c.in_ok-left-in-len1-up.ensures.updated c.put_part.ensures.updated
