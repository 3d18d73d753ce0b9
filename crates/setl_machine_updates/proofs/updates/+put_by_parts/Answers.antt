use Rattle.std.proofs.Common.{◌∙◌, ap, map, ℕ, Option}
use Rattle.std.specs.Prelude.{Err}
use Rattle.std.proofs.lemmas.Result.{err_from_is_err_and}
use Rattle.setl_value.specs.Datum.{Datum}
use Rattle.setl_value.specs.code.DatumOf.{part}
use Rattle.setl_operators_table.specs.Outcome.{Outcome}
use Rattle.setl_model.specs.Places.{with_part_at_all}
use Rattle.setl_machine_updates.specs.Selectors.{selected}
use Rattle.setl_machine_updates.proofs.Inside.{behind, put_inside, puts_back, fails_inside, fails_reading}
use Rattle.setl_machine_updates.proofs.updates.+put_by_parts.Goals as goal

pub returns-in_err-part-in-len1-up-clause-updated : goal.returns-in_err-part-in-len1-up-clause-updated
returns-in_err-part-in-len1-up-clause-updated t c =
    let at = c.args.at.now in
    let whole = part c.args.whole.now in
    let v = part c.args.value in
    let f : Option Datum → ℕ → Outcome = λ p now. with_part_at_all (map selected (behind at)) p v now in
    let is = put_inside at c.first-item.result whole v c.args.turns c.in-len1-up.len_at_least c.first-item.is in
    let p = err_from_is_err_and c.from_residual.result c.from_residual.ensures.1 in
    fails_reading (selected c.first-item.result) whole f c.args.turns (with_part_at_all (map selected at) whole v c.args.turns) is c.in_err-part-in-len1-up.field-0.0 c.from_residual.result (p.1 ∙ ap Err p.2) c.in_err-part-in-len1-up.ensures

pub returns-in_err-left-in-len1-up-clause-updated : goal.returns-in_err-left-in-len1-up-clause-updated
returns-in_err-left-in-len1-up-clause-updated t c =
    let at = c.args.at.now in
    let whole = part c.args.whole.now in
    let v = part c.args.value in
    let f : Option Datum → ℕ → Outcome = λ p now. with_part_at_all (map selected (behind at)) p v now in
    let is = put_inside at c.first-item.result whole v c.args.turns c.in-len1-up.len_at_least c.first-item.is in
    let read = c.in_ok-part-in-len1-up.part in
    let r = c.from_residual-in_err-left-in-len1-up.result in
    let p = err_from_is_err_and r c.from_residual-in_err-left-in-len1-up.ensures.1 in
    fails_inside (selected c.first-item.result) whole f c.args.turns (with_part_at_all (map selected at) whole v c.args.turns) is (part read.value) read.left c.in_err-left-in-len1-up.field-0.0 r (p.1 ∙ ap Err p.2)
    c.in_ok-part-in-len1-up.ensures c.in_err-left-in-len1-up.ensures.updated

pub returns-in_ok-left-in-len1-up-clause-updated : goal.returns-in_ok-left-in-len1-up-clause-updated
returns-in_ok-left-in-len1-up-clause-updated t c =
    let at = c.args.at.now in
    let whole = part c.args.whole.now in
    let v = part c.args.value in
    let f : Option Datum → ℕ → Outcome = λ p now. with_part_at_all (map selected (behind at)) p v now in
    let is = put_inside at c.first-item.result whole v c.args.turns c.in-len1-up.len_at_least c.first-item.is in
    let read = c.in_ok-part-in-len1-up.part in
    puts_back (selected c.first-item.result) whole f c.args.turns (with_part_at_all (map selected at) whole v c.args.turns) is (part read.value) (part c.put_by_parts.new.whole) read.left c.in_ok-left-in-len1-up.left (part c.put_part-in-len1-up.new.whole) c.put_part-in-len1-up.result
    c.in_ok-part-in-len1-up.ensures c.in_ok-left-in-len1-up.ensures.updated c.put_part-in-len1-up.ensures.updated
