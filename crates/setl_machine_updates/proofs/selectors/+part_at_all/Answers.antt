use Rattle.std.proofs.Common.{ℕ, map, subst, Option, arith}
use Rattle.setl_value.specs.Datum.{Datum}
use Rattle.setl_value.specs.code.DatumOf.{part}
use Rattle.setl_operators_table.specs.Outcome.{Outcome}
use Rattle.setl_model.specs.Places.{part_of, part_at_all}
use Rattle.setl_machine_updates.specs.Selectors.{selected}
use Rattle.setl_machine_updates.specs.Parts.{Reads}
use Rattle.setl_machine_updates.proofs.Inside.{behind, read_inside}
use Rattle.setl_machine_updates.proofs.Steps.{reads_on}
use Rattle.setl_machine_updates.proofs.selectors.+part_at_all.Goals as goal

pub returns-in_ok-part-in-len1-up : goal.returns-in_ok-part-in-len1-up
returns-in_ok-part-in-len1-up t c =
    let whole = part c.args.whole.now in
    let turns = c.args.turns in
    let first = c.first-item.result in
    let read = c.in_ok-part-in-len1-up.part in
    let r = c.part_at_all.result in
    let f : Option Datum → ℕ → Outcome = λ p now. part_at_all (map selected (behind c.args.at.now)) p now in
    subst (λ o. Reads o turns r) (read_inside c.args.at.now first whole turns (omega arith) c.first-item.is)
    (reads_on f turns (part read.value) read.left (part_of (selected first) whole turns) r c.in_ok-part-in-len1-up.ensures c.part_at_all.ensures)
