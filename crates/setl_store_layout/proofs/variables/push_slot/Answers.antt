use Rattle.std.proofs.Common.{◌∙◌, ◌++◌, sym, ap, subst}
use Rattle.setl_code.specs.CodeCore.{main_held}
use Rattle.setl_code.specs.Plain.{plain_slot}
use Rattle.setl_code_events.specs.Told.{value_held}
use Rattle.setl_modes.specs.Modes.{mode_of}
use Rattle.setl_modes_dump.specs.Dump.{variable_line}
use Rattle.setl_rep_layout.specs.Members.{members_by}
use Rattle.setl_store.specs.MainProgram.{main_variables, IsStored}
use Rattle.setl_store_layout.proofs.Storing.{form_shows, value_shows}
use Rattle.setl_store_layout.proofs.Telling.{line_told}
use Rattle.setl_store_layout.proofs.Walking.{on_ok}
use Rattle.setl_store_layout.proofs.variables.push_slot.Goals as goal

pub returns-in-Value : goal.returns-in-Value
returns-in-Value c =
    let s = c.args.store.now in
    let bs = c.main_slot.result.1.now in
    let name = c.args.name.now in
    let m = mode_of c.args.mode.now in
    let h = main_held (plain_slot (main_variables s.code) c.args.slot) s.core in
    let value = value_shows bs h c.in-Value.value (subst (IsStored bs h) c.in-Value.is c.main_slot.ensures.holds) in
    on_ok c.push_value-in-Value.result
    (λ p. p ∙ ap (λ l. c.args.into.now.items ++ l) (ap (variable_line (members_by bs) name m) (sym value) ∙ line_told s.bases bs name m (value_held h) c.main_slot.ensures.bases c.requires.named))
    c.push_value-in-Value.ensures

pub returns-in-Based : goal.returns-in-Based
returns-in-Based c =
    let s = c.args.store.now in
    let bs = c.main_slot.result.1.now in
    let name = c.args.name.now in
    let m = mode_of c.args.mode.now in
    let h = main_held (plain_slot (main_variables s.code) c.args.slot) s.core in
    let formed = form_shows bs h c.in-Based.own c.in-Based.held (subst (IsStored bs h) c.in-Based.is c.main_slot.ensures.holds) in
    on_ok c.push_based.result
    (λ p. p ∙ ap (λ l. c.args.into.now.items ++ l) (ap (variable_line (members_by bs) name m) formed.value ∙ line_told s.bases bs name m (value_held h) c.main_slot.ensures.bases c.requires.named))
    c.push_based.ensures
