use Rattle.std.proofs.Common.{◌∙◌, List, ap, map}
use Rattle.setl_program.specs.declared.stmt.Selector.{Selector}
use Rattle.setl_program.specs.code.Plain.{plain_variable, selectors_of}
use Rattle.setl_code.specs.declared.code.Bracket.{Bracket}
use Rattle.setl_code.specs.Generated as code
use Rattle.setl_code.specs.Plain.{plain_alteration, plain_bracket, plain_slot}
use Rattle.setl_gen_emitter.specs.Table.{variables}
use Rattle.setl_gen_emitter.specs.Emitted.{held, after}
use Rattle.setl_gen.proofs.StmtRounds.{alter_made}
use Rattle.setl_gen.proofs.places.alter.Goals as goal

pub returns : goal.returns
returns c =
    let line = c.args.line in
    let s = held c.args.emitter.now in
    alter_made line (plain_alteration c.args.a) (plain_variable c.args.p.now.variable) (plain_slot (variables c.selectors.new.emitter.names) c.in_ok-slot.slot) (selectors_of c.args.p.now.selectors) (map plain_bracket c.in_ok-new.field-0) s (held c.selectors.new.emitter) (held c.put.new.self)
    (c.in_ok-selectors.ensures ∙ ap (λ (r : List Selector). after (code.selectors line (selectors_of r)) s) c.as_slice.ensures)
    c.in_ok-slot.ensures
    (ap (λ (bs : List Bracket). map plain_bracket bs) c.in_ok-new.ensures ∙ c.in_ok-written.ensures ∙ ap (λ (r : List Selector). code.brackets (selectors_of r)) c.as_slice-2.ensures)
    c.in_ok-put.ensures
