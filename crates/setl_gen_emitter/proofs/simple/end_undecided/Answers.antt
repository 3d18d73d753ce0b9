use Rattle.std.proofs.Common.{◌∙◌, ap, Some}
use Rattle.setl_value.specs.Datum.{bool}
use Rattle.setl_program.specs.code.Plain.{plain_iterators}
use Rattle.setl_model.specs.Iterations.{undecided, all_bound}
use Rattle.setl_code.specs.Code.{Push}
use Rattle.setl_code.specs.Piece.{one}
use Rattle.setl_code.specs.Generated.{clear}
use Rattle.setl_gen_emitter.specs.Emitted.{Emitted, held, here, after, all_filled}
use Rattle.setl_gen_emitter.specs.EmittedLaws.{then_made}
use Rattle.setl_gen_emitter.proofs.simple.end_undecided.Goals as goal

pub returns : goal.returns
returns c =
    let line = c.args.line in
    let s1 = held c.clear_all.new.emitter in
    let s2 = held c.put.new.self in
    let e2 = c.in_ok-put.ensures ∙ ap (λ t. after (one line (Push (Some (bool t)))) s1) c.undecided.ensures in
    let e = then_made (clear line (all_bound (plain_iterators c.args.is.now))) (one line (Push (Some (bool (undecided c.args.quantifier))))) (held c.args.emitter.now) s1 s2 c.in_ok-clear_all.ensures e2 in
    c.fill_all.ensures ∙ ap (λ m. all_filled m c.args.exits s2) c.in_ok-end.ensures ∙ ap (λ (t : Emitted). all_filled (here t) c.args.exits t) e
