use Rattle.std.proofs.Common.{◌≡◌, ◌∙◌, ◌<◌, ℕ, List, length, Ok, ap, subst}
use Rattle.std.specs.Option.{option_map}
use Rattle.setl_io.specs.Faults.{one_more}
use Rattle.setl_code.specs.Plain.{plain_code}
use Rattle.setl_machine.specs.Outcome.{seen}
use Rattle.setl_machine.specs.Working.{TakesLine, WritesLine}
use Rattle.setl_machine.proofs.Gaining.{written_gains, unwritten_gains}
use Rattle.setl_machine.proofs.Printing.{writes, hands_line, hands_none, reads_none, writes_code}
use Rattle.setl_machine.proofs.outside.print.Goals as goal

pub returns-in-Ok-clause-did : goal.returns-in-Ok-clause-did
returns-in-Ok-clause-did g c = λ modes line w n.
    let mid = c.take_line.new.store in
    let new = c.write_line.new.store in
    let from = seen (g.O.Sink.held c.args.out.now) (g.O.Sink.faults c.args.out.now) n in
    let to = seen (g.O.Sink.held c.write_line.new.out) (g.O.Sink.faults c.write_line.new.out) n in
    let written : WritesLine c.in-Ok.line.items mid from new to c.write_line.result = subst (λ bs. WritesLine bs mid from new to c.write_line.result) c.deref.ensures.value (c.write_line.ensures.did n) in
    writes modes c.args.store.now line c.args.count w mid new c.in-Ok.line from to c.write_line.result c.in-Ok.ensures written

pub returns-in-Ok-clause-code : goal.returns-in-Ok-clause-code
returns-in-Ok-clause-code g c = λ e.
    let old = c.args.store.now in
    let mid = c.take_line.new.store in
    let from = seen (g.O.Sink.held c.args.out.now) (g.O.Sink.faults c.args.out.now) 0 in
    let to = seen (g.O.Sink.held c.write_line.new.out) (g.O.Sink.faults c.write_line.new.out) 0 in
    let taken : TakesLine c.args.count old (Ok c.in-Ok.line) mid = c.in-Ok.ensures in
    writes_code c.deref.result.now mid c.write_line.new.store from to c.write_line.result (c.write_line.ensures.did 0) e ∙ ap (λ s. s.code) taken.0

pub returns-in-Ok-clause-no_read : goal.returns-in-Ok-clause-no_read
returns-in-Ok-clause-no_read g c = λ e.
    let from = seen (g.O.Sink.held c.args.out.now) (g.O.Sink.faults c.args.out.now) 0 in
    let to = seen (g.O.Sink.held c.write_line.new.out) (g.O.Sink.faults c.write_line.new.out) 0 in
    reads_none c.deref.result.now c.take_line.new.store c.write_line.new.store from to c.write_line.result (c.write_line.ensures.did 0) e

pub returns-in-Ok-clause-gained : goal.returns-in-Ok-clause-gained
returns-in-Ok-clause-gained g c = λ modes line k d.
    let old = c.args.store.now in
    let mid = c.take_line.new.store in
    let new = c.write_line.new.store in
    let from = seen (g.O.Sink.held c.args.out.now) (g.O.Sink.faults c.args.out.now) 0 in
    let to = seen (g.O.Sink.held c.write_line.new.out) (g.O.Sink.faults c.write_line.new.out) 0 in
    let written : WritesLine c.in-Ok.line.items mid from new to c.write_line.result = subst (λ bs. WritesLine bs mid from new to c.write_line.result) c.deref.ensures.value (c.write_line.ensures.did 0) in
    written_gains modes (plain_code old.code) line c.args.count k d old mid new c.in-Ok.line from to c.write_line.result c.in-Ok.ensures written

pub returns-in-Err-clause-gained : goal.returns-in-Err-clause-gained
returns-in-Err-clause-gained g c = λ modes line k d.
    let old = c.args.store.now in
    unwritten_gains modes (plain_code old.code) line c.args.count k d old c.take_line.new.store c.in-Err.end c.in-Err.ensures

pub returns-in-Ok-clause-wrote : goal.returns-in-Ok-clause-wrote
returns-in-Ok-clause-wrote g c = λ modes line w.
    let pieces = g.O.Sink.pieces c.args.out.now in
    let new = g.O.Sink.pieces c.write_line.new.out in
    hands_line modes c.args.store.now line c.args.count w c.take_line.new.store c.in-Ok.line pieces new c.write_line.result c.in-Ok.ensures
    (subst (λ (bs : List ℕ). 0 < length bs → new ≡ option_map one_more pieces) c.deref.ensures.value c.write_line.ensures.piece)

pub returns-in-Err-clause-wrote : goal.returns-in-Err-clause-wrote
returns-in-Err-clause-wrote g c = λ modes line w. hands_none modes c.args.store.now line c.args.count w c.take_line.new.store (g.O.Sink.pieces c.args.out.now) c.in-Err.end c.in-Err.ensures
