use Rattle.std.proofs.Common.{◌≡◌, ◌∙◌, ◌<◌, [], ◌∷◌, ℕ, List, length, Ok, ap, subst}
use Rattle.std.specs.Option.{option_map}
use Rattle.setl_io.specs.Faults.{one_more}
use Rattle.setl_watch.specs.Notices.{Printed, without_last}
use Rattle.setl_code.specs.Code.{PrintTop}
use Rattle.setl_code.specs.Plain.{plain_code}
use Rattle.setl_machine_control.specs.Control.{in_world}
use Rattle.setl_machine_control.specs.Answers.{next_of}
use Rattle.setl_machine.specs.Gaining.{Gains}
use Rattle.setl_machine.specs.Outcome.{seen, Steps}
use Rattle.setl_machine.specs.Working.{TakesLine, WritesLine}
use Rattle.setl_machine.specs.Writing.{NextWrites}
use Rattle.setl_machine_control.specs.declared.end.End.{End}
use Rattle.setl_machine.proofs.Gaining.{written_gains}
use Rattle.setl_machine.proofs.Printing.{writes, hands_line, reads_none}
use Rattle.setl_machine.proofs.Told.{tells_print}
use Rattle.setl_machine.proofs.outside.print_telling.Goals as goal

pub returns-in-Paused-clause-did : goal.returns-in-Paused-clause-did
returns-in-Paused-clause-did g c = λ modes line w n.
    let old = c.args.store.now in
    let mid = c.take_line.new.store in
    let new = c.write_line.new.store in
    let from = seen (g.O.Sink.held c.args.out.now) (g.O.Sink.faults c.args.out.now) n in
    let to = seen (g.O.Sink.held c.write_line.new.out) (g.O.Sink.faults c.write_line.new.out) n in
    let end = c.write_line.result in
    let written : WritesLine c.in_ok-line.line.items mid from new to end = subst (λ bs. WritesLine bs mid from new to end) c.deref-2.ensures.value (c.write_line.ensures.did n) in
    subst (λ (e : End). Steps modes (next_of modes (plain_code old.code) line (PrintTop c.args.count) (in_world w old.core)) from to (in_world w new.core) e) c.in-Paused.is (writes modes old line c.args.count w mid new c.in_ok-line.line from to end c.in_ok-line.ensures written)

pub returns-in-Paused-clause-tells : goal.returns-in-Paused-clause-tells
returns-in-Paused-clause-tells g c = λ line.
    let old = c.args.store.now in
    let mid = c.take_line.new.store in
    let new = c.write_line.new.store in
    let taken : TakesLine c.args.count old (Ok c.in_ok-line.line) mid = c.in_ok-line.ensures in
    let control = c.args.control.now in (
      ap (λ s. s.code) (c.in-Paused.ensures.did 0).0 ∙ ap (λ s. s.code) taken.0,
      tells_print old mid new control control line c.args.count c.in_ok-line.line c.in_ok-events.events.items taken (c.in_ok-events.ensures ∙ ap (λ bs. Printed (without_last bs) ∷ []) c.deref.ensures.value),
    )

pub returns-in-Paused-clause-gained : goal.returns-in-Paused-clause-gained
returns-in-Paused-clause-gained g c = λ modes line k d.
    let old = c.args.store.now in
    let mid = c.take_line.new.store in
    let new = c.write_line.new.store in
    let from = seen (g.O.Sink.held c.args.out.now) (g.O.Sink.faults c.args.out.now) 0 in
    let to = seen (g.O.Sink.held c.write_line.new.out) (g.O.Sink.faults c.write_line.new.out) 0 in
    let end = c.write_line.result in
    let written : WritesLine c.in_ok-line.line.items mid from new to end = subst (λ bs. WritesLine bs mid from new to end) c.deref-2.ensures.value (c.write_line.ensures.did 0) in
    subst (λ (e : End). Gains modes (plain_code old.code) line (PrintTop c.args.count) k d old.bases new.bases e) c.in-Paused.is (written_gains modes (plain_code old.code) line c.args.count k d old mid new c.in_ok-line.line from to end c.in_ok-line.ensures written)

pub returns-in-Paused-clause-wrote : goal.returns-in-Paused-clause-wrote
returns-in-Paused-clause-wrote g c = λ modes line w.
    let old = c.args.store.now in
    let pieces = g.O.Sink.pieces c.args.out.now in
    let new = g.O.Sink.pieces c.write_line.new.out in
    subst (λ (e : End). NextWrites (next_of modes (plain_code old.code) line (PrintTop c.args.count) (in_world w old.core)) pieces new e) c.in-Paused.is
    (hands_line modes old line c.args.count w c.take_line.new.store c.in_ok-line.line pieces new c.write_line.result c.in_ok-line.ensures
    (subst (λ (bs : List ℕ). 0 < length bs → new ≡ option_map one_more pieces) c.deref-2.ensures.value c.write_line.ensures.piece))

pub returns : goal.returns
returns g c =
    let old = c.args.store.now in
    let mid = c.take_line.new.store in
    let new = c.write_line.new.store in
    let from = λ (n : ℕ). seen (g.O.Sink.held c.args.out.now) (g.O.Sink.faults c.args.out.now) n in
    let to = λ (n : ℕ). seen (g.O.Sink.held c.write_line.new.out) (g.O.Sink.faults c.write_line.new.out) n in
    let end = c.write_line.result in
    let written : (n : ℕ) → WritesLine c.in_ok-line.line.items mid (from n) new (to n) end = λ n. subst (λ bs. WritesLine bs mid (from n) new (to n) end) c.deref-2.ensures.value (c.write_line.ensures.did n) in
    record {
      did = λ modes line w n. writes modes old line c.args.count w mid new c.in_ok-line.line (from n) (to n) end c.in_ok-line.ensures (written n);
      tells = λ line. c.in_default.not-Paused;
      gained = λ modes line k d. written_gains modes (plain_code old.code) line c.args.count k d old mid new c.in_ok-line.line (from 0) (to 0) end c.in_ok-line.ensures (written 0);
      wrote = λ modes line w.
          let pieces = g.O.Sink.pieces c.args.out.now in
          let now = g.O.Sink.pieces c.write_line.new.out in
          hands_line modes old line c.args.count w mid c.in_ok-line.line pieces now end c.in_ok-line.ensures
          (subst (λ (bs : List ℕ). 0 < length bs → now ≡ option_map one_more pieces) c.deref-2.ensures.value c.write_line.ensures.piece);
      no_read = reads_none c.in_ok-line.line.items mid new (from 0) (to 0) end (written 0);
    }
