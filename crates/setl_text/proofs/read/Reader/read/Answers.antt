use Rattle.std.proofs.Common.{◌∙◌, subst}
use Rattle.setl_text.specs.code.Reads.{ahead, StaysHonest}
use Rattle.setl_text.specs.code.Scans.{token_of, opens}
use Rattle.setl_text.proofs.Decided.{open_ended}
use Rattle.setl_text.proofs.Going.{went_still, took_then, honest_then, went_found, went_wrong, went_onward, went_filled, went_unfilled, went_finished, went_on}
use Rattle.setl_text.proofs.read.Reader.read.Goals as goal

pub returns-in-Ok-Found-clause-answer : goal.returns-in-Ok-Found-clause-answer
returns-in-Ok-Found-clause-answer g c =
    let went = went_still c.args.self.now.kept (ahead c.args.self.now.ended (g.I.Source.left c.args.input.now)) c.reads.self.kept c.reads.self.ended c.scan_kept.new.self.ended (g.I.Source.left c.reads.input) (token_of c.reads.piece) (opens c.reads.opened.items) c.in-Ok-Found.ensures.ended c.reads.invariant.went in
    let scans = rw c.in-Ok-Found.field-0-is at c.in-Ok-Found.ensures.scans in
    went_found c.args.self.now.kept (ahead c.args.self.now.ended (g.I.Source.left c.args.input.now)) c.reads.self.kept c.scan_kept.new.self.kept (ahead c.scan_kept.new.self.ended (g.I.Source.left c.reads.input)) (token_of c.reads.piece) (opens c.reads.opened.items) (opens c.scan_kept.new.opened.items)
    c.in-Ok-Found.v c.in-Ok-Found.field-0-1 c.got.result went scans c.got.ensures

pub returns-in-Err-clause-answer : goal.returns-in-Err-clause-answer
returns-in-Err-clause-answer g c =
    let went = went_still c.args.self.now.kept (ahead c.args.self.now.ended (g.I.Source.left c.args.input.now)) c.reads.self.kept c.reads.self.ended c.scan_kept.new.self.ended (g.I.Source.left c.reads.input) (token_of c.reads.piece) (opens c.reads.opened.items) c.in-Err.ensures.ended c.reads.invariant.went in
    went_wrong c.args.self.now.kept (ahead c.args.self.now.ended (g.I.Source.left c.args.input.now)) c.reads.self.kept c.scan_kept.new.self.kept (ahead c.scan_kept.new.self.ended (g.I.Source.left c.reads.input)) (token_of c.reads.piece) (opens c.reads.opened.items) (opens c.scan_kept.new.opened.items)
    c.in-Err.fault went c.in-Err.ensures.scans

pub returns-in-Ok-false-clause-answer : goal.returns-in-Ok-false-clause-answer
returns-in-Ok-false-clause-answer g c =
    let went = went_still c.args.self.now.kept (ahead c.args.self.now.ended (g.I.Source.left c.args.input.now)) c.reads.self.kept c.reads.self.ended c.scan_kept.new.self.ended (g.I.Source.left c.reads.input) (token_of c.reads.piece) (opens c.reads.opened.items) c.in-Ok-Onward.ensures.ended c.reads.invariant.went in
    let old = c.args.self.now.kept in
    let new = opens c.scan_kept.new.opened.items in
    let scans = rw c.in-Ok-Onward.field-0-is at c.in-Ok-Onward.ensures.scans in
    let on = went_onward old (ahead c.args.self.now.ended (g.I.Source.left c.args.input.now)) c.reads.self.kept c.scan_kept.new.self.kept (ahead c.scan_kept.new.self.ended (g.I.Source.left c.reads.input)) (token_of c.reads.piece) (opens c.reads.opened.items) new c.in-Ok-Onward.onward went scans in
    went_finished old (ahead c.args.self.now.ended (g.I.Source.left c.args.input.now)) c.scan_kept.new.self.kept c.fill.new.self.kept (ahead c.scan_kept.new.self.ended (g.I.Source.left c.reads.input)) (ahead c.fill.new.self.ended (g.I.Source.left c.fill.new.input)) (token_of c.in-Ok-Onward.onward) new c.finish.result scans.1.0 on (rw c.in-Ok-false.field-0-test at c.in-Ok-false.ensures.bytes) c.finish.ensures

pub returns-in-Err-fill-clause-answer : goal.returns-in-Err-fill-clause-answer
returns-in-Err-fill-clause-answer g c =
    let went = went_still c.args.self.now.kept (ahead c.args.self.now.ended (g.I.Source.left c.args.input.now)) c.reads.self.kept c.reads.self.ended c.scan_kept.new.self.ended (g.I.Source.left c.reads.input) (token_of c.reads.piece) (opens c.reads.opened.items) c.in-Ok-Onward.ensures.ended c.reads.invariant.went in
    let old = c.args.self.now.kept in
    let new = opens c.scan_kept.new.opened.items in
    let scans = rw c.in-Ok-Onward.field-0-is at c.in-Ok-Onward.ensures.scans in
    let on = went_onward old (ahead c.args.self.now.ended (g.I.Source.left c.args.input.now)) c.reads.self.kept c.scan_kept.new.self.kept (ahead c.scan_kept.new.self.ended (g.I.Source.left c.reads.input)) (token_of c.reads.piece) (opens c.reads.opened.items) new c.in-Ok-Onward.onward went scans in
    went_unfilled old (ahead c.args.self.now.ended (g.I.Source.left c.args.input.now)) c.scan_kept.new.self.kept c.fill.new.self.kept (ahead c.scan_kept.new.self.ended (g.I.Source.left c.reads.input)) (ahead c.fill.new.self.ended (g.I.Source.left c.fill.new.input)) (token_of c.in-Ok-Onward.onward) new c.in-Err-fill.fault on c.in-Err-fill.ensures.bytes

pub reads-preserved : goal.reads-preserved
reads-preserved g c =
    let went = went_still c.args.self.now.kept (ahead c.args.self.now.ended (g.I.Source.left c.args.input.now)) c.reads.self.kept c.reads.self.ended c.scan_kept.new.self.ended (g.I.Source.left c.reads.input) (token_of c.reads.piece) (opens c.reads.opened.items) c.in-Ok-Onward.ensures.ended c.reads.invariant.went in
    let old = c.args.self.now.kept in
    let new = opens c.scan_kept.new.opened.items in
    let scans = rw c.in-Ok-Onward.field-0-is at c.in-Ok-Onward.ensures.scans in
    let on = went_onward old (ahead c.args.self.now.ended (g.I.Source.left c.args.input.now)) c.reads.self.kept c.scan_kept.new.self.kept (ahead c.scan_kept.new.self.ended (g.I.Source.left c.reads.input)) (token_of c.reads.piece) (opens c.reads.opened.items) new c.in-Ok-Onward.onward went scans in
    record {
      token = scans.1.1.0;
      shallow = scans.1.1.1;
      fault = c.in-Ok-true.ensures.fault ∙ c.in-Ok-Onward.ensures.fault ∙ c.reads.invariant.fault;
      faults = c.in-Ok-true.ensures.source ∙ c.reads.invariant.faults;
      ended = λ e.
          let so = c.reads.invariant.ended e in
          let still = c.in-Ok-Onward.ensures.ended ∙ so.0 in
          (c.in-Ok-true.ensures.stays still, c.in-Ok-true.ensures.ended still ∙ so.1);
      took = took_then (g.I.Source.left c.args.input.now) (g.I.Source.left c.reads.input) (g.I.Source.left c.fill.new.input) c.reads.invariant.took c.in-Ok-true.ensures.took;
      honest = honest_then c.args.self.now.ended c.reads.self.ended c.fill.new.self.ended (g.I.Source.left c.args.input.now) (g.I.Source.left c.reads.input) (g.I.Source.left c.fill.new.input) c.reads.invariant.took c.reads.invariant.honest
          (subst (λ x. StaysHonest x (g.I.Source.left c.reads.input) c.fill.new.self.ended (g.I.Source.left c.fill.new.input)) c.in-Ok-Onward.ensures.ended c.in-Ok-true.ensures.honest);
      asked = λ d. absurd (open_ended old (ahead c.args.self.now.ended (g.I.Source.left c.args.input.now)) c.scan_kept.new.self.kept (ahead c.scan_kept.new.self.ended (g.I.Source.left c.reads.input)) c.in-Ok-Onward.onward new scans.1 on d);
      went = went_filled old (ahead c.args.self.now.ended (g.I.Source.left c.args.input.now)) c.scan_kept.new.self.kept c.fill.new.self.kept (ahead c.scan_kept.new.self.ended (g.I.Source.left c.reads.input)) (ahead c.fill.new.self.ended (g.I.Source.left c.fill.new.input)) (token_of c.in-Ok-Onward.onward) new scans.1.0 on (rw c.in-Ok-true.field-0-test at c.in-Ok-true.ensures.bytes);
    }

pub returns-clause-answer : goal.returns-clause-answer
returns-clause-answer g c =
    went_on c.args.self.now.kept (ahead c.args.self.now.ended (g.I.Source.left c.args.input.now)) c.reads.self.kept (ahead c.reads.self.ended (g.I.Source.left c.reads.input)) (token_of c.reads.piece) (opens c.reads.opened.items) c.reads.invariant.went

pub returns-in-Ok-false-clause-decided : goal.returns-in-Ok-false-clause-decided
returns-in-Ok-false-clause-decided g c d =
    let went = went_still c.args.self.now.kept (ahead c.args.self.now.ended (g.I.Source.left c.args.input.now)) c.reads.self.kept c.reads.self.ended c.scan_kept.new.self.ended (g.I.Source.left c.reads.input) (token_of c.reads.piece) (opens c.reads.opened.items) c.in-Ok-Onward.ensures.ended c.reads.invariant.went in
    let old = c.args.self.now.kept in
    let new = opens c.scan_kept.new.opened.items in
    let scans = rw c.in-Ok-Onward.field-0-is at c.in-Ok-Onward.ensures.scans in
    let on = went_onward old (ahead c.args.self.now.ended (g.I.Source.left c.args.input.now)) c.reads.self.kept c.scan_kept.new.self.kept (ahead c.scan_kept.new.self.ended (g.I.Source.left c.reads.input)) (token_of c.reads.piece) (opens c.reads.opened.items) new c.in-Ok-Onward.onward went scans in
    absurd (open_ended old (ahead c.args.self.now.ended (g.I.Source.left c.args.input.now)) c.scan_kept.new.self.kept (ahead c.scan_kept.new.self.ended (g.I.Source.left c.reads.input)) c.in-Ok-Onward.onward new scans.1 on d)

pub returns-in-Err-fill-clause-decided : goal.returns-in-Err-fill-clause-decided
returns-in-Err-fill-clause-decided g c d =
    let went = went_still c.args.self.now.kept (ahead c.args.self.now.ended (g.I.Source.left c.args.input.now)) c.reads.self.kept c.reads.self.ended c.scan_kept.new.self.ended (g.I.Source.left c.reads.input) (token_of c.reads.piece) (opens c.reads.opened.items) c.in-Ok-Onward.ensures.ended c.reads.invariant.went in
    let old = c.args.self.now.kept in
    let new = opens c.scan_kept.new.opened.items in
    let scans = rw c.in-Ok-Onward.field-0-is at c.in-Ok-Onward.ensures.scans in
    let on = went_onward old (ahead c.args.self.now.ended (g.I.Source.left c.args.input.now)) c.reads.self.kept c.scan_kept.new.self.kept (ahead c.scan_kept.new.self.ended (g.I.Source.left c.reads.input)) (token_of c.reads.piece) (opens c.reads.opened.items) new c.in-Ok-Onward.onward went scans in
    absurd (open_ended old (ahead c.args.self.now.ended (g.I.Source.left c.args.input.now)) c.scan_kept.new.self.kept (ahead c.scan_kept.new.self.ended (g.I.Source.left c.reads.input)) c.in-Ok-Onward.onward new scans.1 on d)
