use Rattle.std.proofs.Common.{◌-◌, ap, ◌∙◌, take, drop}
use Rattle.setl_text.specs.code.Scans.{token_of, opens}
use Rattle.setl_text.proofs.Going.{kept_found, kept_onward, kept_wrong, window, window_rest, window_none}
use Rattle.setl_text.proofs.read.Reader.scan_kept.Goals as goal

pub returns-in-Err-clause-scans : goal.returns-in-Err-clause-scans
returns-in-Err-clause-scans c =
    let s = c.self.inside in
    let is = ap (λ l. take (s.end - s.at) (drop s.at l)) c.deref.ensures.value ∙ window s.at s.end s.buffer.items c.self.invariant.0 ∙ ap (λ r. r.kept) c.self.view_is in
    kept_wrong _ _ c.args.self.now.kept (token_of c.args.piece) (opens c.args.opened.now.items) (opens c.scan.new.opened.items) c.in-Err.fault is c.in-Err.ensures

pub returns-in-Ok-Found-clause-scans : goal.returns-in-Ok-Found-clause-scans
returns-in-Ok-Found-clause-scans c =
    let s = c.self.inside in
    let is = ap (λ l. take (s.end - s.at) (drop s.at l)) c.deref.ensures.value ∙ window s.at s.end s.buffer.items c.self.invariant.0 ∙ ap (λ r. r.kept) c.self.view_is in
    kept_found _ _ _ (token_of c.args.piece) (opens c.args.opened.now.items) (opens c.scan.new.opened.items) c.in-Ok-Found.v c.in-Ok-Found.n is (window_rest s.at s.end c.in-Ok-Found.n s.buffer.items _ (ap (λ r. r.kept) c.self.view_is)) (rw c.in-Ok-Found.field-0-is at c.in-Ok-Found.ensures)

pub returns-in-Ok-Onward-clause-scans : goal.returns-in-Ok-Onward-clause-scans
returns-in-Ok-Onward-clause-scans c =
    let s = c.self.inside in
    let is = ap (λ l. take (s.end - s.at) (drop s.at l)) c.deref.ensures.value ∙ window s.at s.end s.buffer.items c.self.invariant.0 ∙ ap (λ r. r.kept) c.self.view_is in
    kept_onward _ _ _ (token_of c.args.piece) (opens c.args.opened.now.items) (opens c.scan.new.opened.items) c.in-Ok-Onward.onward is (window_none s.end s.buffer.items) (rw c.in-Ok-Onward.field-0-is at c.in-Ok-Onward.ensures)
