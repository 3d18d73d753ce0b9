use Rattle.std.proofs.Common.{◌≡◌, ℕ, take, drop, ◌-◌, ◌+◌, [], ◌++◌, sym, ap, subst, ◌∙◌, arith, length-drop, count_by, ◌==◌, inl}
use Rattle.std.proofs.lemmas.List.{take_rest}
use Rattle.setl_token.specs.code.Pieces.{piece_at}
use Rattle.setl_token.specs.Lex.{token_of, fault_of}
use Rattle.setl_token.proofs.Longest.{longest_of, stands_of}
use Rattle.setl_token.proofs.Reached.{Found, found_push, found_all, found_fault, one_spelling, one_fault, spelled_or_fails, tells, line_more, push_token, push_none}
use Rattle.setl_token.proofs.tokens.Goals as goal
use Rattle.setl_token.proofs.tokens.Goals.{in-Token+in_ok-push, in_default}

pub loop-at-preserved : goal.loop-at-preserved
loop-at-preserved c =
    let p = c.in-Ok.piece in
    let s = c.args.source.now in
    let at = c.loop-at.at in
    let others = c.loop-at.tokens.items in
    let next = longest_of (drop at s) p (omega (arith, length-drop at s)) (ap piece_at (sym (take_rest s at)) ∙ sym c.in-Ok.ensures.value) in
    let f = found_push s at others p c.loop-at.invariant.found c.loop-at-test.true next in
    let same : others ++ token_of s at p.len p.kind [] ≡ c.match-piece.tokens.items =
    elim c.match-piece.branch [
      | in-Token+in_ok-push w ↦ push_token s at p.len c.loop-at.line p.kind w.in-Token.kind others w.in-Token.is c.loop-at.invariant.line ∙ sym w.in_ok-push.ensures.items ∙ ap (λ v. v.items) (sym w.tokens-is)
      | in_default w ↦ push_none s at p.len p.kind others w.in_default.not-Token ∙ ap (λ v. v.items) (sym w.tokens-is)
    ] in
    let len : at + p.len - at ≡ p.len = omega arith in
    let feeds = ap (λ (n : ℕ). count_by (λ (b : ℕ). b == 10) (take n (drop at s))) len in
    record {
      found = subst (λ z. Found s (at + p.len) z) same f;
      line = omega (arith, line_more s at p.len, c.line_feeds.ensures.value, feeds);
      within = omega (arith, c.in-Ok.ensures.within, length-drop at s);
    }

pub returns-in-Err-clause-fails : goal.returns-in-Err-clause-fails
returns-in-Err-clause-fails c =
    let s = c.args.source.now in
    let at = c.loop-at.at in
    let stands = stands_of (drop at s) c.in-Err.cause (omega (arith, length-drop at s)) (ap piece_at (sym (take_rest s at)) ∙ sym c.in-Err.ensures.value) in
    rw c.fault_at.ensures (tells s c.in-Err.cause at (found_fault s at c.loop-at.tokens.items c.in-Err.cause c.loop-at.invariant.found c.loop-at-test.true stands))

pub returns-in-Err-clause-lexes : goal.returns-in-Err-clause-lexes
returns-in-Err-clause-lexes c = λ ts spelled.
    let s = c.args.source.now in
    let at = c.loop-at.at in
    let stands = stands_of (drop at s) c.in-Err.cause (omega (arith, length-drop at s)) (ap piece_at (sym (take_rest s at)) ∙ sym c.in-Err.ensures.value) in
    absurd (spelled_or_fails s ts c.in-Err.cause at spelled (found_fault s at c.loop-at.tokens.items c.in-Err.cause c.loop-at.invariant.found c.loop-at-test.true stands))

pub returns-in-Err-clause-refuses : goal.returns-in-Err-clause-refuses
returns-in-Err-clause-refuses c = λ cause place fails.
    let s = c.args.source.now in
    let at = c.loop-at.at in
    let stands = stands_of (drop at s) c.in-Err.cause (omega (arith, length-drop at s)) (ap piece_at (sym (take_rest s at)) ∙ sym c.in-Err.ensures.value) in
    let one = one_fault s c.in-Err.cause cause at place (found_fault s at c.loop-at.tokens.items c.in-Err.cause c.loop-at.invariant.found c.loop-at-test.true stands) fails in
    inl (c.fault_at.ensures ∙ (λ i. fault_of (one.0 i) (one.1 i)))

pub returns-clause-lexes : goal.returns-clause-lexes
returns-clause-lexes c = λ ts spelled.
    let s = c.args.source.now in
    one_spelling s c.loop-at.tokens.items ts (found_all s c.loop-at.at c.loop-at.tokens.items c.loop-at.invariant.found c.loop-at-test.false) spelled

pub returns-clause-refuses : goal.returns-clause-refuses
returns-clause-refuses c = λ cause place fails.
    let s = c.args.source.now in
    spelled_or_fails s c.loop-at.tokens.items cause place (found_all s c.loop-at.at c.loop-at.tokens.items c.loop-at.invariant.found c.loop-at-test.false) fails
