use Rattle.std.proofs.Common.{◌≡◌, ◌∙◌, ◌+◌, ◌*◌, ◌∷◌, ◌++◌, [], sym, ap, arith, if◌then◌else◌}
use Rattle.setl_remote.specs.Words.{has_bit, ones}
use Rattle.setl_remote.proofs.Listing.{nothing_on, ones_more}
use Rattle.setl_remote.proofs.numbers.push_ones.Goals as goal

pub returns-then-words-i-eq0 : goal.returns-then-words-i-eq0
returns-then-words-i-eq0 c = c.requires.front ∙ sym (nothing_on c.args.words.now c.args.i c.if-words-i-eq0.true)

pub loop-k-preserved : goal.loop-k-preserved
loop-k-preserved c =
    let words = c.args.words.now in
    let n = c.args.i * 64 + c.loop-k.k in
    let next : n + 1 ≡ c.args.i * 64 + (c.loop-k.k + 1) = omega arith in
    c.in_ok-push_one.ensures ∙ ap (λ l. if has_bit words n then l ++ n ∷ [] else l) c.loop-k.invariant ∙ sym (ones_more words n) ∙ ap (ones words) next
