use Rattle.std.proofs.Common.{◌≡◌, ℕ, List, get_or, sym, ap, ◌∙◌, arith}
use Rattle.std.proofs.lemmas.List.{get_or-map, ext_get_or, length-map}
use Rattle.std.specs.Char.{to_ascii_lowercase}
use Rattle.setl_token.specs.Bytes.{lower}
use Rattle.setl_token.proofs.Words.{same_text, other_text}
use Rattle.setl_token.proofs.spellings.reads_as.Goals as goal

pub returns-then-to_ascii_lowercase-word : goal.returns-then-to_ascii_lowercase-word
returns-then-to_ascii_lowercase-word c =
    let t = c.args.text.now in
    let w = c.args.word.now in
    let i = c.loop-i.i in
    other_text (lower t) w (λ e.
    let at : get_or (lower t) i 0 ≡ to_ascii_lowercase (get_or t i 0) = get_or-map to_ascii_lowercase t i 0 0 (omega arith) in
    let same : get_or (lower t) i 0 ≡ get_or w i 0 = ap (λ (xs : List ℕ). get_or xs i 0) e in
    c.if-to_ascii_lowercase-word.true (c.to_ascii_lowercase.ensures.value ∙ sym at ∙ same))

pub returns : goal.returns
returns c =
    let t = c.args.text.now in
    let w = c.args.word.now in
    same_text (lower t) w (ext_get_or 0 (lower t) w (length-map t to_ascii_lowercase ∙ omega arith) (λ k below. c.loop-i.invariant k (omega (arith, length-map t to_ascii_lowercase))))
