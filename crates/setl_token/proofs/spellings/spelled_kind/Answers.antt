use Rattle.std.proofs.Common.{sym, ap, ◌∙◌}
use Rattle.std.proofs.lemmas.List.{length-map}
use Rattle.std.specs.Char.{to_ascii_lowercase}
use Rattle.setl_token.specs.Bytes.{lower}
use Rattle.setl_token.specs.Spellings.{spellings, kind_in}
use Rattle.setl_token.proofs.Words.{spellings_with, kind_of_len}
use Rattle.setl_token.proofs.spellings.spelled_kind.Goals as goal

pub loop-word-init : goal.loop-word-init
loop-word-init c =
    let t = c.args.text.now in
    ap (λ ss. kind_in ss (lower t)) (c.spellings_of_len-word-items.ensures ∙ ap spellings_with (sym (length-map t to_ascii_lowercase)))
    ∙ kind_of_len (lower t) spellings
