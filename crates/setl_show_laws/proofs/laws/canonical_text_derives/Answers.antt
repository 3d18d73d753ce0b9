use Rattle.setl_tree.specs.Canonical.{canonical}
use Rattle.setl_show.specs.Text.{text_of}
use Rattle.setl_show_laws.proofs.laws.canonical_text_derives.Goals as goal

pub returns : goal.returns
returns c = λ source toks tree s d shown r.
    let spelled = c.canonical_text_is_spelled.ensures source toks tree s d in
    let same = c.spelling_is_determined.ensures (text_of (canonical tree)) (canonical tree) shown spelled r in
    c.lines_do_not_matter.ensures (canonical tree) shown tree same (c.canonical_tokens_derive.ensures toks tree d)
