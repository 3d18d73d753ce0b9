use Rattle.setl_tree.specs.Canonical.{canonical}
use Rattle.setl_show_laws.proofs.LegalPrograms.{canonical_legal}
use Rattle.setl_show_laws.proofs.Sources.{source_legal}
use Rattle.setl_show_laws.proofs.laws.canonical_text_is_spelled.Goals as goal

pub returns : goal.returns
returns c = λ source toks tree s d. c.text_is_spelled.ensures (canonical tree) (canonical_legal toks tree d (source_legal source toks s))
