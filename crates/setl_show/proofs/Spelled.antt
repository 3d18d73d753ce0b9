-- The bytes of words and signs.
use Rattle.std.proofs.Common.{◌≡◌, pos, [], refl}
use Rattle.setl_tree.specs.declared.kind.Kind.{Kind}
use Rattle.setl_tree.specs.declared.kind.Kind.TheVariants as k
use Rattle.setl_token.specs.Spellings.{spelling, IsSpelled}
use Rattle.setl_show.specs.Text.{bytes_of}

pub spelled : (kind : Kind) → IsSpelled kind → bytes_of kind [] (pos 0) ≡ spelling kind
unfolding bytes_of
spelled k.SourceEnd h = absurd h
spelled k.Name h = absurd h
spelled k.Number h = absurd h
spelled k.StringLiteral h = absurd h
spelled _ h = refl
