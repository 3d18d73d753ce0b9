use Rattle.std.proofs.Common.{◌≡◌, [], ◌∷◌, refl, rules}
use Rattle.std.specs.Fmt.{decimal, digits}
use Rattle.setl_code_listing.proofs.names.push_missing.Goals as goal

zero_text : decimal 0 ≡ 48 ∷ []
unfolding digits
zero_text = refl

pub returns : goal.returns
returns c = rw zero_text (search rules)
