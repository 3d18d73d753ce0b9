-- Chains, link by link.
use Rattle.std.proofs.Common.{◌≡◌, List, [], ◌∷◌, ◌++◌, map, refl}
use Rattle.setl_program.specs.Program as plain
use Rattle.setl_program.specs.declared.expr.Link.{Link}
use Rattle.setl_program.specs.code.Plain.{plain_link}
use Rattle.setl_program.specs.Lists.{chained}

pub one_more : (e : plain.Expr) (ls : List Link) (l : Link) → chained e (map plain_link (ls ++ l ∷ [])) ≡ plain_link l (chained e (map plain_link ls))
one_more e [] l = refl
one_more e (x ∷ ls) l = one_more (plain_link x e) ls l
