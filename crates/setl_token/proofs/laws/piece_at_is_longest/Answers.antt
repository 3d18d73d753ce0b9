use Rattle.setl_token.proofs.Longest.{longest_of, of_longest, stands_of, of_stands}
use Rattle.setl_token.proofs.laws.piece_at_is_longest.Goals as goal

pub returns-clause-longest : goal.returns-clause-longest
returns-clause-longest c = λ z p some. (longest_of z p some, of_longest z p some)

pub returns-clause-stands : goal.returns-clause-stands
returns-clause-stands c = λ z cause some. (stands_of z cause some, of_stands z cause some)
