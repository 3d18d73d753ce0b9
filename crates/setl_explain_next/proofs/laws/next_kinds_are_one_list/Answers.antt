use Rattle.setl_explain_next.specs.Next.{GoesOn}
use Rattle.setl_explain_next.specs.Candidates.{candidates}
use Rattle.setl_explain_next.proofs.FirstLaws.{one_list}
use Rattle.setl_explain_next.proofs.laws.next_kinds_are_one_list.Goals as goal

pub returns : goal.returns
returns c source at one two a b = one_list (GoesOn source at) 10 candidates one two a b
