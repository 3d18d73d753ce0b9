use Rattle.setl_top_session.proofs.Refusals.{not_both, one_line}
use Rattle.setl_top_session.proofs.laws.script_or_refusal.Goals as goal

pub returns : goal.returns
returns c = record { not_both = not_both; one_line = one_line }
