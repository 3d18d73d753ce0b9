use Rattle.std.proofs.Common.{arith}
use Rattle.std.proofs.lemmas.List.{set_split}
use Rattle.setl_store_environment.proofs.stack.put.Goals as goal

pub returns-then-at-len-clause-put : goal.returns-then-at-len-clause-put
returns-then-at-len-clause-put g c = set_split c.args.items.now.items c.args.at c.args.value (omega arith)
