use Rattle.std.proofs.Common.{◌∙◌, refl}
use Rattle.setl_names.proofs.Tables.{finds_more}
use Rattle.setl_names.proofs.procs.put_proc.Goals as goal

pub returns-clause-ok : goal.returns-clause-ok
returns-clause-ok c procs inv =
    finds_more c.args.table.now c.insert.new.self (λ r. (r.0, r.1.now)) c.args.at procs c.args.proc.now c.in_ok-name.name _ (c.in_ok-name.ensures.items ∙ c.bytes.ensures.value) refl c.in_ok-insert.ensures.entries inv
