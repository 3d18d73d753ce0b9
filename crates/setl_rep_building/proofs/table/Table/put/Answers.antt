use Rattle.std.proofs.Common.{sym, subst}
use Rattle.setl_rep_forms.specs.FormOf.{form}
use Rattle.setl_rep_building.specs.Contents.{entries_in, PutsEntry}
use Rattle.setl_rep_building.proofs.Entries.{remote_put, sparse_put, remote_entries, sparse_entries}
use Rattle.setl_rep_building.proofs.table.Table.put.Goals as goal

pub returns-in_ok-put-in-Remote-clause-put : goal.returns-in_ok-put-in-Remote-clause-put
returns-in_ok-put-in-Remote-clause-put c =
    subst (λ t. PutsEntry c.args.n (form c.args.content) (entries_in t) (remote_entries c.put.new.self)) (sym c.in-Remote.is)
    (remote_put c.slots_are_keyed.ensures _ c.put.new.self c.args.n c.args.content c.in_ok-put-in-Remote.ensures.ok)

pub returns-in_ok-put-in-Sparse-clause-put : goal.returns-in_ok-put-in-Sparse-clause-put
returns-in_ok-put-in-Sparse-clause-put c =
    subst (λ t. PutsEntry c.args.n (form c.args.content) (entries_in t) (sparse_entries c.put-in-Sparse.new.self)) (sym c.in-Sparse.is)
    (sparse_put _ c.put-in-Sparse.new.self c.args.n c.args.content c.in_ok-put-in-Sparse.ensures.ok)
