use Rattle.std.proofs.Common.{sym, subst}
use Rattle.setl_rep_tables.specs.Tables.{IsKeyed}
use Rattle.setl_rep_building.specs.Contents.{entries_in}
use Rattle.setl_rep_building.proofs.Entries.{sparse_keyed}
use Rattle.setl_rep_building.proofs.table.Table.learn.Goals as goal

pub returns-in-Sparse : goal.returns-in-Sparse
returns-in-Sparse c = subst (λ t. IsKeyed (entries_in t)) (sym c.in-Sparse.is) (sparse_keyed c.in-Sparse.entries c.learn.ensures)
