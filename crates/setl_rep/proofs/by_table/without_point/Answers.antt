use Rattle.std.proofs.Common.{is_some}
use Rattle.std.proofs.lemmas.Bool.{and_parts}
use Rattle.setl_rep_forms.specs.FormOf.{form}
use Rattle.setl_rep_kernels.specs.Kernels.{is_single}
use Rattle.setl_rep_maps.specs.Contents.{table_of}
use Rattle.setl_rep.proofs.ByTable.{is_less}
use Rattle.setl_rep.proofs.by_table.without_point.Goals as goal

pub returns-clause-less : goal.returns-clause-less
returns-clause-less c =
    is_less c.args.bases.now (form c.args.f) (form c.args.x.now) (form c.in_ok-held.held) (and_parts (is_single (form c.args.x.now)) (is_some (table_of (form c.args.f))) c.requires.table).0 c.requires.point c.in_ok-held.ensures
