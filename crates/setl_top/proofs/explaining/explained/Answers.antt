use Rattle.std.proofs.Common.{rules}
use Rattle.setl_top.proofs.ExplainedFiles.{is_explained}
use Rattle.setl_top.proofs.explaining.explained.Goals as goal

pub returns : goal.returns
returns c = is_explained c.args.source.now c.args.reason c.in_ok-text.text.items c.in_ok-told.told.items _ c.in_ok-told.ensures c.in_ok-text.ensures (search rules)
