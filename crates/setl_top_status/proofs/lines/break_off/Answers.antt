use Rattle.std.proofs.Common.{◌<◌, length}
use Rattle.setl_top_status.specs.Lines.{TriesLine}
use Rattle.setl_top_status.specs.Seen.{seen}
use Rattle.setl_top_status.proofs.Tried.{some_line, tried_by}
use Rattle.setl_top_status.proofs.lines.break_off.Goals as goal

pub returns-clause-tried : goal.returns-clause-tried
returns-clause-tried g c =
    let e = c.write_all.ensures in
    let line = c.line.result.now in
    let before = seen g.E.Sink.held g.E.Sink.pieces g.E.Sink.faults c.args.err.now in
    let after = seen g.E.Sink.held g.E.Sink.pieces g.E.Sink.faults c.write_all.new.sink in
    let some : 0 < length line = rw c.line.ensures (some_line c.args.fault) in
    let tried : TriesLine line before after = tried_by line before after (e.piece some) c.write_all.result e.whole e.part e.ok e.failed e.no_memory in
    (c.status.ensures, rw c.line.ensures at tried)
