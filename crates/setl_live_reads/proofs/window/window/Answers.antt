use Rattle.std.proofs.Common.{length, get_or, arith}
use Rattle.setl_live_reads.proofs.Windows.{apart_whole, apart_empty, apart_window, covers_whole, covers_empty, covers_window, latest_empty, latest_window, item_read}
use Rattle.setl_live_reads.proofs.window.window.Goals as goal

pub returns-then-handed-ne0-clause-covers : goal.returns-then-handed-ne0-clause-covers
returns-then-handed-ne0-clause-covers c back known = covers_whole c.args.nodes.now c.args.blocks.now.firsts.items c.args.blocks.now.blocks.items c.args.blocks.now.lasts.items c.requires.blocks c.args.row c.len-count.result (omega (arith, c.len-count.ensures)) back

pub returns-then-handed-ne0-clause-apart : goal.returns-then-handed-ne0-clause-apart
returns-then-handed-ne0-clause-apart c = apart_whole c.args.blocks.now.lasts.items c.len-count.result (omega (arith, c.len-count.ensures, c.requires.blocks.count))

pub returns-then-last-count-clause-covers : goal.returns-then-last-count-clause-covers
returns-then-last-count-clause-covers c back known = covers_whole c.args.nodes.now c.args.blocks.now.firsts.items c.args.blocks.now.blocks.items c.args.blocks.now.lasts.items c.requires.blocks c.args.row c.len-count.result (omega (arith, c.len-count.ensures)) back

pub returns-then-last-count-clause-apart : goal.returns-then-last-count-clause-apart
returns-then-last-count-clause-apart c = apart_whole c.args.blocks.now.lasts.items c.len-count.result (omega (arith, c.len-count.ensures, c.requires.blocks.count))

pub returns-in-None-clause-covers : goal.returns-in-None-clause-covers
returns-in-None-clause-covers c back known = covers_whole c.args.nodes.now c.args.blocks.now.firsts.items c.args.blocks.now.blocks.items c.args.blocks.now.lasts.items c.requires.blocks c.args.row c.len-count.result (omega (arith, c.len-count.ensures)) back

pub returns-in-None-clause-apart : goal.returns-in-None-clause-apart
returns-in-None-clause-apart c = apart_whole c.args.blocks.now.lasts.items c.len-count.result (omega (arith, c.len-count.ensures, c.requires.blocks.count))

pub returns-then-first-last-clause-latest : goal.returns-then-first-last-clause-latest
returns-then-first-last-clause-latest c =
    latest_empty c.args.nodes.now c.args.blocks.now.firsts.items c.args.blocks.now.blocks.items c.args.blocks.now.lasts.items c.requires.blocks c.args.row (length c.args.spans.now.first.items) c.requires.row c.args.spans.now.first.items c.args.spans.now.last.items c.requires.spanned
    (omega (arith, c.if-first-last.true, item_read c.args.spans.now.first.items c.args.row c.index.result.now c.requires.row c.index.ensures, item_read c.args.spans.now.last.items c.args.row c.index-2.result.now (omega (arith, c.requires.row, c.requires.spans)) c.index-2.ensures))

pub returns-then-first-last-clause-covers : goal.returns-then-first-last-clause-covers
returns-then-first-last-clause-covers c back known =
    covers_empty c.args.nodes.now c.args.blocks.now.firsts.items c.args.blocks.now.blocks.items c.args.blocks.now.lasts.items c.requires.blocks c.args.row (length c.args.spans.now.first.items) c.requires.row c.args.spans.now.first.items c.args.spans.now.last.items c.requires.spanned back c.args.handed c.if-handed-ne0.false known
    (omega (arith, c.if-first-last.true, item_read c.args.spans.now.first.items c.args.row c.index.result.now c.requires.row c.index.ensures, item_read c.args.spans.now.last.items c.args.row c.index-2.result.now (omega (arith, c.requires.row, c.requires.spans)) c.index-2.ensures))
    (get_or c.args.blocks.now.firsts.items 0 (length c.args.nodes.now)) (get_or c.args.blocks.now.firsts.items 0 (length c.args.nodes.now))

pub returns-then-first-last-clause-apart : goal.returns-then-first-last-clause-apart
returns-then-first-last-clause-apart c = apart_empty c.args.blocks.now.lasts.items

pub returns-in-Some-clause-latest : goal.returns-in-Some-clause-latest
returns-in-Some-clause-latest c =
    let w = c.closed_window.ensures c.in-Some.found c.in-Some.is in
    latest_window c.args.nodes.now c.args.blocks.now.firsts.items c.args.blocks.now.blocks.items c.args.blocks.now.lasts.items c.requires.blocks c.args.row (length c.args.spans.now.first.items) c.requires.row c.args.spans.now.first.items c.args.spans.now.last.items c.requires.spanned
    c.in-Some.found.1 (omega (arith, w.1, item_read c.args.spans.now.last.items c.args.row c.index-2.result.now (omega (arith, c.requires.row, c.requires.spans)) c.index-2.ensures)) (omega (arith, w.2, c.len-count.ensures))

pub returns-in-Some-clause-covers : goal.returns-in-Some-clause-covers
returns-in-Some-clause-covers c back known =
    let w = c.closed_window.ensures c.in-Some.found c.in-Some.is in
    covers_window c.args.nodes.now c.args.blocks.now.firsts.items c.args.blocks.now.blocks.items c.args.blocks.now.lasts.items c.requires.blocks c.args.row (length c.args.spans.now.first.items) c.requires.row c.args.spans.now.first.items c.args.spans.now.last.items c.requires.spanned back c.args.handed c.if-handed-ne0.false known
    c.in-Some.found.0 c.in-Some.found.1 (omega (arith, w.0, item_read c.args.spans.now.first.items c.args.row c.index.result.now c.requires.row c.index.ensures)) (omega (arith, w.1, item_read c.args.spans.now.last.items c.args.row c.index-2.result.now (omega (arith, c.requires.row, c.requires.spans)) c.index-2.ensures))

pub returns-in-Some-clause-apart : goal.returns-in-Some-clause-apart
returns-in-Some-clause-apart c =
    let w = c.closed_window.ensures c.in-Some.found c.in-Some.is in
    apart_window c.args.blocks.now.lasts.items c.args.sources.now.first.items c.args.sources.now.last.items c.requires.sourced c.in-Some.found.0 c.in-Some.found.1 (omega (arith, w.2, c.requires.blocks.count, c.len-count.ensures)) w.3
