use Rattle.setl_modes_declarations.proofs.Appends.{smap_unknown, mmap_unknown}
use Rattle.setl_modes_declarations.proofs.rules.+unknown.Goals as goal

pub unknown_in_core-returns-in-Smap : goal.unknown_in_core-returns-in-Smap
unknown_in_core-returns-in-Smap t c a =
    smap_unknown c.args.x.now c.in-Smap.domain c.in-Smap.range c.get-in-Smap.result.now c.get-in-Smap-2.result.now a c.args.first c.unknown-first.result c.unknown-in-Smap.result c.args.known.now
    c.in-Smap.is c.get-in-Smap.ensures c.get-in-Smap-2.ensures c.unknown-first.ensures c.unknown-in-Smap.ensures

pub unknown_in_core-returns-in-Mmap : goal.unknown_in_core-returns-in-Mmap
unknown_in_core-returns-in-Mmap t c a =
    mmap_unknown c.args.x.now c.in-Mmap.domain c.in-Mmap.images c.get-in-Mmap.result.now c.get-in-Mmap-2.result.now a c.args.first c.unknown-first-in-Mmap.result c.unknown-in-Mmap.result c.args.known.now
    c.in-Mmap.is c.get-in-Mmap.ensures c.get-in-Mmap-2.ensures c.unknown-first-in-Mmap.ensures c.unknown-in-Mmap.ensures
