use Rattle.setl_modes_declarations.proofs.Unknown.{in_smap, in_mmap, in_first, in_second}
use Rattle.setl_modes_declarations.proofs.breaking.+unknown_names.Goals as goal

pub unknown_in_core-returns-in-None : goal.unknown_in_core-returns-in-None
unknown_in_core-returns-in-None t c a =
    in_second c.args.line c.args.known.now c.in-Smap.domain c.in-Smap.range c.get-in-Smap.result.now c.get-in-None.result.now _ _ (in_smap c.args.line c.args.known.now c.args.x.now c.in-Smap.domain c.in-Smap.range a c.in-Smap.is)
    c.get-in-Smap.ensures c.get-in-None.ensures c.in-None.ensures c.unknown_at-in-None.ensures

pub unknown_in_core-returns-in-Some : goal.unknown_in_core-returns-in-Some
unknown_in_core-returns-in-Some t c a =
    in_first c.args.line c.args.known.now c.in-Smap.domain c.in-Smap.range c.get-in-Smap.result.now c.in-Some.found.now _ (in_smap c.args.line c.args.known.now c.args.x.now c.in-Smap.domain c.in-Smap.range a c.in-Smap.is)
    c.get-in-Smap.ensures c.in-Some.ensures

pub unknown_in_core-returns-in-None-unknown_at : goal.unknown_in_core-returns-in-None-unknown_at
unknown_in_core-returns-in-None-unknown_at t c a =
    in_second c.args.line c.args.known.now c.in-Mmap.domain c.in-Mmap.images c.get-in-Mmap.result.now c.get-in-None-unknown_at.result.now _ _ (in_mmap c.args.line c.args.known.now c.args.x.now c.in-Mmap.domain c.in-Mmap.images a c.in-Mmap.is)
    c.get-in-Mmap.ensures c.get-in-None-unknown_at.ensures c.in-None-unknown_at.ensures c.unknown_at-in-None-unknown_at.ensures

pub unknown_in_core-returns-in-Some-unknown_at : goal.unknown_in_core-returns-in-Some-unknown_at
unknown_in_core-returns-in-Some-unknown_at t c a =
    in_first c.args.line c.args.known.now c.in-Mmap.domain c.in-Mmap.images c.get-in-Mmap.result.now c.in-Some-unknown_at.found.now _ (in_mmap c.args.line c.args.known.now c.args.x.now c.in-Mmap.domain c.in-Mmap.images a c.in-Mmap.is)
    c.get-in-Mmap.ensures c.in-Some-unknown_at.ensures
