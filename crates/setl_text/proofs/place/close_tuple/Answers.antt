use Rattle.std.proofs.Common.{arith, ap, map}
use Rattle.setl_value.specs.Datum.{parts_depth, parts_of}
use Rattle.setl_value.specs.code.DatumOf.{part}
use Rattle.setl_text.specs.Bytes.{Square}
use Rattle.setl_text.specs.code.Scans.{open_of}
use Rattle.setl_text.proofs.Shallow.{closed_bound, depth_trim}
use Rattle.setl_text.proofs.place.close_tuple.Goals as goal

pub take_through-requires-clause-fits : goal.take_through-requires-clause-fits
take_through-requires-clause-fits c =
    let a = c.in-Some-InTuple in
    omega (arith, closed_bound c.args.opened.now.items c.pop.new.self.items a.field-0 Square _ a.ensures.items (ap open_of a.field-0-is) c.requires.shallow, depth_trim (map part a.ps.items), ap (λ ps. parts_depth (parts_of ps)) c.in_ok-tuple-in-Some-InTuple.ensures.trimmed)
