use Rattle.setl_top_status.specs.code.Writes.{no_text}
use Rattle.std.proofs.Common.{refl}
use Rattle.setl_top.proofs.Marking.{some_listing}
use Rattle.setl_top.proofs.listing.write_listing.Goals as goal

pub returns-in_default : goal.returns-in_default
returns-in_default g c =
    let some = some_listing c.each_code_has_one_marked_code.ensures.there c.args.source.tree in
    record { text = some.0; is_listing = some.1; written = rw c.break_off.ensures.tried.0 (no_text refl c.break_off.ensures.tried.1) }

pub returns : goal.returns
returns g c = record { text = c.in-Ok.text.items; is_listing = c.in-Ok.ensures; written = rw c.deref.ensures.value at c.write_text.ensures }
