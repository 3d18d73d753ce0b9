use Rattle.std.proofs.Common.{refl}
use Rattle.setl_top.specs.code.Lists.{not_listed}
use Rattle.setl_top.proofs.Accepting.{is_accepted}
use Rattle.setl_top.proofs.Loading.{listed_then}
use Rattle.setl_top.proofs.listing.list_file.Goals as goal

pub returns-in-Err : goal.returns-in-Err
returns-in-Err g c = not_listed c.in-Err.status c.in-Err.ensures.not_loaded refl

pub write_listing-requires : goal.write_listing-requires
write_listing-requires g c =
    let l = c.in-Ok.ensures.loaded in
    record { modes = c.in-Ok.ensures.modes; accepted = is_accepted l.source c.in-Ok.source.tree l.is_program }

pub returns : goal.returns
returns g c = listed_then c.args.name.now _ _ _ _ c.in-Ok.ensures.still _ c.in-Ok.source.tree _ _ c.in-Ok.ensures.loaded c.write_listing.result c.write_listing.ensures
