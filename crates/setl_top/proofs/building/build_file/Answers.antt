use Rattle.std.proofs.Common.{refl}
use Rattle.setl_top.specs.code.Builds.{not_built}
use Rattle.setl_top.proofs.Accepting.{is_accepted}
use Rattle.setl_top.proofs.Loading.{built_then}
use Rattle.setl_top.proofs.building.build_file.Goals as goal

pub returns-in-Err : goal.returns-in-Err
returns-in-Err g c = not_built c.in-Err.status c.in-Err.ensures.not_loaded refl

pub write_code_file-requires : goal.write_code_file-requires
write_code_file-requires g c =
    let l = c.in-Ok.ensures.loaded in
    record { modes = c.in-Ok.ensures.modes; accepted = is_accepted l.source c.in-Ok.source.tree l.is_program }

pub returns : goal.returns
returns g c = built_then c.args.name.now _ _ _ _ c.in-Ok.ensures.still _ c.in-Ok.source.tree _ _ c.in-Ok.ensures.loaded c.write_code_file.result c.write_code_file.ensures
