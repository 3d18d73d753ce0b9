use Rattle.std.proofs.Common.{refl}
use Rattle.setl_top.specs.code.Debugs.{not_debugged}
use Rattle.setl_top.proofs.Accepting.{is_accepted}
use Rattle.setl_top.proofs.Sessions.{no_script_then, debugged_then}
use Rattle.setl_top.proofs.debugging.debug_file.Goals as goal

pub returns-in-Err : goal.returns-in-Err
returns-in-Err g c = not_debugged c.in-Err.status c.in-Err.ensures.not_loaded refl refl

pub returns-in-Err-load_script : goal.returns-in-Err-load_script
returns-in-Err-load_script g c =
    no_script_then _ _ _ _ _ _ c.in-Ok.ensures.still c.in-Ok.source.tree c.in-Ok.ensures.loaded _ _ _ _ _ c.in-Err-load_script.status refl c.in-Err-load_script.ensures.none

pub follow_source-requires : goal.follow_source-requires
follow_source-requires g c =
    let l = c.in-Ok.ensures.loaded in
    record { modes = c.in-Ok.ensures.modes; accepted = is_accepted l.source c.in-Ok.source.tree l.is_program }

pub returns : goal.returns
returns g c =
    debugged_then _ _ _ _ _ _ c.in-Ok.ensures.still c.in-Ok.source.tree c.in-Ok.ensures.loaded _ _ _ _ _ c.in-Ok-load_script.script _ _ c.in-Ok-load_script.ensures.still c.in-Ok-load_script.ensures.script c.follow_source.ensures
