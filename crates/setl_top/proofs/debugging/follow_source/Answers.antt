use Rattle.std.proofs.Common.{subst, sym}
use Rattle.setl_machine_control.specs.Declaring.{AreOfMain}
use Rattle.setl_program.specs.Formed.{Formed}
use Rattle.setl_program.specs.Placed.{Placed}
use Rattle.setl_program.specs.Program.{Program}
use Rattle.setl_program.specs.ProgramOf.{program_of}
use Rattle.setl_program.specs.code.Plain.{plain_program}
use Rattle.setl_top.proofs.Declaring.{modes_of_main}
use Rattle.setl_top.proofs.Sessions.{bare_code, starved_first, over_tree}
use Rattle.setl_top.proofs.debugging.follow_source.Goals as goal

pub returns-in_default : goal.returns-in_default
returns-in_default g c = rw c.break_off.ensures.tried.0 (starved_first _ _ _ _ c.break_off.ensures.tried.1)

pub returns-in_default-bases_named : goal.returns-in_default-bases_named
returns-in_default-bases_named g c = rw c.break_off-in_default-bases_named.ensures.tried.0 (starved_first _ _ _ _ c.break_off-in_default-bases_named.ensures.tried.1)

pub follow-requires : goal.follow-requires
follow-requires g c =
    let tree = c.args.source.tree in
    let p = plain_program c.in-Ok.coded.program in
    let is = c.in-Ok.ensures in
    let laws = c.accepted_is_formed.ensures in
    record {
      may_run = c.code_may_run.ensures.may_run p c.in-Ok.coded.code (subst Placed (sym is.program) (laws.placed tree c.requires.accepted)) is.code;
      bare = bare_code p _ is.code;
      main = modes_of_main p (record { tree = tree; accepted = c.requires.accepted; meaning = is.program });
      formed = subst Formed (sym is.program) (laws.formed tree c.requires.accepted);
      code = is.code;
    }

pub returns : goal.returns
returns g c = over_tree _ c.args.source.tree _ _ _ _ _ _ _ c.in-Ok.ensures.program c.follow.ensures
