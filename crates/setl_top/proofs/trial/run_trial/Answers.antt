use Rattle.std.proofs.Common.{map, refl}
use Rattle.setl_modes.specs.Declarations.{bases_of}
use Rattle.setl_program.specs.ProgramOf.{program_of}
use Rattle.setl_top.specs.Trials.{trial_source}
use Rattle.setl_top.proofs.Accepting.{is_accepted}
use Rattle.setl_top.specs.code.Tries.{trial_refused, trial_starved}
use Rattle.setl_top.proofs.trial.run_trial.Goals as goal

pub returns-in-Err-Refused : goal.returns-in-Err-Refused
returns-in-Err-Refused g c =
    let why = rw c.trial_source.ensures.source at (rw c.in-Err-Refused.field-0-is at c.in-Err-Refused.ensures.why) in
    trial_refused c.in-Err-Refused.reason _ why refl c.refuse.ensures.told

pub returns-in-Err-NoMemory : goal.returns-in-Err-NoMemory
returns-in-Err-NoMemory g c = rw c.break_off.ensures.tried.0 (trial_starved refl c.break_off.ensures.tried.1)

pub ready_of_source-requires : goal.ready_of_source-requires
ready_of_source-requires g c =
    let checked = rw c.trial_source.ensures.source at c.in-Ok.ensures.read in
    record { modes = checked.modes; accepted = is_accepted trial_source c.in-Ok.source.tree checked.is_program }

pub try_program-requires : goal.try_program-requires
try_program-requires g c =
    let checked = rw c.trial_source.ensures.source at c.in-Ok.ensures.read in
    record {
      trial = record {
        program = program_of c.in-Ok.source.tree;
        bases = map (λ b. b.0) (bases_of c.in-Ok.source.tree.modes);
        accepted = record { tree = c.in-Ok.source.tree; is_program = checked.is_program; meaning = refl };
        is_ready = c.in-Ok-ready_of_source.ensures;
      };
      some = c.requires.some;
      few = c.requires.few;
    }

pub returns-in-Err : goal.returns-in-Err
returns-in-Err g c = rw c.break_off-in-Err.ensures.tried.0 (trial_starved refl c.break_off-in-Err.ensures.tried.1)
