use Rattle.std.proofs.Common.{[]}
use Rattle.setl_model_runs.specs.Events.{Stuck}
use Rattle.setl_code.specs.CodeOf.{code_of}
use Rattle.setl_code_simulation.proofs.Meaning.{code_means_alike}
use Rattle.setl_code_simulation.proofs.every_run_ends.Goals as goal

pub returns-clause-ends : goal.returns-clause-ends
returns-clause-ends c p formed input turns based =
    let sound = c.code_of_programs_is_sound.ensures.sound p formed [] in
    let run = c.every_run_of_sound_code_ends.ensures.ends (code_of p) [] sound p.modes input turns based in
    record { out = run.out; end = run.end; means = (code_means_alike p formed input turns based run.out run.end).1 run.means }

pub returns-clause-not_stuck : goal.returns-clause-not_stuck
returns-clause-not_stuck c p formed input turns based out means =
    let sound = c.code_of_programs_is_sound.ensures.sound p formed [] in
    c.every_run_of_sound_code_ends.ensures.not_stuck (code_of p) [] sound p.modes input turns based out ((code_means_alike p formed input turns based out Stuck).0 means)
