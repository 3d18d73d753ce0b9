use Rattle.std.proofs.Common.{refl}
use Rattle.setl_model_runs.specs.Events.{Stopped, Unfit}
use Rattle.setl_program.specs.ProgramOf.{program_of}
use Rattle.setl_top.proofs.laws.advised_sources_fit.Goals as goal

pub returns : goal.returns
returns c source tree text a short =
    let f = a.fits short in (
      program_of f.tree,
      record {
        tree = f.tree;
        is_program = record { parsed = record { short = f.short; tokens = f.tokens; spelled = f.spelled; derived = f.derived }; sound = f.sound };
        meaning = refl;
      },
      λ input turns out variable line m. f.fits input turns m.steps (Stopped (Unfit variable) line) m.last m.ends,
    )
