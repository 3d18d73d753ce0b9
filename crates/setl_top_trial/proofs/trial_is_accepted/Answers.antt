use Rattle.std.proofs.Common.{refl}
use Rattle.setl_parse_cursor.specs.Plain.{plain_tokens}
use Rattle.setl_program.specs.ProgramOf.{program_of}
use Rattle.setl_top.specs.Accepted.{lexed}
use Rattle.setl_top.specs.Trials.{trial_source}
use Rattle.setl_top_trial.proofs.Reading.{is_spelled, is_short, is_read, trial_tokens}
use Rattle.setl_top_trial.proofs.Rules.{no_break}
use Rattle.setl_top_trial.proofs.TrialTree.{trial_tree}
use Rattle.setl_top_trial.proofs.trial_is_accepted.Goals as goal

pub returns : goal.returns
returns c = (
  program_of trial_tree,
  record {
    tree = trial_tree;
    is_program = record {
      parsed = record {
        short = is_short;
        tokens = trial_tokens;
        spelled = is_spelled c.piece_at_is_longest.ensures.longest;
        derived = c.reading_meets_grammar.ensures.sound 200 (plain_tokens (lexed trial_source trial_tokens)) trial_tree is_read;
      };
      sound = no_break;
    };
    meaning = refl;
  },
)
