use Rattle.std.proofs.Common.{rules}
use Rattle.setl_top_words.proofs.Order.{always}
use Rattle.setl_top_words.proofs.Commands.{few_are_faulty, trial_is_faulty, spells_trial}
use Rattle.setl_top_words.proofs.reading.read_words.Goals as goal

pub returns-in_err-word-clause-faulty : goal.returns-in_err-word-clause-faulty
returns-in_err-word-clause-faulty c = always _ (few_are_faulty _ c.in_err-word.ensures.none)

pub returns-in_err-seed-clause-faulty : goal.returns-in_err-seed-clause-faulty
returns-in_err-seed-clause-faulty c =
    always _ (trial_is_faulty _ c.in_ok-word.word.now _ c.in_ok-word.name.now c.in_ok-word.ensures.parts (search rules) c.in_err-seed.ensures.none)

pub returns-then-is_trial-clause-plain : goal.returns-then-is_trial-clause-plain
returns-then-is_trial-clause-plain c =
    spells_trial _ c.in_ok-word.word.now _ c.in_ok-word.name.now _ _ c.in_ok-word.ensures.parts (search rules) c.in_ok-seed.ensures.read
