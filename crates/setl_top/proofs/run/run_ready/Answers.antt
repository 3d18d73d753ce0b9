use Rattle.std.proofs.Common.{subst, sym}
use Rattle.setl_code.specs.Plain.{plain_code}
use Rattle.setl_machine_control.specs.Declaring.{AreOfMain}
use Rattle.setl_top_words.specs.code.Commands.{options_now}
use Rattle.setl_top.proofs.Declaring.{counted_of_main}
use Rattle.setl_top.proofs.Reaching.{CodeLaws}
use Rattle.setl_top.proofs.Readies.{stands_for}
use Rattle.setl_top.proofs.Running.{all_runs, all_takes, runs_by}
use Rattle.setl_top.proofs.run.run_ready.Goals as goal

pub run_code-requires : goal.run_code-requires
run_code-requires g c =
    let r = c.requires.is.0 in
    let is = c.requires.is.1 in
    record {
      may_run = is.may_run;
      bare = is.bare;
      main = subst AreOfMain (sym (c.counted.ensures r is.declared)) (counted_of_main (options_now c.args.asked) r (subst AreOfMain is.declared is.main));
      turns = c.requires.turns;
    }

pub returns-clause-ran : goal.returns-clause-ran
returns-clause-ran g c = λ r is.
    let laws : CodeLaws = record { ends = c.marked_code_means_what_the_program_means.ensures.ends; means = c.marked_code_means_what_the_program_means.ensures.means; last = c.marked_code_reaches_the_same_states.ensures.last; reached = c.marked_code_reaches_the_same_states.ensures.reached; reads = c.marked_code_reaches_the_same_states.ensures.reads; prints = c.marked_code_reaches_the_same_states.ensures.prints; not_stuck = c.every_run_ends.ensures.not_stuck; laid = c.code_lays_out_what_is_meant.ensures.marked } in
    let stands = stands_for laws c.accepted_is_formed.ensures.formed c.sound_images_run.ensures.not_stuck r c.args.ready.now is (options_now c.args.asked) in
    all_runs r (plain_code c.args.ready.now.code) c.ends_write_nothing.ensures (options_now c.args.asked) stands _ _ c.run_code.result (runs_by _ _ _ _ _ _ _ _ _ c.run_code.result is.bases (c.counted.ensures r is.declared) c.run_code.ensures.ran)

pub returns-clause-input : goal.returns-clause-input
returns-clause-input g c = λ r is.
    let laws : CodeLaws = record { ends = c.marked_code_means_what_the_program_means.ensures.ends; means = c.marked_code_means_what_the_program_means.ensures.means; last = c.marked_code_reaches_the_same_states.ensures.last; reached = c.marked_code_reaches_the_same_states.ensures.reached; reads = c.marked_code_reaches_the_same_states.ensures.reads; prints = c.marked_code_reaches_the_same_states.ensures.prints; not_stuck = c.every_run_ends.ensures.not_stuck; laid = c.code_lays_out_what_is_meant.ensures.marked } in
    let stands = stands_for laws c.accepted_is_formed.ensures.formed c.sound_images_run.ensures.not_stuck r c.args.ready.now is (options_now c.args.asked) in
    all_takes r (plain_code c.args.ready.now.code) c.ends_write_nothing.ensures (options_now c.args.asked) stands _ _ c.run_code.result (runs_by _ _ _ _ _ _ _ _ _ c.run_code.result is.bases (c.counted.ensures r is.declared) c.run_code.ensures.ran) c.run_code.ensures.input
