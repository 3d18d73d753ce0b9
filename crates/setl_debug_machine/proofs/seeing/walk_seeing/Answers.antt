use Rattle.setl_debug_machine.proofs.Seen.{Laws, all_seen}
use Rattle.setl_debug_machine.proofs.seeing.walk_seeing.Goals as goal

pub returns-clause-sees : goal.returns-clause-sees
returns-clause-sees c =
    let laws : Laws = record {
      ends = c.code_means_what_the_program_means.ensures.ends;
      last = c.code_ends_in_the_same_state.ensures.last;
      reach = c.fewer_turns_cut.ensures.reach;
      there = c.fewer_turns_cut.ensures.there;
      stop = c.fewer_turns_cut.ensures.ends;
      left = c.fewer_turns_cut.ensures.left;
      nothing = c.ends_change_nothing.ensures;
      body = c.slots_show_the_state.ensures.body;
    } in
    all_seen laws c.args.subject.now c.requires.ready c.args.turns c.walk_to.result c.requires.turns c.walk_to.ensures.walk c.walk_to.ensures.at_turns
