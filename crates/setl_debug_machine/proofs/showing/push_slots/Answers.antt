use Rattle.std.proofs.Common.{◌≡◌, ◌∙◌, map, sym}
use Rattle.setl_program.specs.code.Plain.{plain_declared}
use Rattle.setl_machine_control.specs.Declaring.{modes_of}
use Rattle.setl_debug_machine.proofs.Shown.{Laws, nothing_taken, adds_all}
use Rattle.setl_debug_machine.proofs.showing.push_slots.Goals as goal

pub push_variables-requires : goal.push_variables-requires
push_variables-requires c =
    let laws : Laws = record {
      ends = c.code_means_what_the_program_means.ensures.ends;
      last = c.code_ends_in_the_same_state.ensures.last;
      there = c.slots_show_the_state.ensures.there;
      body = c.slots_show_the_state.ensures.body;
      shown = c.slots_show_the_state.ensures.shown;
    } in
    nothing_taken laws c.args.subject.now c.requires.ready c.args.turns c.args.ending c.args.store.now.core c.requires.ends

pub returns : goal.returns
returns c =
    let laws : Laws = record {
      ends = c.code_means_what_the_program_means.ensures.ends;
      last = c.code_ends_in_the_same_state.ensures.last;
      there = c.slots_show_the_state.ensures.there;
      body = c.slots_show_the_state.ensures.body;
      shown = c.slots_show_the_state.ensures.shown;
    } in
    let declared : map plain_declared c.counted-declared.result.now ≡ modes_of c.args.subject.now.declarations = c.counted-declared.ensures ∙ sym c.requires.ready.counted in
    adds_all laws c.args.subject.now c.requires.ready c.args.turns c.args.ending c.args.store.now.core c.requires.ends c.push_variables.result
    c.name_of_body-name.result.now c.args.into.now.items c.push_place.new.into.items c.push_variables.new.into.items
    (map plain_declared c.counted-declared.result.now) declared c.name_of_body-name.ensures c.in_ok-push_place.ensures c.push_variables.ensures
