use Rattle.std.proofs.Common.{◌∙◌, ◌&&◌, ◌||◌, ap}
use Rattle.setl_modes.specs.Modes.{mode_of}
use Rattle.setl_modes_places.specs.Places.{names}
use Rattle.setl_rep_entering.specs.Entering.{is_named}
use Rattle.setl_rep_entering.specs.code.Growing.{is_marked}
use Rattle.setl_rep_entering.proofs.enter.base_marks.Goals as goal

pub returns : goal.returns
returns c = record {
  marks = c.in_ok-mark_bases.ensures.marks;
  all = λ i. c.in_ok-mark_bases.ensures.all i ∙ ap (λ l. is_marked i l || (is_named c.args.bases.now c.args.instance i && names i.base (mode_of c.args.mode.now))) c.new-marks.ensures.items;
}
