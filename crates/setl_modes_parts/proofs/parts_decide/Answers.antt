use Rattle.setl_modes_parts.proofs.Parts.{values_fit, images_fit}
use Rattle.setl_modes_parts.proofs.Puts.{puts_fit, set_puts_fit}
use Rattle.setl_modes_parts.proofs.Combined.{combined_fit, least_taken_fits, first_taken_fits, last_taken_fits}
use Rattle.setl_modes_parts.proofs.parts_decide.Goals as goal

pub returns : goal.returns
returns c = record {
  values = values_fit;
  images = images_fit;
  puts = puts_fit;
  set_puts = set_puts_fit c.operations_have_their_members.ensures.gather;
  combined = combined_fit;
  least = least_taken_fits;
  first = first_taken_fits;
  last = last_taken_fits;
}
