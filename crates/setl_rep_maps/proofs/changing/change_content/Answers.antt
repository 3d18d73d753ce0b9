use Rattle.std.proofs.Common.{sym, ap, ◌∙◌}
use Rattle.setl_rep_forms.specs.FormOf.{form}
use Rattle.setl_rep_maps.specs.Contents.{content_of}
use Rattle.setl_rep_maps.proofs.Changes.{remote_formed}
use Rattle.setl_rep_maps.proofs.changing.change_content.Goals as goal

pub change_in_slots-answer-requires : goal.change_in_slots-answer-requires
change_in_slots-answer-requires g c = record {
  callable = λ h is.
      c.requires.callable h (ap (λ z. content_of (form z) c.args.block) (sym c.replace.ensures.value ∙ c.in-RemoteMap.is) ∙ remote_formed c.in-RemoteMap.base c.in-RemoteMap.many c.in-RemoteMap.slots c.args.block h is);
}
