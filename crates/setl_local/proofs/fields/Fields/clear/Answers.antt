use Rattle.std.proofs.Common.{◌∙◌, refl, sym}
use Rattle.setl_local.specs.Entries.{emptied}
use Rattle.setl_local.proofs.States.{read_content, bit_off, content_out, room_kept}
use Rattle.setl_local.proofs.fields.Fields.clear.Goals as goal

pub returns-clause-old : goal.returns-clause-old
returns-clause-old g c = c.empty.ensures.old ∙ sym (read_content (c.args.obj, c.args.block) c.self.inside.by_place.entries _ c.self.view_is _ refl)

pub returns-clause-bit : goal.returns-clause-bit
returns-clause-bit g c = bit_off emptied (c.args.obj, c.args.block) c.self.inside.by_place.entries _ _ c.empty.ensures.altered c.self.view_is (λ field. refl)

pub returns-clause-content : goal.returns-clause-content
returns-clause-content g c = content_out emptied (c.args.obj, c.args.block) c.self.inside.by_place.entries _ _ c.empty.ensures.altered c.self.view_is (λ field. refl)

pub returns-clause-room : goal.returns-clause-room
returns-clause-room g c = room_kept emptied (c.args.obj, c.args.block) c.self.inside.by_place.entries _ _ c.empty.ensures.altered c.self.view_is
