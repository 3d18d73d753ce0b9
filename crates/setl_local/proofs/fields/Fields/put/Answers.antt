use Rattle.std.proofs.Common.{◌∙◌, refl, sym}
use Rattle.setl_local.specs.Entries.{filled}
use Rattle.setl_local.proofs.States.{read_content, content_in, bits_kept, room_kept}
use Rattle.setl_local.proofs.fields.Fields.put.Goals as goal

pub returns-clause-old : goal.returns-clause-old
returns-clause-old g c = c.fill.ensures.old ∙ sym (read_content (c.args.obj, c.args.block) c.self.inside.by_place.entries _ c.self.view_is _ refl)

pub returns-clause-content : goal.returns-clause-content
returns-clause-content g c = content_in (filled c.args.c) (c.args.obj, c.args.block) c.self.inside.by_place.entries _ _ c.fill.ensures.altered c.self.view_is c.args.c (λ field. refl) c.requires

pub returns-clause-bits : goal.returns-clause-bits
returns-clause-bits g c = bits_kept (filled c.args.c) (c.args.obj, c.args.block) c.self.inside.by_place.entries _ _ c.fill.ensures.altered c.self.view_is (λ field. refl)

pub returns-clause-room : goal.returns-clause-room
returns-clause-room g c = room_kept (filled c.args.c) (c.args.obj, c.args.block) c.self.inside.by_place.entries _ _ c.fill.ensures.altered c.self.view_is
