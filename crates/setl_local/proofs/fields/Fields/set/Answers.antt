use Rattle.std.proofs.Common.{refl}
use Rattle.setl_local.specs.Entries.{turned_on}
use Rattle.setl_local.proofs.States.{bit_on, contents_kept, room_kept}
use Rattle.setl_local.proofs.fields.Fields.set.Goals as goal

pub returns-clause-bit : goal.returns-clause-bit
returns-clause-bit g c = bit_on turned_on (c.args.obj, c.args.block) c.self.inside.by_place.entries _ _ c.turn_on.ensures c.self.view_is (λ field. refl) c.requires

pub returns-clause-contents : goal.returns-clause-contents
returns-clause-contents g c = contents_kept turned_on (c.args.obj, c.args.block) c.self.inside.by_place.entries _ _ c.turn_on.ensures c.self.view_is (λ field. refl)

pub returns-clause-room : goal.returns-clause-room
returns-clause-room g c = room_kept turned_on (c.args.obj, c.args.block) c.self.inside.by_place.entries _ _ c.turn_on.ensures c.self.view_is
