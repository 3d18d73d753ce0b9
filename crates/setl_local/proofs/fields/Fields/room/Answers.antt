use Rattle.std.proofs.Common.{◌∙◌, ap}
use Rattle.std.proofs.lemmas.Result.{on_ok_weaker}
use Rattle.setl_local.specs.Entries.{state_of}
use Rattle.setl_local.proofs.Outcomes.{on_both}
use Rattle.setl_local.proofs.States.{room_gained, room_there, bits_beside_room, contents_beside_room}
use Rattle.setl_local.proofs.fields.Fields.room.Goals as goal

pub returns-clause-ok : goal.returns-clause-ok
returns-clause-ok g c =
    on_ok_weaker c.make_room.result (λ gains. room_gained (c.args.obj, c.args.block) c.self.inside.by_place.entries _ _ gains c.self.view_is) c.make_room.ensures.ok

pub returns-clause-there : goal.returns-clause-there
returns-clause-there g c =
    on_ok_weaker c.make_room.result (λ gains. room_there (c.args.obj, c.args.block) c.self.inside.by_place.entries _ _ gains c.self.view_is) c.make_room.ensures.ok

pub returns-clause-bits : goal.returns-clause-bits
returns-clause-bits g c =
    on_both c.make_room.result (λ gains. bits_beside_room (c.args.obj, c.args.block) c.self.inside.by_place.entries _ _ gains c.self.view_is)
    (λ same. ap (λ entries. (state_of entries).bits) same ∙ ap (λ s. s.bits) c.self.view_is) c.make_room.ensures.ok c.make_room.ensures.err

pub returns-clause-contents : goal.returns-clause-contents
returns-clause-contents g c =
    on_both c.make_room.result (λ gains. contents_beside_room (c.args.obj, c.args.block) c.self.inside.by_place.entries _ _ gains c.self.view_is)
    (λ same. ap (λ entries. (state_of entries).contents) same ∙ ap (λ s. s.contents) c.self.view_is) c.make_room.ensures.ok c.make_room.ensures.err
