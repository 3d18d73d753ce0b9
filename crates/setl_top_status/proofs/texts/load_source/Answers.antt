use Rattle.std.proofs.Common.{refl}
use Rattle.setl_top_status.specs.code.Loads.{too_long, not_read, no_room}
use Rattle.setl_top_status.proofs.Loading.{loaded_once, failed_once, loaded_at_most}
use Rattle.setl_top_status.proofs.texts.load_source.Goals as goal

pub returns-in-Loaded-clause-still : goal.returns-in-Loaded-clause-still
returns-in-Loaded-clause-still g c =
    let e = c.in-Loaded.ensures in
    record { load = loaded_once g.F.Files.texts g.F.Files.asked g.F.Files.faults c.args.name.now _ _ e.texts e.asked e.count; same = refl }

pub returns-in-TooLong-clause-not_loaded : goal.returns-in-TooLong-clause-not_loaded
returns-in-TooLong-clause-not_loaded g c =
    let e = c.in-TooLong.ensures in
    let text = e.text.0 in
    too_long text.0 _ text.1 text.2 (loaded_once g.F.Files.texts g.F.Files.asked g.F.Files.faults c.args.name.now _ _ e.texts e.asked e.count) c.refuse.ensures.told

pub returns-in-Failed-clause-not_loaded : goal.returns-in-Failed-clause-not_loaded
returns-in-Failed-clause-not_loaded g c =
    let e = c.in-Failed.ensures in
    rw c.break_off.ensures.tried.0 (not_read (failed_once g.F.Files.texts g.F.Files.asked g.F.Files.faults c.args.name.now _ _ e.texts e.asked e.count) c.break_off.ensures.tried.1)

pub returns-in-NoMemory-clause-not_loaded : goal.returns-in-NoMemory-clause-not_loaded
returns-in-NoMemory-clause-not_loaded g c =
    let e = c.in-NoMemory.ensures in
    rw c.break_off-in-NoMemory.ensures.tried.0 (no_room (loaded_at_most g.F.Files.texts g.F.Files.asked g.F.Files.faults c.args.name.now _ _ e.texts e.asked e.count) c.break_off-in-NoMemory.ensures.tried.1)
