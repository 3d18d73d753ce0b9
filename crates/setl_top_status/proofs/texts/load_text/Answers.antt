use Rattle.std.proofs.Common.{refl}
use Rattle.setl_top_status.specs.code.Loads.{failed_read, starved_read}
use Rattle.setl_top_status.proofs.Loading.{loaded_once, failed_once, loaded_at_most}
use Rattle.setl_top_status.proofs.texts.load_text.Goals as goal

pub returns-in-Loaded-clause-still : goal.returns-in-Loaded-clause-still
returns-in-Loaded-clause-still g c =
    let e = c.in-Loaded.ensures in
    record { load = loaded_once g.F.Files.texts g.F.Files.asked g.F.Files.faults c.args.name.now _ _ e.texts e.asked e.count; same = refl }

pub returns-in-TooLong-clause-loaded : goal.returns-in-TooLong-clause-loaded
returns-in-TooLong-clause-loaded g c = c.in-TooLong.ensures.text.0

pub returns-in-TooLong-clause-still : goal.returns-in-TooLong-clause-still
returns-in-TooLong-clause-still g c =
    let e = c.in-TooLong.ensures in
    record { load = loaded_once g.F.Files.texts g.F.Files.asked g.F.Files.faults c.args.name.now _ _ e.texts e.asked e.count; same = refl }

pub returns-in-Failed-clause-not_read : goal.returns-in-Failed-clause-not_read
returns-in-Failed-clause-not_read g c =
    let e = c.in-Failed.ensures in
    rw c.break_off.ensures.tried.0 (failed_read (failed_once g.F.Files.texts g.F.Files.asked g.F.Files.faults c.args.name.now _ _ e.texts e.asked e.count) c.break_off.ensures.tried.1)

pub returns-in-NoMemory-clause-not_read : goal.returns-in-NoMemory-clause-not_read
returns-in-NoMemory-clause-not_read g c =
    let e = c.in-NoMemory.ensures in
    rw c.break_off-in-NoMemory.ensures.tried.0 (starved_read (loaded_at_most g.F.Files.texts g.F.Files.asked g.F.Files.faults c.args.name.now _ _ e.texts e.asked e.count) c.break_off-in-NoMemory.ensures.tried.1)
