use Rattle.std.proofs.Common.{refl}
use Rattle.setl_top.specs.code.Advises.{no_source}
use Rattle.setl_top.proofs.AdvisedFiles.{advised_then}
use Rattle.setl_top.proofs.Loading.{not_loaded_by}
use Rattle.setl_top.proofs.advising.advise_file.Goals as goal

pub returns-in-Err : goal.returns-in-Err
returns-in-Err g c = no_source c.in-Err.status (not_loaded_by _ _ _ _ _ _ c.in-Err.ensures.not_loaded) refl

pub returns-in-Ok : goal.returns-in-Ok
returns-in-Ok g c =
    let known = c.in-Ok.ensures in
    advised_then _ _ _ _ _ _ _ _ known.still c.in-Ok.source.items known.loaded _ (rw c.deref.ensures.value at c.advise_text.ensures)
