use Rattle.std.proofs.Common.{[], refl}
use Rattle.setl_top.specs.code.Explains.{not_there}
use Rattle.setl_top.proofs.ExplainedFiles.{text_then, long_then}
use Rattle.setl_top.proofs.explaining.explain_file.Goals as goal

pub returns-in-Err : goal.returns-in-Err
returns-in-Err g c = not_there c.in-Err.ensures.not_read refl

pub returns-in-Ok-Some : goal.returns-in-Ok-Some
returns-in-Ok-Some g c =
    let known = c.in-Ok-Some.ensures in
    let found = rw c.in-Ok-Some.field-0-is at known.loaded in
    text_then _ _ _ _ _ _ _ _ known.still c.in-Ok-Some.source.items found _ (rw c.deref.ensures.value at c.explain_text.ensures)

pub returns-in-Ok-None : goal.returns-in-Ok-None
returns-in-Ok-None g c =
    let known = c.in-Ok-None.ensures in
    let found = rw c.in-Ok-None.field-0-is at known.loaded in
    long_then _ _ _ _ _ _ _ _ known.still [] found _ c.write_explanation.ensures
