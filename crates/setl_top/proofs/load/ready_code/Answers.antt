use Rattle.setl_top_images.specs.declared.images.Flaw.TheVariants.{TooLong}
use Rattle.setl_top.specs.code.Ready.{unread_so}
use Rattle.setl_top.proofs.Loading.{flawed_then, code_starved_then}
use Rattle.setl_top.proofs.load.ready_code.Goals as goal

pub returns-in-Ok-None-clause-not_ready : goal.returns-in-Ok-None-clause-not_ready
returns-in-Ok-None-clause-not_ready g c =
    let long = rw c.in-Ok-None.field-0-is at c.in-Ok-None.ensures.loaded in
    flawed_then _ _ _ _ _ c.in-Ok-None.ensures.still _ long.0 TooLong _ long.1 long.2 c.refuse_code.ensures

pub returns-in-Err-clause-not_ready : goal.returns-in-Err-clause-not_ready
returns-in-Err-clause-not_ready g c = unread_so c.in-Err.status c.in-Err.ensures.not_read

pub returns-in-Err-Flawed-clause-not_ready : goal.returns-in-Err-Flawed-clause-not_ready
returns-in-Err-Flawed-clause-not_ready g c =
    let loaded = rw c.in-Ok-Some.field-0-is at c.in-Ok-Some.ensures.loaded in
    let flawed = rw (c.in-Err-Flawed.field-0-is, c.deref.ensures.value) at c.in-Err-Flawed.ensures.flaw in
    flawed_then _ _ _ _ _ c.in-Ok-Some.ensures.still _ c.in-Ok-Some.bytes.items c.in-Err-Flawed.flaw _ loaded.text flawed (rw c.in-Err-Flawed.field-0-is at c.refuse_code-in-Err-Flawed.ensures)

pub returns-in-Err-NoMemory-clause-not_ready : goal.returns-in-Err-NoMemory-clause-not_ready
returns-in-Err-NoMemory-clause-not_ready g c = rw c.break_off.ensures.tried.0 (code_starved_then _ _ _ _ _ c.in-Ok-Some.ensures.still _ c.break_off.ensures.tried.1)

pub returns-clause-not_ready : goal.returns-clause-not_ready
returns-clause-not_ready g c = rw c.break_off-in-Err-ready_of_image.ensures.tried.0 (code_starved_then _ _ _ _ _ c.in-Ok-Some.ensures.still _ c.break_off-in-Err-ready_of_image.ensures.tried.1)
