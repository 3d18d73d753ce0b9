use Rattle.std.proofs.Common.{refl}
use Rattle.setl_top.specs.Headline.{untouched}
use Rattle.setl_top.proofs.Ends.{faulty_ends, check_ends, list_ends, build_ends, explain_ends, stop_ends}
use Rattle.setl_top.proofs.AdvisedFiles.{advise_ends}
use Rattle.setl_top.proofs.SessionEnds.{debug_ends, debug_takes}
use Rattle.setl_top.proofs.Asked.{turns_asked}
use Rattle.setl_top.proofs.Trying.{trial_ends}
use Rattle.setl_top.proofs.top.setl.Goals as goal

pub run_asked-requires : goal.run_asked-requires
run_asked-requires g c = turns_asked _ _ _ _ (rw c.in-Some-Run.field-0-is at c.in-Some-Run.ensures.plain)

pub run_trial-requires : goal.run_trial-requires
run_trial-requires g c =
    let s = rw c.in-Some-Trial.field-0-is at c.in-Some-Trial.ensures.plain in
    record { some = s.some_nodes; few = s.few_nodes }

pub returns-in-None-clause-headline : goal.returns-in-None-clause-headline
returns-in-None-clause-headline g c =
    let told = c.tell_faulty.ensures.told in
    faulty_ends _ _ _ told.0 c.in-None.ensures.faulty told.1 refl (record { input = refl; output = refl }) _ told.2

pub returns-in-Some-Run-clause-headline : goal.returns-in-Some-Run-clause-headline
returns-in-Some-Run-clause-headline g c = c.run_asked.ensures.headline _ (rw c.in-Some-Run.field-0-is at c.in-Some-Run.ensures.plain)

pub returns-in-Some-Check-clause-headline : goal.returns-in-Some-Check-clause-headline
returns-in-Some-Check-clause-headline g c =
    check_ends _ _ _ _ (rw c.in-Some-Check.field-0-is at c.in-Some-Check.ensures.plain) (record { input = refl; output = refl }) _ c.check_file.ensures

pub returns-in-Some-Code-clause-headline : goal.returns-in-Some-Code-clause-headline
returns-in-Some-Code-clause-headline g c =
    list_ends _ _ _ _ (rw c.in-Some-Code.field-0-is at c.in-Some-Code.ensures.plain) refl _ c.list_file.ensures

pub returns-in-Some-Build-clause-headline : goal.returns-in-Some-Build-clause-headline
returns-in-Some-Build-clause-headline g c =
    build_ends _ _ _ _ (rw c.in-Some-Build.field-0-is at c.in-Some-Build.ensures.plain) refl _ c.build_file.ensures

pub returns-in-Some-Advise-clause-headline : goal.returns-in-Some-Advise-clause-headline
returns-in-Some-Advise-clause-headline g c =
    advise_ends _ _ _ _ (rw c.in-Some-Advise.field-0-is at c.in-Some-Advise.ensures.plain) refl _ c.advise_file.ensures

pub returns-in-Some-Explain-clause-headline : goal.returns-in-Some-Explain-clause-headline
returns-in-Some-Explain-clause-headline g c =
    explain_ends _ _ _ _ (rw c.in-Some-Explain.field-0-is at c.in-Some-Explain.ensures.plain) refl _ c.explain_file.ensures

pub returns-in-Some-TellStop-clause-headline : goal.returns-in-Some-TellStop-clause-headline
returns-in-Some-TellStop-clause-headline g c =
    stop_ends c.one_command.ensures _ _ _ _ (rw c.in-Some-TellStop.field-0-is at c.in-Some-TellStop.ensures.plain) refl refl _ c.tell_stop.ensures

pub returns-in-Some-Debug-clause-headline : goal.returns-in-Some-Debug-clause-headline
returns-in-Some-Debug-clause-headline g c =
    debug_ends _ _ _ _ _ (rw c.in-Some-Debug.field-0-is at c.in-Some-Debug.ensures.plain) _ c.debug_file.ensures

pub returns-in-Some-Trial-clause-headline : goal.returns-in-Some-Trial-clause-headline
returns-in-Some-Trial-clause-headline g c =
    trial_ends c.one_command.ensures _ _ _ _ _ (rw c.in-Some-Trial.field-0-is at c.in-Some-Trial.ensures.plain) (record { files = refl; input = refl }) _ c.run_trial.ensures

pub returns-in-None-clause-input : goal.returns-in-None-clause-input
returns-in-None-clause-input g c = untouched refl

pub returns-in-Some-Run-clause-input : goal.returns-in-Some-Run-clause-input
returns-in-Some-Run-clause-input g c = c.run_asked.ensures.input _ (rw c.in-Some-Run.field-0-is at c.in-Some-Run.ensures.plain)

pub returns-in-Some-Check-clause-input : goal.returns-in-Some-Check-clause-input
returns-in-Some-Check-clause-input g c = untouched refl

pub returns-in-Some-Code-clause-input : goal.returns-in-Some-Code-clause-input
returns-in-Some-Code-clause-input g c = untouched refl

pub returns-in-Some-Build-clause-input : goal.returns-in-Some-Build-clause-input
returns-in-Some-Build-clause-input g c = untouched refl

pub returns-in-Some-Advise-clause-input : goal.returns-in-Some-Advise-clause-input
returns-in-Some-Advise-clause-input g c = untouched refl

pub returns-in-Some-Explain-clause-input : goal.returns-in-Some-Explain-clause-input
returns-in-Some-Explain-clause-input g c = untouched refl

pub returns-in-Some-TellStop-clause-input : goal.returns-in-Some-TellStop-clause-input
returns-in-Some-TellStop-clause-input g c = untouched refl

pub returns-in-Some-Debug-clause-input : goal.returns-in-Some-Debug-clause-input
returns-in-Some-Debug-clause-input g c =
    debug_takes _ _ _ _ _ (rw c.in-Some-Debug.field-0-is at c.in-Some-Debug.ensures.plain) _ c.debug_file.ensures

pub returns-in-Some-Trial-clause-input : goal.returns-in-Some-Trial-clause-input
returns-in-Some-Trial-clause-input g c = untouched refl
