use Rattle.std.proofs.Common.{◌∙◌, ℕ, List, Ok, None, refl, ap, sym, subst, arith}
use Rattle.setl_code.specs.Machine.{machine}
use Rattle.setl_code.specs.Plain.{plain_code}
use Rattle.setl_model_runs.specs.Run.{run, step}
use Rattle.setl_store.specs.Standing.{Standing}
use Rattle.setl_machine_control.specs.Answers.{start}
use Rattle.setl_machine_control.specs.Control.{ControlState, stood_for}
use Rattle.setl_machine_control.specs.Declaring.{modes_of, tested, IsBare}
use Rattle.setl_machine_control.specs.declared.end.End.TheVariants.{Paused}
use Rattle.setl_machine.specs.Gaining.{HandGains, NextGains}
use Rattle.setl_machine.specs.Outcome.{Seen, seen, RanQuietly}
use Rattle.setl_machine.specs.Working.{StepsOrLeaves}
use Rattle.setl_machine.proofs.AtOnce.{ends_so, no_pause, quietly_on}
use Rattle.setl_machine.proofs.RunGains.{goes_more, ends_more}
use Rattle.setl_machine.proofs.Serving.{serves_quietly}
use Rattle.setl_machine.proofs.quiet.run_quietly.Goals as goal

-- nothing is seen of the outside
nowhere : Seen
nowhere = seen None 0 0

pub loop-done-preserved : goal.loop-done-preserved
loop-done-preserved c =
    let s = c.args.store.now in
    let l = c.loop-done in
    let n = c.one_quietly.new in
    let i = l.invariant in
    let modes = modes_of c.args.declarations.now in
    let did = subst (λ b. StepsOrLeaves modes l.store l.control n.store n.control (Ok b)) c.in-Ok-true.field-0-test c.in-Ok-true.ensures.did in
    record {
      ran = quietly_on modes (plain_code s.code) (plain_code l.store.code) l.done s.core l.store.core n.store.core c.args.control.now l.control n.control Paused (ap plain_code i.code) i.ran did.1;
      gained = λ rest.
          goes_more c.events_are.ensures modes (plain_code s.code) (plain_code l.store.code) l.done (stood_for s.core c.args.control.now rest) (stood_for l.store.core l.control rest) (stood_for n.store.core n.control rest) nowhere nowhere s.bases l.store.bases n.store.bases (ap plain_code i.code) (i.ran nowhere rest) (i.gained rest)
          (subst (λ b. HandGains modes (plain_code l.store.code) (stood_for l.store.core l.control rest) (stood_for n.store.core n.control rest) l.store.bases n.store.bases (Ok b)) c.in-Ok-true.field-0-test (c.in-Ok-true.ensures.gained rest rest)) (did.1 rest);
      code = did.0 ∙ i.code;
      reader = c.in-Ok-true.ensures.reader ∙ i.reader;
      within = omega arith;
    }

pub returns-in-Ok-false : goal.returns-in-Ok-false
returns-in-Ok-false c =
    let s = c.args.store.now in
    let l = c.loop-done in
    let n = c.one_quietly.new in
    let i = l.invariant in
    let modes = modes_of c.args.declarations.now in
    let from = c.args.control.now in
    let left = subst (λ b. StepsOrLeaves modes l.store l.control n.store n.control (Ok b)) c.in-Ok-false.field-0-test c.in-Ok-false.ensures.did in
    record {
      ran = subst (λ (k : ControlState). RanQuietly modes (plain_code s.code) l.done s.core from n.store.core k Paused) (sym left.1)
          (subst (λ (m : Standing). RanQuietly modes (plain_code s.code) l.done s.core from m.core l.control Paused) (sym left.0) i.ran);
      gained = λ rest. subst (λ (m : Standing). NextGains modes (run (machine (plain_code s.code)) (tested modes) l.done (start (stood_for s.core from rest))) s.bases m.bases Paused) (sym left.0) (i.gained rest);
      most = omega arith;
      code = λ e. ap (λ (m : Standing). m.code) left.0 ∙ i.code;
      reader = c.in-Ok-false.ensures.reader ∙ i.reader;
    }

pub returns-in-Err : goal.returns-in-Err
returns-in-Err c =
    let s = c.args.store.now in
    let l = c.loop-done in
    let n = c.one_quietly.new in
    let i = l.invariant in
    let modes = modes_of c.args.declarations.now in
    let by = λ (rest : List ℕ). step (machine (plain_code l.store.code)) (tested modes) (start (stood_for l.store.core l.control rest)) in
    let d = c.in-Err.ensures.did in
    record {
      ran = quietly_on modes (plain_code s.code) (plain_code l.store.code) l.done s.core l.store.core n.store.core c.args.control.now l.control n.control c.in-Err.end (ap plain_code i.code) i.ran (ends_so modes by l.store n.store l.control n.control c.in-Err.end d);
      gained = λ rest.
          ends_more c.ends_tell_nothing.ensures modes (plain_code s.code) (plain_code l.store.code) l.done (stood_for s.core c.args.control.now rest) (stood_for l.store.core l.control rest) (stood_for n.store.core n.control rest) nowhere nowhere s.bases l.store.bases n.store.bases c.in-Err.end
          c.requires.serves.main (subst (λ code. IsBare code) (sym (ap plain_code i.code)) c.requires.serves.bare) (no_pause modes by l.store n.store l.control n.control c.in-Err.end d) (ap plain_code i.code) (i.ran nowhere rest) (i.gained rest) (c.in-Err.ensures.gained rest rest)
          (ends_so modes by l.store n.store l.control n.control c.in-Err.end d rest);
      most = omega arith;
      code = λ e. absurd (no_pause modes by l.store n.store l.control n.control c.in-Err.end d e);
      reader = c.in-Err.ensures.reader ∙ i.reader;
    }

pub one_quietly-requires : goal.one_quietly-requires
one_quietly-requires c =
    let l = c.loop-done in
    record { serves = serves_quietly c.declared_variables_fit.ensures.runs c.args.declarations.now c.args.store.now l.store l.done c.args.control.now l.control Paused c.requires.serves l.invariant.code refl l.invariant.ran }
