use Rattle.std.proofs.Common.{◌≡◌, Some, ap, subst, OnOk}
use Rattle.setl_debug_target.specs.Screens.{Screen}
use Rattle.setl_debug_machine.specs.Runs.{RunState, run_of}
use Rattle.setl_debug_machine.specs.code.Walks.{AddsPart, run_by, stand_of}
use Rattle.setl_debug_machine.proofs.Adding.{adds_there}
use Rattle.setl_debug_machine.proofs.run.ProgramRunTarget.output.Goals as goal

pub returns-clause-ok : goal.returns-clause-ok
returns-clause-ok c =
    let r = c.args.self.now in
    let p = c.in-Some.place in
    let before = c.args.into.now.items in
    let after = c.push_written.new.into.items in
    let there : r.stand ≡ Some (record { turns = p.turns; line = p.line }) = cc (ap (λ (v : RunState). v.stand) c.self.view_is, ap stand_of c.in-Some.is) in
    let same : run_by c.self.inside.subject ≡ run_of r = cc (ap run_of c.self.view_is) in
    adds_there c.push_written.result (run_of r) p.turns p.line r.stand (λ (s : Screen). s.written) before after c.self.invariant.cut there
    (subst (λ x. OnOk c.push_written.result (AddsPart x p.turns (λ (s : Screen). s.written) before after)) same c.push_written.ensures.ok)
