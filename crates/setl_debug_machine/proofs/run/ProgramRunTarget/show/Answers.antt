use Rattle.std.proofs.Common.{◌≡◌, ◌++◌, Some, ap, subst, OnOk, rules}
use Rattle.setl_debug_target.specs.Screens.{Screen}
use Rattle.setl_debug_machine.specs.Runs.{RunState, run_of}
use Rattle.setl_debug_machine.specs.code.Walks.{AddsPart, run_by, stand_of}
use Rattle.setl_debug_machine.proofs.Adding.{adds_there, adds_apart}
use Rattle.setl_debug_machine.proofs.run.ProgramRunTarget.show.Goals as goal

pub returns-clause-ok : goal.returns-clause-ok
returns-clause-ok c =
    let r = c.args.self.now in
    let p = c.in-Some.place in
    let none = c.new-shown.result.items in
    let text = c.push_shown.new.into.items in
    let before = c.args.into.now.items in
    let after = c.extend_from_slice.new.self.items in
    let there : r.stand ≡ Some (record { turns = p.turns; line = p.line }) = cc (ap (λ (v : RunState). v.stand) c.self.view_is, ap stand_of c.in-Some.is) in
    let same : run_by c.self.inside.subject ≡ run_of r = cc (ap run_of c.self.view_is) in
    let more : OnOk c.extend_from_slice.result (after ≡ before ++ text) = search rules in
    adds_there c.extend_from_slice.result (run_of r) p.turns p.line r.stand (λ (s : Screen). s.shown) before after c.self.invariant.cut there
    (adds_apart c.extend_from_slice.result (run_of r) p.turns (λ (s : Screen). s.shown) none text before after c.new-shown.ensures.items
    (subst (λ x. AddsPart x p.turns (λ (s : Screen). s.shown) none text) same c.in_ok-push_shown.ensures.shown) more)
