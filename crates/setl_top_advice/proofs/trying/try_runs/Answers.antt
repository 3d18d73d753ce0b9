use Rattle.std.proofs.Common.{subst, sym}
use Rattle.setl_program.specs.Formed.{Formed}
use Rattle.setl_advise_checked.specs.Checked.{RunsFit}
use Rattle.setl_top_advice.proofs.trying.try_runs.Goals as goal

pub returns-then-branch : goal.returns-then-branch
returns-then-branch c =
    let is = c.in_ok-program.ensures.program in
    (c.in_ok-program.ensures.sound, λ accepted. subst RunsFit is (c.in_ok-has_advised_modes.ensures c.if-branch.true (subst Formed (sym is) (c.accepted_is_formed.ensures.formed c.args.tree.now accepted))))
