use Rattle.std.proofs.Common.{◌≡◌, ◌∙◌, ap, subst, IfOk}
use Rattle.setl_names.specs.Names.{in_order}
use Rattle.setl_names.specs.Variables.{var_names}
use Rattle.setl_program_scope.proofs.scope.Scope.main.Goals as goal

pub returns : goal.returns
returns c =
    let vars : c.in_ok-vars-2.vars ≡ in_order (var_names c.as_slice.result.now) = c.in_ok-vars-2.ensures.held ∙ c.in_ok-vars.ensures in
    let procedures = subst (λ r. IfOk r (λ p. p ≡ c.as_slice-2.result.now)) c.in_ok-vars-2.ensures.other c.new.ensures in
    cc (vars ∙ ap (λ ds. in_order (var_names ds)) c.as_slice.ensures, procedures ∙ c.as_slice-2.ensures, c.new-2.ensures, c.new-3.ensures)
