use Rattle.std.proofs.Common.{◌≡◌, ◌≤◌, ◌+◌, ◌∷◌, suc, ap, drop, map, subst, sym, arith, drop-cons}
use Rattle.setl_machine_layout.specs.Claims.{AllNameWithin}
use Rattle.setl_modes.specs.Modes.{mode_of}
use Rattle.setl_program.specs.code.Plain.{plain_declared}
use Rattle.setl_top.proofs.Declaring.{within_more}
use Rattle.setl_top.proofs.run.bases_named.Goals as goal

pub loop-variable-preserved : goal.loop-variable-preserved
loop-variable-preserved c = λ top most rest.
    let all = c.args.declared.now in
    let at = c.loop-variable.variable-index in
    let item = c.variable-item.result in
    let is = c.variable-item.is in
    let cons = drop-cons all at item c.loop-variable-test.true in
    let step : at + 1 ≡ suc at = omega arith in
    let next : drop (at + 1) all ≡ drop (suc at) all = ap (λ n. drop n all) step in
    let here : drop at all ≡ item ∷ drop (suc at) all = cc in
    c.loop-variable.invariant top (omega (arith, most, c.greater-count.ensures.first)) (subst (λ ds. AllNameWithin top (map plain_declared ds)) (sym here) (
      within_more c.in_ok-bases_of.field-0 top (mode_of item.mode) (omega (arith, most, c.greater-count.ensures.second)) c.in_ok-bases_of.ensures,
      subst (λ ds. AllNameWithin top (map plain_declared ds)) next rest,
    ))
