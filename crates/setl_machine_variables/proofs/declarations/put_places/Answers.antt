use Rattle.std.proofs.Common.{◌≡◌, ◌<◌, ◌+◌, ◌-◌, ◌∙◌, suc, map, drop, length, get_or, ap, sym, subst, arith, add-one}
use Rattle.setl_modes.specs.Modes.{mode_of}
use Rattle.setl_program.specs.code.Plain.{plain_declared}
use Rattle.setl_machine_variables.specs.Tables.{Finds}
use Rattle.setl_machine_variables.proofs.Finding.{finds_before}
use Rattle.setl_machine_variables.proofs.declarations.put_places.Goals as goal

pub loop-at-preserved : goal.loop-at-preserved
loop-at-preserved c =
    let ds = c.args.declared.now in
    let at = c.loop-at.at in
    let positive = c.loop-at-test.true in
    let within = c.loop-at.invariant.within in
    let up : (at - 1) + 1 ≡ at = omega arith in
    let below : at - 1 < length ds = omega arith in
    let next : at ≡ suc (at - 1) = sym up ∙ add-one (at - 1) in
    let d = get_or ds (at - 1) c.index-declared-at.result in
    let here : Finds (suc (at - 1)) (map plain_declared (drop at ds)) c.loop-at.globals c.loop-at.own = subst (λ n. Finds n (map plain_declared (drop at ds)) c.loop-at.globals c.loop-at.own) next c.loop-at.invariant.finds in
    record {
      within = omega arith;
      finds = finds_before c.put_place.new.globals c.put_place.new.own ds at (at - 1) d up below (ap (get_or ds (at - 1)) c.index-declared-at.is) (c.in_ok-put_place.ensures (map plain_declared (drop at ds)) (mode_of d.mode) here);
    }
