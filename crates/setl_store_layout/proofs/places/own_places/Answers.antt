use Rattle.std.proofs.Common.{◌≡◌, ◌-◌, ◌<◌, suc, length, ap, arith}
use Rattle.setl_code.specs.Plain.{own_variables}
use Rattle.setl_model_runs.specs.Variable.{Own, is_variable}
use Rattle.setl_store_layout.proofs.Finding.{finds_less, finds_more}
use Rattle.setl_store_layout.proofs.Naming.{own_count}
use Rattle.setl_store_layout.proofs.places.own_places.Goals as goal

pub loop-at-preserved-in-Continue-1 : goal.loop-at-preserved-in-Continue-1
loop-at-preserved-in-Continue-1 c =
    let xs = own_variables 0 c.args.parameters.now c.args.names.now in
    let at = c.loop-at.at in
    let next : at ≡ suc (at - 1) = omega (arith, c.loop-at-test.true) in
    let within : at - 1 < length xs = omega (arith, c.loop-at-test.true, c.loop-at.invariant.within, own_count c.args.parameters.now c.args.names.now) in
    record {
      within = omega (arith, c.loop-at.invariant.within);
      finds = finds_more (Own 0) xs (at - 1) at next within c.loop-at.table c.put_name.new.table c.in-Some-own_name.name.now (λ x. ap (is_variable (Own 0 x)) c.in-Some-own_name.ensures.some) c.in_ok-put_name.ensures c.loop-at.invariant.finds;
    }

pub loop-at-preserved : goal.loop-at-preserved
loop-at-preserved c =
    let xs = own_variables 0 c.args.parameters.now c.args.names.now in
    let at = c.loop-at.at in
    let next : at ≡ suc (at - 1) = omega (arith, c.loop-at-test.true) in
    let within : at - 1 < length xs = omega (arith, c.loop-at-test.true, c.loop-at.invariant.within, own_count c.args.parameters.now c.args.names.now) in
    record {
      within = omega (arith, c.loop-at.invariant.within);
      finds = finds_less (Own 0) xs (at - 1) at next within c.loop-at.table c.in_default-own_name.ensures.none c.loop-at.invariant.finds;
    }
