use Rattle.std.proofs.Common.{◌≡◌, ◌∙◌, ◌-◌, ◌<◌, suc, length, map, sym, ap, arith}
use Rattle.std.proofs.lemmas.List.{length-map}
use Rattle.setl_model_runs.specs.Variable.{Global, is_variable}
use Rattle.setl_store_layout.proofs.Finding.{finds_more}
use Rattle.setl_store_layout.proofs.Naming.{global_at}
use Rattle.setl_store_layout.proofs.places.global_places.Goals as goal

pub loop-at-preserved : goal.loop-at-preserved
loop-at-preserved c =
    let names = c.args.names.now in
    let at = c.loop-at.at in
    let next : at ≡ suc (at - 1) = omega (arith, c.loop-at-test.true) in
    let inside : at - 1 < length names = omega (arith, c.loop-at-test.true, c.loop-at.invariant.within) in
    let within : at - 1 < length (map Global names) = omega (arith, inside, length-map names Global) in
    record {
      within = omega (arith, c.loop-at.invariant.within);
      finds = finds_more Global (map Global names) (at - 1) at next within c.loop-at.table c.put_name.new.table c.index-names-at.result (λ x. ap (is_variable (Global x)) (global_at names (at - 1) c.index-names-at.result inside ∙ ap Global (sym c.index-names-at.is))) c.in_ok-put_name.ensures c.loop-at.invariant.finds;
    }
