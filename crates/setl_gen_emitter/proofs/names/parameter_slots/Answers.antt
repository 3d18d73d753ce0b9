use Rattle.std.proofs.Common.{◌≡◌, ◌∙◌, ◌<◌, ℕ, List, length, map, take, ap, sym, subst, Some, arith}
use Rattle.std.proofs.lemmas.List.{take_all}
use Rattle.std.proofs.lemmas.Option.{slice_get-get_or}
use Rattle.std.specs.Prelude.{slice_get}
use Rattle.std.specs.Borrow.{Bor}
use Rattle.setl_tree.specs.declared.tree.Param.{Param}
use Rattle.setl_model_runs.specs.Variable as run
use Rattle.setl_gen_emitter.specs.Slots.{own_key, AreAll}
use Rattle.setl_gen_emitter.proofs.SlotTables.{added, is_same_key, own_law, parameter_next}
use Rattle.setl_gen_emitter.proofs.names.parameter_slots.Goals as goal

pub loop-k-preserved : goal.loop-k-preserved
loop-k-preserved c =
    let ps = c.args.parameters.now in
    let k = c.loop-k.k in
    let p = c.index-parameters-k.result in
    let below : k < length ps = c.loop-k-test.true in
    let there : slice_get ps k ≡ Some p = slice_get-get_or ps k p below ∙ ap Some (sym c.index-parameters-k.is) in
    let key : ℕ × Bor (List ℕ) = (0, c.bytes.result) in
    λ body. parameter_next body ps k c.in_ok-slot.slot p c.bytes.result.now c.loop-k.slots.entries c.insert.new.self.entries there c.in_ok-slot.ensures (c.bytes.ensures.value ∙ ap (λ (p : Param). p.name) (sym c.index-parameters-k.is)) (c.loop-k.invariant body)
    (added is_same_key (own_key body) (λ a b. own_law body a.0 b.0 a.1.now b.1.now) key c.in_ok-slot.slot c.loop-k.slots.entries c.insert.new.self.entries c.in_ok-insert.ensures.entries)

pub returns : goal.returns
returns c =
    let ps = c.args.parameters.now in
    let out = c.loop-k-test.false in
    let whole : take c.loop-k.k ps ≡ ps = take_all c.loop-k.k ps (omega arith) in
    λ body. record {
      slots = (c.loop-k.invariant body).0;
      all = subst (λ (qs : List Param). AreAll (own_key body) (map (λ p. run.Own body p.name) qs) c.loop-k.slots.entries) whole (c.loop-k.invariant body).1;
    }
