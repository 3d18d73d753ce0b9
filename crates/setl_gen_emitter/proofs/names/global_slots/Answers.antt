use Rattle.std.proofs.Common.{◌≡◌, ◌∙◌, ◌<◌, ℕ, List, bytes_eq, length, map, refl, ap, sym, Some}
use Rattle.std.proofs.lemmas.Option.{slice_get-get_or}
use Rattle.std.specs.Prelude.{slice_get}
use Rattle.std.specs.Borrow.{Bor}
use Rattle.setl_model_runs.specs.Variable as run
use Rattle.setl_gen_emitter.specs.Slots.{global_key}
use Rattle.setl_gen_emitter.proofs.SlotTables.{added, get_mapped}
use Rattle.setl_gen_emitter.proofs.names.global_slots.Goals as goal

pub loop-k-preserved : goal.loop-k-preserved
loop-k-preserved c =
    let vars = c.args.vars.now in
    let k = c.loop-k.k in
    let v = c.index-vars-k.result in
    let slot = c.in_ok-slot.slot in
    let below : k < length vars = c.loop-k-test.true in
    let there : slice_get vars k ≡ Some v = slice_get-get_or vars k v below ∙ ap Some (sym c.index-vars-k.is) in
    let at : slice_get (map run.Global vars) slot ≡ Some (run.Global c.bytes.result.now) =
    ap (slice_get (map run.Global vars)) c.in_ok-slot.ensures ∙ get_mapped run.Global vars k v there ∙ ap (λ (x : List ℕ). Some (run.Global x)) (sym c.bytes.ensures.value) in
    (added (λ (a b : Bor (List ℕ)). bytes_eq a.now b.now) global_key (λ a b. refl) c.bytes.result slot c.loop-k.slots.entries c.insert.new.self.entries c.in_ok-insert.ensures.entries).slots (map run.Global vars) at c.loop-k.invariant
