use Rattle.std.proofs.Common.{◌∙◌, ℕ, List, bytes_eq, refl}
use Rattle.std.specs.Borrow.{Bor}
use Rattle.setl_gen_emitter.specs.Slots.{global_key}
use Rattle.setl_gen_emitter.proofs.SlotTables.{slot_if_some}
use Rattle.setl_gen_emitter.proofs.names.global_slot.Goals as goal

pub returns : goal.returns
returns c =
    slot_if_some (λ (a b : Bor (List ℕ)). bytes_eq a.now b.now) global_key (λ a b. refl) c.args.name c.args.slots.now.entries c.copied.result (c.copied.ensures ∙ c.get.ensures.value)
