use Rattle.std.proofs.Common.{◌∙◌, ℕ, List, ap}
use Rattle.std.specs.Borrow.{Bor}
use Rattle.indexmap.specs.IndexMap.{insert_entry}
use Rattle.setl_gen_emitter.specs.Slots.{own_key}
use Rattle.setl_gen_emitter.proofs.SlotTables.{added, is_same_key, own_law}
use Rattle.setl_gen_emitter.proofs.names.add.Goals as goal

pub returns-clause-slots : goal.returns-clause-slots
returns-clause-slots c =
    let put = rw c.unwrap.ensures at c.insert.ensures.entries in
    let key : ℕ × Bor (List ℕ) = (c.args.former, c.args.text) in
    λ body. added is_same_key (own_key body) (λ a b. own_law body a.0 b.0 a.1.now b.1.now) key c.args.slot c.args.slots.now.entries c.insert.new.self.entries (put ∙ ap (λ es. insert_entry is_same_key es key c.args.slot) c.reserve.ensures.entries)
