use Rattle.std.proofs.Common.{◌∙◌, ap, sym, reverse, length, arith}
use Rattle.std.proofs.lemmas.List.{length-reverse}
use Rattle.setl_store_environment.specs.Undo.{parts}
use Rattle.setl_store_environment.proofs.Parts.{IsNoted, unkept_base}
use Rattle.setl_store_environment.proofs.Stamping.{operand_put, unnoted_low}
use Rattle.setl_store_environment.proofs.environment.Environment.replace_operand.Goals as goal
use Rattle.setl_store_environment.proofs.environment.Environment.replace_operand.Goals.{After-replace}

-- where nothing is kept, nothing is copied
pub returns-in_err-before-clause-unkept : goal.returns-in_err-before-clause-unkept
returns-in_err-before-clause-unkept g c unkept =
    let t = c.self.inside in
    absurd (omega (arith, unnoted_low c.args.at t.base.operands _ t.base.since (sym c.is_unnoted.ensures ∙ c.if-is_unnoted.true), ap (λ b. b.operands) (unkept_base (parts t.slots t.operands t.activations t.members t.fields) t.base (reverse t.bases.items) t.trail.items (reverse t.records.items) (ap (λ e. length e.kept) c.self.view_is ∙ unkept) (c.self.invariant.1 ∙ sym (length-reverse t.records.items)) c.self.invariant.0)))

-- the old one came later than what was kept, or is noted already
here : (g : _) (c : After-replace g) → IsNoted (parts c.self.inside.slots c.self.inside.operands c.self.inside.activations c.self.inside.members c.self.inside.fields) (parts c.self.inside.slots c.replace.new.self c.self.inside.activations c.self.inside.members c.self.inside.fields) c.self.inside.base c.self.inside.base (reverse c.self.inside.bases.items) c.self.inside.trail.items c.self.inside.trail.items (reverse c.self.inside.records.items)
here g c =
    let t = c.self.inside in
    operand_put t.clock (parts t.slots t.operands t.activations t.members t.fields) t.base c.args.at c.args.value (reverse t.bases.items) c.replace.new.self t.trail.items (reverse t.records.items) t.slot_stamps.items t.operand_stamps.items
    (sym c.is_unnoted.ensures ∙ c.if-is_unnoted.false) c.replace.ensures.set c.replace.ensures.room c.self.invariant.0 c.self.invariant.2

pub invariant_of-self : goal.invariant_of-self
invariant_of-self g c = ((here g c).undoable, c.self.invariant.1, c.self.invariant.2)

pub returns-else-is_unnoted-clause-kept : goal.returns-else-is_unnoted-clause-kept
returns-else-is_unnoted-clause-kept g c = (here g c).kept ∙ ap (λ e. e.kept) c.self.view_is
