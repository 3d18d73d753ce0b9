-- What is dropped without work. No public clause cites this module.
use Rattle.std.specs.Prelude.{Bool, true, false}
use Rattle.setl_value.specs.declared.Value.TheVariants.{Int, Bool as Truth}
use Rattle.setl_store_operands.specs.declared.cells.Operand.{Operand}
use Rattle.setl_store_operands.specs.declared.cells.Operand.TheVariants as operand
use Rattle.setl_store_slots.specs.declared.cells.Held.{Held}
use Rattle.setl_store_slots.specs.declared.cells.Held.TheVariants as slot

-- `om`, an integer or a truth value
abbrev pub is_small : Operand → Bool
is_small operand.Om = true
is_small (operand.Value (Int z)) = true
is_small (operand.Value (Truth t)) = true
is_small o = false

-- the same, or nothing
abbrev pub is_small_held : Held → Bool
is_small_held slot.Om = true
is_small_held slot.Taken = true
is_small_held (slot.Value (Int z)) = true
is_small_held (slot.Value (Truth t)) = true
is_small_held h = false
