-- Iterators at work, and what lies below them, in the flat lists. No public clause cites this module.
use Rattle.std.specs.Prelude.{◌≡◌, ◌<◌, List, [], ◌∷◌, length, drop, Option, Some, None}
use Rattle.setl_operators_table.specs.Outcome.{Fault, OmFault, DeepFault}
use Rattle.setl_operators_table.specs.declared.OpFault.{OpFault}
use Rattle.setl_operators_table.specs.declared.OpFault.TheVariants as fault
use Rattle.setl_store_iterator.specs.Items.{plain_item, is_pair}
use Rattle.setl_store_iterator.specs.declared.iterator.Item.{Item}
use Rattle.setl_store_iterator.specs.declared.iterator.Item.TheVariants as item
use Rattle.setl_store_operands.specs.declared.cells.Operand.{Operand}
use Rattle.setl_store_operands.specs.declared.cells.Operand.TheVariants as operand
use Rattle.setl_store.specs.Flat.{Here, with_operand}
use Rattle.setl_store_operands.specs.Operands.{operand_by}

-- an iterator with an item left
abbrev pub IsAtItem : Option Operand → Type 0
IsAtItem (Some (operand.Iterator i)) = 0 < length i.left
IsAtItem o = ⊥

-- the operand behind the first item of an iterator
abbrev pub advanced : Option Operand → Operand
advanced (Some (operand.Iterator i)) = operand.Iterator (record i { left = drop 1 i.left })
advanced (Some o) = o
advanced None = operand.Om

-- the first item of an iterator
abbrev pub IsFirst : Option Operand → Item → Type 0
IsFirst (Some (operand.Iterator i)) x = (i.left ≡ plain_item x ∷ drop 1 i.left) × (is_pair x ≡ i.pairs)
IsFirst o x = ⊥

-- with an item pushed: a member, or an image and on it its argument
abbrev pub with_item : Here → Item → Here
with_item e (item.One v) = with_operand e (operand_by v)
with_item e (item.Two x y) = with_operand (with_operand e (operand_by y)) (operand_by x)

-- ---- collections below iterators

abbrev pub AreIterators : List Operand → Type 0
AreIterators [] = Unit {0}
AreIterators (operand.Iterator i ∷ os) = AreIterators os
AreIterators (o ∷ os) = ⊥

-- this fault is why a collection refuses a value
abbrev pub Refuses : OpFault → Option Fault → Type 0
Refuses fault.Om why = why ≡ Some OmFault
Refuses fault.Deep why = why ≡ Some DeepFault
Refuses e why = ⊥
