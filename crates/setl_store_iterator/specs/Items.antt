-- What an item stands for.
use Rattle.std.specs.Prelude.{Bool, true, false}
use Rattle.setl_value.specs.code.DatumOf.{part}
use Rattle.setl_model.specs.Core as core
use Rattle.setl_store_iterator.specs.declared.iterator.Item.{Item}
use Rattle.setl_store_iterator.specs.declared.iterator.Item.TheVariants.{One, Two}

abbrev pub plain_item : Item → core.Item
plain_item (One v) = core.One (part v)
plain_item (Two x y) = core.Two (part x) (part y)

-- whether it is an argument with its image
abbrev pub is_pair : Item → Bool
is_pair (One v) = false
is_pair (Two x y) = true
