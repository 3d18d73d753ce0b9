-- The plain selectors that selectors stand for.
use Rattle.setl_value.specs.code.DatumOf.{part}
use Rattle.setl_model.specs.Core as core
use Rattle.setl_machine_updates.specs.declared.selectors.Selector.{Selector}
use Rattle.setl_machine_updates.specs.declared.selectors.Selector.TheVariants.{Round, Brace}

abbrev pub selected : Selector → core.Selected
selected (Round x) = core.Round (part x)
selected (Brace x) = core.Brace (part x)
