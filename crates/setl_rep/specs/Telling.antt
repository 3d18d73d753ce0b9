-- What an operator on forms tells of the operator's outcome.
use Rattle.std.specs.Prelude.{◌≡◌, Result, Ok, Err}
use Rattle.setl_operators_table.specs.declared.OpFault.{OpFault}
use Rattle.setl_operators_table.specs.declared.OpFault.TheVariants.{Kind, Om, Wide, Zero, Range, Deep, Spent, NoMemory}
use Rattle.setl_operators_table.specs.Outcome.{Outcome, Gives, Fails, Overspends, OmFault, KindFault, ZeroFault, RangeFault, WideFault, DeepFault}
use Rattle.setl_rep_bases.specs.Bases.{BasesState}
use Rattle.setl_rep.specs.declared.applied.Applied.{Applied}
use Rattle.setl_rep_plain.specs.Standing.{held_value}

-- what is held stands for the value, with its charge, a fault is told where it comes, and want of memory tells nothing
abbrev pub TellsHeld : BasesState → Result Applied OpFault → Outcome → Type 0
TellsHeld bs (Ok a) o = o ≡ Gives (held_value bs a.held) a.charged
TellsHeld bs (Err Kind) o = o ≡ Fails KindFault
TellsHeld bs (Err Om) o = o ≡ Fails OmFault
TellsHeld bs (Err Wide) o = o ≡ Fails WideFault
TellsHeld bs (Err Zero) o = o ≡ Fails ZeroFault
TellsHeld bs (Err Range) o = o ≡ Fails RangeFault
TellsHeld bs (Err Deep) o = o ≡ Fails DeepFault
TellsHeld bs (Err Spent) o = o ≡ Overspends
TellsHeld bs (Err NoMemory) o = Unit {0}
