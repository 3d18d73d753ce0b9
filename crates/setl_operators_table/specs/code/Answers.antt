-- What a call of an operator tells of the operator's outcome.
use Rattle.std.specs.Prelude.{◌≡◌, ℕ, true, false, Result, Ok, Err, Some, None}
use Rattle.setl_value.specs.Datum.{Datum}
use Rattle.setl_value.specs.code.DatumOf.{part}
use Rattle.setl_operators_table.specs.declared.Taken.{Taken}
use Rattle.setl_operators_table.specs.Takes.{Takeout, TakesOut, IsEmpty, CannotTake}
use Rattle.setl_operators_table.specs.declared.Answer.{Answer}
use Rattle.setl_operators_table.specs.declared.OpFault.{OpFault}
use Rattle.setl_operators_table.specs.declared.OpFault.TheVariants.{Kind, Om, Wide, Zero, Range, Deep, Spent, NoMemory}
use Rattle.setl_operators_table.specs.Outcome.{Outcome, Gives, Fails, Overspends, OmFault, KindFault, ZeroFault, RangeFault, WideFault, DeepFault}

-- an answer has the value and the charge, a fault is told where it comes, and want of memory tells nothing
abbrev pub Tells : Result Answer OpFault → Outcome → Type 0
Tells (Ok a) o = o ≡ Gives (part a.value) a.charged
Tells (Err Kind) o = o ≡ Fails KindFault
Tells (Err Om) o = o ≡ Fails OmFault
Tells (Err Wide) o = o ≡ Fails WideFault
Tells (Err Zero) o = o ≡ Fails ZeroFault
Tells (Err Range) o = o ≡ Fails RangeFault
Tells (Err Deep) o = o ≡ Fails DeepFault
Tells (Err Spent) o = o ≡ Overspends
Tells (Err NoMemory) o = Unit {0}

-- the same of a change in place, which tells its charge: d is the value that stands there now
abbrev pub Changes : Result ℕ OpFault → Outcome → Datum → Type 0
Changes (Ok n) o d = o ≡ Gives (Some d) n
Changes (Err Kind) o d = o ≡ Fails KindFault
Changes (Err Om) o d = o ≡ Fails OmFault
Changes (Err Wide) o d = o ≡ Fails WideFault
Changes (Err Zero) o d = o ≡ Fails ZeroFault
Changes (Err Range) o d = o ≡ Fails RangeFault
Changes (Err Deep) o d = o ≡ Fails DeepFault
Changes (Err Spent) o d = o ≡ Overspends
Changes (Err NoMemory) o d = Unit {0}

-- the same of a call that takes a part out in place, where d is what is left
abbrev pub Takes : Result Taken OpFault → Takeout → Datum → Type 0
Takes (Ok t) (TakesOut left v) d = (t.stored ≡ true) × (part t.value ≡ v) × (d ≡ left)
Takes (Ok t) IsEmpty d = (t.stored ≡ false) × (t.value ≡ None)
Takes (Ok t) (CannotTake f) d = ⊥
Takes (Err Kind) o d = o ≡ CannotTake KindFault
Takes (Err NoMemory) o d = Unit {0}
Takes (Err e) o d = ⊥
