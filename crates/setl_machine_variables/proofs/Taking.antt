-- Whether an update that takes something out stores, and goes on.
use Rattle.std.proofs.Common.{◌≡◌, ℕ, ◌-◌, true, false, List, Option, Ok}
use Rattle.std.specs.Prelude.{cond}
use Rattle.setl_value.specs.Datum.{Datum}
use Rattle.setl_operators_table.specs.declared.OpFault.{OpFault}
use Rattle.setl_operators_table.specs.declared.OpFault.TheVariants as fault
use Rattle.setl_operators_table.specs.Outcome.{Outcome, Gives, Fails, Overspends}
use Rattle.setl_model.specs.Core.{Selected}
use Rattle.setl_model.specs.Places.{Taken, TakesOut, IsEmpty, CannotTake, part_at_all, take_out}
use Rattle.setl_program.specs.declared.kinds.Taking.{Taking}
use Rattle.setl_code.specs.Code.{TakingOut}
use Rattle.setl_code_events.specs.Told.{takes_none, none_taken}
use Rattle.setl_machine_updates.specs.Takes.{TakesPart, TakesFrom, Takes}
use Rattle.setl_machine_updates.specs.declared.taking.TakenOut.{TakenOut}
use Rattle.setl_machine_variables.specs.Altered.{stores_new}
use Rattle.setl_machine_control.specs.Working.{EndsBy}
use Rattle.setl_machine_control.specs.declared.end.End.{End}
use Rattle.setl_machine_control.specs.declared.end.End.TheVariants.{Paused}

took_part : (t : Taken) (at : List Selected) (w w' : Option Datum) (turns : ℕ) (o : TakenOut) → TakesPart t at w turns w' (Ok o) → o.stored ≡ cond (takes_none t) false true
took_part (TakesOut small v) at w w' turns o h = h.0
took_part IsEmpty at w w' turns o h = h.0
took_part (CannotTake fault) at w w' turns o h = absurd h

-- whether something was taken out
pub took_stores : (t : Taking) (at : List Selected) (w w' : Option Datum) (turns : ℕ) (o : TakenOut) → Takes t at w turns w' (Ok o) → o.stored ≡ stores_new (TakingOut t) w at turns
took_stores t at w w' turns o h = go (part_at_all at w turns) h
  where
    go : (p : Outcome) → TakesFrom p t at w turns w' (Ok o) → o.stored ≡ cond (none_taken t p) false true
    go (Gives p n) h = took_part (take_out t p) at w w' (turns - n) o h
    go (Fails f) h = absurd h
    go Overspends h = absurd h

-- a fault doesn't go on
pub no_pause : (f : OpFault) (line : ℕ) (e : End) → EndsBy f line e → e ≡ Paused → ⊥
no_pause fault.Kind line e h p = absurd (cc)
no_pause fault.Om line e h p = absurd (cc)
no_pause fault.Wide line e h p = absurd (cc)
no_pause fault.Zero line e h p = absurd (cc)
no_pause fault.Range line e h p = absurd (cc)
no_pause fault.Deep line e h p = absurd (cc)
no_pause fault.Spent line e h p = absurd (cc)
no_pause fault.NoMemory line e h p = h
