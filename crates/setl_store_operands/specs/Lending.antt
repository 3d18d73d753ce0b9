-- What is told of a form where its value isn't made.
use Rattle.std.specs.Prelude.{◌≡◌, Option, Some, None}
use Rattle.std.specs.Borrow.{Bor}
use Rattle.std.specs.Option.{option_map}
use Rattle.setl_value.specs.Datum.{Datum, set, tuple}
use Rattle.setl_value.specs.code.DatumOf.{datum}
use Rattle.setl_value.specs.declared.Value.{Value}
use Rattle.setl_rep_bases.specs.Bases.{BasesState}
use Rattle.setl_rep_plain.specs.Standing.{held_value, IsHeldOver}
use Rattle.setl_store_operands.specs.declared.lent.AsHeld.{AsHeld}
use Rattle.setl_store_operands.specs.declared.lent.AsHeld.TheVariants as held
use Rattle.setl_store_operands.specs.declared.lent.Lent.{Lent}
use Rattle.setl_store_operands.specs.declared.lent.Lent.TheVariants as lent

-- a value is lent, and a set or a tuple is told as what it is, or lent too
abbrev pub IsLent : Option Datum → Lent → Type 0
IsLent None lent.Om = Unit {0}
IsLent (Some d) (lent.Value v) = datum v.now ≡ d
IsLent (Some (set ms)) lent.Whole = Unit {0}
IsLent (Some (tuple ps)) lent.Whole = Unit {0}
IsLent d l = ⊥

abbrev pub IsLentValue : Option (Bor Value) → Lent → Type 0
IsLentValue v l = IsLent (option_map (λ w. datum w.now) v) l

-- the value that is lent as it is held, over bases
abbrev pub value_as : BasesState → AsHeld → Option Datum
value_as bs (held.Plain v) = Some (datum v.now)
value_as bs (held.Based h) = held_value bs h.now

-- its form stands over them
abbrev pub IsOverAs : BasesState → AsHeld → Type 0
IsOverAs bs (held.Plain v) = Unit {0}
IsOverAs bs (held.Based h) = IsHeldOver bs h.now
