-- What is taken out of a set or a tuple, by the model's definition and by that of the calls in place.
use Rattle.std.proofs.Common.{◌≡◌, ◌∙◌, ap, sym, subst, refl, suc, ◌++◌, List, [], ◌∷◌, reverse, length, take, Option, Some, None, arith}
use Rattle.std.specs.Prelude.{Result, Ok, Err, slice_get}
use Rattle.std.specs.Option.{unwrap_or}
use Rattle.std.proofs.Math.Seq.{take-suc}
use Rattle.std.proofs.lemmas.List.{take_all, reverse-append, reverse-reverse}
use Rattle.std.proofs.lemmas.Option.{unwrap_or-slice_get}
use Rattle.setl_value.specs.Datum.{Datum, tuple, tuple_of, part_list}
use Rattle.setl_value.specs.WellFormed.{EndsIn, IsTrimmed, IsValue, trim, trim_onto}
use Rattle.setl_operators_table.specs.declared.OpFault.{OpFault}
use Rattle.setl_operators_table.specs.declared.OpFault.TheVariants.{Kind, Om, Wide, Zero, Range, Deep, Spent, NoMemory}
use Rattle.setl_operators_table.specs.declared.Taken.{Taken}
use Rattle.setl_operators_table.specs.Outcome.{KindFault}
use Rattle.setl_operators_table.specs.code.Answers.{Takes}
use Rattle.setl_operators_table.specs.Takes as call
use Rattle.setl_program.specs.declared.kinds.Taking.TheVariants.{TakeFirst, TakeLast}
use Rattle.setl_model.specs.Places.{TakesOut, IsEmpty, CannotTake, take_first, take_last, take_out}
use Rattle.setl_machine_updates.specs.Parts.{TakesOne}

-- ---- the same told of either definition

told : (r : Result Taken OpFault) (new left rest : Datum) (v : Option Datum) → left ≡ rest → Takes r (call.TakesOut left v) new → TakesOne (TakesOut rest v) (Some new) r
told (Ok t) new left rest v e h = (h.0, h.1, ap Some (h.2 ∙ e))
told (Err NoMemory) new left rest v e h = refl
told (Err Kind) new left rest v e h = absurd (cc)
told (Err Om) new left rest v e h = absurd h
told (Err Wide) new left rest v e h = absurd h
told (Err Zero) new left rest v e h = absurd h
told (Err Range) new left rest v e h = absurd h
told (Err Deep) new left rest v e h = absurd h
told (Err Spent) new left rest v e h = absurd h

told_empty : (r : Result Taken OpFault) (new : Datum) → Takes r call.IsEmpty new → TakesOne IsEmpty (Some new) r
told_empty (Ok t) new h = h
told_empty (Err NoMemory) new h = refl
told_empty (Err Kind) new h = absurd (cc)
told_empty (Err Om) new h = absurd h
told_empty (Err Wide) new h = absurd h
told_empty (Err Zero) new h = absurd h
told_empty (Err Range) new h = absurd h
told_empty (Err Deep) new h = absurd h
told_empty (Err Spent) new h = absurd h

told_kind : (r : Result Taken OpFault) (new : Datum) → Takes r (call.CannotTake KindFault) new → TakesOne (CannotTake KindFault) (Some new) r
told_kind (Ok t) new h = absurd h
told_kind (Err NoMemory) new h = tt
told_kind (Err Kind) new h = refl
told_kind (Err Om) new h = absurd h
told_kind (Err Wide) new h = absurd h
told_kind (Err Zero) new h = absurd h
told_kind (Err Range) new h = absurd h
told_kind (Err Deep) new h = absurd h
told_kind (Err Spent) new h = absurd h

-- ---- the first component

pub trim_ends : (p : Option Datum) (ps : List (Option Datum)) → EndsIn p ps → trim (p ∷ ps) ≡ p ∷ ps
trim_ends None [] h = absurd h
trim_ends (Some d) [] h = refl
trim_ends None (q ∷ ps) h = ap (trim_onto None) (trim_ends q ps h)
trim_ends (Some d) (q ∷ ps) h = ap (trim_onto (Some d)) (trim_ends q ps h)

-- what stands behind the first component of a tuple doesn't end in `om`
trim_behind : (p : Option Datum) (ps : List (Option Datum)) → EndsIn p ps → trim ps ≡ ps
trim_behind p [] h = refl
trim_behind p (q ∷ ps) h = trim_ends q ps h

first_of_list : (ps : List (Option Datum)) (r : Result Taken OpFault) (new : Datum) → IsTrimmed ps → Takes r (call.first_of ps) new → TakesOne (take_first ps) (Some new) r
first_of_list [] r new h k = told_empty r new k
first_of_list (p ∷ ps) r new h k = told r new (tuple_of ps) (tuple_of (trim ps)) p (ap tuple_of (sym (trim_behind p ps h))) k

pub front_taken : (d : Datum) (r : Result Taken OpFault) (new : Datum) → IsValue d → Takes r (call.take_first d) new → TakesOne (take_out TakeFirst (Some d)) (Some new) r
front_taken (tuple ps) r new h k = first_of_list (part_list ps) r new h.0.1 k
front_taken d r new h k = told_kind r new k

-- ---- the last component

ends_in_last : (p : Option Datum) (ps : List (Option Datum)) → p ∷ ps ≡ take (length ps) (p ∷ ps) ++ (unwrap_or (slice_get (p ∷ ps) (length ps)) None ∷ [])
ends_in_last p ps =
    sym (take_all (suc (length ps)) (p ∷ ps) (omega arith)) ∙ take-suc (p ∷ ps) (length ps) None (omega arith)
    ∙ ap (λ q. take (length ps) (p ∷ ps) ++ (q ∷ [])) (sym (unwrap_or-slice_get (p ∷ ps) (length ps) None))

from_the_end : (p : Option Datum) (ps : List (Option Datum)) → reverse (p ∷ ps) ≡ unwrap_or (slice_get (p ∷ ps) (length ps)) None ∷ reverse (take (length ps) (p ∷ ps))
from_the_end p ps = ap reverse (ends_in_last p ps) ∙ reverse-append (take (length ps) (p ∷ ps)) (unwrap_or (slice_get (p ∷ ps) (length ps)) None ∷ [])

last_of_list : (ps : List (Option Datum)) (r : Result Taken OpFault) (new : Datum) → Takes r (call.last_of ps) new → TakesOne (take_last (reverse ps)) (Some new) r
last_of_list [] r new k = told_empty r new k
last_of_list (p ∷ ps) r new k =
    let front = take (length ps) (p ∷ ps) in
    let v = unwrap_or (slice_get (p ∷ ps) (length ps)) None in
    subst (λ l. TakesOne (take_last l) (Some new) r) (sym (from_the_end p ps))
    (told r new (tuple_of (trim front)) (tuple_of (trim (reverse (reverse front)))) v (ap (λ l. tuple_of (trim l)) (sym (reverse-reverse front))) k)

pub back_taken : (d : Datum) (r : Result Taken OpFault) (new : Datum) → Takes r (call.take_last d) new → TakesOne (take_out TakeLast (Some d)) (Some new) r
back_taken (tuple ps) r new k = last_of_list (part_list ps) r new k
back_taken d r new k = told_kind r new k
