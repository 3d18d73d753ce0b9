-- What is left of a flat set or tuple of which a value was taken out.
use Rattle.std.proofs.Common.{◌≡◌, ◌∙◌, ap, sym, subst, refl, ℕ, ◌-◌, ◌≤◌, ◌+◌, ◌++◌, false, List, [], ◌∷◌, reverse, Option, Some, None, Ok, arith}
use Rattle.std.specs.Prelude.{max}
use Rattle.std.specs.Option.{unwrap_or}
use Rattle.std.proofs.lemmas.List.{reverse-append}
use Rattle.setl_value.specs.Datum.{Datum, bool, int, text, atom, tuple, set, Parts, no_part, om_then, part_then, Elements, no_element, element_then, depth, part_depth, parts_depth, elements_depth, parts_of, elements_of, part_list, element_list}
use Rattle.setl_value.specs.WellFormed.{trim, trim_onto}
use Rattle.setl_operators_table.specs.declared.Taken.{Taken}
use Rattle.setl_operators_table.specs.Outcome.{Gives, then_with, value}
use Rattle.setl_program.specs.declared.kinds.Taking.{Taking}
use Rattle.setl_program.specs.declared.kinds.Taking.TheVariants.{TakeLeast, TakeFirst, TakeLast}
use Rattle.setl_model.specs.Core.{Round}
use Rattle.setl_model.specs.Places.{TakesOut, IsEmpty, CannotTake, take_first, take_last, take_least, take_out, part_at_all, part_of, with_part_at}
use Rattle.setl_model.specs.Places as places
use Rattle.setl_machine_updates.specs.Changing.{IsTakenOut}
use Rattle.setl_machine_updates.specs.Parts.{TakesOne}
use Rattle.setl_machine_updates.specs.Takes.{Takes, TakesFrom, TakesPart}
use Rattle.setl_machine_updates.specs.Updates.{Leaves}
use Rattle.setl_machine_updates.specs.declared.taking.TakenOut.{TakenOut}
use Rattle.setl_machine_updates.proofs.Component.{parts_cons}

-- ---- depths

elements_list : (ms : Elements) → elements_depth (elements_of (element_list ms)) ≡ elements_depth ms
elements_list no_element = refl
elements_list (element_then d ms) = omega (arith, elements_list ms)

parts_list : (ps : Parts) → parts_depth (parts_of (part_list ps)) ≡ parts_depth ps
parts_list no_part = refl
parts_list (om_then ps) = parts_list ps
parts_list (part_then d ps) = omega (arith, parts_list ps)

trim_depth : (ps : List (Option Datum)) → parts_depth (parts_of (trim ps)) ≤ parts_depth (parts_of ps)
trim_depth [] = omega arith
trim_depth (p ∷ ps) = onto p (trim ps) (trim_depth ps)
  where
    onto : (p : Option Datum) (qs : List (Option Datum)) → parts_depth (parts_of qs) ≤ parts_depth (parts_of ps) → parts_depth (parts_of (trim_onto p qs)) ≤ parts_depth (parts_of (p ∷ ps))
    onto None [] h = omega (arith, parts_cons None ps)
    onto None (q ∷ qs) h = omega (arith, h, parts_cons None (q ∷ qs), parts_cons None ps)
    onto (Some d) qs h = omega (arith, h, parts_cons (Some d) qs, parts_cons (Some d) ps)

append_depth : (ps qs : List (Option Datum)) → parts_depth (parts_of (ps ++ qs)) ≡ max (parts_depth (parts_of ps)) (parts_depth (parts_of qs))
append_depth [] qs = omega arith
append_depth (p ∷ ps) qs = omega (arith, parts_cons p (ps ++ qs), parts_cons p ps, append_depth ps qs)

reverse_depth : (ps : List (Option Datum)) → parts_depth (parts_of (reverse ps)) ≡ parts_depth (parts_of ps)
reverse_depth [] = refl
reverse_depth (p ∷ ps) =
    omega (arith, ap (λ l. parts_depth (parts_of l)) (reverse-append (p ∷ []) ps), append_depth (reverse ps) (p ∷ []), reverse_depth ps, parts_cons p ps, parts_cons p [])

least_bound : (ms : Elements) (new : Datum) (t : Taken) → TakesOne (take_least (element_list ms)) (Some new) (Ok t) → (t.stored ≡ false → new ≡ set ms) → depth new ≤ max (depth (set ms)) 1
least_bound no_element new t h e = omega (arith, ap depth (e h.0))
least_bound (element_then d ms) new t h e = omega (arith, ap (λ o. depth (unwrap_or o new)) h.2, elements_list ms)

front_bound : (rs : List (Option Datum)) (old new : Datum) (t : Taken) → TakesOne (take_first rs) (Some new) (Ok t) → (t.stored ≡ false → new ≡ old) → depth old ≡ 1 + parts_depth (parts_of rs) → depth new ≤ max (depth old) 1
front_bound [] old new t h e d = omega (arith, ap depth (e h.0))
front_bound (p ∷ ps) old new t h e d = omega (arith, d, ap (λ o. depth (unwrap_or o new)) h.2, trim_depth ps, parts_cons p ps)

back_bound : (rs : List (Option Datum)) (old new : Datum) (t : Taken) → TakesOne (take_last rs) (Some new) (Ok t) → (t.stored ≡ false → new ≡ old) → depth old ≡ 1 + parts_depth (parts_of rs) → depth new ≤ max (depth old) 1
back_bound [] old new t h e d = omega (arith, ap depth (e h.0))
back_bound (p ∷ ps) old new t h e d = omega (arith, d, ap (λ o. depth (unwrap_or o new)) h.2, trim_depth (reverse ps), reverse_depth ps, parts_cons p ps)

-- what is left is no deeper, or has no depth but its own
pub taken_bound : (end : Taking) (old new : Datum) (t : Taken) → TakesOne (take_out end (Some old)) (Some new) (Ok t) → (t.stored ≡ false → new ≡ old) → depth new ≤ max (depth old) 1
taken_bound TakeLeast (set ms) new t h e = least_bound ms new t h e
taken_bound TakeFirst (tuple ps) new t h e = front_bound (part_list ps) (tuple ps) new t h e (omega (arith, parts_list ps))
taken_bound TakeLast (tuple ps) new t h e = back_bound (reverse (part_list ps)) (tuple ps) new t h e (omega (arith, reverse_depth (part_list ps), parts_list ps))
taken_bound TakeLeast (bool b) new t h e = absurd h
taken_bound TakeLeast (int z) new t h e = absurd h
taken_bound TakeLeast (text s) new t h e = absurd h
taken_bound TakeLeast (atom n) new t h e = absurd h
taken_bound TakeLeast (tuple ps) new t h e = absurd h
taken_bound TakeFirst (bool b) new t h e = absurd h
taken_bound TakeFirst (int z) new t h e = absurd h
taken_bound TakeFirst (text s) new t h e = absurd h
taken_bound TakeFirst (atom n) new t h e = absurd h
taken_bound TakeFirst (set ms) new t h e = absurd h
taken_bound TakeLast (bool b) new t h e = absurd h
taken_bound TakeLast (int z) new t h e = absurd h
taken_bound TakeLast (text s) new t h e = absurd h
taken_bound TakeLast (atom n) new t h e = absurd h
taken_bound TakeLast (set ms) new t h e = absurd h

-- ---- what is taken out of the part at one selector

part_taken : (o : places.Taken) (whole now x old new : Datum) (turns : ℕ) (t : Taken) → TakesOne o (Some new) (Ok t) → (t.stored ≡ false → now ≡ whole) → ((left : ℕ) → with_part_at (Round (Some x)) (Some whole) (Some new) left ≡ value now)
    → TakesPart o (Round (Some x) ∷ []) (Some whole) (turns - 0) (Some now) (Ok record { value = t.value; stored = t.stored; left = turns })
part_taken (TakesOut rest v) whole now x old new turns t h e written =
    (h.0, h.1, subst (λ q. Leaves (with_part_at (Round (Some x)) (Some whole) q (turns - 0)) (turns - 0) (Some now) turns) h.2 (subst (λ q. Leaves q (turns - 0) (Some now) turns) (sym (written (turns - 0))) (refl, omega arith)))
part_taken IsEmpty whole now x old new turns t h e written = (h.0, h.1, ap Some (e h.0), omega arith)
part_taken (CannotTake f) whole now x old new turns t h e written = absurd h

pub taken_there : (end : Taking) (whole now x old new : Datum) (turns : ℕ) (t : Taken) → ((left : ℕ) → part_of (Round (Some x)) (Some whole) left ≡ Gives (Some old) 0) → ((left : ℕ) → with_part_at (Round (Some x)) (Some whole) (Some new) left ≡ value now)
    → IsTakenOut end old new t → (new ≡ old → now ≡ whole) → Takes end (Round (Some x) ∷ []) (Some whole) turns (Some now) (Ok record { value = t.value; stored = t.stored; left = turns })
taken_there end whole now x old new turns t there written k same =
    subst (λ o. TakesFrom (then_with o turns (λ part left. part_at_all [] part left)) end (Round (Some x) ∷ []) (Some whole) turns (Some now) (Ok record { value = t.value; stored = t.stored; left = turns })) (sym (there turns))
    (part_taken (take_out end (Some old)) whole now x old new turns t k.taken (λ n. same (k.empty n)) written)
