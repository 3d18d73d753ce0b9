-- What is taken out of the lists of bodies.
use Rattle.std.specs.Prelude.{◌≡◌, ◌-◌, ◌++◌, true, false, List, [], ◌∷◌, Option, Some, None, Ok, length, slice_get, take, refl}
use Rattle.std.specs.List.{remove}
use Rattle.std.specs.Option.{unwrap_or}
use Rattle.std.proofs.Common.{ap, sym, ◌∙◌, subst, arith}
use Rattle.std.proofs.lemmas.List.{append-nil, drop_all}
use Rattle.std.proofs.lemmas.Option.{none-some}
use Rattle.setl_value.specs.Datum.{Datum, elements_of, element_list, set_of, tuple_of}
use Rattle.setl_value.specs.code.DatumOf.{part}
use Rattle.setl_value.specs.WellFormed.{trim}
use Rattle.setl_operators_table.specs.declared.Taken.{Taken}
use Rattle.setl_operators_table.specs.code.Answers.{Takes}
use Rattle.setl_operators_table.specs.Takes.{Takeout, TakesOut, IsEmpty, first_of, last_of, take_least, take_first, take_last}
use Rattle.setl_operators_collections.proofs.Rows.{members_back, parts_back}

-- a part that was taken, and none
pub told : (t : Taken) (o : Takeout) (left : Datum) → TakesOut left (part t.value) ≡ o → t.stored ≡ true → Takes (Ok t) o left
told t o left e s = subst (λ x. Takes (Ok t) x left) e (s, refl, refl)

pub none_told : (t : Taken) (o : Takeout) (d : Datum) → IsEmpty ≡ o → t.stored ≡ false → t.value ≡ None → Takes (Ok t) o d
none_told t o d e s v = subst (λ x. Takes (Ok t) x d) e (s, v)

-- ---- sets

pub least_empty : (xs : List Datum) → length xs ≡ 0 → IsEmpty ≡ take_least (set_of xs)
least_empty [] h = refl
least_empty (x ∷ xs) h = absurd (omega arith)

pub least_taken : (xs new : List Datum) (d : Datum) → slice_get xs 0 ≡ Some d → new ≡ remove xs 0 → TakesOut (set_of new) (Some d) ≡ take_least (set_of xs)
least_taken [] new d h e = absurd (none-some d h)
least_taken (x ∷ xs) new d h e =
    ap (λ l. TakesOut (set_of l) (Some d)) (e ∙ sym (members_back xs)) ∙ ap (TakesOut (set_of (element_list (elements_of xs)))) (sym h)

-- ---- tuples

none_first : (ps : List (Option Datum)) → length ps ≡ 0 → IsEmpty ≡ first_of ps
none_first [] h = refl
none_first (p ∷ ps) h = absurd (omega arith)

pub first_empty : (ps : List (Option Datum)) → length ps ≡ 0 → IsEmpty ≡ take_first (tuple_of ps)
first_empty ps h = none_first ps h ∙ ap first_of (sym (parts_back ps))

pub first_taken : (ps new : List (Option Datum)) (p : Option Datum) → ps ≡ p ∷ new → TakesOut (tuple_of new) p ≡ take_first (tuple_of ps)
first_taken ps new p e = sym (ap first_of (parts_back ps ∙ e))

none_last : (ps : List (Option Datum)) → length ps ≡ 0 → IsEmpty ≡ last_of ps
none_last [] h = refl
none_last (p ∷ ps) h = absurd (omega arith)

pub last_empty : (ps : List (Option Datum)) → length ps ≡ 0 → IsEmpty ≡ take_last (tuple_of ps)
last_empty ps h = none_last ps h ∙ ap last_of (sym (parts_back ps))

but_the_last : (q : Option Datum) (qs : List (Option Datum)) → remove (q ∷ qs) (length qs) ≡ take (length qs) (q ∷ qs)
but_the_last q qs = ap (λ l. take (length qs) (q ∷ qs) ++ l) (drop_all (length qs) qs (omega arith)) ∙ append-nil (take (length qs) (q ∷ qs))

last_by : (ps new : List (Option Datum)) (p : Option Datum) → slice_get ps (length ps - 1) ≡ Some p → new ≡ trim (remove ps (length ps - 1)) → TakesOut (tuple_of new) p ≡ last_of ps
last_by [] new p h e = absurd (none-some p h)
last_by (q ∷ qs) new p h e =
    let end : length (q ∷ qs) - 1 ≡ length qs = omega arith in
    let left : new ≡ trim (take (length qs) (q ∷ qs)) = e ∙ ap (λ k. trim (remove (q ∷ qs) k)) end ∙ ap trim (but_the_last q qs) in
    let at : slice_get (q ∷ qs) (length qs) ≡ Some p = ap (slice_get (q ∷ qs)) (sym end) ∙ h in
    ap (λ l. TakesOut (tuple_of l) p) left ∙ ap (TakesOut (tuple_of (trim (take (length qs) (q ∷ qs))))) (ap (λ o. unwrap_or o None) (sym at))

pub last_taken : (ps new : List (Option Datum)) (p : Option Datum) → slice_get ps (length ps - 1) ≡ Some p → new ≡ trim (remove ps (length ps - 1)) → TakesOut (tuple_of new) p ≡ take_last (tuple_of ps)
last_taken ps new p h e = last_by ps new p h e ∙ ap last_of (sym (parts_back ps))
