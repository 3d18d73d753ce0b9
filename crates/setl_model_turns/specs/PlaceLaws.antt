-- What an update makes of the part at its selectors it makes with more turns left, too.
use Rattle.std.proofs.Common.{refl, arith, ℕ, List, [], ◌∷◌, Option}
use Rattle.std.specs.Prelude.{◌≤◌}
use Rattle.setl_value.specs.Datum.{Datum}
use Rattle.setl_operators_table.specs.declared.Operator.{Operator}
use Rattle.setl_operators_table.specs.declared.Operator.TheVariants.{Get, Images, Put, PutImages}
use Rattle.setl_operators_table.specs.Outcome.{then_with}
use Rattle.setl_operators_table.specs.Operators.{op_of}
use Rattle.setl_operators_turns.specs.Operators.{op_keeps}
use Rattle.setl_operators_turns.specs.Outcomes.{Keeps, then_keeps}
use Rattle.setl_model.specs.Core.{Selected, Round, Brace}
use Rattle.setl_model.specs.Places.{part_of, with_part_at, part_at_all, with_part_at_all, combined}

part_keeps : (s : Selected) (v : Option Datum) (few many : ℕ) → few ≤ many → Keeps few (part_of s v few) (part_of s v many)
part_keeps (Round x) v few many h = op_keeps Get (v ∷ x ∷ []) few many h
part_keeps (Brace x) v few many h = op_keeps Images (v ∷ x ∷ []) few many h

whole_keeps : (s : Selected) (whole v : Option Datum) (few many : ℕ) → few ≤ many → Keeps few (with_part_at s whole v few) (with_part_at s whole v many)
whole_keeps (Round x) whole v few many h = op_keeps Put (whole ∷ x ∷ v ∷ []) few many h
whole_keeps (Brace x) whole v few many h = op_keeps PutImages (whole ∷ x ∷ v ∷ []) few many h

pub parts_keep : (ss : List Selected) (v : Option Datum) (few many : ℕ) → few ≤ many → Keeps few (part_at_all ss v few) (part_at_all ss v many)
parts_keep [] v few many h = (refl, omega arith)
parts_keep (s ∷ ss) v few many h =
    then_keeps (part_of s v few) (part_of s v many) few many (λ part now. part_at_all ss part now) h (part_keeps s v few many h) (λ part a b k. parts_keep ss part a b k)

pub wholes_keep : (ss : List Selected) (whole v : Option Datum) (few many : ℕ) → few ≤ many → Keeps few (with_part_at_all ss whole v few) (with_part_at_all ss whole v many)
wholes_keep [] whole v few many h = (refl, omega arith)
wholes_keep (s ∷ []) whole v few many h = whole_keeps s whole v few many h
wholes_keep (s ∷ t ∷ ss) whole v few many h =
    then_keeps (part_of s whole few) (part_of s whole many) few many (λ part now. then_with (with_part_at_all (t ∷ ss) part v now) now (λ new later. with_part_at s whole new later)) h (part_keeps s whole few many h)
    (λ part a b k. then_keeps (with_part_at_all (t ∷ ss) part v a) (with_part_at_all (t ∷ ss) part v b) a b (λ new later. with_part_at s whole new later) k (wholes_keep (t ∷ ss) part v a b k)
    (λ new x y l. whole_keeps s whole new x y l))

pub combined_keep : (o : Operator) (v : Option Datum) (ss : List Selected) (whole : Option Datum) (few many : ℕ) → few ≤ many →
    Keeps few (combined ss whole (λ part now. op_of o (part ∷ v ∷ []) now) few) (combined ss whole (λ part now. op_of o (part ∷ v ∷ []) now) many)
combined_keep o v [] whole few many h = op_keeps o (whole ∷ v ∷ []) few many h
combined_keep o v (s ∷ ss) whole few many h =
    then_keeps (part_of s whole few) (part_of s whole many) few many (λ part now. then_with (combined ss part (λ part now. op_of o (part ∷ v ∷ []) now) now) now (λ new later. with_part_at s whole new later)) h (part_keeps s whole few many h)
    (λ part a b k. then_keeps (combined ss part (λ part now. op_of o (part ∷ v ∷ []) now) a) (combined ss part (λ part now. op_of o (part ∷ v ∷ []) now) b) a b (λ new later. with_part_at s whole new later) k (combined_keep o v ss part a b k)
    (λ new x y l. whole_keeps s whole new x y l))
