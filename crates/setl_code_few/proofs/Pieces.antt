-- Pieces of code with at most so many steps.
use Rattle.std.proofs.Common.{◌≡◌, ◌≤◌, ℕ, ◌+◌, length, length-append, refl, arith}
use Rattle.setl_code.specs.Code.{Instr}
use Rattle.setl_code.specs.Piece.{Piece, empty, step, jump_out, jump_on, join, ending_at, going_on_at, Labels, steps_of}

abbrev pub steps_in : Piece → ℕ
steps_in empty = 0
steps_in (step line i) = 1
steps_in (jump_out line) = 1
steps_in (jump_on line) = 1
steps_in (join p q) = steps_in p + steps_in q
steps_in (ending_at to p) = steps_in p
steps_in (going_on_at to p) = steps_in p

-- a piece has as many steps whatever its labels are
pub as_many : (p : Piece) (l : Labels) → length (steps_of l p) ≡ steps_in p
as_many empty l = refl
as_many (step line i) l = refl
as_many (jump_out line) l = refl
as_many (jump_on line) l = refl
as_many (join p q) l =
    let one = as_many p l in
    let two = as_many q l in
    let both = length-append (steps_of l p) (steps_of l q) in
    omega (arith, one, two, both)
as_many (ending_at to p) l = as_many p _
as_many (going_on_at to p) l = as_many p _

pub record Small (p : Piece) (n : ℕ) : Type 0 where
  pub at_most : steps_in p ≤ n

pub within : {p : Piece} {m n : ℕ} → Small p m → m ≤ n → Small p n
within h le = let less = h.at_most in record { at_most = omega (arith, less, le) }

pub s_empty : Small empty 0
s_empty = record { at_most = omega arith }

pub s_step : {line : ℕ} {i : Instr} → Small (step line i) 1
s_step = record { at_most = omega arith }

pub s_out : {line : ℕ} → Small (jump_out line) 1
s_out = record { at_most = omega arith }

pub s_on : {line : ℕ} → Small (jump_on line) 1
s_on = record { at_most = omega arith }

pub s_join : {p q : Piece} {a b : ℕ} → Small p a → Small q b → Small (join p q) (a + b)
s_join g h =
    let one = g.at_most in
    let two = h.at_most in
    record { at_most = omega (arith, one, two) }

pub s_ending : {to : ℕ} {p : Piece} {a : ℕ} → Small p a → Small (ending_at to p) a
s_ending h = record { at_most = h.at_most }

pub s_going : {to : ℕ} {p : Piece} {a : ℕ} → Small p a → Small (going_on_at to p) a
s_going h = record { at_most = h.at_most }
