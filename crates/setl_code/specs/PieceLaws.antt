-- The place behind a piece is as many steps on as it has.
use Rattle.std.specs.Prelude.{◌≡◌, ℕ, ◌+◌, length}
use Rattle.std.proofs.Common.{length-append, arith}
use Rattle.setl_code.specs.Piece.{Piece, empty, step, jump_out, jump_on, join, ending_at, going_on_at, Labels, past, steps_of}

pub past_steps : (p : Piece) (l : Labels) (at : ℕ) → past at p ≡ at + length (steps_of l p)
past_steps empty l at = omega arith
past_steps (step line i) l at = omega arith
past_steps (jump_out line) l at = omega arith
past_steps (jump_on line) l at = omega arith
past_steps (join p q) l at =
    let one = past_steps p l at in
    let two = past_steps q l (past at p) in
    let three = length-append (steps_of l p) (steps_of l q) in
    omega (arith, one, two, three)
past_steps (ending_at to p) l at = past_steps p (record l { exit = to }) at
past_steps (going_on_at to p) l at = past_steps p (record l { again = to }) at
