-- The four operations, on words and on bits.
use Rattle.std.specs.Prelude.{ℕ, Bool, not, ◌&&◌, ◌||◌, bit_and, bit_or, bit_xor}
use Rattle.std.specs.Int.{bit_not}
use Rattle.std.proofs.Common.{w64}
use Rattle.setl_remote.specs.declared.combine.Operation.{Operation}
use Rattle.setl_remote.specs.declared.combine.Operation.TheVariants.{And, Or, Minus, Xor}

abbrev pub word_of : Operation → ℕ → ℕ → ℕ
word_of And x y = bit_and x y
word_of Or x y = bit_or x y
word_of Minus x y = bit_and x (bit_not w64 y)
word_of Xor x y = bit_xor x y

abbrev pub keeps : Operation → Bool → Bool → Bool
keeps And a b = a && b
keeps Or a b = a || b
keeps Minus a b = a && not b
keeps Xor a b = (a && not b) || (b && not a)
