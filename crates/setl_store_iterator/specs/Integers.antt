-- The integers that are left of a range. No public clause cites this module.
use Rattle.std.specs.Prelude.{ℕ, zero, suc, ℤ, ◌+ℤ◌, List, [], ◌∷◌, Option, Some, None}
use Rattle.std.specs.Int.{int_wrap, w128}
use Rattle.setl_value.specs.Datum.{Datum, int}
use Rattle.setl_store_iterator.specs.declared.integers.Steps.{Steps}

-- n integers from z on, each a step more than the one before, modulo 2^128
abbrev pub counted : ℤ → ℤ → ℕ → List Datum
counted z step zero = []
counted z step (suc n) = int z ∷ counted (int_wrap w128 (z +ℤ step)) step n

abbrev pub integers_left : Option Steps → List Datum
integers_left None = []
integers_left (Some s) = counted s.next s.step (suc s.more)
