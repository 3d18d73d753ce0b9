-- What a call that starts an iterator tells.
use Rattle.std.specs.Prelude.{◌≡◌, Bool, true, false, Result, Ok, Err}
use Rattle.setl_operators_table.specs.declared.OpFault.{OpFault}
use Rattle.setl_program.specs.Program.{Begin, Members, Points}
use Rattle.setl_model.specs.Iterations.{Started, Starts}
use Rattle.setl_store_iterator.specs.States.{IteratorState}
use Rattle.setl_store_iterator.specs.Operands.{Refused}

-- whether it starts an iterator of pairs
abbrev pub gives_pairs : Begin → Bool
gives_pairs Points = true
gives_pairs (Members k) = false

-- an iterator has these items and this kind, and a fault is told where it comes
abbrev pub Tells : Result IteratorState OpFault → Bool → Started → Type 0
Tells (Ok i) pairs s = (s ≡ Starts i.left) × (i.pairs ≡ pairs)
Tells (Err e) pairs s = Refused e s
