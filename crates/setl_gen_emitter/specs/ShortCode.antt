-- Short pieces of code, and items of lists.
use Rattle.std.specs.Prelude.{ℕ, List, Option, Some, None}
use Rattle.setl_value.specs.Datum.{bool}
use Rattle.setl_program.specs.declared.kinds.Quantifier.{Quantifier}
use Rattle.setl_program.specs.Program.{Iterators, Arguments, no_argument, rd_argument, wr_argument, rw_argument}
use Rattle.setl_model_runs.specs.Variable.{Variable}
use Rattle.setl_model.specs.Iterations.{undecided, all_bound}
use Rattle.setl_code.specs.Code.{Push, StoreIn, DropTop}
use Rattle.setl_code.specs.Piece.{Laid, ◌⨾◌, nothing, one}
use Rattle.setl_code.specs.Generated.{clear}
use Rattle.setl_gen_emitter.specs.Emitted.{Emitted, here, after, all_filled}
use Rattle.setl_gen_emitter.specs.declared.hole.Hole.{Hole}

-- where no member decides a quantifier, with the target of the jumps out of it
abbrev pub undecided_code : ℕ → Quantifier → Iterators → Laid
undecided_code line q is = clear line (all_bound is) ⨾ one line (Push (Some (bool (undecided q))))

abbrev pub with_end_undecided : ℕ → Quantifier → Iterators → List Hole → Emitted → Emitted
with_end_undecided line q is exits s = let t = after (undecided_code line q is) s in all_filled (here t) exits t

-- ---- items of lists

-- a store of one part; `None` drops it
abbrev pub slot_code : ℕ → Option Variable → Laid
slot_code line None = one line DropTop
slot_code line (Some x) = one line (StoreIn x)

-- `om` in a variable, if there is one
abbrev pub clear_code : ℕ → Option Variable → Laid
clear_code line None = nothing
clear_code line (Some x) = one line (Push None) ⨾ one line (StoreIn x)

-- the store in what the first of some arguments sets
abbrev pub set_code : ℕ → Arguments → Laid
set_code line no_argument = nothing
set_code line (rd_argument e rest) = nothing
set_code line (wr_argument x rest) = one line (StoreIn x)
set_code line (rw_argument x rest) = one line (StoreIn x)
