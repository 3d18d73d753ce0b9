-- Iterators without the code inside.
use Rattle.std.specs.Prelude.{◌≡◌, ℕ, Option, Some, None}
use Rattle.setl_program.specs.Program.{Binding, begin_of, Expr, Exprs, Iterators, no_iterator, more_iterators, Arguments, no_argument, rd_argument, wr_argument, rw_argument}
use Rattle.setl_code.specs.Code.{Push, Load, BeginOver, NextOr}
use Rattle.setl_code.specs.Piece.{Laid, ◌⨾◌, nothing, one}
use Rattle.setl_code.specs.Generated.{count, bind, expr, exprs}
use Rattle.setl_gen_emitter.specs.Emitted.{Emitted, here, after}

-- Where the first steps are the code of an expression, with those that came they are the code of what becomes of it.
abbrev pub CodeGoesOn : (line : ℕ) → (Expr → Expr) → Emitted → Emitted → Type 0
CodeGoesOn line f old new = (e : Expr) (s : Emitted) → old ≡ after (expr line e) s → new ≡ after (expr line (f e)) s

-- an iterator up to its next step, and that step with what it binds
abbrev pub begun : ℕ → Binding × Exprs → Laid
begun line i = exprs line i.1 ⨾ one line (BeginOver (begin_of i.0) (count i.1))

abbrev pub next : (line back : ℕ) → Binding × Exprs → Laid
next line back i = one line (NextOr back) ⨾ bind line i.0

-- iterators up to the binding of the last one, the end of the first of which leads back, and where the innermost goes on
abbrev pub headed : (line : ℕ) → Iterators → (back : ℕ) → Emitted → Emitted × ℕ
headed line no_iterator back s = (s, back)
headed line (more_iterators b es rest) back s =
    let t = after (begun line (b, es)) s in headed line rest (here t) (after (next line back (b, es)) t)

-- the same, with the place of the first one's next step in front, if there is one
abbrev pub opened_from : (first : Option ℕ) → (line : ℕ) → Iterators → (back : ℕ) → Emitted → Option (ℕ × Emitted × ℕ)
opened_from (Some at) line is back s = let h = headed line is back s in Some (at, h.0, h.1)
opened_from None line no_iterator back s = None
opened_from None line (more_iterators b es rest) back s =
    let t = after (begun line (b, es)) s in
    let h = headed line rest (here t) (after (next line back (b, es)) t) in
    Some (here t, h.0, h.1)

-- where the end of the first has no target yet
abbrev pub opened : (line : ℕ) → Iterators → Emitted → Option (ℕ × Emitted × ℕ)
opened line is s = opened_from None line is 0 s

-- the code of the first of some arguments
abbrev pub argument_code : ℕ → Arguments → Laid
argument_code line no_argument = nothing
argument_code line (rd_argument e rest) = expr line e
argument_code line (wr_argument x rest) = one line (Push None)
argument_code line (rw_argument x rest) = one line (Load x)
