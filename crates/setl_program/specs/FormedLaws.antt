-- What formed programs give: as many arguments as parameters, and formed bodies.
use Rattle.std.specs.Prelude.{◌≡◌, ℕ, zero, suc, ◌+◌, false, List, [], ◌∷◌, length, slice_get, Some}
use Rattle.std.proofs.Common.{refl, ap, subst, arith}
use Rattle.setl_program.specs.Program.{Arguments, no_argument, rd_argument, wr_argument, rw_argument, Parameter, Procedure}
use Rattle.setl_program.specs.Formed.{PassedAs, FormedBlock, FormedProcedures}

-- the number of arguments
abbrev pub arguments_number : Arguments → ℕ
arguments_number no_argument = zero
arguments_number (rd_argument e rest) = suc (arguments_number rest)
arguments_number (wr_argument x rest) = suc (arguments_number rest)
arguments_number (rw_argument x rest) = suc (arguments_number rest)

pub as_many : (ps : List Parameter) (all : Arguments) → PassedAs ps all → length ps ≡ arguments_number all
as_many [] no_argument h = refl
as_many (p ∷ ps) (rd_argument e rest) h = ap suc (as_many ps rest h.1)
as_many (p ∷ ps) (wr_argument x rest) h = ap suc (as_many ps rest h.1)
as_many (p ∷ ps) (rw_argument x rest) h = ap suc (as_many ps rest h.1)
as_many [] (rd_argument e rest) h = absurd h
as_many [] (wr_argument x rest) h = absurd h
as_many [] (rw_argument x rest) h = absurd h
as_many (p ∷ ps) no_argument h = absurd h

-- the body of a procedure is formed
pub formed_at : (all : List Procedure) (n f : ℕ) (ps : List Procedure) (p : Procedure) → FormedProcedures all n ps → slice_get ps f ≡ Some p → FormedBlock (record { body = n + f; procedures = all }) false p.body
formed_at all n zero (q ∷ ps) p h is =
    let same : q ≡ p = cc in
    let place : n ≡ n + 0 = omega arith in
    subst (λ m. FormedBlock (record { body = m; procedures = all }) false p.body) place (subst (λ r. FormedBlock (record { body = n; procedures = all }) false r.body) same h.0)
formed_at all n (suc f) (q ∷ ps) p h is =
    let place : suc n + f ≡ n + suc f = omega arith in
    subst (λ m. FormedBlock (record { body = m; procedures = all }) false p.body) place (formed_at all (suc n) f ps p h.1 is)
formed_at all n zero [] p h is = cc
formed_at all n (suc f) [] p h is = cc
