-- Bytes are a script, or are refused by one line.
use Rattle.std.proofs.Common.{◌≡◌, ◌<◌, inl, inr, ℕ, zero, suc, List, [], ◌∷◌, ◌++◌, Some, take, codes, decimal, refl, ap, subst, arith}
use Rattle.std.specs.Prelude.{slice_get}
use Rattle.std.proofs.lemmas.Bool.{cases_order}
use Rattle.setl_debug_script.specs.Lines.{lines}
use Rattle.setl_debug_script.specs.Scripts.{IsCommand, AreCommands, IsFirstFault}
use Rattle.setl_debug_script.specs.declared.command.Command.{Command}
use Rattle.setl_top_session.specs.Laws.{NotScriptAndRefused, OneRefusal}
use Rattle.setl_top_session.specs.Sessions.{long_script, faulty_line}

-- a line of a script spells a command
command_at : (ls : List (List ℕ)) (cs : List Command) (k : ℕ) (line : List ℕ) → AreCommands ls cs → slice_get ls k ≡ Some line → (c : Command) × IsCommand line c
command_at [] cs k line are there = absurd (cc)
command_at (x ∷ xs) [] k line are there = absurd are
command_at (x ∷ xs) (c ∷ cs) zero line are there = let same : x ≡ line = cc in (c, subst (λ y. IsCommand y c) same are.0)
command_at (x ∷ xs) (c ∷ cs) (suc k) line are there = command_at xs cs k line are.1 there

among_first : (ls : List (List ℕ)) (n k : ℕ) (line : List ℕ) → k < n → slice_get ls k ≡ Some line → slice_get (take n ls) k ≡ Some line
among_first [] n k line less there = absurd (cc)
among_first (x ∷ xs) zero k line less there = absurd (omega (arith, less))
among_first (x ∷ xs) (suc n) zero line less there = there
among_first (x ∷ xs) (suc n) (suc k) line less there = among_first xs n k line (omega (arith, less)) there

-- no faulty line stands before the first
none_before : (ls : List (List ℕ)) (n m : ℕ) (a : IsFirstFault ls n) (b : IsFirstFault ls m) → a.before < b.before → ⊥
none_before ls n m a b less =
    let c = command_at (take b.before ls) b.commands a.before a.line b.spelled (among_first ls b.before a.before a.line less a.there) in
    a.faulty c.0 c.1

one_fault : (ls : List (List ℕ)) (n m : ℕ) → IsFirstFault ls n → IsFirstFault ls m → n ≡ m
one_fault ls n m a b = elim (cases_order a.before b.before) [
  | inl same ↦ omega (arith, a.counted, b.counted, same)
  | inr other ↦ elim other [
    | inl less ↦ absurd (none_before ls n m a b less)
    | inr more ↦ absurd (none_before ls m n b a more)
  ]
]

pub not_both : NotScriptAndRefused
not_both bytes cs _ s (long_script long) = absurd (omega (arith, s.short, long))
not_both bytes cs _ s (faulty_line n short f) =
    let c = command_at (lines bytes) cs f.before f.line s.spelled f.there in
    f.faulty c.0 c.1

pub one_line : OneRefusal
one_line bytes _ _ (long_script long) (long_script other) = refl
one_line bytes _ _ (long_script long) (faulty_line n short f) = absurd (omega (arith, long, short))
one_line bytes _ _ (faulty_line n short f) (long_script long) = absurd (omega (arith, long, short))
one_line bytes _ _ (faulty_line n short f) (faulty_line m other g) = ap (λ k. codes "script line " ++ decimal k) (one_fault (lines bytes) n m f g)
