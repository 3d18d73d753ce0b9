-- One line more of a script.
use Rattle.std.proofs.Common.{◌≡◌, ◌+◌, ◌∙◌, ℕ, zero, suc, List, [], ◌∷◌, ◌++◌, Some, None, take, drop, slice_get, refl, sym, ap, subst, arith, add-one}
use Rattle.std.specs.List.{AllByRecursion}
use Rattle.std.proofs.lemmas.List.{take-append-drop}
use Rattle.setl_value_pages.specs.ListLaws.{front_of}
use Rattle.setl_debug_script.specs.Scripts.{AreCommands, IsCommand, IsFaulty, IsFirstFault, IsInRange}
use Rattle.setl_debug_script.specs.declared.command.Command.{Command}

one_more : (ls : List (List ℕ)) (cs : List Command) (l : List ℕ) (c : Command) → AreCommands ls cs → IsCommand l c → AreCommands (ls ++ l ∷ []) (cs ++ c ∷ [])
one_more [] [] l c a s = (s, tt)
one_more [] (d ∷ cs) l c a s = absurd a
one_more (k ∷ ls) [] l c a s = absurd a
one_more (k ∷ ls) (d ∷ cs) l c a s = (a.0, one_more ls cs l c a.1 s)

taken : (ls : List (List ℕ)) (n : ℕ) (l : List ℕ) (more : List (List ℕ)) → drop n ls ≡ l ∷ more → take (suc n) ls ≡ take n ls ++ l ∷ []
taken [] zero l more e = cc
taken [] (suc n) l more e = cc
taken (k ∷ ls) zero l more e = ap (λ xs. take 1 xs) e
taken (k ∷ ls) (suc n) l more e = ap (λ xs. k ∷ xs) (taken ls n l more e)

dropped : (ls : List (List ℕ)) (n : ℕ) (l : List ℕ) (more : List (List ℕ)) → drop n ls ≡ l ∷ more → drop (suc n) ls ≡ more
dropped [] zero l more e = cc
dropped [] (suc n) l more e = cc
dropped (k ∷ ls) zero l more e = ap (λ xs. drop 1 xs) e
dropped (k ∷ ls) (suc n) l more e = dropped ls n l more e

pub spelled_on : (ls : List (List ℕ)) (n : ℕ) (l : List ℕ) (more : List (List ℕ)) (cs : List Command) (c : Command) → AreCommands (take n ls) cs → drop n ls ≡ l ∷ more → IsCommand l c → AreCommands (take (n + 1) ls) (cs ++ c ∷ [])
spelled_on ls n l more cs c a e s = rw add-one (subst (λ xs. AreCommands xs (cs ++ c ∷ [])) (sym (taken ls n l more e)) (one_more (take n ls) cs l c a s))

pub left_on : (ls : List (List ℕ)) (n : ℕ) (l : List ℕ) (more : List (List ℕ)) → drop n ls ≡ l ∷ more → drop (n + 1) ls ≡ more
left_on ls n l more e = rw add-one (dropped ls n l more e)

pub spelled_whole : (ls : List (List ℕ)) (n : ℕ) (cs : List Command) → AreCommands (take n ls) cs → drop n ls ≡ [] → AreCommands ls cs
spelled_whole ls n cs a e =
    let none : take n ls ++ drop n ls ≡ take n ls = ap (λ xs. take n ls ++ xs) e ∙ append_nil (take n ls) in
    subst (λ xs. AreCommands xs cs) (sym none ∙ take-append-drop n ls) a
  where
    append_nil : (xs : List (List ℕ)) → xs ++ [] ≡ xs
    append_nil [] = refl
    append_nil (x ∷ xs) = ap (λ ys. x ∷ ys) (append_nil xs)

pub first_fault : (ls : List (List ℕ)) (n : ℕ) (l : List ℕ) (more : List (List ℕ)) (cs : List Command) → AreCommands (take n ls) cs → drop n ls ≡ l ∷ more → IsFaulty l → IsFirstFault ls (n + 1)
first_fault ls n l more cs a e none = record { before = n; commands = cs; line = l; counted = refl; spelled = a; there = front_of ls n l more e; faulty = none }

pub all_in_range : (ls : List (List ℕ)) (cs : List Command) → AreCommands ls cs → AllByRecursion IsInRange cs
all_in_range [] [] a = tt
all_in_range [] (c ∷ cs) a = absurd a
all_in_range (l ∷ ls) [] a = absurd a
all_in_range (l ∷ ls) (c ∷ cs) a = (a.0.in_range, all_in_range ls cs a.1)
