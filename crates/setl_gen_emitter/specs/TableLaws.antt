-- The own names of a body are those that stand first in it.
use Rattle.std.proofs.Common.{◌≡◌, Bool, true, false, cond, List, [], ◌∷◌, ◌++◌, ◌||◌, map, ap, sym, ◌∙◌, append_assoc}
use Rattle.std.proofs.Math.Bool.{or_assoc, or_comm}
use Rattle.std.proofs.lemmas.List.{append-nil}
use Rattle.setl_tree.specs.declared.tree.Param.{Param}
use Rattle.setl_model_runs.specs.Variable.{Variable, is_variable}
use Rattle.setl_program.specs.ProgramOf.{parameter_of}
use Rattle.setl_code.specs.Names.{is_among, is_own, first_among}
use Rattle.setl_gen_emitter.specs.Table.{with_all}

-- whether a variable is among some and one more
pub is_among_more : (xs : List Variable) (y x : Variable) → is_among (xs ++ y ∷ []) x ≡ (is_among xs x || is_variable x y)
is_among_more [] y x = or_comm (is_variable x y) false
is_among_more (z ∷ xs) y x = ap (λ b. is_variable x z || b) (is_among_more xs y x) ∙ sym (or_assoc (is_variable x z) (is_among xs x) (is_variable x y))

-- two lists with the same variables
abbrev pub Same : List Variable → List Variable → Type 0
Same names seen = (x : Variable) → is_among names x ≡ is_among seen x

by_tests : (ps : List Param) (names rest new xs : List Variable) (x : Variable) (own among : Bool) → with_all ps names xs ≡ names ++ rest → with_all ps (names ++ x ∷ []) xs ≡ names ++ new → with_all ps (cond own (cond among names (names ++ x ∷ [])) names) xs ≡ names ++ cond own (cond among rest new) rest
by_tests ps names rest new xs x false among e f = e
by_tests ps names rest new xs x true true e f = e
by_tests ps names rest new xs x true false e f = f

-- noted one after the other, those are added that stand first
pub all_first : (ps : List Param) (names seen xs : List Variable) → Same names seen → with_all ps names xs ≡ names ++ first_among (map parameter_of ps) seen xs
all_first ps names seen [] same = sym (append-nil names)
all_first ps names seen (x ∷ xs) same =
    let qs = map parameter_of ps in
    let rest = first_among qs seen xs in
    let new = x ∷ first_among qs (x ∷ seen) xs in
    let more : Same (names ++ x ∷ []) (x ∷ seen) = λ y. is_among_more names x y ∙ ap (λ b. b || is_variable y x) (same y) ∙ or_comm (is_among seen y) (is_variable y x) in
    by_tests ps names rest new xs x (is_own qs x) (is_among names x) (all_first ps names seen xs same)
    (all_first ps (names ++ x ∷ []) (x ∷ seen) xs more ∙ append_assoc names (x ∷ []) (first_among qs (x ∷ seen) xs))
    ∙ ap (λ b. names ++ cond (is_own qs x) (cond b rest new) rest) (same x)
