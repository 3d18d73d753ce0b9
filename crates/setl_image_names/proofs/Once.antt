-- Names that are in one of two lists.
use Rattle.std.proofs.Common.{◌≡◌, ◌∙◌, Bool, true, false, List, [], ◌∷◌, refl, sym, ap, subst}
use Rattle.std.specs.Prelude.{◌&&◌, not, ◌↔◌, IsTrue}
use Rattle.std.specs.List.{AllByRecursion}
use Rattle.setl_names.specs.Names.{Name, has, in_order}
use Rattle.setl_code.specs.declared.code.OwnName.{OwnName}
use Rattle.setl_image_names.specs.Once.{StandsOnce, is_once, all_once, names_in}
use Rattle.setl_image_names.specs.HasLaws.{has_all}

both : (a b : Bool) → a && b ≡ true → (a ≡ true) × (b ≡ true)
both true b h = (refl, h)
both false b h = cc

join : (a b : Bool) → a ≡ true → b ≡ true → a && b ≡ true
join true b h g = g
join false b h g = cc

once_is : (a b : Bool) → is_once a b ≡ true → b ≡ not a
once_is true true h = cc
once_is true false h = refl
once_is false b h = h

to_once : (a b : Bool) → b ≡ not a → is_once a b ≡ true
to_once true true h = cc
to_once true false h = refl
to_once false b h = h

all_stand : (vars : List Name) (main : List OwnName) (xs : List Name) → all_once vars (names_in main) xs ≡ true → AllByRecursion (StandsOnce vars main) xs
all_stand vars main [] h = tt
all_stand vars main (x ∷ xs) h =
    let two = both (is_once (has vars x) (has (names_in main) x)) (all_once vars (names_in main) xs) h in
    (once_is (has vars x) (has (names_in main) x) two.0, all_stand vars main xs two.1)

to_all : (vars : List Name) (main : List OwnName) (xs : List Name) → AllByRecursion (StandsOnce vars main) xs → all_once vars (names_in main) xs ≡ true
to_all vars main [] h = refl
to_all vars main (x ∷ xs) h = join (is_once (has vars x) (has (names_in main) x)) (all_once vars (names_in main) xs) (to_once (has vars x) (has (names_in main) x) h.0) (to_all vars main xs h.1)

same_all : (vars : List Name) (main : List OwnName) (xs : List Name) → all_once vars (in_order (names_in main)) xs ≡ all_once vars (names_in main) xs
same_all vars main [] = refl
same_all vars main (x ∷ xs) = ap (λ b. is_once (has vars x) b && all_once vars (in_order (names_in main)) xs) (has_all [] (names_in main) x) ∙ ap (λ b. is_once (has vars x) (has (names_in main) x) && b) (same_all vars main xs)

pub stand_tells : (vars mine : List Name) (main : List OwnName) (xs : List Name) (so : Bool) → mine ≡ in_order (names_in main) → so ≡ all_once vars mine xs → IsTrue so ↔ AllByRecursion (StandsOnce vars main) xs
stand_tells vars mine main xs so is tells =
    let same : so ≡ all_once vars (names_in main) xs = tells ∙ ap (λ (ms : List Name). all_once vars ms xs) is ∙ same_all vars main xs in
    (λ h. all_stand vars main xs (sym same ∙ h), λ all. same ∙ to_all vars main xs all)
