-- The table of declared slots tells which variables are declared.
use Rattle.std.proofs.Common.{◌≡◌, ◌∙◌, ◌<◌, ℕ, zero, suc, Bool, true, false, List, [], ◌∷◌, ◌++◌, ◌||◌, map, length, get_or, nat_eq, refl, sym, ap, subst, arith, eqb-true, bytes_eq}
use Rattle.std.specs.Prelude.{◌&&◌, if◌then◌else◌, Option, Some}
use Rattle.std.specs.Cmp.Lexicographic.{bytes_decides}
use Rattle.setl_tree.specs.declared.tree.Param.{Param}
use Rattle.setl_names.specs.Names.{Name, has, with_name}
use Rattle.setl_model_runs.specs.Variable.{Variable, Global, Own, Bound}
use Rattle.setl_code.specs.declared.code.OwnName.{OwnName}
use Rattle.setl_code.specs.declared.code.OwnName.TheVariants as name
use Rattle.setl_code.specs.declared.code.Body.{Body}
use Rattle.setl_code.specs.Names.{is_among}
use Rattle.setl_code.specs.Plain.{own_variables, variable_at}
use Rattle.setl_live.specs.Slots.{OnlyMain, TellsDeclared, with_main, with_all_main, is_named, table_by}

-- ---- truth values

or_no : (b : Bool) → b || false ≡ b
or_no true = refl
or_no false = refl

or_yes : (b : Bool) → b || true ≡ true
or_yes true = refl
or_yes false = refl

or_grouped : (a b c : Bool) → (a || b) || c ≡ a || (b || c)
or_grouped true b c = refl
or_grouped false b c = refl

-- ---- names

has_end : (xs : List Name) (y x : Name) → has (xs ++ y ∷ []) x ≡ has xs x || bytes_eq x y
has_end [] y x = or_no (bytes_eq x y)
has_end (z ∷ xs) y x = ap (λ b. bytes_eq x z || b) (has_end xs y x) ∙ sym (or_grouped (bytes_eq x z) (has xs x) (bytes_eq x y))

-- with one more name they have what they had, and it
has_with : (xs : List Name) (y x : Name) → has (with_name xs y) x ≡ has xs x || bytes_eq x y
has_with xs y x = by (has xs y) refl
  where
    there : (b : Bool) → has xs y ≡ true → bytes_eq x y ≡ b → has xs x ≡ has xs x || b
    there false is same = sym (or_no (has xs x))
    there true is same = ap (has xs) ((bytes_decides x y).0 same) ∙ is ∙ sym (or_yes (has xs x))

    by : (b : Bool) → has xs y ≡ b → has (if b then xs else xs ++ y ∷ []) x ≡ has xs x || bytes_eq x y
    by true is = there (bytes_eq x y) is refl
    by false is = has_end xs y x

unlike : (n : ℕ) → nat_eq 0 (suc n) ≡ false
unlike n = by (nat_eq 0 (suc n)) refl
  where
    by : (b : Bool) → nat_eq 0 (suc n) ≡ b → b ≡ false
    by false is = refl
    by true is = absurd (let same : 0 ≡ suc n = eqb-true 0 (suc n) is in omega arith)

-- a name that was there or is that of one of the variables
has_main : (names : List Name) (xs : List Variable) (x : Name) → has (with_all_main names xs) x ≡ has names x || is_among xs (Own 0 x)
has_main names [] x = sym (or_no (has names x))
has_main names (Global y ∷ xs) x = has_main names xs x
has_main names (Own zero y ∷ xs) x = has_main (with_name names y) xs x ∙ ap (λ b. b || is_among xs (Own 0 x)) (has_with names y x) ∙ or_grouped (has names x) (bytes_eq x y) (is_among xs (Own 0 x))
has_main names (Own (suc n) y ∷ xs) x = has_main names xs x ∙ ap (λ b. has names x || ((b && bytes_eq x y) || is_among xs (Own 0 x))) (sym (unlike n))
has_main names (Bound former y ∷ xs) x = has_main names xs x

-- the name of a variable of another body isn't put
pub other_body : (names : List Name) (n : ℕ) (x : Name) → (n ≡ 0 → ⊥) → with_main names (Own n x) ≡ names
other_body names zero x other = absurd (other refl)
other_body names (suc n) x other = refl

-- ---- slots

module _ (xs : List Variable) (only : OnlyMain xs) where
  abbrev names : List Name
  names = with_all_main [] xs

  of_names : (ns : List OwnName) → map (is_named names) ns ≡ map (is_among xs) (own_variables 0 [] ns)
  of_names [] = refl
  of_names (name.Body x ∷ ns) = λ i. has_main [] xs x i ∷ of_names ns i
  of_names (name.Former former x ∷ ns) = λ i. sym (only.formers former x) i ∷ of_names ns i

  of_all : (ps : List Param) (ns : List OwnName) → table_by names ps ns ≡ map (is_among xs) (own_variables 0 ps ns)
  of_all [] ns = of_names ns
  of_all (p ∷ ps) ns = λ i. has_main [] xs p.name i ∷ of_all ps ns i

  at_slot : (f : Variable → Bool) (ys : List Variable) (k : ℕ) → k < length ys → get_or (map f ys) k false ≡ f (variable_at ys k)
  at_slot f [] k within = absurd (omega arith)
  at_slot f (y ∷ ys) zero within = refl
  at_slot f (y ∷ ys) (suc k) within = let less : k < length ys = omega arith in at_slot f ys k less

  pub tells : (b : Body) → TellsDeclared xs (Some b) (table_by names b.parameters b.names)
  tells b k within = ap (λ (table : List Bool). get_or table k false) (of_all b.parameters b.names) ∙ at_slot (is_among xs) (own_variables 0 b.parameters b.names) k within

  -- the same of the first of a code's bodies
  pub tells_of : (ns : List Name) (b : Body) (o : Option Body) (table : List Bool) → ns ≡ names → o ≡ Some b → table ≡ table_by ns b.parameters b.names → TellsDeclared xs o table
  tells_of ns b o table same is by =
      subst (λ (p : Option Body). TellsDeclared xs p table) (sym is)
      (subst (λ (t : List Bool). TellsDeclared xs (Some b) t) (sym (by ∙ ap (λ (ms : List Name). table_by ms b.parameters b.names) same)) (tells b))
