-- Each variable that stands in a body has a slot.
use Rattle.std.proofs.Common.{◌≡◌, ℕ, Bool, true, false, List, [], ◌∷◌, ◌++◌, ◌⊎◌, inl, inr, map, refl, sym, ap, ◌∙◌, subst}
use Rattle.std.specs.Prelude.{◌||◌, cond, bytes_eq}
use Rattle.std.proofs.lemmas.List.Folds.{list_any-append}
use Rattle.std.proofs.lemmas.Slice.Eq.{bytes_eq-Decides}
use Rattle.setl_model_runs.specs.Variable.{Variable, Global, Own, Bound, is_variable}
use Rattle.setl_model_runs.specs.VariableLaws.{variable_itself}
use Rattle.setl_program.specs.Program.{Parameter}
use Rattle.setl_program.specs.Formed.{FormedVariable}
use Rattle.setl_model.specs.Calls.{parameter}
use Rattle.setl_code.specs.Names.{is_among, is_parameter, is_own, first_among}
use Rattle.setl_code_soundness.specs.Named.{AreAmong}
use Rattle.setl_code_soundness.proofs.Uses.{Each_of}

or_left : (a b : Bool) → a ≡ true → a || b ≡ true
or_left true b h = refl
or_left false b h = cc

or_right : (a b : Bool) → b ≡ true → a || b ≡ true
or_right true b h = refl
or_right false b h = h

either_true : (a b : Bool) → a || b ≡ true → (a ≡ true) ⊎ (b ≡ true)
either_true true b h = inl refl
either_true false b h = inr h

among_first : (xs ys : List Variable) (x : Variable) → is_among xs x ≡ true → is_among (xs ++ ys) x ≡ true
among_first xs ys x h = list_any-append (is_variable x) xs ys ∙ or_left (is_among xs x) (is_among ys x) h

among_later : (xs ys : List Variable) (x : Variable) → is_among ys x ≡ true → is_among (xs ++ ys) x ≡ true
among_later xs ys x h = list_any-append (is_variable x) xs ys ∙ or_right (is_among xs x) (is_among ys x) h

-- a parameter by its name
of_parameter : (n : ℕ) (ps : List Parameter) (name : List ℕ) → is_parameter ps name ≡ true → is_among (map (parameter n) ps) (Own n name) ≡ true
of_parameter n [] name h = cc
of_parameter n (p ∷ ps) name h = go (either_true (bytes_eq p.name name) (is_parameter ps name) h) (of_parameter n ps name)
  where
    go : (bytes_eq p.name name ≡ true) ⊎ (is_parameter ps name ≡ true) → (is_parameter ps name ≡ true → is_among (map (parameter n) ps) (Own n name) ≡ true) → is_among (map (parameter n) (p ∷ ps)) (Own n name) ≡ true
    go (inl one) later =
        let same : name ≡ p.name = sym ((bytes_eq-Decides p.name name).0 one) in
        or_left (is_variable (Own n name) (Own n p.name)) (is_among (map (parameter n) ps) (Own n name)) (subst (λ m. is_variable (Own n name) (Own n m) ≡ true) same (variable_itself (Own n name)))
    go (inr two) later = or_right (is_variable (Own n name) (Own n p.name)) (is_among (map (parameter n) ps) (Own n name)) (later two)

module _ (ps : List Parameter) where
  -- an own name was seen before, or stands among the first ones
  abbrev Found : List Variable → List Variable → Variable → Type 0
  Found seen xs x = is_own ps x ≡ true → (is_among seen x ≡ true) ⊎ (is_among (first_among ps seen xs) x ≡ true)

  mapped : (V W : Variable → Type 0) (xs : List Variable) → ((y : Variable) → V y → W y) → Each_of V xs → Each_of W xs
  mapped V W [] f h = tt
  mapped V W (x ∷ xs) f h = (f x h.0, mapped V W xs f h.1)

  all_found : (seen xs : List Variable) → Each_of (Found seen xs) xs
  all_found seen [] = tt
  all_found seen (x ∷ xs) = go (is_own ps x) refl (is_among seen x) refl (all_found seen xs) (all_found (x ∷ seen) xs)
    where
      rest : List Variable
      rest = first_among ps seen xs

      new : List Variable
      new = x ∷ first_among ps (x ∷ seen) xs

      Sees : List Variable → Variable → Type 0
      Sees found y = is_own ps y ≡ true → (is_among seen y ≡ true) ⊎ (is_among found y ≡ true)

      go : (b : Bool) → is_own ps x ≡ b → (d : Bool) → is_among seen x ≡ d → Each_of (Found seen xs) xs → Each_of (Found (x ∷ seen) xs) xs → Each_of (Sees (cond (is_own ps x) (cond (is_among seen x) rest new) rest)) (x ∷ xs)
      go false own d seen_ old fresh =
          let same : cond (is_own ps x) (cond (is_among seen x) rest new) rest ≡ rest = ap (λ b. cond b (cond (is_among seen x) rest new) rest) own in
          subst (λ L. Each_of (Sees L) (x ∷ xs)) (sym same) ((λ mine. (cc)), old)
      go true own true seen_ old fresh =
          let same : cond (is_own ps x) (cond (is_among seen x) rest new) rest ≡ rest = ap (λ b. cond b (cond (is_among seen x) rest new) rest) own ∙ ap (λ b. cond b rest new) seen_ in
          subst (λ L. Each_of (Sees L) (x ∷ xs)) (sym same) ((λ mine. inl seen_), old)
      go true own false seen_ old fresh =
          let same : cond (is_own ps x) (cond (is_among seen x) rest new) rest ≡ new = ap (λ b. cond b (cond (is_among seen x) rest new) rest) own ∙ ap (λ b. cond b rest new) seen_ in
          subst (λ L. Each_of (Sees L) (x ∷ xs)) (sym same) ((λ mine. inr (or_left (is_variable x x) (is_among (first_among ps (x ∷ seen) xs) x) (variable_itself x))), mapped (Found (x ∷ seen) xs) (Sees new) xs shift fresh)
        where
          shift : (y : Variable) → Found (x ∷ seen) xs y → Sees new y
          shift y found mine = turn (found mine)
            where
              first : (is_variable y x ≡ true) ⊎ (is_among seen y ≡ true) → (is_among seen y ≡ true) ⊎ (is_among new y ≡ true)
              first (inl one) = inr (or_left (is_variable y x) (is_among (first_among ps (x ∷ seen) xs) y) one)
              first (inr two) = inl two

              turn : (is_among (x ∷ seen) y ≡ true) ⊎ (is_among (first_among ps (x ∷ seen) xs) y ≡ true) → (is_among seen y ≡ true) ⊎ (is_among new y ≡ true)
              turn (inl before) = first (either_true (is_variable y x) (is_among seen y) before)
              turn (inr behind) = inr (or_right (is_variable y x) (is_among (first_among ps (x ∷ seen) xs) y) behind)

-- a slot among the variables of the whole program, the parameters and the names
abbrev pub Slot : List Variable → ℕ → List Parameter → List Variable → Variable → Type 0
Slot vars n ps names x = is_among (vars ++ (map (parameter n) ps ++ names)) x ≡ true

module _ (vars : List Variable) (n : ℕ) (ps : List Parameter) (whole : List Variable) where
  abbrev Mine : Variable → Type 0
  Mine x = Slot vars n ps (first_among ps [] whole) x

  behind : (x : Variable) → is_own ps x ≡ true → Found ps [] whole x → Mine x
  behind x own found = go (found own)
    where
      go : (is_among [] x ≡ true) ⊎ (is_among (first_among ps [] whole) x ≡ true) → Mine x
      go (inl never) = cc
      go (inr there) = among_later vars (map (parameter n) ps ++ first_among ps [] whole) x (among_later (map (parameter n) ps) (first_among ps [] whole) x there)

  own_slot : (body : ℕ) (name : List ℕ) → body ≡ n → Found ps [] whole (Own body name) → Mine (Own body name)
  own_slot body name same found = go (is_parameter ps name) refl
    where
      go : (b : Bool) → is_parameter ps name ≡ b → Mine (Own body name)
      go true is = subst (λ m. Mine (Own m name)) (sym same) (among_later vars (map (parameter n) ps ++ first_among ps [] whole) (Own n name) (among_first (map (parameter n) ps) (first_among ps [] whole) (Own n name) (of_parameter n ps name is)))
      go false is = behind (Own body name) (ap (λ b. cond b false true) is) found

  pub slots_there : (xs : List Variable) → Each_of (FormedVariable n) xs → AreAmong vars xs → Each_of (Found ps [] whole) xs → Each_of Mine xs
  slots_there [] f g h = tt
  slots_there (Global name ∷ xs) f g h = (among_first vars (map (parameter n) ps ++ first_among ps [] whole) (Global name) g.0, slots_there xs f.1 g.1 h.1)
  slots_there (Own body name ∷ xs) f g h = (own_slot body name f.0 h.0, slots_there xs f.1 g h.1)
  slots_there (Bound former name ∷ xs) f g h = (behind (Bound former name) refl h.0, slots_there xs f.1 g h.1)

-- each variable of a formed block has a slot, where those of the whole program stand in `var`
pub all_slotted : (vars : List Variable) (n : ℕ) (ps : List Parameter) (xs : List Variable) → Each_of (FormedVariable n) xs → AreAmong vars xs → Each_of (Slot vars n ps (first_among ps [] xs)) xs
all_slotted vars n ps xs f g = slots_there vars n ps xs xs f g (all_found ps [] xs)
