-- Variables and bodies by their places, and that no text tells the number of a body.
use Rattle.std.proofs.Common.{◌≡◌, ◌∙◌, ℕ, zero, suc, ◌-◌, ◌≤◌, List, [], ◌∷◌, ◌++◌, length, map, slice_get, Some, refl, ap, arith, codes}
use Rattle.setl_tree.specs.declared.tree.Param.{Param}
use Rattle.setl_model_runs.specs.Variable.{Variable, Bound}
use Rattle.setl_code.specs.declared.code.Slot.{Slot}
use Rattle.setl_code.specs.declared.code.Slot.TheVariants as slot
use Rattle.setl_code.specs.declared.code.OwnName.{OwnName}
use Rattle.setl_code.specs.declared.code.OwnName.TheVariants as name
use Rattle.setl_code.specs.declared.code.Instr.{Instr}
use Rattle.setl_code.specs.declared.code.Instr.TheVariants as i
use Rattle.setl_code.specs.declared.code.Step.{Step}
use Rattle.setl_code.specs.declared.code.Body.{Body}
use Rattle.setl_code.specs.Code as plain
use Rattle.setl_code.specs.Listing.{alteration_word, body_text, brackets_text, instr_text, name_at, steps_text, variable_text}
use Rattle.setl_code.specs.Plain.{Variables, own_variables, plain_alteration, plain_bodies, plain_body, plain_bracket, plain_instr, plain_name, plain_slot, plain_step, variable_at}

module _ {A : Type 0} (f : A → Variable) where
  -- a place within a list, and one past it
  pub variable_within : (xs : List A) (k : ℕ) (x : A) → slice_get xs k ≡ Some x → variable_at (map f xs) k ≡ f x
  variable_within [] k x h = absurd (cc)
  variable_within (y ∷ xs) zero x h = let same : y ≡ x = cc in ap f same
  variable_within (y ∷ xs) (suc k) x h = variable_within xs k x h

  pub variable_past : (xs : List A) (k : ℕ) → length xs ≤ k → variable_at (map f xs) k ≡ Bound 0 []
  variable_past [] k h = refl
  variable_past (y ∷ xs) zero h = absurd (omega arith)
  variable_past (y ∷ xs) (suc k) h = variable_past xs k (omega arith)

  -- a place within the first of two lists, and one past it
  pub variable_in_first : (xs : List A) (ys : List Variable) (k : ℕ) (x : A) → slice_get xs k ≡ Some x → variable_at (map f xs ++ ys) k ≡ f x
  variable_in_first [] ys k x h = absurd (cc)
  variable_in_first (y ∷ xs) ys zero x h = let same : y ≡ x = cc in ap f same
  variable_in_first (y ∷ xs) ys (suc k) x h = variable_in_first xs ys k x h

  pub variable_in_second : (xs : List A) (ys : List Variable) (k : ℕ) → length xs ≤ k → variable_at (map f xs ++ ys) k ≡ variable_at ys (k - length xs)
  variable_in_second [] ys k h = ap (variable_at ys) (omega arith)
  variable_in_second (y ∷ xs) ys zero h = absurd (omega arith)
  variable_in_second (y ∷ xs) ys (suc k) h = variable_in_second xs ys k (omega arith) ∙ ap (variable_at ys) (omega arith)

pub name_within : (vars : List Variable) (first : ℕ) (bs : List Body) (n : ℕ) (b : Body) → slice_get bs n ≡ Some b → name_at n (plain_bodies vars first bs) ≡ b.name
name_within vars first [] n b h = absurd (cc)
name_within vars first (c ∷ bs) zero b h = let same : c ≡ b = cc in ap (λ (d : Body). d.name) same
name_within vars first (c ∷ bs) (suc n) b h = name_within vars (suc first) bs n b h

pub name_past : (vars : List Variable) (first : ℕ) (bs : List Body) (n : ℕ) → length bs ≤ n → name_at n (plain_bodies vars first bs) ≡ []
name_past vars first [] n h = refl
name_past vars first (c ∷ bs) zero h = absurd (omega arith)
name_past vars first (c ∷ bs) (suc n) h = name_past vars (suc first) bs n (omega arith)

-- ---- numbers of bodies

names_same : (n : ℕ) (names : List OwnName) (k : ℕ) → variable_text (variable_at (map (plain_name n) names) k) ≡ variable_text (variable_at (map (plain_name 0) names) k)
names_same n [] k = refl
names_same n (name.Body x ∷ names) zero = refl
names_same n (name.Former former x ∷ names) zero = refl
names_same n (x ∷ names) (suc k) = names_same n names k

own_same : (n : ℕ) (ps : List Param) (names : List OwnName) (k : ℕ) → variable_text (variable_at (own_variables n ps names) k) ≡ variable_text (variable_at (own_variables 0 ps names) k)
own_same n [] names k = names_same n names k
own_same n (p ∷ ps) names zero = refl
own_same n (p ∷ ps) names (suc k) = own_same n ps names k

module _ (vars : List Variable) (n : ℕ) (ps : List Param) (names : List OwnName) where
  abbrev of_body : ℕ → Variables
  of_body m = record { global = vars; own = own_variables m ps names }

  slot_same : (x : Slot) → variable_text (plain_slot (of_body n) x) ≡ variable_text (plain_slot (of_body 0) x)
  slot_same (slot.Global k) = refl
  slot_same (slot.Own k) = own_same n ps names k

  instr_same : (bs : List plain.Body) (what : Instr) → instr_text bs (plain_instr (of_body n) what) ≡ instr_text bs (plain_instr (of_body 0) what)
  instr_same bs (i.Load x) = ap (λ t. codes "load " ++ t) (slot_same x)
  instr_same bs (i.Take x) = ap (λ t. codes "take " ++ t) (slot_same x)
  instr_same bs (i.Store x) = ap (λ t. codes "store " ++ t) (slot_same x)
  instr_same bs (i.Alter a x ks) = ap (λ t. alteration_word (plain_alteration a) ++ 32 ∷ t ++ brackets_text (map plain_bracket ks)) (slot_same x)
  instr_same bs what = refl

  steps_same : (bs : List plain.Body) (at : ℕ) (ss : List Step) → steps_text bs at (map (plain_step (of_body n)) ss) ≡ steps_text bs at (map (plain_step (of_body 0)) ss)
  steps_same bs at [] = refl
  steps_same bs at (s ∷ ss) = cc (instr_same bs s.what, steps_same bs (suc at) ss)

-- the text of a body, whatever its number
pub body_same : (bs : List plain.Body) (vars : List Variable) (n : ℕ) (b : Body) (head : List ℕ) → body_text bs head (plain_body vars n b) ≡ body_text bs head (plain_body vars 0 b)
body_same bs vars n b head = ap (λ t. head ++ 10 ∷ t) (steps_same vars n b.parameters b.names bs 0 b.steps)
