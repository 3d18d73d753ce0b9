-- Names of slots, and bodies by their numbers.
use Rattle.std.proofs.Common.{◌≡◌, ◌∙◌, ◌<◌, ◌≤◌, ◌+◌, ◌-◌, ℕ, zero, suc, List, [], ◌∷◌, ◌++◌, map, length, slice_index_or, Option, None, Some, refl, sym, ap, arith}
use Rattle.std.specs.Prelude.{slice_get}
use Rattle.std.specs.Option.{option_map}
use Rattle.setl_value.specs.Datum.{Datum}
use Rattle.setl_tree.specs.declared.tree.Param.{Param}
use Rattle.setl_program.specs.ProgramOf.{parameter_of}
use Rattle.setl_model_runs.specs.Variable.{Variable, Global}
use Rattle.setl_model.specs.Calls.{parameter, bindings}
use Rattle.setl_code.specs.declared.code.OwnName.{OwnName}
use Rattle.setl_code.specs.declared.code.OwnName.TheVariants as name
use Rattle.setl_code.specs.declared.code.Slot.{Slot}
use Rattle.setl_code.specs.declared.code.Slot.TheVariants as slot
use Rattle.setl_code.specs.declared.code.Body as declared
use Rattle.setl_code.specs.declared.code.Code as declared_code
use Rattle.setl_code.specs.Plain.{plain_name, variable_at, plain_body, plain_bodies, plain_code}
use Rattle.setl_watch.specs.Notices.{Called as CallNotice, Returned as ReturnNotice, noticed}
use Rattle.setl_code_events.specs.Told.{return_told, stores_told}
use Rattle.setl_code_events.specs.Notes.{told_name, own_slots, variable_of, own_told, slot_told, call_notices}

pub slot_param : (ps : List Param) (names : List OwnName) (k : ℕ) (d : Param) → k < length ps → Some (slice_index_or ps k d).name ≡ slot_told ps names k
slot_param [] names k d h = absurd (omega (arith, h))
slot_param (p ∷ ps) names zero d h = refl
slot_param (p ∷ ps) names (suc k) d h = slot_param ps names k d (omega (arith, h))

pub slot_name : (ps : List Param) (names : List OwnName) (k : ℕ) → length ps ≤ k → own_told (slice_get names (k - length ps)) ≡ slot_told ps names k
slot_name [] names k h = let e : k - 0 ≡ k = omega arith in ap (λ j. own_told (slice_get names j)) e
slot_name (p ∷ ps) names zero h = absurd (omega (arith, h))
slot_name (p ∷ ps) names (suc k) h = let e : suc k - suc (length ps) ≡ k - length ps = omega arith in ap (λ j. own_told (slice_get names j)) e ∙ slot_name ps names k (omega (arith, h))

pub global_told : (vars : List (List ℕ)) (k : ℕ) → told_name (variable_at (map Global vars) k) ≡ slice_get vars k
global_told [] zero = refl
global_told [] (suc k) = refl
global_told (x ∷ xs) zero = refl
global_told (x ∷ xs) (suc k) = global_told xs k

name_is : (n : ℕ) (x : OwnName) → told_name (plain_name n x) ≡ own_told (Some x)
name_is n (name.Body x) = refl
name_is n (name.Former former x) = refl

names_told : (n : ℕ) (names : List OwnName) (k : ℕ) → told_name (variable_at (map (plain_name n) names) k) ≡ own_told (slice_get names k)
names_told n [] zero = refl
names_told n [] (suc k) = refl
names_told n (x ∷ xs) zero = name_is n x
names_told n (x ∷ xs) (suc k) = names_told n xs k

own_slot_told : (n : ℕ) (ps : List Param) (names : List OwnName) (k : ℕ) → told_name (variable_at (map (parameter n) (map parameter_of ps) ++ map (plain_name n) names) k) ≡ slot_told ps names k
own_slot_told n [] names k = names_told n names k
own_slot_told n (p ∷ ps) names zero = refl
own_slot_told n (p ∷ ps) names (suc k) = own_slot_told n ps names k

bodies_at : (vars : List Variable) (n : ℕ) (bs : List declared.Body) (k : ℕ) → slice_get (plain_bodies vars n bs) k ≡ option_map (plain_body vars (n + k)) (slice_get bs k)
bodies_at vars n [] zero = refl
bodies_at vars n [] (suc k) = refl
bodies_at vars n (b ∷ bs) zero = let e : n ≡ n + 0 = omega arith in ap (λ j. Some (plain_body vars j b)) e
bodies_at vars n (b ∷ bs) (suc k) = let e : suc n + k ≡ n + suc k = omega arith in bodies_at vars (suc n) bs k ∙ ap (λ j. option_map (plain_body vars j) (slice_get bs k)) e

pub body_at : (c : declared_code.Code) (k : ℕ) → slice_get (plain_code c).bodies k ≡ option_map (plain_body (map Global c.vars) k) (slice_get c.bodies k)
body_at c k = let e : 0 + k ≡ k = omega arith in bodies_at (map Global c.vars) 0 c.bodies k ∙ ap (λ j. option_map (plain_body (map Global c.vars) j) (slice_get c.bodies k)) e

-- the name of a slot's variable
pub name_in_global : (c : declared_code.Code) (n k : ℕ) (x : Slot) → x ≡ slot.Global k → slice_get c.vars k ≡ told_name (variable_of (plain_code c) n x)
name_in_global c n k x e = sym (ap (λ y. told_name (variable_of (plain_code c) n y)) e ∙ global_told c.vars k)

pub name_in_none : (c : declared_code.Code) (n k : ℕ) (x : Slot) → x ≡ slot.Own k → slice_get c.bodies n ≡ None → None ≡ told_name (variable_of (plain_code c) n x)
name_in_none c n k x e h = sym (ap (λ y. told_name (variable_of (plain_code c) n y)) e ∙ ap (λ b. told_name (variable_at (own_slots n b) k)) (body_at c n ∙ ap (option_map (plain_body (map Global c.vars) n)) h) ∙ nothing k)
  where
    nothing : (k : ℕ) → told_name (variable_at [] k) ≡ None
    nothing k = refl

pub name_in_own : (c : declared_code.Code) (n k : ℕ) (x : Slot) (b : declared.Body) → x ≡ slot.Own k → slice_get c.bodies n ≡ Some b → slot_told b.parameters b.names k ≡ told_name (variable_of (plain_code c) n x)
name_in_own c n k x b e h = sym (ap (λ y. told_name (variable_of (plain_code c) n y)) e ∙ ap (λ b. told_name (variable_at (own_slots n b) k)) (body_at c n ∙ ap (option_map (plain_body (map Global c.vars) n)) h) ∙ own_slot_told n b.parameters b.names k)

-- ---- calls and returns

pub call_there : (c : declared_code.Code) (n line : ℕ) (vs : List (Option Datum)) (b : declared.Body) → slice_get c.bodies n ≡ Some b → call_notices n (slice_get (plain_code c).bodies n) line vs ≡ CallNotice line b.name ∷ map noticed (stores_told line (bindings n (map parameter_of b.parameters) vs))
call_there c n line vs b h = ap (λ d. call_notices n d line vs) (body_at c n ∙ ap (option_map (plain_body (map Global c.vars) n)) h)

pub call_none : (c : declared_code.Code) (n line : ℕ) (vs : List (Option Datum)) → slice_get c.bodies n ≡ None → call_notices n (slice_get (plain_code c).bodies n) line vs ≡ []
call_none c n line vs h = ap (λ d. call_notices n d line vs) (body_at c n ∙ ap (option_map (plain_body (map Global c.vars) n)) h)

pub return_there : (c : declared_code.Code) (n : ℕ) (b : declared.Body) → slice_get c.bodies n ≡ Some b → map noticed (return_told (slice_get (plain_code c).bodies n)) ≡ ReturnNotice b.name ∷ []
return_there c n b h = ap (λ d. map noticed (return_told d)) (body_at c n ∙ ap (option_map (plain_body (map Global c.vars) n)) h)

pub return_none : (c : declared_code.Code) (n : ℕ) → slice_get c.bodies n ≡ None → map noticed (return_told (slice_get (plain_code c).bodies n)) ≡ []
return_none c n h = ap (λ d. map noticed (return_told d)) (body_at c n ∙ ap (option_map (plain_body (map Global c.vars) n)) h)
