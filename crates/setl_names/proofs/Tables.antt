-- The table of procedures.
use Rattle.std.proofs.Common.{◌≡◌, ◌<◌, ◌+◌, ◌∙◌, ℕ, suc, Bool, true, false, cond, List, [], ◌∷◌, drop, length, get_or, Option, Some, refl, sym, ap, bytes_eq, add-one, drop-cons}
use Rattle.std.specs.Global.{Vec}
use Rattle.std.specs.Option.{option_map}
use Rattle.indexmap.specs.IndexMap.{IndexMap, insert_entry}
use Rattle.setl_tree.specs.declared.tree.Param.{Param}
use Rattle.setl_tree.specs.declared.tree.Proc.{Proc}
use Rattle.setl_names.specs.Procedures.{params_of, found_from}
use Rattle.setl_names.specs.ByName.{put_at, none_at, same_key, value_at}
use Rattle.setl_names.specs.code.Tables.{Finds}

-- what a map makes of a choice
map_cond : {A B : Type 0} (f : A → B) (b : Bool) (x y : Option A) → option_map f (cond b x y) ≡ cond b (option_map f x) (option_map f y)
map_cond f true x y = refl
map_cond f false x y = refl

-- no procedures
pub finds_none : {T S : Type 0} (m : IndexMap (Vec ℕ) T S) (f : T → ℕ × List Param) (procs : List Proc) (at : ℕ) → m.entries ≡ [] → drop at procs ≡ [] → Finds m f at (drop at procs)
finds_none m f procs at em ep x = ap (option_map f) (none_at m em x) ∙ sym (ap (λ (ps : List Proc). found_from at ps x) ep)

-- one more procedure in front
pub finds_more : {T S : Type 0} (m n : IndexMap (Vec ℕ) T S) (f : T → ℕ × List Param) (at : ℕ) (procs : List Proc) (proc : Proc) (key : Vec ℕ) (v : T) → key.items ≡ proc.name → f v ≡ (at, proc.params) →
    n.entries ≡ insert_entry same_key m.entries key v → Finds m f (suc at) procs → Finds n f at (proc ∷ procs)
finds_more m n f at procs proc key v ek ef en inv x =
    ap (option_map f) (put_at m n key v en x)
    ∙ map_cond f (bytes_eq x key.items) (Some v) (value_at m x)
    ∙ ap (λ (k : List ℕ). cond (bytes_eq x k) (Some (f v)) (option_map f (value_at m x))) ek
    ∙ ap (λ (found : ℕ × List Param). cond (bytes_eq x proc.name) (Some found) (option_map f (value_at m x))) ef
    ∙ ap (λ (r : Option (ℕ × List Param)). cond (bytes_eq x proc.name) (Some (at, proc.params)) r) (inv x)

-- the parameters of what is found
found_params : (n : ℕ) (procs : List Proc) (x : List ℕ) → option_map (λ (found : ℕ × List Param). found.1) (found_from n procs x) ≡ params_of procs x
found_params n [] x = refl
found_params n (p ∷ ps) x =
    map_cond (λ (found : ℕ × List Param). found.1) (bytes_eq x p.name) (Some (n, p.params)) (found_from (suc n) ps x)
    ∙ ap (cond (bytes_eq x p.name) (Some p.params)) (found_params (suc n) ps x)

pub params_found : (procs : List Proc) (x : List ℕ) (r : Option (ℕ × List Param)) → r ≡ found_from 0 procs x → option_map (λ (found : ℕ × List Param). found.1) r ≡ params_of procs x
params_found procs x r e = ap (option_map (λ (found : ℕ × List Param). found.1)) e ∙ found_params 0 procs x

-- the procedures from the one before on
pub one_before : (procs : List Proc) (at next : ℕ) (proc : Proc) → next + 1 ≡ at → next < length procs → proc ≡ get_or procs next proc → drop next procs ≡ proc ∷ drop at procs
one_before procs at next proc ea h ep =
    drop-cons procs next proc h ∙ ap (λ (z : Proc). z ∷ drop (suc next) procs) (sym ep) ∙ ap (λ k. proc ∷ drop k procs) (sym (add-one next) ∙ ea)
