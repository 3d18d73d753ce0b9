-- What resolving finds in a whole program.
use Rattle.std.proofs.Common.{◌≡◌, ◌∙◌, ℕ, List, [], ◌∷◌, ◌++◌, map, fold, None, Result, Ok, Err, IfOk, refl, sym, ap, append_assoc}
use Rattle.std.proofs.lemmas.List.{append-nil}
use Rattle.std.proofs.lemmas.List.Sums.{fold-append}
use Rattle.setl_tree.specs.declared.tree.Proc.{Proc}
use Rattle.setl_tree.specs.declared.tree.Tree.{Tree}
use Rattle.setl_names.specs.declared.bodies.BodyNames.{BodyNames}
use Rattle.setl_names_walk.specs.declared.program.Resolution.{Resolution}
use Rattle.setl_names.specs.Names.{Name, in_order}
use Rattle.setl_names.specs.Bodies.{Body, bodies, occurrences}
use Rattle.setl_names.specs.Breaks.{earlier, body_breaks, all_body_breaks, head_breaks, breaks, first_break}
use Rattle.setl_names_walk.specs.Found.{with_body, with_bodies, whole_program}
use Rattle.setl_names.specs.Procedures.{param_names}
use Rattle.setl_names.specs.Resolves.{all_names}
use Rattle.setl_names.specs.Variables.{variables, body_names, var_names}
use Rattle.setl_names_walk.proofs.NameLists.{own_in_order}

first_of_bodies : (procs : List Proc) (vars : List Name) (bs : List Body) (f : Resolution) → (with_bodies procs vars bs f).first ≡ fold earlier f.first (all_body_breaks procs bs)
first_of_bodies procs vars [] f = refl
first_of_bodies procs vars (b ∷ bs) f =
    first_of_bodies procs vars bs (with_body procs vars b f) ∙ sym (fold-append earlier f.first (body_breaks procs b) (all_body_breaks procs bs))

names_of_body : (procs : List Proc) (vars : List Name) (b : Body) (f : Resolution) → (with_body procs (in_order vars) b f).names ≡ f.names ++ body_names procs vars b ∷ []
names_of_body procs vars b f =
    ap (λ (xs : List Name). f.names ++ record { name = b.name; params = b.params; slots = in_order xs } ∷ []) (own_in_order (param_names b.params) vars (variables procs (occurrences b)))

names_of_bodies : (procs : List Proc) (vars : List Name) (bs : List Body) (f : Resolution) → (with_bodies procs (in_order vars) bs f).names ≡ f.names ++ map (body_names procs vars) bs
names_of_bodies procs vars [] f = sym (append-nil f.names)
names_of_bodies procs vars (b ∷ bs) f =
    names_of_bodies procs vars bs (with_body procs (in_order vars) b f)
    ∙ ap (λ (ns : List BodyNames). ns ++ map (body_names procs vars) bs) (names_of_body procs vars b f)
    ∙ append_assoc f.names (body_names procs vars b ∷ []) (map (body_names procs vars) bs)

whole_first : (t : Tree) → (whole_program t).first ≡ first_break (breaks t)
whole_first t =
    first_of_bodies t.procs (in_order (var_names t.vars)) (bodies t) (record { first = first_break (head_breaks t); names = [] })
    ∙ sym (fold-append earlier None (head_breaks t) (all_body_breaks t.procs (bodies t)))

whole_names : (t : Tree) → (whole_program t).names ≡ all_names t
whole_names t = names_of_bodies t.procs (var_names t.vars) (bodies t) (record { first = first_break (head_breaks t); names = [] })

-- what was found is so
pub first_found : {E : Type 0} (t : Tree) (r : Result Resolution E) → IfOk r (λ f. f ≡ whole_program t) → IfOk r (λ f. f.first ≡ first_break (breaks t))
first_found t (Ok f) h = ap (λ (z : Resolution). z.first) h ∙ whole_first t
first_found t (Err e) h = tt

pub names_found : {E : Type 0} (t : Tree) (r : Result Resolution E) → IfOk r (λ f. f ≡ whole_program t) → IfOk r (λ f. f.names ≡ all_names t)
names_found t (Ok f) h = ap (λ (z : Resolution). z.names) h ∙ whole_names t
names_found t (Err e) h = tt
