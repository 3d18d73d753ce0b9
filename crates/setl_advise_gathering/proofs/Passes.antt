-- The conditions of arguments with their parameters.
use Rattle.std.proofs.Common.{◌≡◌, ℕ, ◌+◌, ◌<◌, ◌≤◌, List, [], ◌∷◌, ◌++◌, drop, length, map, refl, ap, sym, arith, ◌∙◌, append_assoc, Option, Some, None}
use Rattle.std.proofs.Math.ListN.{get_or}
use Rattle.std.proofs.lemmas.List.{append-nil, drop_all}
use Rattle.std.proofs.lemmas.Option.{slice_get-map}
use Rattle.std.specs.Prelude.{slice_get}
use Rattle.std.specs.Option.{option_map}
use Rattle.setl_tree.specs.declared.tree.Param.{Param}
use Rattle.setl_program.specs.declared.expr.Argument.{Argument, fold_out-Argument}
use Rattle.setl_program.specs.declared.expr.Argument.TheOpen.{Argument-F}
use Rattle.setl_program.specs.declared.program.Procedure.{Procedure}
use Rattle.setl_program.specs.Program as plain
use Rattle.setl_program.specs.Program.{Binding, Expr, Exprs, Arguments, no_argument, Parameter}
use Rattle.setl_program.specs.ProgramOf.{parameter_of}
use Rattle.setl_program.specs.code.Plain.{plain_argument, plain_arguments, plain_procedure, argument_step, expr_step, link_step, iterator_step}
use Rattle.setl_advise_conditions.specs.Conditions.{Condition}
use Rattle.setl_advise_conditions.specs.Parts.{passed_conditions, call_conditions}
use Rattle.setl_advise_gathering.proofs.Links.{drop_at}

abbrev Layer : Type 0
Layer = Argument-F (Arguments → Arguments) Expr (Expr → Expr) (Binding × Exprs)

-- what an argument puts before the others is one of three
layer_of : (x : Argument) → (l : Layer) × (plain_argument x ≡ argument_step l)
layer_of x = (_, fold_out-Argument (Arguments → Arguments) Expr (Expr → Expr) (Binding × Exprs) argument_step expr_step link_step iterator_step x)

module _ (body : ℕ) where
  layer_passed : (p : Parameter) (ps : List Parameter) (y : Layer) (rest : Arguments) → passed_conditions body (p ∷ ps) (argument_step y rest) ≡ passed_conditions body (p ∷ []) (argument_step y no_argument) ++ passed_conditions body ps rest
  layer_passed p ps (Argument-F.Rd e) rest = refl
  layer_passed p ps (Argument-F.Wr x) rest = refl
  layer_passed p ps (Argument-F.Rw x) rest = refl

  one_passed : (p : Parameter) (ps : List Parameter) (x : Argument) (rest : Arguments) → passed_conditions body (p ∷ ps) (plain_argument x rest) ≡ passed_conditions body (p ∷ []) (plain_argument x no_argument) ++ passed_conditions body ps rest
  one_passed p ps x rest =
      let y = layer_of x in
      ap (λ (f : Arguments → Arguments). passed_conditions body (p ∷ ps) (f rest)) y.1
      ∙ layer_passed p ps y.0 rest
      ∙ ap (λ (f : Arguments → Arguments). passed_conditions body (p ∷ []) (f no_argument) ++ passed_conditions body ps rest) (sym y.1)

  abbrev pub all_passed : List Param → List Argument → List Condition
  all_passed ps xs = passed_conditions body (map parameter_of ps) (plain_arguments xs)

  pub passed_round : (ps : List Param) (xs : List Argument) (k : ℕ) (p : Param) (x : Argument) (s t : List Condition) → k < length ps → k < length xs → p ≡ get_or ps k p → x ≡ get_or xs k x → t ≡ s ++ passed_conditions body (parameter_of p ∷ []) (plain_argument x no_argument) → t ++ all_passed (drop (k + 1) ps) (drop (k + 1) xs) ≡ s ++ all_passed (drop k ps) (drop k xs)
  passed_round ps xs k p x s t below within read got e =
      let one = passed_conditions body (parameter_of p ∷ []) (plain_argument x no_argument) in
      let more = all_passed (drop (k + 1) ps) (drop (k + 1) xs) in
      ap (λ r. r ++ more) e
      ∙ append_assoc s one more
      ∙ ap (λ r. s ++ r) (sym (one_passed (parameter_of p) (map parameter_of (drop (k + 1) ps)) x (plain_arguments (drop (k + 1) xs))))
      ∙ ap (λ (r : List Param). s ++ all_passed r (x ∷ drop (k + 1) xs)) (sym (drop_at ps k p below read))
      ∙ ap (λ (r : List Argument). s ++ all_passed (drop k ps) r) (sym (drop_at xs k x within got))

  nothing_left : (ps : List Parameter) → passed_conditions body ps no_argument ≡ []
  nothing_left [] = refl
  nothing_left (p ∷ ps) = refl

  pub no_parameter : (ps : List Param) (xs : List Argument) (k : ℕ) (t z : List Condition) → length ps ≤ k → t ++ all_passed (drop k ps) (drop k xs) ≡ z → t ≡ z
  no_parameter ps xs k t z h inv = sym (append-nil t) ∙ ap (λ (r : List Param). t ++ all_passed r (drop k xs)) (sym (drop_all k ps h)) ∙ inv

  pub no_argument_left : (ps : List Param) (xs : List Argument) (k : ℕ) (t z : List Condition) → length xs ≤ k → t ++ all_passed (drop k ps) (drop k xs) ≡ z → t ≡ z
  no_argument_left ps xs k t z h inv =
      sym (append-nil t)
      ∙ ap (λ r. t ++ r) (sym (nothing_left (map parameter_of (drop k ps))))
      ∙ ap (λ (r : List Argument). t ++ all_passed (drop k ps) r) (sym (drop_all k xs h))
      ∙ inv

-- ---- calls

pub call_of_none : (qs : List Procedure) (f : ℕ) (a : Arguments) (s : List Condition) → slice_get qs f ≡ None → s ≡ s ++ call_conditions (1 + f) (slice_get (map plain_procedure qs) f) a
call_of_none qs f a s none =
    sym (append-nil s) ∙ ap (λ (o : Option plain.Procedure). s ++ call_conditions (1 + f) o a) (sym (slice_get-map plain_procedure qs f ∙ ap (option_map plain_procedure) none))

pub call_of_one : (qs : List Procedure) (f : ℕ) (a : Arguments) (q : Procedure) (ps : List Param) (s u : List Condition) → slice_get qs f ≡ Some q → ps ≡ q.parameters → u ≡ s ++ passed_conditions (f + 1) (map parameter_of ps) a → u ≡ s ++ call_conditions (1 + f) (slice_get (map plain_procedure qs) f) a
call_of_one qs f a q ps s u one same e =
    let body : f + 1 ≡ 1 + f = omega arith in
    e ∙ ap (λ n. s ++ passed_conditions n (map parameter_of ps) a) body
    ∙ ap (λ (r : List Param). s ++ passed_conditions (1 + f) (map parameter_of r) a) same
    ∙ ap (λ (o : Option plain.Procedure). s ++ call_conditions (1 + f) o a) (sym (slice_get-map plain_procedure qs f ∙ ap (option_map plain_procedure) one))
