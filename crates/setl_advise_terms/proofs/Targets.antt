-- The test of targets is equality.
use Rattle.std.proofs.Common.{◌≡◌, ap, sym, subst, Bool, true, false, refl}
use Rattle.std.proofs.lemmas.Bool.{eqb-true, eq-eqb}
use Rattle.setl_model_runs.specs.VariableLaws.{same_variable, variable_itself}
use Rattle.setl_advise_conditions.specs.Conditions.{Target, Into, ResultOf}
use Rattle.setl_advise_terms.specs.Table.{is_target}

pub same_target : (t u : Target) → is_target t u ≡ true → t ≡ u
same_target (Into x) (Into y) h = ap Into (same_variable x y h)
same_target (ResultOf f) (ResultOf g) h = ap ResultOf (eqb-true f g h)
same_target t u h = cc

pub target_itself : (t : Target) → is_target t t ≡ true
target_itself (Into x) = variable_itself x
target_itself (ResultOf f) = eq-eqb f f refl

tests_agree : (p q : Bool) → (p ≡ true → q ≡ true) → (q ≡ true → p ≡ true) → p ≡ q
tests_agree true q h k = sym (h refl)
tests_agree false true h k = k refl
tests_agree false false h k = refl

one_way : (t u : Target) → is_target t u ≡ true → is_target u t ≡ true
one_way t u h = subst (λ v. is_target v t ≡ true) (same_target t u h) (target_itself t)

pub target_turned : (t u : Target) → is_target t u ≡ is_target u t
target_turned t u = tests_agree (is_target t u) (is_target u t) (one_way t u) (one_way u t)

pub target_through : (t u v : Target) → is_target t u ≡ true → is_target u v ≡ true → is_target t v ≡ true
target_through t u v h k = subst (λ w. is_target t w ≡ true) (same_target u v k) h
