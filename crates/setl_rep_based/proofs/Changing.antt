-- Numbers of living blocks, one more or less.
use Rattle.std.proofs.Common.{◌≡◌, ℕ, Bool, true, false, Option, Some, None, option_and_then, ⊎_elim, refl, sym, ◌∙◌, subst, arith}
use Rattle.std.specs.Bool.{if◌then◌else◌}
use Rattle.std.specs.Cmp.{nat_cmp_total}
use Rattle.std.specs.Option.{option_map, IsSome}
use Rattle.std.specs.Ordering.{nat_cmp, eq_by_cmp}
use Rattle.std.specs.FinSet as set
use Rattle.std.proofs.lemmas.Bool.{false≢true, or_cases, and_parts}
use Rattle.std.proofs.lemmas.Bool.Decides.{nat_tests}
use Rattle.setl_base.specs.declared.Elt.{Elt}
use Rattle.setl_base.specs.Base.{BaseState, Member, member_at, value_in, value_of}
use Rattle.setl_rep_forms.specs.Stands.{value_at, AreLiving}

some_at : (b : BaseState) (e : Elt) → IsSome (value_of b e) → IsSome (value_at b e.block)
some_at b e h = by (member_at b e.block) h
  where
    by : (o : Option Member) → IsSome (option_and_then (value_in e.generation) o) → IsSome (option_map (λ m. m.value) o)
    by None q = absurd (false≢true q)
    by (Some m) q = refl

same_number : (n k : ℕ) → eq_by_cmp nat_cmp n k ≡ true → n ≡ k
same_number n k h = grind (arith, nat_tests)

pub living_put : (b : BaseState) (e : Elt) (on : Bool) (ns ms : set.FinSet nat_cmp) → IsSome (value_of b e) → AreLiving b ns → ms ≡ (if on then set.insert ns e.block else set.remove ns e.block) → AreLiving b ms
living_put b e true ns ms s l p = subst (AreLiving b) (sym p) (λ n h. ⊎_elim
    (λ t. subst (λ k. IsSome (value_at b k)) (sym (same_number n e.block t)) (some_at b e s))
    (λ t. l n t)
    (or_cases _ _ (sym (set.contains-insert nat_cmp_total ns e.block n) ∙ h)))
living_put b e false ns ms s l p = subst (AreLiving b) (sym p) (λ n h. l n (and_parts _ _ (sym (set.contains-remove nat_cmp_total ns e.block n) ∙ h)).1)
