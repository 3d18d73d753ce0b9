-- One step more in the chains of the rows.
use Rattle.std.proofs.Common.{◌≡◌, ℕ, ◌+◌, ◌-◌, ◌/◌, ◌<◌, ◌⊎◌, inl, inr, List, get_or, Option, Some, None, refl, sym, ap, ◌∙◌, subst, arith}
use Rattle.std.proofs.lemmas.Bool.{cases_eq, cases_lt}
use Rattle.std.specs.Prelude.{slice_get}
use Rattle.setl_live_reads.specs.declared.node.Node.{Node}
use Rattle.setl_live_reads.specs.declared.node.Access.{Access}
use Rattle.setl_live_reads.specs.Paths.{named}
use Rattle.setl_live_reads.specs.Chains.{InRow, IsLatest, Chained, AreChains}

-- whether a slot of a row is named
in_row_or : (access : Access) (row : ℕ) → InRow access row ⊎ (InRow access row → ⊥)
in_row_or access row = go (named access) refl
  where
    go : (o : Option ℕ) → named access ≡ o → InRow access row ⊎ (InRow access row → ⊥)
    go None is = inr (λ h. none (sym is ∙ h.1))
      where
        none : {slot : ℕ} → None ≡ Some slot → ⊥
        none h = cc
    go (Some slot) is = elim (cases_eq (slot / 64) row) [
      | inl same ↦ inl (slot, is, same)
      | inr other ↦ inr (λ h. other (ap (λ (s : ℕ). s / 64) (one h.0 (sym is ∙ h.1)) ∙ h.2))
    ]
      where
        one : (other : ℕ) → Some slot ≡ Some other → slot ≡ other
        one other h = cc

pub chains_more : (nodes : List Node) (rows n : ℕ) (node : Node) (latest earlier latest2 earlier2 : List ℕ) → slice_get nodes n ≡ Some node → ((slot : ℕ) → named node.access ≡ Some slot → slot / 64 < rows → (get_or latest2 (slot / 64) 0 ≡ n + 1) × (get_or earlier2 n 0 ≡ get_or latest (slot / 64) 0)) → ((row : ℕ) → ((slot : ℕ) → named node.access ≡ Some slot → slot / 64 ≡ row → ⊥) → get_or latest2 row 0 ≡ get_or latest row 0) → ((other : ℕ) → (other ≡ n → ⊥) → get_or earlier2 other 0 ≡ get_or earlier other 0) → AreChains nodes rows n latest earlier → AreChains nodes rows (n + 1) latest2 earlier2
chains_more nodes rows n node latest earlier latest2 earlier2 is there others kept before row small = elim (in_row_or node.access row) [
  | inl here ↦ (
      let new = there here.0 here.1 (omega (arith, here.2)) in
      let latest_is : get_or latest2 row 0 ≡ n + 1 = ap (λ (r : ℕ). get_or latest2 r 0) (sym here.2) ∙ new.0 in
      let earlier_is : get_or earlier2 n 0 ≡ get_or latest row 0 = new.1 ∙ ap (λ (r : ℕ). get_or latest r 0) here.2 in
      (subst (λ (b : ℕ). IsLatest nodes row (n + 1) b) (sym latest_is) (named_here here), chained_more (λ at same. subst (λ (b : ℕ). IsLatest nodes row n b) (sym earlier_is) (before row small).0)))
  | inr not ↦ (
    subst (λ (b : ℕ). IsLatest nodes row (n + 1) b) (sym (others row (λ slot names same. not (slot, names, same)))) (unnamed not (get_or latest row 0) (before row small).0),
    chained_more (λ at same. absurd (not same)),
  )
]
  where
    one : (m : Node) → slice_get nodes n ≡ Some m → node ≡ m
    one m h = cc

    named_here : InRow node.access row → IsLatest nodes row (n + 1) (n + 1)
    named_here here = record {
      within = omega arith;
      here = λ m some at. (let place : n + 1 - 1 ≡ n = omega arith in subst (λ (k : Node). InRow k.access row) (one m (ap (slice_get nodes) (sym place) ∙ at)) here);
      none = λ at m above below. absurd (omega arith);
    }

    unnamed : (InRow node.access row → ⊥) → (bound : ℕ) → IsLatest nodes row n bound → IsLatest nodes row (n + 1) bound
    unnamed not bound old = record {
      within = omega (arith, old.within);
      here = old.here;
      none = λ at m above below at_is in_row. elim (cases_lt at n) [
        | inl less ↦ old.none at m above less at_is in_row
        | inr more ↦ (let same : n ≡ at = omega arith in not (subst (λ (k : Node). InRow k.access row) (sym (one m (ap (slice_get nodes) same ∙ at_is))) in_row))
      ];
    }

    chained_more : ((at : ℕ) → InRow node.access row → IsLatest nodes row n (get_or earlier2 n 0)) → Chained nodes row (n + 1) earlier2
    chained_more last at m below at_is in_row = elim (cases_lt at n) [
      | inl less ↦ (let other : at ≡ n → ⊥ = λ same. omega arith in subst (λ (b : ℕ). IsLatest nodes row at b) (sym (kept at other)) ((before row small).1 at m less at_is in_row))
      | inr more ↦ (
          let same : n ≡ at = omega arith in
          subst (λ (a : ℕ). IsLatest nodes row a (get_or earlier2 a 0)) same (last at (subst (λ (k : Node). InRow k.access row) (sym (one m (ap (slice_get nodes) same ∙ at_is))) in_row)))
    ]
