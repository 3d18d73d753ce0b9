-- One step more is in its range.
use Rattle.std.proofs.Common.{◌≡◌, ℕ, ◌+◌, ◌/◌, ◌<◌, inl, inr, List, length, get_or, Some, sym, ap, ◌∙◌, subst, arith}
use Rattle.std.proofs.lemmas.Bool.{cases_eq}
use Rattle.std.specs.Prelude.{slice_get}
use Rattle.setl_live_reads.specs.declared.node.Node.{Node}
use Rattle.setl_live_reads.specs.Paths.{target, named}
use Rattle.setl_live_reads.specs.Ranges.{InRange, Sourced, Spanned}

module _ (nodes : List Node) (first last first2 last2 : List ℕ) (n : ℕ) (node : Node) (is : slice_get nodes n ≡ Some node) (kept : (p x : ℕ) → InRange first last p x → InRange first2 last2 p x) where
  pub one_target : Sourced nodes first last n → ((to : ℕ) → target node.way ≡ Some to → to < length nodes → InRange first2 last2 to n) → Sourced nodes first2 last2 (n + 1)
  one_target before there at to other small here jumps within =
      elim (cases_eq at n) [
        | inl same ↦ (let alike : other ≡ node = one other (ap (slice_get nodes) (sym same) ∙ here) in subst (λ (a : ℕ). InRange first2 last2 to a) (sym same) (there to (ap (λ (m : Node). target m.way) (sym alike) ∙ jumps) within))
        | inr apart ↦ (let less : at < n = omega arith in kept to at (before at to other less here jumps within))
      ]
    where
      one : (m : Node) → slice_get nodes n ≡ Some m → m ≡ node
      one m h = cc

pub one_slot : (nodes : List Node) (blocks first last first2 last2 : List ℕ) (n : ℕ) (node : Node) → slice_get nodes n ≡ Some node → ((p x : ℕ) → InRange first last p x → InRange first2 last2 p x) → (rows : ℕ) → Spanned nodes blocks rows first last n → ((slot : ℕ) → named node.access ≡ Some slot → slot / 64 < rows → InRange first2 last2 (slot / 64) (get_or blocks n 0)) → Spanned nodes blocks rows first2 last2 (n + 1)
one_slot nodes blocks first last first2 last2 n node is kept rows before there at slot other small here names within =
    elim (cases_eq at n) [
      | inl same ↦ (let alike : other ≡ node = one other (ap (slice_get nodes) (sym same) ∙ here) in subst (λ (a : ℕ). InRange first2 last2 (slot / 64) (get_or blocks a 0)) (sym same) (there slot (ap (λ (m : Node). named m.access) (sym alike) ∙ names) within))
      | inr apart ↦ (let less : at < n = omega arith in kept (slot / 64) (get_or blocks at 0) (before at slot other less here names within))
    ]
  where
    one : (m : Node) → slice_get nodes n ≡ Some m → m ≡ node
    one m h = cc
