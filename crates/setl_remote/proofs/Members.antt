-- Words, as sets.
use Rattle.std.proofs.Common.{◌≡◌, ◌∙◌, ℕ, zero, suc, ◌*◌, ◌/◌, ◌%◌, ◌<◌, ◌≤◌, Bool, true, false, cond, not, ◌&&◌, ◌||◌, inl, inr, List, length, filter, refl, sym, ap, arith, nat_eq, if◌then◌else◌}
use Rattle.std.specs.Ordering.{nat_cmp, eq_by_cmp}
use Rattle.std.specs.Int.{bit_at}
use Rattle.std.specs.List.{list_any}
use Rattle.std.specs.Cmp.{nat_cmp_total, nat_eq_equiv, unsigned_tied}
use Rattle.std.specs.FinSet as set
use Rattle.std.proofs.Math.Bool.{and-false, or-true}
use Rattle.std.proofs.lemmas.Bool.{cases_lt}
use Rattle.std.proofs.lemmas.List.{get_or_past}
use Rattle.std.proofs.lemmas.Map.Made.{is_member-filter}
use Rattle.std.proofs.lemmas.Map.Views.{exact_unsigned_eq}
use Rattle.std.proofs.lemmas.Nat.Bits.{bit_at-zero}
use Rattle.setl_remote.specs.Words.{has_bit, below, members, Writes}
use Rattle.setl_remote.proofs.Bit.{apart, itself}

in_below : (q n : ℕ) → q < n → list_any (nat_eq q) (below n) ≡ true
in_below q zero h = absurd (omega arith)
in_below q (suc n) h =
    elim (cases_lt q n) as (λ _. (nat_eq q n || list_any (nat_eq q) (below n)) ≡ true) [
      | inl less ↦ ap (λ b. nat_eq q n || b) (in_below q n less) ∙ or-true (nat_eq q n)
      | inr more ↦ let e : n ≡ q = omega arith in ap (λ b. b || list_any (nat_eq q) (below n)) (ap (nat_eq q) e ∙ itself q)
    ]

pub not_in_below : (q n : ℕ) → n ≤ q → list_any (nat_eq q) (below n) ≡ false
not_in_below q zero h = refl
not_in_below q (suc n) h = (λ i. apart q n (λ e. absurd (omega arith)) i || not_in_below q n (omega arith) i)

outside : (words : List ℕ) (q : ℕ) → 64 * length words ≤ q → has_bit words q ≡ false
outside words q h =
    ap (λ w. nat_eq (bit_at w (q % 64)) 1) (get_or_past words (q / 64) 0 (omega arith)) ∙ ap (λ b. nat_eq b 1) (bit_at-zero (q % 64))

any_tied : (q : ℕ) (ns : List ℕ) → list_any (eq_by_cmp nat_cmp q) ns ≡ list_any (nat_eq q) ns
any_tied q ns = λ i. list_any (λ n. unsigned_tied q n i) ns

pub among : (p : ℕ → Bool) (q n : ℕ) → set.contains (set.from_list {R = nat_cmp} (filter p (below n))) q ≡ (list_any (nat_eq q) (below n) && p q)
among p q n =
    set.contains-from_list nat_cmp_total _ q
    ∙ any_tied q _
    ∙ is_member-filter nat_eq_equiv p q (λ x e. ap p (exact_unsigned_eq q x e)) (below n)

pub members_at : (words : List ℕ) (q : ℕ) → set.contains (members words) q ≡ has_bit words q
members_at words q =
    among (has_bit words) q (64 * length words)
    ∙ elim (cases_lt q (64 * length words)) as (λ _. (list_any (nat_eq q) (below (64 * length words)) && has_bit words q) ≡ has_bit words q) [
      | inl less ↦ ap (λ b. b && has_bit words q) (in_below q (64 * length words) less)
      | inr more ↦ ap (λ b. list_any (nat_eq q) (below (64 * length words)) && b) (outside words q more) ∙ and-false _ ∙ sym (outside words q more)
    ]

pub same_members : (s t : set.FinSet nat_cmp) → ((q : ℕ) → set.contains s q ≡ set.contains t q) → s ≡ t
same_members s t same = set.same_set nat_cmp_total set.nat_cmp-IsAntisymmetric s t same

tied : (n q : ℕ) → eq_by_cmp nat_cmp q n ≡ nat_eq n q
tied n q = unsigned_tied q n ∙ nat_eq_equiv.symm q n

or_hit : (b c : Bool) → cond b true c ≡ (b || c)
or_hit true c = refl
or_hit false c = refl

and_miss : (b c : Bool) → cond b false c ≡ (not b && c)
and_miss true c = refl
and_miss false c = refl

-- a bit that is written
pub written : (n : ℕ) (on : Bool) (old new : List ℕ) → Writes n on old new → members new ≡ (if on then set.insert (members old) n else set.remove (members old) n)
written n true old new writes = same_members _ _ (λ q.
    members_at new q ∙ writes q ∙ or_hit (nat_eq n q) _ ∙ sym (set.contains-insert nat_cmp_total _ n q ∙ (λ i. tied n q i || members_at old q i)))
written n false old new writes = same_members _ _ (λ q.
    members_at new q ∙ writes q ∙ and_miss (nat_eq n q) _ ∙ sym (set.contains-remove nat_cmp_total _ n q ∙ (λ i. not (tied n q i) && members_at old q i)))
