-- Bits of words.
use Rattle.std.proofs.Common.{◌≡◌, ℕ, ◌+◌, ◌-◌, ◌*◌, ◌%◌, ◌^◌, ◌<◌, ◌⊎◌, inl, inr, List, Bool, true, false, nat_eq, get_or, [], ◌∷◌, zero, suc, refl, sym, ap, ◌∙◌, subst, arith, w64, eqb-true, eq-eqb}
use Rattle.std.proofs.lemmas.Bool.{cases_eq}
use Rattle.std.proofs.lemmas.Nat.Bits.{bit_at_or, bit_at_and, bit_at_not, bit_at-zero, bit_at-lt, bit_at_set_same, bit_at_set_other}
use Rattle.std.specs.Prelude.{bit_and, bit_or}
use Rattle.std.specs.Int.{bit_at}
use Rattle.setl_live_reads.specs.declared.node.Access.{Access}
use Rattle.setl_live_reads.specs.declared.node.Access.TheVariants.{Read, Write, HandBack}
use Rattle.std.specs.List.{Contains}
use Rattle.setl_live_reads.specs.declared.node.Way.{Way}
use Rattle.setl_live_reads.specs.declared.node.Way.TheVariants.{Either}
use Rattle.setl_live_reads.specs.Paths.{reads_slot, writes_slot, ways}
use Rattle.setl_live_reads.specs.Masks.{Has}

pub or_left : (a b k : ℕ) → bit_at a k ≡ 1 → bit_at (bit_or a b) k ≡ 1
or_left a b k h = omega (arith, bit_at_or a b k, bit_at-lt b k)

pub or_right : (a b k : ℕ) → bit_at b k ≡ 1 → bit_at (bit_or a b) k ≡ 1
or_right a b k h = omega (arith, bit_at_or a b k, bit_at-lt a k)

pub or_cases : (a b k : ℕ) → bit_at (bit_or a b) k ≡ 1 → (bit_at a k ≡ 1) ⊎ (bit_at b k ≡ 1)
or_cases a b k h =
    elim (cases_eq (bit_at a k) 1) [
      | inl one ↦ inl one
      | inr other ↦ inr (omega (arith, bit_at_or a b k, bit_at-lt a k, bit_at-lt b k))
    ]

pub and_both : (a b k : ℕ) → bit_at a k ≡ 1 → bit_at b k ≡ 1 → bit_at (bit_and a b) k ≡ 1
and_both a b k one two = omega (arith, bit_at_and a b k)

pub and_cases : (a b k : ℕ) → bit_at (bit_and a b) k ≡ 1 → (bit_at a k ≡ 1) × (bit_at b k ≡ 1)
and_cases a b k h = (omega (arith, bit_at_and a b k, bit_at-lt a k, bit_at-lt b k), omega (arith, bit_at_and a b k, bit_at-lt a k, bit_at-lt b k))

pub without : (a b k : ℕ) → b < 2 ^ 64 → k < 64 → bit_at a k ≡ 1 → (bit_at b k ≡ 1 → ⊥) → bit_at (bit_and a (18446744073709551615 - b)) k ≡ 1
without a b k fits small one none =
    elim (cases_eq (bit_at b k) 1) [
      | inl is ↦ absurd (none is)
      | inr other ↦ omega (arith, bit_at_and a (18446744073709551615 - b) k, bit_at_not w64 b k fits small, bit_at-lt b k)
    ]

pub without_cases : (a b k : ℕ) → b < 2 ^ 64 → k < 64 → bit_at (bit_and a (18446744073709551615 - b)) k ≡ 1 → (bit_at a k ≡ 1) × (bit_at b k ≡ 1 → ⊥)
without_cases a b k fits small h =
    (omega (arith, bit_at_and a (18446744073709551615 - b) k, bit_at-lt a k), λ one. omega (arith, bit_at_and a (18446744073709551615 - b) k, bit_at_not w64 b k fits small))

pub one_bit : (j k : ℕ) → j < 64 → bit_at (1 * 2 ^ j % 18446744073709551616) k ≡ 1 → k ≡ j
one_bit j k small h =
    elim (cases_eq k j) [
      | inl same ↦ same
      | inr other ↦ absurd (omega (arith, bit_at_or 0 (1 * 2 ^ j % 18446744073709551616) k, bit_at_set_other w64 0 j small k other, bit_at-zero k))
    ]

-- ---- what a step does with its set

module _ (access : Access) (slot base behind mask k : ℕ) (small : k < 64) where
  pub read_reads : (back : List Bool) → access ≡ Read slot → (slot ≡ base + k → bit_at mask k ≡ 1) → reads_slot back access (base + k) ≡ true → bit_at (bit_or behind mask) k ≡ 1
  read_reads back is there read = or_right behind mask k (there (eqb-true slot (base + k) (subst (λ (a : Access). reads_slot back a (base + k) ≡ true) is read)))

  pub read_only : (back : List Bool) → access ≡ Read slot → (bit_at mask k ≡ 1 → slot ≡ base + k) → bit_at (bit_or behind mask) k ≡ 1 → (reads_slot back access (base + k) ≡ true) ⊎ ((writes_slot access (base + k) ≡ false) × (bit_at behind k ≡ 1))
  read_only back is there has =
      elim (or_cases behind mask k has) [
        | inl passed ↦ inr (subst (λ (a : Access). writes_slot a (base + k) ≡ false) (sym is) refl, passed)
        | inr one ↦ inl (subst (λ (a : Access). reads_slot back a (base + k) ≡ true) (sym is) (eq-eqb slot (base + k) (there one)))
      ]

  pub write_passes : access ≡ Write slot → mask < 2 ^ 64 → (bit_at mask k ≡ 1 → slot ≡ base + k) → writes_slot access (base + k) ≡ false → bit_at behind k ≡ 1 → bit_at (bit_and behind (18446744073709551615 - mask)) k ≡ 1
  write_passes is fits there kept has =
      let unlike : nat_eq slot (base + k) ≡ false = subst (λ (a : Access). writes_slot a (base + k) ≡ false) is kept in
      without behind mask k fits small has (λ one. (let like : nat_eq slot (base + k) ≡ true = eq-eqb slot (base + k) (there one) in absurd (no (sym like ∙ unlike))))
    where
      no : true ≡ false → ⊥
      no h = cc

  pub write_only : (back : List Bool) → access ≡ Write slot → mask < 2 ^ 64 → (slot ≡ base + k → bit_at mask k ≡ 1) → bit_at (bit_and behind (18446744073709551615 - mask)) k ≡ 1 → (reads_slot back access (base + k) ≡ true) ⊎ ((writes_slot access (base + k) ≡ false) × (bit_at behind k ≡ 1))
  write_only back is fits there has =
      let two = without_cases behind mask k fits small has in
      inr (subst (λ (a : Access). writes_slot a (base + k) ≡ false) (sym is) (go (nat_eq slot (base + k)) refl two.1), two.0)
    where
      go : (b : Bool) → nat_eq slot (base + k) ≡ b → (bit_at mask k ≡ 1 → ⊥) → b ≡ false
      go false h none = refl
      go true h none = absurd (none (there (eqb-true slot (base + k) h)))

  pub back_reads : (back : List Bool) → access ≡ HandBack → (get_or back (base + k) false ≡ true → bit_at mask k ≡ 1) → reads_slot back access (base + k) ≡ true → bit_at (bit_or behind mask) k ≡ 1
  back_reads back is there read = or_right behind mask k (there (subst (λ (a : Access). reads_slot back a (base + k) ≡ true) is read))

  pub back_only : (back : List Bool) → access ≡ HandBack → (bit_at mask k ≡ 1 → get_or back (base + k) false ≡ true) → bit_at (bit_or behind mask) k ≡ 1 → (reads_slot back access (base + k) ≡ true) ⊎ ((writes_slot access (base + k) ≡ false) × (bit_at behind k ≡ 1))
  back_only back is there has =
      elim (or_cases behind mask k has) [
        | inl passed ↦ inr (subst (λ (a : Access). writes_slot a (base + k) ≡ false) (sym is) refl, passed)
        | inr one ↦ inl (subst (λ (a : Access). reads_slot back a (base + k) ≡ true) (sym is) (there one))
      ]

-- ---- where a step leads

pub either_all : (way : Way) (at to there : ℕ) (masks : List ℕ) (a b k : ℕ) → way ≡ Either there → a ≡ get_or masks at 0 → b ≡ get_or masks there 0 → Contains (ways way at) to → Has masks to k → bit_at (bit_or a b) k ≡ 1
either_all way at to there masks a b k is first second within has = go (subst (λ (w : Way). Contains (ways w at) to) is within)
  where
    go : Contains (at ∷ there ∷ []) to → bit_at (bit_or a b) k ≡ 1
    go (zero, less, same) = or_left a b k (subst (λ (x : ℕ). bit_at x k ≡ 1) (sym first) (subst (λ (t : ℕ). Has masks t k) (sym same) has))
    go (suc zero, less, same) = or_right a b k (subst (λ (x : ℕ). bit_at x k ≡ 1) (sym second) (subst (λ (t : ℕ). Has masks t k) (sym same) has))
    go (suc (suc n), less, same) = absurd (omega arith)

pub either_only : (way : Way) (at there : ℕ) (masks : List ℕ) (a b k : ℕ) → way ≡ Either there → a ≡ get_or masks at 0 → b ≡ get_or masks there 0 → bit_at (bit_or a b) k ≡ 1 → (to : ℕ) × Contains (ways way at) to × Has masks to k
either_only way at there masks a b k is first second has =
    subst (λ (w : Way). (to : ℕ) × Contains (ways w at) to × Has masks to k) (sym is)
    (elim (or_cases a b k has) [
      | inl one ↦ (at, (0, omega arith, refl), subst (λ (x : ℕ). bit_at x k ≡ 1) first one)
      | inr one ↦ (there, (1, omega arith, refl), subst (λ (x : ℕ). bit_at x k ≡ 1) second one)
    ])

-- ---- slots that are handed back

pub slot_there : (back : List Bool) (base k handed : ℕ) → k < 64 → ((i : ℕ) → i < k → get_or back (base + i) false ≡ true → bit_at handed i ≡ 1) → (i : ℕ) → i < k + 1 → get_or back (base + i) false ≡ true → bit_at (bit_or handed (1 * 2 ^ k % 18446744073709551616)) i ≡ 1
slot_there back base k handed within before i small is =
    elim (cases_eq i k) [
      | inl same ↦ subst (λ (j : ℕ). bit_at (bit_or handed (1 * 2 ^ k % 18446744073709551616)) j ≡ 1) (sym same) (bit_at_set_same w64 handed k within)
      | inr other ↦ (let less : i < k = omega arith in bit_at_set_other w64 handed k within i other ∙ before i less is)
    ]

pub slot_only : (back : List Bool) (base k handed : ℕ) → k < 64 → get_or back (base + k) false ≡ true → ((i : ℕ) → i < 64 → bit_at handed i ≡ 1 → get_or back (base + i) false ≡ true) → (i : ℕ) → i < 64 → bit_at (bit_or handed (1 * 2 ^ k % 18446744073709551616)) i ≡ 1 → get_or back (base + i) false ≡ true
slot_only back base k handed within is before i small has =
    elim (cases_eq i k) [
      | inl same ↦ subst (λ (j : ℕ). get_or back (base + j) false ≡ true) (sym same) is
      | inr other ↦ before i small (sym (bit_at_set_other w64 handed k within i other) ∙ has)
    ]

pub slot_passed : (back : List Bool) (base k handed : ℕ) → get_or back (base + k) false ≡ false → ((i : ℕ) → i < k → get_or back (base + i) false ≡ true → bit_at handed i ≡ 1) → (i : ℕ) → i < k + 1 → get_or back (base + i) false ≡ true → bit_at handed i ≡ 1
slot_passed back base k handed isnt before i small is =
    elim (cases_eq i k) [
      | inl same ↦ absurd (no (sym isnt ∙ ap (λ (j : ℕ). get_or back (base + j) false) (sym same) ∙ is))
      | inr other ↦ (let less : i < k = omega arith in before i less is)
    ]
  where
    no : false ≡ true → ⊥
    no h = cc
