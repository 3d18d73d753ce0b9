-- What one step of a sweep keeps, and what it shows where nothing changes.
use Rattle.std.proofs.Common.{◌≡◌, ℕ, ◌+◌, ◌-◌, ◌^◌, ◌<◌, ◌≤◌, ◌⊎◌, inl, inr, List, get_or, slice_set, length, Some, sym, subst, arith}
use Rattle.std.proofs.lemmas.Bool.{cases_eq}
use Rattle.std.proofs.lemmas.List.{get_or-set_same, get_or-set_other}
use Rattle.std.proofs.lemmas.Nat.{le_or_l}
use Rattle.std.proofs.lemmas.List.Sums.{sum_by-set}
use Rattle.std.specs.Prelude.{bit_or, bit_and, slice_get, sum_by}
use Rattle.std.specs.Int.{bit_at}
use Rattle.std.specs.List.{Contains}
use Rattle.setl_live_reads.specs.declared.node.Node.{Node}
use Rattle.setl_live_reads.specs.Paths.{ways}
use Rattle.setl_live_reads.specs.Masks.{Has, LiveAt, gen, pass, Justified, ClosedAt, room_left}
use Rattle.setl_live_reads.proofs.Bits.{or_left, or_right, or_cases, and_both, and_cases}

module _ (lasts : List Node) (gens passes masks : List ℕ) (b : ℕ) (last : Node) (is : slice_get lasts b ≡ Some last) (behind reads passed : ℕ) (gen_is : reads ≡ get_or gens b 0) (pass_is : passed ≡ get_or passes b 0) where
  same_last : (other : Node) → slice_get lasts b ≡ Some other → other ≡ last
  same_last other h = cc

  pub grown_closed : ((k to : ℕ) → k < 64 → Contains (ways last.way (b + 1)) to → Has masks to k → bit_at behind k ≡ 1) → bit_or (get_or masks b 0) (bit_or reads (bit_and behind passed)) ≡ get_or masks b 0 → ClosedAt lasts gens passes masks b
  grown_closed all same = record {
    gen = λ k small one. has k (or_left reads (bit_and behind passed) k (subst (λ (w : ℕ). bit_at w k ≡ 1) (sym gen_is) one));
    pass = λ k to other small there one way here. has k (or_right reads (bit_and behind passed) k (and_both behind passed k (all k to small (subst (λ (n : Node). Contains (ways n.way (b + 1)) to) (same_last other there) way) here) (subst (λ (w : ℕ). bit_at w k ≡ 1) (sym pass_is) one)));
  }
    where
      has : (k : ℕ) → bit_at (bit_or reads (bit_and behind passed)) k ≡ 1 → Has masks b k
      has k one = subst (λ (w : ℕ). bit_at w k ≡ 1) same (or_right (get_or masks b 0) (bit_or reads (bit_and behind passed)) k one)

  pub grown_justified : ((k : ℕ) → k < 64 → bit_at behind k ≡ 1 → (to : ℕ) × Contains (ways last.way (b + 1)) to × Has masks to k) → b < length masks → (low high : ℕ) → low ≤ b → b < high → Justified lasts gens passes low high masks → Justified lasts gens passes low high (slice_set masks b (bit_or (get_or masks b 0) (bit_or reads (bit_and behind passed))))
  grown_justified only within low high from to before at k small has = go (cases_eq at b)
    where
      added : (bit_at reads k ≡ 1) ⊎ (bit_at (bit_and behind passed) k ≡ 1) → LiveAt lasts gens passes low high k b
      added (inl one) = gen from to (subst (λ (w : ℕ). bit_at w k ≡ 1) gen_is one)
      added (inr one) =
          let both = and_cases behind passed k one in
          let there = only k small both.0 in
          pass {last = last} from to is (subst (λ (w : ℕ). bit_at w k ≡ 1) pass_is both.1) there.1 (before there.0 k small there.2)

      old_or_now : (bit_at (get_or masks b 0) k ≡ 1) ⊎ (bit_at (bit_or reads (bit_and behind passed)) k ≡ 1) → LiveAt lasts gens passes low high k b
      old_or_now (inl old) = before b k small old
      old_or_now (inr one) = added (or_cases reads (bit_and behind passed) k one)

      go : (at ≡ b) ⊎ (at ≡ b → ⊥) → LiveAt lasts gens passes low high k at
      go (inl same) =
          let here : bit_at (bit_or (get_or masks b 0) (bit_or reads (bit_and behind passed))) k ≡ 1 = subst (λ (w : ℕ). bit_at w k ≡ 1) (get_or-set_same masks b (bit_or (get_or masks b 0) (bit_or reads (bit_and behind passed))) 0 within) (subst (λ (a : ℕ). Has (slice_set masks b (bit_or (get_or masks b 0) (bit_or reads (bit_and behind passed)))) a k) same has) in
          subst (λ (a : ℕ). LiveAt lasts gens passes low high k a) (sym same) (old_or_now (or_cases (get_or masks b 0) (bit_or reads (bit_and behind passed)) k here))
      go (inr other) = before at k small (subst (λ (w : ℕ). bit_at w k ≡ 1) (get_or-set_other masks b at (bit_or (get_or masks b 0) (bit_or reads (bit_and behind passed))) 0 other) has)

-- ---- room

-- a set that grows leaves less room
pub room_less : (masks : List ℕ) (at now : ℕ) → at < length masks → get_or masks at 0 < 2 ^ 64 → (bit_or (get_or masks at 0) now ≡ get_or masks at 0 → ⊥) → room_left (slice_set masks at (bit_or (get_or masks at 0) now)) < room_left masks
room_less masks at now within fits other =
    let more : get_or masks at 0 ≤ bit_or (get_or masks at 0) now = le_or_l (get_or masks at 0) now in
    let sums = sum_by-set (λ m. 2 ^ 64 - m) masks at (bit_or (get_or masks at 0) now) 0 within in
    go (get_or masks at 0) (bit_or (get_or masks at 0) now) fits more (λ same. other (sym same)) sums
  where
    go : (old new : ℕ) → old < 2 ^ 64 → old ≤ new → (old ≡ new → ⊥) → sum_by (λ m. 2 ^ 64 - m) (slice_set masks at new) + (2 ^ 64 - old) ≡ sum_by (λ m. 2 ^ 64 - m) masks + (2 ^ 64 - new) → sum_by (λ m. 2 ^ 64 - m) (slice_set masks at new) < sum_by (λ m. 2 ^ 64 - m) masks
    go old new fits more other sums =
        elim (cases_eq old new) [
          | inl same ↦ absurd (other same)
          | inr apart ↦ omega arith
        ]
