-- What is read first in straight steps.
use Rattle.std.proofs.Common.{◌≡◌, ℕ, ◌+◌, ◌-◌, ◌*◌, ◌<◌, ◌≤◌, ◌⊎◌, inl, inr, zero, suc, List, Bool, true, false, length, get_or, Some, refl, sym, ◌∙◌, ap, subst, arith, eqb-true}
use Rattle.std.proofs.lemmas.Bool.{cases_lt}
use Rattle.std.proofs.lemmas.Option.{slice_get-get_or}
use Rattle.std.proofs.lemmas.Nat.Bits.{bit_at-zero}
use Rattle.std.specs.Prelude.{slice_get, bit_or}
use Rattle.std.specs.Int.{bit_at}
use Rattle.setl_live_reads.specs.declared.node.Node.{Node}
use Rattle.setl_live_reads.specs.declared.node.Access.{Access}
use Rattle.setl_live_reads.specs.declared.node.Access.TheVariants.{Nothing, Read, Write, HandBack}
use Rattle.setl_live_reads.specs.declared.node.Way.TheVariants.{On}
use Rattle.setl_live_reads.specs.Paths.{reads_slot, writes_slot, named}
use Rattle.setl_live_reads.specs.Chains.{InRow, IsLatest, Chained}
use Rattle.setl_live_reads.specs.Fronts.{ReadUntil, ends, read, passed, IsFront}
use Rattle.setl_live_reads.specs.Masks.{IsHanded}
use Rattle.setl_live_reads.proofs.Bits.{or_left, back_reads, back_only}

pub false_unless : (b : Bool) → (b ≡ true → ⊥) → b ≡ false
false_unless false h = refl
false_unless true h = absurd (h refl)

-- no bit is set in 0
pub none_set : (w k : ℕ) → w ≡ 0 → bit_at w k ≡ 1 → ⊥
none_set w k is one = omega (arith, bit_at-zero k, ap (λ (v : ℕ). bit_at v k) is)

-- what stands where there is no step
abbrev pub no_step : Node
no_step = record { access = Nothing; way = On }

pub step_is : (nodes : List Node) (at : ℕ) → at < length nodes → slice_get nodes at ≡ Some (get_or nodes at no_step)
step_is nodes at within = slice_get-get_or nodes at no_step within

-- ---- one slot

module _ (nodes : List Node) (back : List Bool) (x until : ℕ) where
  pub weaken : (E F : Type 0) → (E → F) → (at : ℕ) → ReadUntil nodes back x until E at → ReadUntil nodes back x until F at
  weaken E F f at (ends same e) = ends same (f e)
  weaken E F f at (read less is r) = read less is r
  weaken E F f at (passed less is w more) = passed less is w (weaken E F f (at + 1) more)

  -- what holds at the end matters or doesn't
  pub split : (E Z O : Type 0) → O → (at : ℕ) → ReadUntil nodes back x until E at → ReadUntil nodes back x until Z at ⊎ (E × ReadUntil nodes back x until O at)
  split E Z O o at (ends same e) = inr (e, ends same o)
  split E Z O o at (read less is r) = inl (read less is r)
  split E Z O o at (passed {node = node} less is w more) = elim (split E Z O o (at + 1) more) [
    | inl z ↦ inl (passed {node = node} less is w z)
    | inr both ↦ inr (both.0, passed {node = node} less is w both.1)
  ]

  pub ended : (E : Type 0) (at : ℕ) → until ≤ at → ReadUntil nodes back x until E at → E
  ended E at beyond (ends same e) = e
  ended E at beyond (read less is r) = absurd (omega arith)
  ended E at beyond (passed less is w more) = absurd (omega arith)

  -- with no read and nothing at the end there is none
  pub unread : (E : Type 0) (from : ℕ) → ((at : ℕ) (node : Node) → from ≤ at → at < until → slice_get nodes at ≡ Some node → reads_slot back node.access x ≡ true → ⊥) → (E → ⊥) → (at : ℕ) → from ≤ at → ReadUntil nodes back x until E at → ⊥
  unread E from free none at above (ends same e) = none e
  unread E from free none at above (read {node = node} less is r) = free at node above less is r
  unread E from free none at above (passed less is w more) = unread E from free none (at + 1) (omega arith) more

-- ---- the slots of a row

module _ (nodes : List Node) (back : List Bool) (row until behind : ℕ) where
  -- one step more in front
  pub front_taken : (at : ℕ) (node : Node) (word word2 : ℕ) → at < until → slice_get nodes at ≡ Some node → ((k : ℕ) → k < 64 → reads_slot back node.access (row * 64 + k) ≡ true → bit_at word2 k ≡ 1) → ((k : ℕ) → k < 64 → writes_slot node.access (row * 64 + k) ≡ false → bit_at word k ≡ 1 → bit_at word2 k ≡ 1) → ((k : ℕ) → k < 64 → bit_at word2 k ≡ 1 → (reads_slot back node.access (row * 64 + k) ≡ true) ⊎ ((writes_slot node.access (row * 64 + k) ≡ false) × (bit_at word k ≡ 1))) → IsFront nodes back row until behind (at + 1) word → IsFront nodes back row until behind at word2
  front_taken at node word word2 less is reads passes only front k small = (there, back_again)
    where
      there : bit_at word2 k ≡ 1 → ReadUntil nodes back (row * 64 + k) until (bit_at behind k ≡ 1) at
      there has = elim (only k small has) [
        | inl r ↦ read {node = node} less is r
        | inr both ↦ passed {node = node} less is both.0 ((front k small).0 both.1)
      ]

      same : (m : Node) → slice_get nodes at ≡ Some m → m ≡ node
      same m h = cc

      back_again : ReadUntil nodes back (row * 64 + k) until (bit_at behind k ≡ 1) at → bit_at word2 k ≡ 1
      back_again (ends e h) = absurd (omega arith)
      back_again (read {node = m} l i r) = reads k small (subst (λ (a : Node). reads_slot back a.access (row * 64 + k) ≡ true) (same m i) r)
      back_again (passed {node = m} l i w more) = passes k small (subst (λ (a : Node). writes_slot a.access (row * 64 + k) ≡ false) (same m i) w) ((front k small).1 more)

  pub front_end : IsFront nodes back row until behind until behind
  front_end k small = (λ has. ends refl has, λ more. ended nodes back (row * 64 + k) until (bit_at behind k ≡ 1) until (omega arith) more)

  no : {b : Bool} → b ≡ false → b ≡ true → ⊥
  no h g = cc

  -- a step that names no slot of the row and hands nothing back neither reads nor writes one
  quiet_reads : (a : Access) → (InRow a row → ⊥) → (a ≡ HandBack → ⊥) → (k : ℕ) → k < 64 → reads_slot back a (row * 64 + k) ≡ false
  quiet_reads Nothing out keeps k small = refl
  quiet_reads (Read y) out keeps k small = false_unless _ (λ h. (let same = eqb-true y (row * 64 + k) h in out (y, refl, omega arith)))
  quiet_reads (Write y) out keeps k small = refl
  quiet_reads HandBack out keeps k small = absurd (keeps refl)

  quiet_writes : (a : Access) → (InRow a row → ⊥) → (k : ℕ) → k < 64 → writes_slot a (row * 64 + k) ≡ false
  quiet_writes Nothing out k small = refl
  quiet_writes (Read y) out k small = refl
  quiet_writes (Write y) out k small = false_unless _ (λ h. (let same = eqb-true y (row * 64 + k) h in out (y, refl, omega arith)))
  quiet_writes HandBack out k small = refl

  skip : (d from : ℕ) → from + d ≤ until → until ≤ length nodes → ((at : ℕ) (node : Node) → from ≤ at → at < from + d → slice_get nodes at ≡ Some node → (InRow node.access row → ⊥) × (node.access ≡ HandBack → ⊥)) → (word : ℕ) → IsFront nodes back row until behind (from + d) word → IsFront nodes back row until behind from word
  skip zero from within fits quiet word front = (let same : from + 0 ≡ from = omega arith in subst (λ (p : ℕ). IsFront nodes back row until behind p word) same front)
  skip (suc d) from within fits quiet word front =
      let node : Node = get_or nodes from no_step in
      let is : slice_get nodes from ≡ Some node = step_is nodes from (omega arith) in
      let out = quiet from node (omega arith) (omega arith) is in
      let same : from + suc d ≡ from + 1 + d = omega arith in
      front_taken from node word word (omega arith) is (λ k small r. absurd (no (quiet_reads node.access out.0 out.1 k small) r)) (λ k small w has. has) (λ k small has. inr (quiet_writes node.access out.0 k small, has))
      (skip d (from + 1) (omega arith) fits (λ at m above below there. quiet at m (omega arith) (omega arith) there) word (subst (λ (p : ℕ). IsFront nodes back row until behind p word) same front))

  -- over steps that name no slot of the row and hand nothing back
  pub front_skipped : (from to : ℕ) → from ≤ to → to ≤ until → until ≤ length nodes → ((at : ℕ) (node : Node) → from ≤ at → at < to → slice_get nodes at ≡ Some node → (InRow node.access row → ⊥) × (node.access ≡ HandBack → ⊥)) → (word : ℕ) → IsFront nodes back row until behind to word → IsFront nodes back row until behind from word
  front_skipped from to below within fits quiet word front =
      let same : to ≡ from + (to - from) = omega arith in
      skip (to - from) from (omega arith) fits (λ at node above less is. quiet at node above (omega arith) is) word (subst (λ (p : ℕ). IsFront nodes back row until behind p word) same front)

-- ---- a walk over the steps of a block that name a slot of the row

pub latest_back : (nodes : List Node) (row n m bound : ℕ) → IsLatest nodes row n bound → bound ≤ m → m ≤ n → IsLatest nodes row m bound
latest_back nodes row n m bound latest above below = record { within = above; here = latest.here; none = λ at node more less is in_row. latest.none at node more (omega arith) is in_row }

-- where a walk is: the steps from `from` on are taken, and of those before it the latest in the row is the one before `bound`
pub record IsReached (nodes : List Node) (row first end bound from : ℕ) : Type 0 where
  pub above : first ≤ from
  pub below : from ≤ end
  pub latest : IsLatest nodes row from bound
  pub plain : (at : ℕ) (node : Node) → first ≤ at → at < from → slice_get nodes at ≡ Some node → node.access ≡ HandBack → ⊥

module _ (nodes : List Node) (row first end : ℕ) (fits : end ≤ length nodes) where
  module _ (access : Access) (some : first < end) (last : (node : Node) → slice_get nodes (end - 1) ≡ Some node → access ≡ node.access) (plain : (at : ℕ) (node : Node) → first ≤ at → at + 1 < end → slice_get nodes at ≡ Some node → node.access ≡ HandBack → ⊥) (bound : ℕ) (latest : IsLatest nodes row end bound) where
    -- where a walk begins: before a last step that hands back, or behind the last step
    abbrev pub Begun : ℕ → Type 0
    Begun from = IsReached nodes row first end bound from × ((handed behind word : ℕ) → (access ≡ HandBack → word ≡ bit_or behind handed) → ((access ≡ HandBack → ⊥) → word ≡ behind) → (back : List Bool) → IsHanded back (row * 64) handed → IsFront nodes back row end behind from word) × ((at : ℕ) (node : Node) → from ≤ at → at < end → slice_get nodes at ≡ Some node → InRow node.access row → ⊥)

    begun_other : (access ≡ HandBack → ⊥) → Begun end
    begun_other other = (
      record { above = omega arith; below = omega arith; latest = latest; plain = keeps },
      λ handed behind word hand same back known. subst (λ (w : ℕ). IsFront nodes back row end behind end w) (sym (same other)) (front_end nodes back row end behind),
      λ at node above less is. absurd (omega arith),
    )
      where
        keeps : (at : ℕ) (node : Node) → first ≤ at → at < end → slice_get nodes at ≡ Some node → node.access ≡ HandBack → ⊥
        keeps at node above less is hands = elim (cases_lt (at + 1) end) [
          | inl inner ↦ plain at node above inner is hands
          | inr more ↦ (let same : at ≡ end - 1 = omega arith in other (last node (subst (λ (p : ℕ). slice_get nodes p ≡ Some node) same is) ∙ hands))
        ]

    begun_back : access ≡ HandBack → Begun (end - 1)
    begun_back hands = (
      record { above = omega arith; below = omega arith; latest = latest_back nodes row end (end - 1) bound latest unnamed (omega arith); plain = λ at m above less there. plain at m above (omega arith) there },
      λ handed behind word hand same back known.
          subst (λ (w : ℕ). IsFront nodes back row end behind (end - 1) w) (sym (hand hands))
          (front_taken nodes back row end behind (end - 1) node behind (bit_or behind handed) (omega arith) is (λ k small r. back_reads node.access 0 (row * 64) behind handed k small back there (known.0 k small) r) (λ k small w has. or_left behind handed k has) (λ k small has. back_only node.access 0 (row * 64) behind handed k small back there (known.1 k small) has)
          (subst (λ (p : ℕ). IsFront nodes back row end behind p behind) next (front_end nodes back row end behind))),
      λ at m above less there2 in_row. (let same : end - 1 ≡ at = omega arith in none m.access (ap (λ (n : Node). n.access) (alike m (ap (slice_get nodes) same ∙ there2)) ∙ there) in_row),
    )
      where
        node : Node
        node = get_or nodes (end - 1) no_step

        is : slice_get nodes (end - 1) ≡ Some node
        is = step_is nodes (end - 1) (omega arith)

        next : end ≡ end - 1 + 1
        next = omega arith

        there : node.access ≡ HandBack
        there = sym (last node is) ∙ hands

        alike : (m : Node) → slice_get nodes (end - 1) ≡ Some m → m ≡ node
        alike m h = cc is

        none : (a : Access) → a ≡ HandBack → InRow a row → ⊥
        none a is in_row = cc (ap named is, in_row.1)

        unnamed : bound ≤ end - 1
        unnamed = elim (cases_lt bound end) [
          | inl less ↦ omega arith
          | inr more ↦ (let same : end - 1 ≡ bound - 1 = omega (arith, latest.within) in absurd (none node.access there (latest.here node (omega arith) (subst (λ (p : ℕ). slice_get nodes p ≡ Some node) same is))))
        ]

    pub begun : (from : ℕ) × Begun from
    begun = go access refl
      where
        go : (a : Access) → access ≡ a → (from : ℕ) × Begun from
        go Nothing is = (end, begun_other (λ h. cc))
        go (Read y) is = (end, begun_other (λ h. cc))
        go (Write y) is = (end, begun_other (λ h. cc))
        go HandBack is = (end - 1, begun_back is)

  module _ (bound from : ℕ) (at : IsReached nodes row first end bound from) where
    -- back to a place at or behind the latest step in the row
    pub front_back : (to : ℕ) → first ≤ to → bound ≤ to → to ≤ from → (back : List Bool) (behind word : ℕ) → IsFront nodes back row end behind from word → IsFront nodes back row end behind to word
    front_back to above beyond below back behind word front =
        front_skipped nodes back row end behind to from below at.below fits (λ step node more less is. (at.latest.none step node (omega arith) less is, at.plain step node (omega arith) less is)) word front

    -- the walk takes the latest step in the row
    next_reached : (bound2 : ℕ) → first < bound → IsLatest nodes row (bound - 1) bound2 → IsReached nodes row first end bound2 (bound - 1)
    next_reached bound2 more latest = record {
      above = omega arith;
      below = omega (arith, at.below, at.latest.within);
      latest = latest;
      plain = λ step node above less is. at.plain step node above (omega (arith, at.latest.within)) is;
    }

    pub reached_next : (earlier : List ℕ) → first < bound → Chained nodes row (length nodes) earlier → IsReached nodes row first end (get_or earlier (bound - 1) 0) (bound - 1)
    reached_next earlier more chained =
        let within : bound - 1 < length nodes = omega (arith, at.below, at.latest.within) in
        let is : slice_get nodes (bound - 1) ≡ Some (get_or nodes (bound - 1) no_step) = step_is nodes (bound - 1) within in
        next_reached (get_or earlier (bound - 1) 0) more (chained (bound - 1) (get_or nodes (bound - 1) no_step) within is (at.latest.here (get_or nodes (bound - 1) no_step) (omega arith) is))

    pub front_next : (back : List Bool) (behind word word2 : ℕ) → first < bound → ((k : ℕ) → k < 64 → reads_slot back (get_or nodes (bound - 1) no_step).access (row * 64 + k) ≡ true → bit_at word2 k ≡ 1) → ((k : ℕ) → k < 64 → writes_slot (get_or nodes (bound - 1) no_step).access (row * 64 + k) ≡ false → bit_at word k ≡ 1 → bit_at word2 k ≡ 1) → ((k : ℕ) → k < 64 → bit_at word2 k ≡ 1 → (reads_slot back (get_or nodes (bound - 1) no_step).access (row * 64 + k) ≡ true) ⊎ ((writes_slot (get_or nodes (bound - 1) no_step).access (row * 64 + k) ≡ false) × (bit_at word k ≡ 1))) → IsFront nodes back row end behind from word → IsFront nodes back row end behind (bound - 1) word2
    front_next back behind word word2 more reads passes only front =
        let within : bound - 1 < end = omega (arith, at.below, at.latest.within) in
        let next : bound ≡ bound - 1 + 1 = omega arith in
        front_taken nodes back row end behind (bound - 1) (get_or nodes (bound - 1) no_step) word word2 within (step_is nodes (bound - 1) (omega arith)) reads passes only
        (subst (λ (p : ℕ). IsFront nodes back row end behind p word) next (front_back bound (omega arith) (omega arith) at.latest.within back behind word front))

    -- where the walk ends
    pub front_first : bound ≤ first → (back : List Bool) (behind word : ℕ) → IsFront nodes back row end behind from word → IsFront nodes back row end behind first word
    front_first less back behind word front = front_back first (omega arith) less at.above back behind word front

    pub latest_first : bound ≤ first → IsLatest nodes row first bound
    latest_first less = latest_back nodes row from first bound at.latest less at.above
