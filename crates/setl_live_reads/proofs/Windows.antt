-- What a window of blocks leaves out.
use Rattle.std.proofs.Common.{◌≡◌, ℕ, zero, suc, ◌+◌, ◌-◌, ◌*◌, ◌<◌, ◌≤◌, ◌⊎◌, inl, inr, List, Bool, true, length, get_or, Some, refl, sym, ap, ◌∙◌, subst, arith, eqb-true}
use Rattle.std.proofs.lemmas.Bool.{cases_lt}
use Rattle.std.proofs.lemmas.List.{get_or_past}
use Rattle.std.proofs.lemmas.Option.{slice_get_within, get_or_from_slice_get, slice_get_read}
use Rattle.std.specs.Prelude.{slice_get}
use Rattle.std.specs.List.{Contains}
use Rattle.setl_live_reads.specs.declared.node.Node.{Node}
use Rattle.setl_live_reads.specs.declared.node.Access.{Access}
use Rattle.setl_live_reads.specs.declared.node.Access.TheVariants.{Nothing, Read, Write, HandBack}
use Rattle.setl_live_reads.specs.declared.node.Way.{Way}
use Rattle.setl_live_reads.specs.declared.node.Way.TheVariants.{On, To, Either, Nowhere}
use Rattle.setl_live_reads.specs.Paths.{reads_slot, ways, target}
use Rattle.setl_live_reads.specs.Blocks.{AreBlocks}
use Rattle.setl_live_reads.specs.Chains.{InRow, IsLatest}
use Rattle.setl_live_reads.specs.Masks.{IsHanded, Outside, Apart, Covers}
use Rattle.setl_live_reads.specs.Ranges.{InRange, Sourced, Spanned}
use Rattle.setl_live_reads.proofs.Straight.{no_step, step_is, none_set, latest_back}
use Rattle.setl_live_reads.proofs.Cutting.{first_up}

-- an item that was read, whatever stands for items that aren't there
pub item_read : (xs : List ℕ) (i x : ℕ) → i < length xs → x ≡ get_or xs i x → get_or xs i 0 ≡ x
item_read xs i x within is = get_or_from_slice_get xs i x 0 (slice_get_read xs (length xs) i x refl within is)

-- ---- where blocks lead

pub apart_whole : (lasts : List Node) (count : ℕ) → length lasts ≡ count → Apart lasts 0 count
apart_whole lasts count same b to last is out way = absurd (go out (slice_get_within lasts b last is))
  where
    go : Outside 0 count b → b < length lasts → ⊥
    go (inl less) within = omega arith
    go (inr more) within = omega arith

pub apart_empty : (lasts : List Node) → Apart lasts 0 0
apart_empty lasts b to last is out way = inr (omega arith)

pub apart_window : (lasts : List Node) (first last : List ℕ) → Sourced lasts first last (length lasts) → (low high : ℕ) → high ≤ length lasts → ((b : ℕ) → low < b → b < high → (low ≤ get_or first b 0) × (get_or last b 0 < high)) → Apart lasts low high
apart_window lasts first last sourced low high within inside b to2 node is out way = leads node.way refl way
  where
    outside_go : Outside low high b → low ≤ b → b < high → ⊥
    outside_go (inl less) from to = omega arith
    outside_go (inr more) from to = omega arith

    on : Outside low high b → b + 1 ≡ to2 → (to2 ≤ low) ⊎ (high ≤ to2)
    on (inl less) same = inl (omega arith)
    on (inr more) same = inr (omega arith)

    jump : target node.way ≡ Some to2 → (to2 ≤ low) ⊎ (high ≤ to2)
    jump jumps = elim (cases_lt low to2) [
      | inr less ↦ inl less
      | inl more ↦ elim (cases_lt to2 high) [
        | inr beyond ↦ inr beyond
        | inl below ↦ (
            let here : to2 < length lasts = omega arith in
            let range = sourced b to2 node (slice_get_within lasts b node is) is jumps here in
            let there = inside to2 more below in
            absurd (outside_go out (omega arith) (omega arith)))
      ]
    ]

    leads : (w : Way) → node.way ≡ w → Contains (ways w (b + 1)) to2 → (to2 ≤ low) ⊎ (high ≤ to2)
    leads On e (zero, less, same) = on out same
    leads On e (suc n, less, same) = absurd (omega arith)
    leads (To t) e (zero, less, same) = jump (ap target e ∙ ap Some same)
    leads (To t) e (suc n, less, same) = absurd (omega arith)
    leads (Either t) e (zero, less, same) = on out same
    leads (Either t) e (suc zero, less, same) = jump (ap target e ∙ ap Some same)
    leads (Either t) e (suc (suc n), less, same) = absurd (omega arith)
    leads Nowhere e (n, less, same) = absurd (omega arith)

-- ---- which steps it covers

module _ (nodes : List Node) (firsts blocks : List ℕ) (lasts : List Node) (are : AreBlocks nodes firsts blocks lasts) (row : ℕ) where
  pub covers_whole : (count : ℕ) → count ≡ length firsts → (back : List Bool) → Covers nodes back row (get_or firsts 0 (length nodes)) (get_or firsts count (length nodes))
  covers_whole count all back at k node small is r =
      let within : at < length nodes = slice_get_within nodes at node is in
      (omega (arith, first_up nodes firsts blocks are.cut 0 (get_or blocks at 0) (omega arith), (are.cut.inside at within).1), omega (arith, get_or_past firsts count (length nodes) (omega arith)))

  pub latest_whole : (count : ℕ) → count ≡ length firsts → (latest : ℕ) → IsLatest nodes row (length nodes) latest → IsLatest nodes row (get_or firsts count (length nodes)) latest
  latest_whole count all latest is = subst (λ (n : ℕ). IsLatest nodes row n latest) (sym (get_or_past firsts count (length nodes) (omega arith))) is

  module _ (rows : ℕ) (small : row < rows) (first last : List ℕ) (spanned : Spanned nodes blocks rows first last (length nodes)) where
    in_span : (at : ℕ) (node : Node) → slice_get nodes at ≡ Some node → InRow node.access row → InRange first last row (get_or blocks at 0)
    in_span at node is here = subst (λ (r : ℕ). InRange first last r (get_or blocks at 0)) here.2 (spanned at here.0 node (slice_get_within nodes at node is) is here.1 (omega (arith, here.2)))

    -- the step before `latest` lies in the span
    latest_span : (latest : ℕ) → IsLatest nodes row (length nodes) latest → 0 < latest → (latest - 1 < length nodes) × InRange first last row (get_or blocks (latest - 1) 0)
    latest_span latest is some =
        let within : latest - 1 < length nodes = omega (arith, is.within) in
        let there : slice_get nodes (latest - 1) ≡ Some (get_or nodes (latest - 1) no_step) = step_is nodes (latest - 1) within in
        (within, in_span (latest - 1) (get_or nodes (latest - 1) no_step) there (is.here (get_or nodes (latest - 1) no_step) some there))

    pub latest_empty : get_or last row 0 < get_or first row 0 → (latest : ℕ) → IsLatest nodes row (length nodes) latest → IsLatest nodes row (get_or firsts 0 (length nodes)) latest
    latest_empty less latest is = elim (cases_lt 0 latest) [
      | inl some ↦ (let there = latest_span latest is some in absurd (omega (arith, there.1)))
      | inr none ↦ latest_back nodes row (length nodes) (get_or firsts 0 (length nodes)) latest is (omega arith) (first_within0)
    ]
      where
        first_within0 : get_or firsts 0 (length nodes) ≤ length nodes
        first_within0 = omega (arith, first_up nodes firsts blocks are.cut 0 (length firsts) (omega arith), get_or_past firsts (length firsts) (length nodes) (omega arith))

    pub latest_window : (high : ℕ) → get_or last row 0 < high → high ≤ length firsts → (latest : ℕ) → IsLatest nodes row (length nodes) latest → IsLatest nodes row (get_or firsts high (length nodes)) latest
    latest_window high below most latest is = latest_back nodes row (length nodes) (get_or firsts high (length nodes)) latest is (within (cases_lt 0 latest)) (omega (arith, first_up nodes firsts blocks are.cut high (length firsts) most, get_or_past firsts (length firsts) (length nodes) (omega arith)))
      where
        within : (0 < latest) ⊎ (latest ≤ 0) → latest ≤ get_or firsts high (length nodes)
        within (inl some) = (
            let there = latest_span latest is some in
            omega (arith, there.1, (are.cut.inside (latest - 1) there.0).2, first_up nodes firsts blocks are.cut (get_or blocks (latest - 1) 0 + 1) high (omega (arith, there.1))))
        within (inr none) = omega arith

    module _ (back : List Bool) (handed : ℕ) (none : handed ≡ 0) (known : IsHanded back (row * 64) handed) where
      -- a read of the row names a slot of it
      names : (a : Access) (k : ℕ) → k < 64 → reads_slot back a (row * 64 + k) ≡ true → InRow a row
      names Nothing k less h = cc
      names (Write y) k less h = cc
      names (Read y) k less h = (let same = eqb-true y (row * 64 + k) h in (y, refl, omega arith))
      names HandBack k less h = absurd (none_set handed k none (known.0 k less h))

      pub covers_empty : get_or last row 0 < get_or first row 0 → (from until : ℕ) → Covers nodes back row from until
      covers_empty less from until at k node small2 is r = (let there = in_span at node is (names node.access k small2 r) in absurd (omega arith))

      pub covers_window : (low high : ℕ) → low ≤ get_or first row 0 → get_or last row 0 < high → Covers nodes back row (get_or firsts low (length nodes)) (get_or firsts high (length nodes))
      covers_window low high from to at k node small2 is r =
          let there = in_span at node is (names node.access k small2 r) in
          let inside = are.cut.inside at (slice_get_within nodes at node is) in
          (omega (arith, inside.1, first_up nodes firsts blocks are.cut low (get_or blocks at 0) (omega arith)), omega (arith, inside.2, first_up nodes firsts blocks are.cut (get_or blocks at 0 + 1) high (omega arith)))
