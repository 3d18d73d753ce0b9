-- What is read first in a block, what is live at blocks, and what is read later.
use Rattle.std.proofs.Common.{◌≡◌, ℕ, ◌+◌, ◌-◌, ◌*◌, ◌<◌, ◌≤◌, ◌⊎◌, inl, inr, zero, suc, [], ◌∷◌, List, Bool, length, get_or, Some, refl, sym, ap, ◌∙◌, subst, arith, w64}
use Rattle.std.proofs.lemmas.Bool.{cases_eq, cases_lt}
use Rattle.std.proofs.lemmas.List.{get_or_past, get_or_default}
use Rattle.std.proofs.lemmas.Option.{slice_get_within}
use Rattle.std.proofs.lemmas.Nat.Bits.{bit_at_not, bit_at-zero}
use Rattle.std.specs.Prelude.{slice_get}
use Rattle.std.specs.Int.{bit_at}
use Rattle.std.specs.List.{Contains}
use Rattle.setl_live_reads.specs.declared.node.Node.{Node}
use Rattle.setl_live_reads.specs.declared.node.Way.{Way}
use Rattle.setl_live_reads.specs.declared.node.Way.TheVariants.{On, To, Either, Nowhere}
use Rattle.setl_live_reads.specs.Paths.{ways, target, ReadLater, reads, later}
use Rattle.setl_live_reads.specs.Blocks.{in_blocks, block_at, AreBlocks}
use Rattle.setl_live_reads.specs.Fronts.{ReadUntil, ends, read, passed, HasFronts, ReadBehind}
use Rattle.setl_live_reads.specs.Masks.{Has, LiveAt, gen, pass, Justified, ClosedIn, HasBehind, TellsReads, Outside, EmptyOutside, Apart, Covers}
use Rattle.setl_live_reads.proofs.Straight.{no_step, step_is, none_set, split, ended, weaken, unread}
use Rattle.setl_live_reads.proofs.Cutting.{first_up, block_within}

-- what is read later is read from a step of the body on
pub later_within : (nodes : List Node) (back : List Bool) (x at : ℕ) → ReadLater nodes back x at → at < length nodes
later_within nodes back x at (reads {node = node} is r) = slice_get_within nodes at node is
later_within nodes back x at (later {node = node} is w way more) = slice_get_within nodes at node is

full_set : (k : ℕ) → k < 64 → bit_at 18446744073709551615 k ≡ 1
full_set k small = omega (arith, bit_at_not w64 0 k (omega arith) small, bit_at-zero k)

module _ (nodes : List Node) (firsts blocks : List ℕ) (lasts : List Node) (are : AreBlocks nodes firsts blocks lasts) where
  -- ---- where blocks lead

  -- a jump, in blocks
  jump_forth : (node : Node) (at t c : ℕ) → slice_get nodes at ≡ Some node → target node.way ≡ Some t → block_at blocks t ≡ c → get_or firsts c (length nodes) < length nodes → get_or firsts c (length nodes) ≡ t
  jump_forth node at t c is jumps same less = elim (cases_lt t (length nodes)) [
    | inl within ↦ (let known : get_or blocks t 0 ≡ c = get_or_default blocks t 0 4294967295 (omega (arith, are.cut.sizes)) ∙ same in ap (λ (b : ℕ). get_or firsts b (length nodes)) (sym known) ∙ are.entered at t node is jumps within)
    | inr beyond ↦ (let far : c ≡ 4294967295 = sym same ∙ get_or_past blocks t 4294967295 (omega (arith, are.cut.sizes)) in absurd (omega (arith, block_within nodes firsts blocks are.cut c less, are.cut.few, are.fits)))
  ]

  jump_back : (node : Node) (at t : ℕ) → slice_get nodes at ≡ Some node → target node.way ≡ Some t → t < length nodes → (block_at blocks t < length firsts) × (get_or firsts (block_at blocks t) (length nodes) ≡ t)
  jump_back node at t is jumps within =
      let same : get_or blocks t 0 ≡ block_at blocks t = get_or_default blocks t 0 4294967295 (omega (arith, are.cut.sizes)) in
      (subst (λ (b : ℕ). b < length firsts) same (are.cut.inside t within).0, ap (λ (b : ℕ). get_or firsts b (length nodes)) (sym same) ∙ are.entered at t node is jumps within)

  module _ (b : ℕ) (last node : Node) (there : slice_get lasts b ≡ Some last) (is : slice_get nodes (get_or firsts (b + 1) (length nodes) - 1) ≡ Some node) where
    way_is : last.way ≡ in_blocks blocks node.way
    way_is = (are.leads b last there node is).1

    -- the first step of a block to which this one leads comes after its last step
    leads_forth : (c : ℕ) → Contains (ways last.way (b + 1)) c → get_or firsts c (length nodes) < length nodes → Contains (ways node.way (get_or firsts (b + 1) (length nodes))) (get_or firsts c (length nodes))
    leads_forth c way less = go node.way refl (subst (λ (w : Way). Contains (ways w (b + 1)) c) way_is way)
      where
        next : b + 1 ≡ c → get_or firsts (b + 1) (length nodes) ≡ get_or firsts c (length nodes)
        next same = ap (λ (d : ℕ). get_or firsts d (length nodes)) same

        go : (w : Way) → node.way ≡ w → Contains (ways (in_blocks blocks w) (b + 1)) c → Contains (ways w (get_or firsts (b + 1) (length nodes))) (get_or firsts c (length nodes))
        go On e (zero, small, same) = (0, omega arith, next same)
        go On e (suc n, small, same) = absurd (omega arith)
        go (To t) e (zero, small, same) = (0, omega arith, sym (jump_forth node (get_or firsts (b + 1) (length nodes) - 1) t c is (ap target e) same less))
        go (To t) e (suc n, small, same) = absurd (omega arith)
        go (Either t) e (zero, small, same) = (0, omega arith, next same)
        go (Either t) e (suc zero, small, same) = (1, omega arith, sym (jump_forth node (get_or firsts (b + 1) (length nodes) - 1) t c is (ap target e) same less))
        go (Either t) e (suc (suc n), small, same) = absurd (omega arith)
        go Nowhere e (n, small, same) = absurd (omega arith)

    leads_back : (to : ℕ) → Contains (ways node.way (get_or firsts (b + 1) (length nodes))) to → to < length nodes → (c : ℕ) × (c < length firsts) × (get_or firsts c (length nodes) ≡ to) × Contains (ways last.way (b + 1)) c
    leads_back to way less = (let found = go node.way refl way in (found.0, found.1, found.2, subst (λ (w : Way). Contains (ways w (b + 1)) found.0) (sym way_is) found.3))
      where
        next : get_or firsts (b + 1) (length nodes) ≡ to → b + 1 < length firsts
        next same = block_within nodes firsts blocks are.cut (b + 1) (omega arith)

        go : (w : Way) → node.way ≡ w → Contains (ways w (get_or firsts (b + 1) (length nodes))) to → (c : ℕ) × (c < length firsts) × (get_or firsts c (length nodes) ≡ to) × Contains (ways (in_blocks blocks w) (b + 1)) c
        go On e (zero, small, same) = (b + 1, next same, same, (0, omega arith, refl))
        go On e (suc n, small, same) = absurd (omega arith)
        go (To t) e (zero, small, same) = (let found = jump_back node (get_or firsts (b + 1) (length nodes) - 1) t is (ap target e) (omega arith) in (block_at blocks t, found.0, found.1 ∙ same, (0, omega arith, refl)))
        go (To t) e (suc n, small, same) = absurd (omega arith)
        go (Either t) e (zero, small, same) = (b + 1, next same, same, (0, omega arith, refl))
        go (Either t) e (suc zero, small, same) = (let found = jump_back node (get_or firsts (b + 1) (length nodes) - 1) t is (ap target e) (omega arith) in (block_at blocks t, found.0, found.1 ∙ same, (1, omega arith, refl)))
        go (Either t) e (suc (suc n), small, same) = absurd (omega arith)
        go Nowhere e (n, small, same) = absurd (omega arith)

  -- ---- paths through a block

  module _ (back : List Bool) (x : ℕ) where
    -- the way on from a plain step
    on : (b at to : ℕ) (node : Node) → b < length firsts → get_or firsts b (length nodes) ≤ at → at + 1 < get_or firsts (b + 1) (length nodes) → slice_get nodes at ≡ Some node → Contains (ways node.way (at + 1)) to → at + 1 ≡ to
    on b at to node small above less is way = go (subst (λ (w : Way). Contains (ways w (at + 1)) to) (are.cut.straight b at node small above less is).0 way)
      where
        go : Contains ((at + 1) ∷ []) to → at + 1 ≡ to
        go (zero, one, same) = same
        go (suc n, one, same) = absurd (omega arith)

    on_way : (b at : ℕ) (node : Node) → b < length firsts → get_or firsts b (length nodes) ≤ at → at + 1 < get_or firsts (b + 1) (length nodes) → slice_get nodes at ≡ Some node → Contains (ways node.way (at + 1)) (at + 1)
    on_way b at node small above less is = (let one : Contains ((at + 1) ∷ []) (at + 1) = (0, omega arith, refl) in subst (λ (w : Way). Contains (ways w (at + 1)) (at + 1)) (sym (are.cut.straight b at node small above less is).0) one)

    -- what is read first in a block, or behind it, is read later
    pub read_sound : (E : Type 0) (b : ℕ) → b < length firsts → (E → (c : ℕ) × (last : Node) × (slice_get lasts b ≡ Some last) × Contains (ways last.way (b + 1)) c × ReadLater nodes back x (get_or firsts c (length nodes))) → (at : ℕ) → get_or firsts b (length nodes) ≤ at → at < get_or firsts (b + 1) (length nodes) → ReadUntil nodes back x (get_or firsts (b + 1) (length nodes)) E at → ReadLater nodes back x at
    read_sound E b small behind at above below (ends same e) = absurd (omega arith)
    read_sound E b small behind at above below (read {node = node} less is r) = reads {node = node} is r
    read_sound E b small behind at above below (passed {node = node} less is w more) = elim (cases_lt (at + 1) (get_or firsts (b + 1) (length nodes))) [
      | inl inner ↦ later {node = node} is w (on_way b at node small above inner is) (read_sound E b small behind (at + 1) (omega arith) inner more)
      | inr last ↦ (
          let found = behind (ended nodes back x (get_or firsts (b + 1) (length nodes)) E (at + 1) last more) in
          let end : get_or firsts (b + 1) (length nodes) ≡ at + 1 = omega arith in
          let place : at ≡ get_or firsts (b + 1) (length nodes) - 1 = omega arith in
          let way = leads_forth b found.1 node found.2 (subst (λ (p : ℕ). slice_get nodes p ≡ Some node) place is) found.0 found.3 (later_within nodes back x (get_or firsts found.0 (length nodes)) found.4) in
          later {node = node} is w (subst (λ (p : ℕ). Contains (ways node.way p) (get_or firsts found.0 (length nodes))) end way) found.4)
    ]

  module _ (back : List Bool) (row k : ℕ) (small : k < 64) where
    -- what is live at a block is read later from its first step on
    pub live_sound : (gens passes : List ℕ) (low high : ℕ) → high ≤ length firsts → ((b : ℕ) → low ≤ b → b < high → HasFronts nodes back row firsts gens passes b) → (b : ℕ) → LiveAt lasts gens passes low high k b → ReadLater nodes back (row * 64 + k) (get_or firsts b (length nodes))
    live_sound gens passes low high within fronts b (gen from to has) =
        read_sound back (row * 64 + k) (bit_at 0 k ≡ 1) b (omega arith) (λ one. absurd (none_set 0 k refl one)) (get_or firsts b (length nodes)) (omega arith) (are.cut.rising b (omega arith)) (((fronts b from to).gen k small).0 has)
    live_sound gens passes low high within fronts b (pass {to = c} {last = last} from to is has way more) =
        read_sound back (row * 64 + k) (bit_at 18446744073709551615 k ≡ 1) b (omega arith) (λ one. (c, last, is, way, live_sound gens passes low high within fronts c more)) (get_or firsts b (length nodes)) (omega arith) (are.cut.rising b (omega arith)) (((fronts b from to).pass k small).0 has)

    module _ (masks : List ℕ) (tells : TellsReads nodes back row firsts lasts 0 (length firsts) masks) where
      -- what is read later from a step on is read first in its block, or stands behind it
      pub read_complete : (at : ℕ) → ReadLater nodes back (row * 64 + k) at → (b : ℕ) → b < length firsts → get_or firsts b (length nodes) ≤ at → at < get_or firsts (b + 1) (length nodes) → ReadUntil nodes back (row * 64 + k) (get_or firsts (b + 1) (length nodes)) (HasBehind lasts masks b k) at
      read_complete at (reads {node = node} is r) b within above below = read {node = node} below is r
      read_complete at (later {to = to} {node = node} is w way more) b within above below = elim (cases_lt (at + 1) (get_or firsts (b + 1) (length nodes))) [
        | inl inner ↦ (
            let same : at + 1 ≡ to = on back (row * 64 + k) b at to node within above inner is way in
            passed {node = node} below is w (subst (λ (p : ℕ). ReadUntil nodes back (row * 64 + k) (get_or firsts (b + 1) (length nodes)) (HasBehind lasts masks b k) p) (sym same) (read_complete to more b within (omega arith) (omega arith))))
        | inr last ↦ (
            let end : at + 1 ≡ get_or firsts (b + 1) (length nodes) = omega arith in
            let place : at ≡ get_or firsts (b + 1) (length nodes) - 1 = omega arith in
            let there : slice_get lasts b ≡ Some (get_or lasts b no_step) = step_is lasts b (omega (arith, are.count)) in
            let found = leads_back b (get_or lasts b no_step) node there (subst (λ (p : ℕ). slice_get nodes p ≡ Some node) place is) to (subst (λ (p : ℕ). Contains (ways node.way p) to) end way) (later_within nodes back (row * 64 + k) to more) in
            let rest = read_complete to more found.0 found.1 (omega (arith, found.2)) (omega (arith, found.2, are.cut.rising found.0 found.1)) in
            let has = tells.closed found.0 k small (omega arith) found.1 (subst (λ (p : ℕ). ReadUntil nodes back (row * 64 + k) (get_or firsts (found.0 + 1) (length nodes)) (HasBehind lasts masks found.0 k) p) (sym found.2) rest) in
            passed {node = node} below is w (ends end (found.0, get_or lasts b no_step, there, found.3, has)))
      ]

      pub later_has : (b : ℕ) → ReadLater nodes back (row * 64 + k) (get_or firsts b (length nodes)) → Has masks b k
      later_has b more =
          let within : b < length firsts = block_within nodes firsts blocks are.cut b (later_within nodes back (row * 64 + k) (get_or firsts b (length nodes)) more) in
          tells.closed b k small (omega arith) within (read_complete (get_or firsts b (length nodes)) more b within (omega arith) (are.cut.rising b within))

      -- what is read first behind a step of a block is read later from the next step on, and the other way round
      module _ (b : ℕ) (within : b < length firsts) (last : Node) (there : slice_get lasts b ≡ Some last) (next out at : ℕ) (next_is : next ≡ get_or masks (b + 1) 0) (above : get_or firsts b (length nodes) ≤ at) where
        pub behind_sound : (bit_at out k ≡ 1 → (to : ℕ) × Contains (ways last.way (b + 1)) to × Has masks to k) → ReadBehind nodes back (row * 64 + k) k (get_or firsts (b + 1) (length nodes)) next out at → ReadLater nodes back (row * 64 + k) (at + 1)
        behind_sound only (inl both) = subst (λ (p : ℕ). ReadLater nodes back (row * 64 + k) p) (sym both.0) (tells.justified (b + 1) k small (subst (λ (w : ℕ). bit_at w k ≡ 1) next_is both.1))
        behind_sound only (inr both) = read_sound back (row * 64 + k) (bit_at out k ≡ 1) b within (λ one. (let found = only one in (found.0, last, there, found.1, tells.justified found.0 k small found.2))) (at + 1) (omega arith) both.0 both.1

        pub behind_complete : ((to : ℕ) → Contains (ways last.way (b + 1)) to → Has masks to k → bit_at out k ≡ 1) → at < get_or firsts (b + 1) (length nodes) → ReadLater nodes back (row * 64 + k) (at + 1) → ReadBehind nodes back (row * 64 + k) k (get_or firsts (b + 1) (length nodes)) next out at
        behind_complete all below more = elim (cases_lt (at + 1) (get_or firsts (b + 1) (length nodes))) [
          | inl inner ↦ inr (inner, weaken nodes back (row * 64 + k) (get_or firsts (b + 1) (length nodes)) (HasBehind lasts masks b k) (bit_at out k ≡ 1) one (at + 1) (read_complete (at + 1) more b within (omega arith) inner))
          | inr end ↦ (let same : at + 1 ≡ get_or firsts (b + 1) (length nodes) = omega arith in inl (same, subst (λ (w : ℕ). bit_at w k ≡ 1) (sym next_is) (later_has (b + 1) (subst (λ (p : ℕ). ReadLater nodes back (row * 64 + k) p) same more))))
        ]
          where
            same_last : (m : Node) → slice_get lasts b ≡ Some m → m ≡ last
            same_last m h = cc

            one : HasBehind lasts masks b k → bit_at out k ≡ 1
            one (to, m, is, way, has) = all to (subst (λ (n : Node). Contains (ways n.way (b + 1)) to) (same_last m is) way) has

  -- ---- sets that tell what is read later

  module _ (back : List Bool) (row : ℕ) (masks : List ℕ) where
    pub tells_settled : (gens passes : List ℕ) (low high : ℕ) → high ≤ length firsts → ((b : ℕ) → low ≤ b → b < high → HasFronts nodes back row firsts gens passes b) → Justified lasts gens passes low high masks → ClosedIn lasts gens passes low high masks → TellsReads nodes back row firsts lasts low high masks
    tells_settled gens passes low high within fronts justified closed = record {
      justified = λ b k small has. live_sound back row k small gens passes low high within fronts b (justified b k small has);
      closed = λ b k small from to more. elim (split nodes back (row * 64 + k) (get_or firsts (b + 1) (length nodes)) (HasBehind lasts masks b k) (bit_at 0 k ≡ 1) (bit_at 18446744073709551615 k ≡ 1) (full_set k small) (get_or firsts b (length nodes)) more) [
        | inl here ↦ (closed b from to).gen k small (((fronts b from to).gen k small).1 here)
        | inr both ↦ (closed b from to).pass k both.0.0 both.0.1 small both.0.2 (((fronts b from to).pass k small).1 both.1) both.0.3 both.0.4
      ];
    }

    -- a window apart whose first set is empty closes all
    pub tells_all : (low high : ℕ) → low ≤ high → Apart lasts low high → Covers nodes back row (get_or firsts low (length nodes)) (get_or firsts high (length nodes)) → EmptyOutside low high masks → get_or masks low 0 ≡ 0 → TellsReads nodes back row firsts lasts low high masks → TellsReads nodes back row firsts lasts 0 (length firsts) masks
    tells_all low high order apart covers empty start tells = record {
      justified = tells.justified;
      closed = λ b k small from to more. elim (cases_lt b low) [
        | inl less ↦ absurd (none b k small (inl less) more)
        | inr above ↦ elim (cases_lt b high) [
          | inl below ↦ tells.closed b k small above below more
          | inr beyond ↦ absurd (none b k small (inr beyond) more)
        ]
      ];
    }
      where
        none_there : (to k : ℕ) → (to ≤ low) ⊎ (high ≤ to) → Has masks to k → ⊥
        none_there to k (inr beyond) has = none_set (get_or masks to 0) k (empty to (inr beyond)) has
        none_there to k (inl below) has = elim (cases_eq to low) [
          | inl same ↦ none_set (get_or masks to 0) k (ap (λ (a : ℕ). get_or masks a 0) same ∙ start) has
          | inr other ↦ none_set (get_or masks to 0) k (empty to (inl (omega arith))) has
        ]

        none_behind : (b k : ℕ) → Outside low high b → HasBehind lasts masks b k → ⊥
        none_behind b k out (to, last, is, way, has) = none_there to k (apart b to last is out way) has

        uncovered : (b at : ℕ) → Outside low high b → get_or firsts b (length nodes) ≤ at → at < get_or firsts (b + 1) (length nodes) → get_or firsts low (length nodes) ≤ at → at < get_or firsts high (length nodes) → ⊥
        uncovered b at (inl less) above below from to = omega (arith, first_up nodes firsts blocks are.cut (b + 1) low (omega arith))
        uncovered b at (inr more) above below from to = omega (arith, first_up nodes firsts blocks are.cut high b more)

        none : (b k : ℕ) → k < 64 → Outside low high b → ReadUntil nodes back (row * 64 + k) (get_or firsts (b + 1) (length nodes)) (HasBehind lasts masks b k) (get_or firsts b (length nodes)) → ⊥
        none b k small out more =
            unread nodes back (row * 64 + k) (get_or firsts (b + 1) (length nodes)) (HasBehind lasts masks b k) (get_or firsts b (length nodes)) (λ at node above below is r. (let there = covers at k node small is r in uncovered b at out above below there.0 there.1))
            (none_behind b k out) (get_or firsts b (length nodes)) (omega arith) more
