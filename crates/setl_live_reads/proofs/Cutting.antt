-- Blocks: one step more, and how their first steps lie.
use Rattle.std.proofs.Common.{◌≡◌, ℕ, ◌+◌, ◌-◌, ◌<◌, ◌≤◌, inl, inr, zero, suc, ◌++◌, ◌∷◌, [], List, Bool, true, false, length, get_or, Some, refl, sym, ap, ◌∙◌, subst, arith}
use Rattle.std.proofs.lemmas.Bool.{cases_eq, cases_lt}
use Rattle.std.proofs.lemmas.Option.{slice_get_read, slice_get_within, slice_get-get_or, get_or_from_slice_get}
use Rattle.std.proofs.lemmas.List.{get_or_append_left, get_or_push, get_or_past, get_or_default, length_push}
use Rattle.std.specs.Prelude.{slice_get}
use Rattle.setl_live_reads.specs.declared.node.Node.{Node}
use Rattle.setl_live_reads.specs.declared.node.Access.TheVariants.{HandBack}
use Rattle.setl_live_reads.specs.Paths.{target}
use Rattle.setl_live_reads.specs.Blocks.{IsPlain, IsCut, Entered, AreBlocks, Jumped}

-- ---- one step more

module _ (nodes : List Node) (firsts blocks : List ℕ) (at : ℕ) (cut : IsCut nodes firsts blocks at) where
  -- the block of an earlier step stays
  kept : (y i : ℕ) → i < at → get_or (blocks ++ y ∷ []) i 0 ≡ get_or blocks i 0
  kept y i less = get_or_append_left blocks (y ∷ []) 0 i (omega (arith, cut.sizes))

  -- the step begins a block
  first_kept : (d b : ℕ) → b ≤ length firsts → get_or (firsts ++ at ∷ []) b d ≡ get_or firsts b at
  first_kept d b small = elim (cases_eq b (length firsts)) [
    | inl same ↦ get_or_push firsts at d b (sym same) ∙ sym (get_or_past firsts b at (omega arith))
    | inr other ↦ get_or_append_left firsts (at ∷ []) d b (omega arith) ∙ get_or_default firsts b d at (omega arith)
  ]

  first_more : (b : ℕ) → length firsts < b → get_or (firsts ++ at ∷ []) b (at + 1) ≡ at + 1
  first_more b more = get_or_past (firsts ++ at ∷ []) b (at + 1) (omega (arith, length_push firsts at))

  pub cut_begun : IsCut nodes (firsts ++ at ∷ []) (blocks ++ (length (firsts ++ at ∷ []) - 1) ∷ []) (at + 1)
  cut_begun = record {
    few = omega (arith, length_push firsts at, cut.few);
    sizes = omega (arith, length_push blocks (length (firsts ++ at ∷ []) - 1), cut.sizes);
    rising = rising;
    inside = inside;
    straight = straight;
  }
    where
      rising : (b : ℕ) → b < length (firsts ++ at ∷ []) → get_or (firsts ++ at ∷ []) b (at + 1) < get_or (firsts ++ at ∷ []) (b + 1) (at + 1)
      rising b small = elim (cases_lt b (length firsts)) [
        | inl less ↦ omega (arith, first_kept (at + 1) b (omega arith), first_kept (at + 1) (b + 1) (omega arith), cut.rising b less)
        | inr more ↦ (let same : b ≡ length firsts = omega (arith, length_push firsts at) in omega (arith, first_kept (at + 1) b (omega arith), get_or_past firsts b at (omega arith), first_more (b + 1) (omega arith)))
      ]

      inside : (i : ℕ) → i < at + 1 → (get_or (blocks ++ (length (firsts ++ at ∷ []) - 1) ∷ []) i 0 < length (firsts ++ at ∷ [])) × (get_or (firsts ++ at ∷ []) (get_or (blocks ++ (length (firsts ++ at ∷ []) - 1) ∷ []) i 0) (at + 1) ≤ i) × (i < get_or (firsts ++ at ∷ []) (get_or (blocks ++ (length (firsts ++ at ∷ []) - 1) ∷ []) i 0 + 1) (at + 1))
      inside i small = elim (cases_lt i at) [
        | inl less ↦ of_block (get_or blocks i 0) (kept (length (firsts ++ at ∷ []) - 1) i less) (let old = cut.inside i less in (omega (arith, old.0, length_push firsts at), omega (arith, old.1, old.0, first_kept (at + 1) (get_or blocks i 0) (omega (arith, old.0))), omega (arith, old.2, old.0, first_kept (at + 1) (get_or blocks i 0 + 1) (omega (arith, old.0)))))
        | inr more ↦ (
            let same : i ≡ at = omega arith in
            let sized : length blocks ≡ i = omega (arith, cut.sizes) in
            let all : length (firsts ++ at ∷ []) - 1 ≡ length firsts = omega (arith, length_push firsts at) in
            of_block (length firsts) (get_or_push blocks (length (firsts ++ at ∷ []) - 1) 0 i sized ∙ all) (omega (arith, length_push firsts at), omega (arith, first_kept (at + 1) (length firsts) (omega arith), get_or_past firsts (length firsts) at (omega arith)), omega (arith, first_more (length firsts + 1) (omega arith))))
      ]
        where
          of_block : (c : ℕ) → get_or (blocks ++ (length (firsts ++ at ∷ []) - 1) ∷ []) i 0 ≡ c → (c < length (firsts ++ at ∷ [])) × (get_or (firsts ++ at ∷ []) c (at + 1) ≤ i) × (i < get_or (firsts ++ at ∷ []) (c + 1) (at + 1)) → (get_or (blocks ++ (length (firsts ++ at ∷ []) - 1) ∷ []) i 0 < length (firsts ++ at ∷ [])) × (get_or (firsts ++ at ∷ []) (get_or (blocks ++ (length (firsts ++ at ∷ []) - 1) ∷ []) i 0) (at + 1) ≤ i) × (i < get_or (firsts ++ at ∷ []) (get_or (blocks ++ (length (firsts ++ at ∷ []) - 1) ∷ []) i 0 + 1) (at + 1))
          of_block c is h = subst (λ (b : ℕ). (b < length (firsts ++ at ∷ [])) × (get_or (firsts ++ at ∷ []) b (at + 1) ≤ i) × (i < get_or (firsts ++ at ∷ []) (b + 1) (at + 1))) (sym is) h

      straight : (b i : ℕ) (node : Node) → b < length (firsts ++ at ∷ []) → get_or (firsts ++ at ∷ []) b (at + 1) ≤ i → i + 1 < get_or (firsts ++ at ∷ []) (b + 1) (at + 1) → slice_get nodes i ≡ Some node → IsPlain node
      straight b i node small above below is = elim (cases_lt b (length firsts)) [
        | inl less ↦ cut.straight b i node less (omega (arith, first_kept (at + 1) b (omega arith))) (omega (arith, first_kept (at + 1) (b + 1) (omega arith))) is
        | inr more ↦ (let same : b ≡ length firsts = omega (arith, length_push firsts at) in absurd (omega (arith, first_kept (at + 1) b (omega arith), get_or_past firsts b at (omega arith), first_more (b + 1) (omega arith))))
      ]

  pub entered_begun : (jumped : List Bool) → Entered jumped firsts blocks at → Entered jumped (firsts ++ at ∷ []) (blocks ++ (length (firsts ++ at ∷ []) - 1) ∷ []) (at + 1)
  entered_begun jumped before to small jumps = elim (cases_lt to at) [
    | inl less ↦ ap (λ (b : ℕ). get_or (firsts ++ at ∷ []) b (at + 1)) (kept (length (firsts ++ at ∷ []) - 1) to less) ∙ first_kept (at + 1) (get_or blocks to 0) (omega (arith, (cut.inside to less).0)) ∙ before to less jumps
    | inr more ↦ (
        let same : at ≡ to = omega arith in
        let sized : length blocks ≡ to = omega (arith, cut.sizes) in
        let all : length (firsts ++ at ∷ []) - 1 ≡ length firsts = omega (arith, length_push firsts at) in
        ap (λ (b : ℕ). get_or (firsts ++ at ∷ []) b (at + 1)) (get_or_push blocks (length (firsts ++ at ∷ []) - 1) 0 to sized ∙ all) ∙ first_kept (at + 1) (length firsts) (omega arith) ∙ get_or_past firsts (length firsts) at (omega arith) ∙ same)
  ]

  -- the step stands in the block of the one before it
  module _ (some : 0 < length firsts) (plain : (node : Node) → slice_get nodes (at - 1) ≡ Some node → IsPlain node) where
    later_end : (b : ℕ) → length firsts ≤ b → (get_or firsts b (at + 1) ≡ at + 1) × (get_or firsts b at ≡ at)
    later_end b more = (get_or_past firsts b (at + 1) more, get_or_past firsts b at more)

    same_first : (b : ℕ) → b < length firsts → get_or firsts b (at + 1) ≡ get_or firsts b at
    same_first b less = get_or_default firsts b (at + 1) at less

    pub cut_same : IsCut nodes firsts (blocks ++ (length firsts - 1) ∷ []) (at + 1)
    cut_same = record {
      few = omega (arith, cut.few);
      sizes = omega (arith, length_push blocks (length firsts - 1), cut.sizes);
      rising = rising;
      inside = inside;
      straight = straight;
    }
      where
        rising : (b : ℕ) → b < length firsts → get_or firsts b (at + 1) < get_or firsts (b + 1) (at + 1)
        rising b less = elim (cases_lt (b + 1) (length firsts)) [
          | inl inner ↦ omega (arith, same_first b less, same_first (b + 1) inner, cut.rising b less)
          | inr more ↦ omega (arith, same_first b less, (later_end (b + 1) more).0, (later_end (b + 1) more).1, cut.rising b less)
        ]

        inside : (i : ℕ) → i < at + 1 → (get_or (blocks ++ (length firsts - 1) ∷ []) i 0 < length firsts) × (get_or firsts (get_or (blocks ++ (length firsts - 1) ∷ []) i 0) (at + 1) ≤ i) × (i < get_or firsts (get_or (blocks ++ (length firsts - 1) ∷ []) i 0 + 1) (at + 1))
        inside i small = elim (cases_lt i at) [
          | inl less ↦ of_block (get_or blocks i 0) (kept (length firsts - 1) i less) (let old = cut.inside i less in (old.0, omega (arith, old.1, same_first (get_or blocks i 0) old.0), above (get_or blocks i 0) old.2))
          | inr more ↦ (
              let sized : length blocks ≡ i = omega (arith, cut.sizes) in
              let less : length firsts - 1 < length firsts = omega arith in
              let next : length firsts - 1 + 1 ≡ length firsts = omega arith in
              of_block (length firsts - 1) (get_or_push blocks (length firsts - 1) 0 i sized) (less, omega (arith, same_first (length firsts - 1) less, cut.rising (length firsts - 1) less, (later_end (length firsts - 1 + 1) (omega arith)).1), omega (arith, (later_end (length firsts - 1 + 1) (omega arith)).0)))
        ]
          where
            of_block : (c : ℕ) → get_or (blocks ++ (length firsts - 1) ∷ []) i 0 ≡ c → (c < length firsts) × (get_or firsts c (at + 1) ≤ i) × (i < get_or firsts (c + 1) (at + 1)) → (get_or (blocks ++ (length firsts - 1) ∷ []) i 0 < length firsts) × (get_or firsts (get_or (blocks ++ (length firsts - 1) ∷ []) i 0) (at + 1) ≤ i) × (i < get_or firsts (get_or (blocks ++ (length firsts - 1) ∷ []) i 0 + 1) (at + 1))
            of_block c is h = subst (λ (b : ℕ). (b < length firsts) × (get_or firsts b (at + 1) ≤ i) × (i < get_or firsts (b + 1) (at + 1))) (sym is) h

            above : (c : ℕ) → i < get_or firsts (c + 1) at → i < get_or firsts (c + 1) (at + 1)
            above c h = elim (cases_lt (c + 1) (length firsts)) [
              | inl inner ↦ omega (arith, same_first (c + 1) inner)
              | inr more ↦ omega (arith, (later_end (c + 1) more).0, (later_end (c + 1) more).1)
            ]

        straight : (b i : ℕ) (node : Node) → b < length firsts → get_or firsts b (at + 1) ≤ i → i + 1 < get_or firsts (b + 1) (at + 1) → slice_get nodes i ≡ Some node → IsPlain node
        straight b i node less above below is = elim (cases_lt (b + 1) (length firsts)) [
          | inl inner ↦ cut.straight b i node less (omega (arith, same_first b less)) (omega (arith, same_first (b + 1) inner)) is
          | inr more ↦ elim (cases_lt (i + 1) at) [
            | inl earlier ↦ cut.straight b i node less (omega (arith, same_first b less)) (omega (arith, (later_end (b + 1) more).1)) is
            | inr last ↦ (let same : i ≡ at - 1 = omega (arith, (later_end (b + 1) more).0) in plain node (subst (λ (p : ℕ). slice_get nodes p ≡ Some node) same is))
          ]
        ]

    pub entered_same : (jumped : List Bool) → get_or jumped at false ≡ false → Entered jumped firsts blocks at → Entered jumped firsts (blocks ++ (length firsts - 1) ∷ []) (at + 1)
    entered_same jumped unjumped before to small jumps = elim (cases_lt to at) [
      | inl less ↦ ap (λ (b : ℕ). get_or firsts b (at + 1)) (kept (length firsts - 1) to less) ∙ same_first (get_or blocks to 0) (cut.inside to less).0 ∙ before to less jumps
      | inr more ↦ (let same : to ≡ at = omega arith in absurd (no (ap (λ (p : ℕ). get_or jumped p false) same ∙ unjumped) jumps))
    ]
      where
        no : {b : Bool} → b ≡ false → b ≡ true → ⊥
        no h g = cc

-- behind the first step there is a block
pub blocks_some : (nodes : List Node) (firsts blocks : List ℕ) (at : ℕ) → IsCut nodes firsts blocks at → 0 < at → 0 < length firsts
blocks_some nodes firsts blocks at cut some = omega (arith, (cut.inside 0 some).0)

-- ---- where blocks lie

module _ (nodes : List Node) (firsts blocks : List ℕ) (cut : IsCut nodes firsts blocks (length nodes)) where
  up : (d b : ℕ) → get_or firsts b (length nodes) ≤ get_or firsts (b + d) (length nodes)
  up zero b = (let same : b + 0 ≡ b = omega arith in subst (λ (c : ℕ). get_or firsts b (length nodes) ≤ get_or firsts c (length nodes)) (sym same) (omega arith))
  up (suc d) b =
      let same : b + suc d ≡ b + 1 + d = omega arith in
      let rest : get_or firsts (b + 1) (length nodes) ≤ get_or firsts (b + suc d) (length nodes) = subst (λ (c : ℕ). get_or firsts (b + 1) (length nodes) ≤ get_or firsts c (length nodes)) (sym same) (up d (b + 1)) in
      elim (cases_lt b (length firsts)) [
        | inl less ↦ omega (arith, cut.rising b less)
        | inr more ↦ omega (arith, get_or_past firsts b (length nodes) more, get_or_past firsts (b + 1) (length nodes) (omega arith))
      ]

  pub first_up : (b c : ℕ) → b ≤ c → get_or firsts b (length nodes) ≤ get_or firsts c (length nodes)
  first_up b c less = (let same : b + (c - b) ≡ c = omega arith in subst (λ (e : ℕ). get_or firsts b (length nodes) ≤ get_or firsts e (length nodes)) same (up (c - b) b))

  pub first_within : (b : ℕ) → get_or firsts b (length nodes) ≤ length nodes
  first_within b = omega (arith, up (length firsts) b, get_or_past firsts (b + length firsts) (length nodes) (omega arith))

  -- a first step within the body is that of a block
  pub block_within : (b : ℕ) → get_or firsts b (length nodes) < length nodes → b < length firsts
  block_within b less = elim (cases_lt b (length firsts)) [
    | inl small ↦ small
    | inr more ↦ absurd (omega (arith, get_or_past firsts b (length nodes) more))
  ]

module _ (nodes : List Node) (firsts blocks : List ℕ) (lasts : List Node) (are : AreBlocks nodes firsts blocks lasts) where
  -- the step that stands for the last one of a block accesses what that does
  pub last_access : (b : ℕ) → b < length firsts → (last : Node) → last ≡ get_or lasts b last → (node : Node) → slice_get nodes (get_or firsts (b + 1) (length nodes) - 1) ≡ Some node → last.access ≡ node.access
  last_access b less last read node is = (are.leads b last (slice_get_read lasts (length lasts) b last refl (omega (arith, are.count)) read) node is).0

  -- where a block begins and ends
  pub block_bounds : (b : ℕ) → b < length firsts → (get_or firsts b (length nodes) < get_or firsts (b + 1) (length nodes)) × (get_or firsts (b + 1) (length nodes) ≤ length nodes)
  block_bounds b less = (are.cut.rising b less, first_within nodes firsts blocks are.cut (b + 1))

-- one step more is noted where it jumps to
pub jumped_more : (nodes : List Node) (jumped jumped2 : List Bool) (n : ℕ) (node : Node) → slice_get nodes n ≡ Some node → ((to : ℕ) → get_or jumped to false ≡ true → get_or jumped2 to false ≡ true) → ((to : ℕ) → target node.way ≡ Some to → to < length nodes → get_or jumped2 to false ≡ true) → Jumped nodes jumped n → Jumped nodes jumped2 (n + 1)
jumped_more nodes jumped jumped2 n node is kept there before at to other small here jumps within = elim (cases_lt at n) [
  | inl less ↦ kept to (before at to other less here jumps within)
  | inr more ↦ (let same : at ≡ n = omega arith in there to (ap (λ (m : Node). target m.way) (one other (ap (slice_get nodes) (sym same) ∙ here)) ∙ jumps) within)
]
  where
    one : (m : Node) → slice_get nodes n ≡ Some m → node ≡ m
    one m h = cc

-- one step more, whether it begins a block or not
pub cut_more : (nodes : List Node) (jumped : List Bool) (firsts firsts2 blocks blocks2 : List ℕ) (at : ℕ) (begins : Bool) → (begins ≡ false → 0 < at) → (begins ≡ false → get_or jumped at false ≡ false) → (begins ≡ false → (node : Node) → slice_get nodes (at - 1) ≡ Some node → IsPlain node) → (begins ≡ true → firsts2 ≡ firsts ++ at ∷ []) → (begins ≡ false → firsts2 ≡ firsts) → blocks2 ≡ blocks ++ (length firsts2 - 1) ∷ [] → IsCut nodes firsts blocks at → Entered jumped firsts blocks at → IsCut nodes firsts2 blocks2 (at + 1) × Entered jumped firsts2 blocks2 (at + 1)
cut_more nodes jumped firsts firsts2 blocks blocks2 at true some unjumped plain begun same more cut entered =
    let all : blocks2 ≡ blocks ++ (length (firsts ++ at ∷ []) - 1) ∷ [] = more ∙ ap (λ (xs : List ℕ). blocks ++ (length xs - 1) ∷ []) (begun refl) in
    subst (λ (bs : List ℕ). IsCut nodes firsts2 bs (at + 1) × Entered jumped firsts2 bs (at + 1)) (sym all) (subst (λ (fs : List ℕ). IsCut nodes fs (blocks ++ (length (firsts ++ at ∷ []) - 1) ∷ []) (at + 1) × Entered jumped fs (blocks ++ (length (firsts ++ at ∷ []) - 1) ∷ []) (at + 1)) (sym (begun refl)) (cut_begun nodes firsts blocks at cut, entered_begun nodes firsts blocks at cut jumped entered))
cut_more nodes jumped firsts firsts2 blocks blocks2 at false some unjumped plain begun same more cut entered =
    let there : 0 < length firsts = blocks_some nodes firsts blocks at cut (some refl) in
    let all : blocks2 ≡ blocks ++ (length firsts - 1) ∷ [] = more ∙ ap (λ (xs : List ℕ). blocks ++ (length xs - 1) ∷ []) (same refl) in
    subst (λ (bs : List ℕ). IsCut nodes firsts2 bs (at + 1) × Entered jumped firsts2 bs (at + 1)) (sym all) (subst (λ (fs : List ℕ). IsCut nodes fs (blocks ++ (length firsts - 1) ∷ []) (at + 1) × Entered jumped fs (blocks ++ (length firsts - 1) ∷ []) (at + 1)) (sym (same refl)) (cut_same nodes firsts blocks at cut there (plain refl), entered_same nodes firsts blocks at cut there (plain refl) jumped (unjumped refl) entered))

-- what holds of all items holds with one more
pub all_more : {X : Type 0} (P : ℕ → X → Type 0) (xs ys : List X) (x : X) → ys ≡ xs ++ x ∷ [] → P (length xs) x → ((b : ℕ) (y : X) → slice_get xs b ≡ Some y → P b y) → (b : ℕ) (y : X) → slice_get ys b ≡ Some y → P b y
all_more {X = X} P xs ys x more here rest b y is =
    let there : slice_get (xs ++ x ∷ []) b ≡ Some y = ap (λ (l : List X). slice_get l b) (sym more) ∙ is in
    let value : get_or (xs ++ x ∷ []) b y ≡ y = get_or_from_slice_get (xs ++ x ∷ []) b y y there in
    let within : b < length (xs ++ x ∷ []) = slice_get_within (xs ++ x ∷ []) b y there in
    elim (cases_lt b (length xs)) [
      | inl less ↦ rest b y (slice_get-get_or xs b y less ∙ ap Some (sym (get_or_append_left xs (x ∷ []) y b less) ∙ value))
      | inr beyond ↦ (
          let same : length xs ≡ b = omega (arith, length_push xs x) in
          let alike : x ≡ y = sym (get_or_push xs x y b same) ∙ value in
          subst (λ (c : ℕ). P c y) same (subst (λ (z : X). P (length xs) z) alike here))
    ]
