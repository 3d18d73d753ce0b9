-- One step, one block and one row more are marked.
use Rattle.std.proofs.Common.{◌≡◌, ◌∙◌, ℕ, ◌+◌, ◌-◌, ◌*◌, ◌/◌, ◌%◌, ◌<◌, ◌≤◌, inl, inr, List, Bool, true, false, length, get_or, Some, sym, ap, subst, arith, eq-eqb}
use Rattle.std.proofs.lemmas.Bool.{cases_eq, cases_lt}
use Rattle.std.specs.Prelude.{slice_get}
use Rattle.std.specs.Int.{bit_at}
use Rattle.std.specs.List.{Contains}
use Rattle.setl_live_reads.specs.declared.node.Node.{Node}
use Rattle.setl_live_reads.specs.declared.node.Access.{Access}
use Rattle.setl_live_reads.specs.declared.node.Access.TheVariants.{Read}
use Rattle.setl_live_reads.specs.Paths.{reads_slot, ways, named, ReadLater, IsRight}
use Rattle.setl_live_reads.specs.Blocks.{AreBlocks}
use Rattle.setl_live_reads.specs.Chains.{InRow}
use Rattle.setl_live_reads.specs.Fronts.{ReadUntil, IsFront, ReadBehind}
use Rattle.setl_live_reads.specs.Masks.{Has, TellsReads, Covers}
use Rattle.setl_live_reads.proofs.Straight.{no_step, step_is, IsReached, front_back}
use Rattle.setl_live_reads.proofs.Bridging.{behind_sound, behind_complete}

-- the mark of a step tells whether a read of the slot comes first behind it
abbrev pub IsMarked : List Node → List Bool → ℕ → ℕ → ℕ → ℕ → List Bool → ℕ → Type 0
IsMarked nodes back x until next out marks at = (get_or marks at false ≡ false → ReadBehind nodes back x (x % 64) until next out at) × (get_or marks at false ≡ true → ReadBehind nodes back x (x % 64) until next out at → ⊥)

marked_as : (nodes : List Node) (back : List Bool) (x until next out : ℕ) (before after : List Bool) (at : ℕ) → get_or after at false ≡ get_or before at false → IsMarked nodes back x until next out before at → IsMarked nodes back x until next out after at
marked_as nodes back x until next out before after at same (a, b) = (λ h. a (sym same ∙ h), λ h. b (sym same ∙ h))

-- a slot that is read is named
pub in_row : (a : Access) (x row : ℕ) → a ≡ Read x → x / 64 ≡ row → InRow a row
in_row a x row is same = (x, ap named is, same)

of_row : (a : Access) (x row : ℕ) → a ≡ Read x → InRow a row → x / 64 ≡ row
of_row a x row is here = ap (λ (s : ℕ). s / 64) (one here.0 (sym (ap named is) ∙ here.1)) ∙ here.2
  where
    one : (y : ℕ) → Some x ≡ Some y → x ≡ y
    one y h = cc

-- a mark by the set behind a step
told : (nodes : List Node) (back : List Bool) (row until next out live behind step x : ℕ) (marks : List Bool) → x / 64 ≡ row → (step + 1 ≡ until → behind ≡ next) → (step + 1 < until → behind ≡ live) → step + 1 ≤ until → IsFront nodes back row until out (step + 1) live → (get_or marks step false ≡ false → bit_at behind (x % 64) ≡ 1) × (get_or marks step false ≡ true → bit_at behind (x % 64) ≡ 1 → ⊥) → IsMarked nodes back x until next out marks step
told nodes back row until next out live behind step x marks same last inner within front mark = elim (cases_lt (step + 1) until) [
  | inl less ↦ (
    λ off. inr (less, subst (λ (y : ℕ). ReadUntil nodes back y until (bit_at out (x % 64) ≡ 1) (step + 1)) whole ((front (x % 64) small).0 (subst (λ (w : ℕ). bit_at w (x % 64) ≡ 1) (inner less) (mark.0 off)))),
    λ on behind_it. mark.1 on (subst (λ (w : ℕ). bit_at w (x % 64) ≡ 1) (sym (inner less)) (inside less behind_it)),
  )
  | inr more ↦ (
      let end : step + 1 ≡ until = omega arith in
      (λ off. inl (end, subst (λ (w : ℕ). bit_at w (x % 64) ≡ 1) (last end) (mark.0 off)), λ on behind_it. mark.1 on (subst (λ (w : ℕ). bit_at w (x % 64) ≡ 1) (sym (last end)) (outside end behind_it))))
]
  where
    small : x % 64 < 64
    small = omega arith

    whole : row * 64 + x % 64 ≡ x
    whole = omega arith

    inside : step + 1 < until → ReadBehind nodes back x (x % 64) until next out step → bit_at live (x % 64) ≡ 1
    inside less (inl both) = absurd (omega arith)
    inside less (inr both) = (front (x % 64) small).1 (subst (λ (y : ℕ). ReadUntil nodes back y until (bit_at out (x % 64) ≡ 1) (step + 1)) (sym whole) both.1)

    outside : step + 1 ≡ until → ReadBehind nodes back x (x % 64) until next out step → bit_at next (x % 64) ≡ 1
    outside end (inl both) = both.1
    outside end (inr both) = absurd (omega arith)

-- ---- a walk over the steps of a block

-- the steps of a block from this one on are marked
abbrev pub AreMarked : List Node → List Bool → ℕ → ℕ → ℕ → ℕ → ℕ → List Bool → Type 0
AreMarked nodes back row end next out start marks = (step x : ℕ) (node : Node) → start ≤ step → step < end → slice_get nodes step ≡ Some node → node.access ≡ Read x → x / 64 ≡ row → IsMarked nodes back x end next out marks step

module _ (nodes : List Node) (row first end : ℕ) (fits : end ≤ length nodes) (bound from : ℕ) (at : IsReached nodes row first end bound from) (next out : ℕ) where
  pub marked_more : (more : first < bound) (before after : List Bool) (live behind : ℕ) → ((x : ℕ) → (get_or nodes (bound - 1) no_step).access ≡ Read x → (get_or after (bound - 1) false ≡ false → bit_at behind (x % 64) ≡ 1) × (get_or after (bound - 1) false ≡ true → bit_at behind (x % 64) ≡ 1 → ⊥)) → ((other : ℕ) → (other ≡ bound - 1 → ⊥) → get_or after other false ≡ get_or before other false) → (bound - 1 + 1 ≡ end → behind ≡ next) → (bound - 1 + 1 < end → behind ≡ live) → (back : List Bool) → IsFront nodes back row end out from live → AreMarked nodes back row end next out from before → AreMarked nodes back row end next out (bound - 1) after
  marked_more more before after live behind here kept last inner back front rest step x m above below there reads same = elim (cases_eq step (bound - 1)) [
    | inl is_here ↦ subst (λ (a : ℕ). IsMarked nodes back x end next out after a) (sym is_here) (told nodes back row end next out live behind (bound - 1) x after same last inner (omega (arith, at.below, at.latest.within)) front_here (here x (ap (λ (k : Node). k.access) (one m (ap (slice_get nodes) (sym is_here) ∙ there)) ∙ reads)))
    | inr other ↦ elim (cases_lt step from) [
      | inl less ↦ (let beyond : bound ≤ step = omega arith in absurd (at.latest.none step m beyond less there (in_row m.access x row reads same)))
      | inr beyond ↦ marked_as nodes back x end next out before after step (kept step other) (rest step x m beyond below there reads same)
    ]
  ]
    where
      is : slice_get nodes (bound - 1) ≡ Some (get_or nodes (bound - 1) no_step)
      is = step_is nodes (bound - 1) (omega (arith, at.below, at.latest.within))

      one : (k : Node) → slice_get nodes (bound - 1) ≡ Some k → get_or nodes (bound - 1) no_step ≡ k
      one k h = cc is

      front_here : IsFront nodes back row end out (bound - 1 + 1) live
      front_here = (let place : bound ≡ bound - 1 + 1 = omega arith in subst (λ (p : ℕ). IsFront nodes back row end out p live) place (front_back nodes row first end fits bound from at bound (omega arith) (omega arith) at.latest.within back out live front))

  -- where the walk ends, all steps of the block in the row are marked
  pub marked_first : bound ≤ first → (back : List Bool) (marks : List Bool) → AreMarked nodes back row end next out from marks → AreMarked nodes back row end next out first marks
  marked_first less back marks rest step x m above below there reads same = elim (cases_lt step from) [
    | inl inner ↦ absurd (at.latest.none step m (omega arith) inner there (in_row m.access x row reads same))
    | inr beyond ↦ rest step x m beyond below there reads same
  ]

  -- other marks stay
  pub others_more : (more : first < bound) (start before after : List Bool) → ((other : ℕ) → (other ≡ bound - 1 → ⊥) → get_or after other false ≡ get_or before other false) → (step x : ℕ) (m : Node) → slice_get nodes step ≡ Some m → m.access ≡ Read x → (x / 64 ≡ row → first ≤ step → step < end → ⊥) → get_or before step false ≡ get_or start step false → get_or after step false ≡ get_or start step false
  others_more more start before after kept step x m there reads out rest = elim (cases_eq step (bound - 1)) [
    | inl is_here ↦ absurd (out (of_row m.access x row reads (at.latest.here m (omega arith) (ap (slice_get nodes) (sym is_here) ∙ there))) (omega arith) (omega (arith, at.below, at.latest.within)))
    | inr other ↦ kept step other ∙ rest
  ]

-- ---- blocks and rows

-- a mark that stays is right still
pub right_kept : (nodes : List Node) (back before after : List Bool) (at x : ℕ) → get_or after at false ≡ get_or before at false → IsRight nodes back before at x → IsRight nodes back after at x
right_kept nodes back before after at x same (a, b) = (λ h. a (sym same ∙ h), λ h. b (sym same ∙ h))

-- the marks of a block are right where its sets tell what is read later
pub block_right : (nodes : List Node) (firsts blocks : List ℕ) (lasts : List Node) (are : AreBlocks nodes firsts blocks lasts) (back : List Bool) (row : ℕ) (masks : List ℕ) → TellsReads nodes back row firsts lasts 0 (length firsts) masks → (b : ℕ) → b < length firsts → (last : Node) → slice_get lasts b ≡ Some last → (next out : ℕ) → next ≡ get_or masks (b + 1) 0 → ((k to : ℕ) → k < 64 → Contains (ways last.way (b + 1)) to → Has masks to k → bit_at out k ≡ 1) → ((k : ℕ) → k < 64 → bit_at out k ≡ 1 → (to : ℕ) × Contains (ways last.way (b + 1)) to × Has masks to k) → (marks : List Bool) (at x : ℕ) → get_or firsts b (length nodes) ≤ at → at < get_or firsts (b + 1) (length nodes) → x / 64 ≡ row → IsMarked nodes back x (get_or firsts (b + 1) (length nodes)) next out marks at → IsRight nodes back marks at x
block_right nodes firsts blocks lasts are back row masks tells b within last there next out next_is all only marks at x above below same mark = (
  λ on more. mark.1 on (subst (λ (y : ℕ). ReadBehind nodes back y (x % 64) (get_or firsts (b + 1) (length nodes)) next out at) whole (behind_complete nodes firsts blocks lasts are back row (x % 64) small masks tells b within last there next out at next_is above (λ to way has. all (x % 64) to small way has) below (subst (λ (y : ℕ). ReadLater nodes back y (at + 1)) (sym whole) more))),
  λ off. subst (λ (y : ℕ). ReadLater nodes back y (at + 1)) whole (behind_sound nodes firsts blocks lasts are back row (x % 64) small masks tells b within last there next out at next_is above (only (x % 64) small) (subst (λ (y : ℕ). ReadBehind nodes back y (x % 64) (get_or firsts (b + 1) (length nodes)) next out at) (sym whole) (mark.0 off))),
)
  where
    small : x % 64 < 64
    small = omega arith

    whole : row * 64 + x % 64 ≡ x
    whole = omega arith

-- a read of the row is covered
pub read_covered : (nodes : List Node) (back : List Bool) (row from until : ℕ) → Covers nodes back row from until → (at x : ℕ) (node : Node) → slice_get nodes at ≡ Some node → node.access ≡ Read x → x / 64 ≡ row → (from ≤ at) × (at < until)
read_covered nodes back row from until covers at x node there reads same =
    let small : x % 64 < 64 = omega arith in
    let whole : x ≡ row * 64 + x % 64 = omega arith in
    covers at (x % 64) node small there (subst (λ (a : Access). reads_slot back a (row * 64 + x % 64) ≡ true) (sym reads) (eq-eqb x (row * 64 + x % 64) whole))
