-- The last operand put in the place of another.
use Rattle.std.proofs.Common.{◌≡◌, ℕ, ◌+◌, ◌-◌, ◌<◌, ◌≤◌, List, [], ◌∷◌, ◌++◌, length, take, drop, reverse, set, get_or, refl, sym, ap, ◌∙◌, subst, arith, Option, Some}
use Rattle.std.specs.Prelude.{slice_get, IsSome}
use Rattle.std.proofs.lemmas.List.{length-set, length-take-le, take_all, take_more_set}
use Rattle.std.proofs.lemmas.Option.{slice_get-get_or}
use Rattle.setl_code.specs.declared.code.Code.{Code}
use Rattle.setl_code.specs.CodeCore as core
use Rattle.setl_code.specs.CodeCore.{CodeCore, Result as Holds}
use Rattle.setl_code.specs.MayRun.{MayRun}
use Rattle.setl_code.specs.Plain.{plain_code}
use Rattle.setl_rep_bases.specs.Bases.{BasesState}
use Rattle.setl_value.specs.Datum.{Datum}
use Rattle.setl_store_operands.specs.declared.cells.Member.{Member}
use Rattle.setl_store_operands.specs.declared.cells.Operand.{Operand}
use Rattle.setl_store_operands.specs.declared.cells.Operand.TheVariants as operand
use Rattle.setl_store.specs.Standing.{Standing, over, top_of}
use Rattle.setl_store.specs.declared.cells.Kept.{Kept}
use Rattle.setl_store_operands.specs.Operands.{IsOperandOver, HasMembers, members_below, operand_of}
use Rattle.setl_store.specs.Flat.{Here, stands, IsSound, AllSound, GotThese, with_operand, cut_to}
use Rattle.setl_store.specs.Operands.{IsPlainTop}
use Rattle.setl_store.proofs.OperandLists.{Changed, lowest_of, below_within, on_top, pops, pushes, some_below, top_is}

-- a change behind another
pub behind : (code : Code) (bs : BasesState) (keeps : ℕ) (at : ℕ) (e : Here) (kept : List (Here × Kept)) (s : Standing) (j k : CodeCore) → Changed code bs keeps at e kept (record s { core = j }) k → Changed code bs keeps at e kept s k
behind code bs keeps at e kept s j k h = record { stands = h.stands; holds = h.holds }

-- a list with its last one replaced
last_set : {A : Type 0} (xs : List A) (n : ℕ) (x : A) → length xs ≡ n + 1 → set xs n x ≡ take n xs ++ x ∷ []
last_set xs n x long = sym (take_all (n + 1) (set xs n x) (omega (arith, long, length-set xs n x))) ∙ take_more_set xs n x (omega (arith, long))

-- one without members is put in the place of one without members
pub operand_set : (code : Code) (bs : BasesState) (keeps : ℕ) (at : ℕ) (e e' : Here) (kept kept' : List (Here × Kept)) (s : Standing) (o o' : Operand) (p : core.Operand) (n : ℕ) →
    MayRun code × IsSound (plain_code code) bs e × AllSound (plain_code code) bs keeps e.slots kept → stands code bs at e kept ≡ s →
    length e.operands ≡ n + 1 → lowest_of e ≤ n → Some o ≡ slice_get e.operands n → members_below o (length e.members) ≡ length e.members →
    e' ≡ record e { operands = set e.operands n o' } → kept' ≡ kept →
    ((os : List Operand) (m : ℕ) → HasMembers os m → HasMembers (o' ∷ os) m) → GotThese p → IsOperandOver bs o' → operand_of bs e.members o' ≡ p →
    Changed code bs keeps at e' kept' s (over (p ∷ drop 1 s.core.now.operands) s.core)
operand_set code bs keeps at e e' kept kept' s o o' p n holds is long low last none now same alone got over_them to =
    let cut = cut_to e n (length e.members) in
    let below = pops code bs keeps at e cut kept kept s n o holds is long low last (ap (cut_to e n) (sym none)) refl in
    let k = over (drop 1 s.core.now.operands) s.core in
    let core' = over (p ∷ drop 1 s.core.now.operands) s.core in
    let members = take_all (length e.members) e.members (omega arith) in
    let operands = last_set e.operands n o' long in
    let whole : with_operand cut o' ≡ record e { operands = set e.operands n o' } = λ k. record e { operands = sym operands k; members = members k } in
    let stands_for : operand_of bs cut.members o' ≡ p = ap (λ ms. operand_of bs ms o') members ∙ to in
    let done = behind code bs keeps at (with_operand cut o') kept s k core'
    (pushes code bs keeps at cut (with_operand cut o') kept kept (record s { core = k }) o' p below.holds below.stands refl refl (alone (reverse cut.operands) (length cut.members) below.holds.1.members) got over_them stands_for) in
    subst (λ ks. Changed code bs keeps at e' ks s core') (sym same) (subst (λ x. Changed code bs keeps at x kept s core') (whole ∙ sym now) done)

-- ---- the top

some_top : (xs : List core.Operand) → IsSome (top_of xs) → 0 < length xs
some_top [] some = absurd (cc)
some_top (o ∷ xs) some = omega arith

some_plain : (xs : List core.Operand) → IsPlainTop xs → 0 < length xs
some_plain [] h = absurd h
some_plain (x ∷ xs) h = omega arith

plain_members : (bs : BasesState) (ms : List Member) (o : Operand) (xs : List core.Operand) (n : ℕ) → IsPlainTop (operand_of bs ms o ∷ xs) → members_below o n ≡ n
plain_members bs ms operand.Om xs n h = refl
plain_members bs ms (operand.Value v) xs n h = refl
plain_members bs ms (operand.Based f) xs n h = refl
plain_members bs ms (operand.Iterator i) xs n h = refl
plain_members bs ms (operand.Collection what lowest count) xs n h = absurd h

module _ (code : Code) (bs : BasesState) (keeps : ℕ) (at : ℕ) (e : Here) (kept : List (Here × Kept)) (s : Standing)
    (holds : MayRun code × IsSound (plain_code code) bs e × AllSound (plain_code code) bs keeps e.slots kept) (is : stands code bs at e kept ≡ s) where
  pub plain_above : IsPlainTop s.core.now.operands → lowest_of e < length e.operands
  plain_above h = some_below code bs at e kept s is (some_plain s.core.now.operands h)

  -- a value in the place of the result on top
  pub top_set : (e' : Here) (kept' : List (Here × Kept)) (o' : Operand) (p : core.Operand) → IsPlainTop s.core.now.operands →
      e' ≡ record e { operands = set e.operands (length e.operands - 1) o' } → kept' ≡ kept →
      ((os : List Operand) (m : ℕ) → HasMembers os m → HasMembers (o' ∷ os) m) → GotThese p → IsOperandOver bs o' → operand_of bs e.members o' ≡ p →
      Changed code bs keeps at e' kept' s (over (p ∷ drop 1 s.core.now.operands) s.core)
  top_set e' kept' o' p plain now same alone got over_them to =
      let above = plain_above plain in
      let o = get_or e.operands (length e.operands - 1) operand.Om in
      let last : Some o ≡ slice_get e.operands (length e.operands - 1) = sym (slice_get-get_or e.operands (length e.operands - 1) operand.Om (omega (arith, above))) in
      let top = top_is code bs at e kept s (length e.operands - 1) o holds.1 is above refl last in
      operand_set code bs keeps at e e' kept kept' s o o' p (length e.operands - 1) holds is (omega (arith, above)) (omega (arith, above)) last
      (plain_members bs e.members o (drop 1 s.core.now.operands) (length e.members) (subst IsPlainTop top plain)) now same alone got over_them to

  pub plain_there : IsPlainTop s.core.now.operands → 0 < length e.operands
  plain_there h = omega (arith, plain_above h)

  -- the top is dropped
  module _ (some : IsSome (top_of s.core.now.operands)) (o : Operand) (n : ℕ) (last : n ≡ length e.operands - 1) (there : Some o ≡ slice_get e.operands n) (m all : ℕ) (below : m ≡ members_below o all) (members : all ≡ length e.members) where
    some_above : lowest_of e < length e.operands
    some_above = some_below code bs at e kept s is (some_top s.core.now.operands some)

    lowest_is : m ≡ members_below o (length e.members)
    lowest_is = below ∙ ap (members_below o) members

    pub last_within : m ≤ length e.members
    last_within =
        let t = on_top (plain_code code) bs e n o holds.1 (omega (arith, last, some_above)) (omega (arith, last, some_above)) there in
        subst (λ k. k ≤ length e.members) (sym lowest_is) (below_within o (reverse (take n e.operands)) (length e.members) t.members)

    pub last_off : (e' : Here) (kept' : List (Here × Kept)) → e' ≡ cut_to e (length e.operands - 1) m → kept' ≡ kept → Changed code bs keeps at e' kept' s (over (drop 1 s.core.now.operands) s.core)
    last_off e' kept' now same =
        pops code bs keeps at e e' kept kept' s n o holds is (omega (arith, last, some_above)) (omega (arith, last, some_above)) there
        (now ∙ (λ i. cut_to e (sym last i) (lowest_is i))) same

-- a value in the place of the two results on top
pub two_set : (code : Code) (bs : BasesState) (keeps : ℕ) (at : ℕ) (e : Here) (kept : List (Here × Kept)) (s : Standing) →
    MayRun code × IsSound (plain_code code) bs e × AllSound (plain_code code) bs keeps e.slots kept → stands code bs at e kept ≡ s →
    (e' : Here) (kept' : List (Here × Kept)) (o' : Operand) (p : core.Operand) (v u : Option Datum) (xs : List core.Operand) → s.core.now.operands ≡ Holds v ∷ Holds u ∷ xs →
    e' ≡ record e { operands = set (take (length e.operands - 1) e.operands) (length e.operands - 2) o' } → kept' ≡ kept →
    ((os : List Operand) (m : ℕ) → HasMembers os m → HasMembers (o' ∷ os) m) → GotThese p → IsOperandOver bs o' → operand_of bs e.members o' ≡ p →
    Changed code bs keeps at e' kept' s (over (p ∷ drop 2 s.core.now.operands) s.core)
two_set code bs keeps at e kept s holds is e' kept' o' p v u xs tops now same alone got over_them to =
    let ops = s.core.now.operands in
    let n = length e.operands - 1 in
    let above = plain_above code bs keeps at e kept s holds is (subst IsPlainTop (sym tops) tt) in
    let o = get_or e.operands n operand.Om in
    let last : Some o ≡ slice_get e.operands n = sym (slice_get-get_or e.operands n operand.Om (omega (arith, above))) in
    let top = top_is code bs at e kept s n o holds.1 is above refl last in
    let none : members_below o (length e.members) ≡ length e.members = plain_members bs e.members o (drop 1 ops) (length e.members) (subst IsPlainTop top (subst IsPlainTop (sym tops) tt)) in
    let cut = cut_to e n (length e.members) in
    let k = over (drop 1 ops) s.core in
    let below = pops code bs keeps at e cut kept kept s n o holds is (omega (arith, above)) (omega (arith, above)) last (ap (cut_to e n) (sym none)) refl in
    let members : take (length e.members) e.members ≡ e.members = take_all (length e.members) e.members (omega arith) in
    let lower : length (take n e.operands) - 1 ≡ length e.operands - 2 = omega (arith, above, length-take-le n e.operands (omega (arith, above))) in
    let whole : e' ≡ record cut { operands = set cut.operands (length cut.operands - 1) o' } = now ∙ (λ i. record e { operands = set (take n e.operands) (sym lower i) o'; members = sym members i }) in
    let second : IsPlainTop (drop 1 ops) = subst (λ ys. IsPlainTop (drop 1 ys)) (sym tops) tt in
    let both : drop 1 (drop 1 ops) ≡ drop 2 ops = ap (λ ys. drop 1 (drop 1 ys)) tops ∙ sym (ap (λ ys. drop 2 ys) tops) in
    subst (λ ys. Changed code bs keeps at e' kept' s (over (p ∷ ys) s.core)) both
    (behind code bs keeps at e' kept' s k (over (p ∷ drop 1 (drop 1 ops)) s.core)
    (top_set code bs keeps at cut kept (record s { core = k }) below.holds below.stands e' kept' o' p second whole same alone got over_them (ap (λ ms. operand_of bs ms o') members ∙ to)))
