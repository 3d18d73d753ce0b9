-- The top operand taken off, and what it serves as.
use Rattle.std.proofs.Common.{◌≡◌, ℕ, ◌+◌, ◌-◌, ◌<◌, ◌≤◌, Bool, true, false, List, [], ◌∷◌, length, drop, refl, sym, ap, ◌∙◌, subst, arith, Option, Some, None}
use Rattle.std.specs.Prelude.{slice_get, IsSome}
use Rattle.std.specs.Option.{option_map}
use Rattle.setl_value.specs.Datum.{Datum}
use Rattle.setl_program.specs.declared.kinds.Collection.{Collection}
use Rattle.setl_model.specs.Core.{Item}
use Rattle.setl_code.specs.declared.code.Code.{Code}
use Rattle.setl_code.specs.CodeCore as core
use Rattle.setl_code.specs.CodeCore.{value_of}
use Rattle.setl_code.specs.MayRun.{MayRun}
use Rattle.setl_code.specs.Plain.{plain_code}
use Rattle.setl_rep_bases.specs.Bases.{BasesState}
use Rattle.setl_rep_forms.specs.declared.held.Held.{Held as Form}
use Rattle.setl_rep_plain.specs.Standing.{held_value}
use Rattle.setl_store_operands.specs.declared.cells.Member.{Member}
use Rattle.setl_store_operands.specs.declared.cells.Operand.{Operand}
use Rattle.setl_store_operands.specs.declared.cells.Operand.TheVariants as operand
use Rattle.setl_store_operands.specs.Operands.{IsPlain, iterator_by, members_below, operand_of}
use Rattle.setl_store.specs.Standing.{Standing, over, top_of}
use Rattle.setl_store.specs.declared.cells.Kept.{Kept}
use Rattle.setl_store.specs.Flat.{Here, stands, IsSound, AllSound, cut_to}
use Rattle.setl_store.proofs.Lists.{some_same}
use Rattle.setl_store.proofs.OperandLists.{lowest_of, pops, some_below, top_is}

-- ---- the store without its top operand

-- and the value that this served as
pub record TakesTop (code : Code) (bs : BasesState) (keeps : ℕ) (at : ℕ) (e : Here) (kept : List (Here × Kept)) (s : Standing) (d : Option Datum) : Type 0 where
  pub value : top_of s.core.now.operands ≡ Some (d, (stands code bs at e kept).core.now.operands)
  pub rest : stands code bs at e kept ≡ record s { core = over (stands code bs at e kept).core.now.operands s.core }
  pub holds : MayRun code × IsSound (plain_code code) bs e × AllSound (plain_code code) bs keeps e.slots kept

pub takes_top : (code : Code) (bs : BasesState) (keeps : ℕ) (at : ℕ) (e e' : Here) (kept kept' : List (Here × Kept)) (s : Standing) (n : ℕ) (o : Operand) (d : Option Datum) →
    MayRun code × IsSound (plain_code code) bs e × AllSound (plain_code code) bs keeps e.slots kept → stands code bs at e kept ≡ s →
    length e.operands ≡ n + 1 → lowest_of e ≤ n → Some o ≡ slice_get e.operands n →
    e' ≡ cut_to e n (members_below o (length e.members)) → kept' ≡ kept → value_of (operand_of bs e.members o) ≡ Some d →
    TakesTop code bs keeps at e' kept' s d
takes_top code bs keeps at e e' kept kept' s n o d h is long low there now same serves =
    let left = pops code bs keeps at e e' kept kept' s n o h is long low there now same in
    let xs = drop 1 s.core.now.operands in
    let top : s.core.now.operands ≡ operand_of bs e.members o ∷ xs = top_is code bs at e kept s n o h.1 is (omega (arith, long, low)) (omega (arith, long)) there in
    let below : (stands code bs at e' kept').core.now.operands ≡ xs = ap (λ (x : Standing). x.core.now.operands) left.stands in
    record {
      value = ap top_of top ∙ ap (λ v. option_map (λ w. (w, xs)) v) serves ∙ ap (λ ys. Some (d, ys)) (sym below);
      rest = left.stands ∙ ap (λ ys. record s { core = over ys s.core }) (sym below);
      holds = left.holds;
    }

-- ---- a result that is no collection

no_value : (pairs : Bool) (left : List Item) → value_of (iterator_by pairs left) ≡ None
no_value true left = refl
no_value false left = refl

plain_value : (bs : BasesState) (ms : List Member) (o : Operand) (xs : List core.Operand) → IsSome (top_of (operand_of bs ms o ∷ xs)) → ((what : Collection) (lowest count : ℕ) → o ≡ operand.Collection what lowest count → ⊥) → ((f : Form) → o ≡ operand.Based f → ⊥) → IsPlain o
plain_value bs ms operand.Om xs some not none = tt
plain_value bs ms (operand.Value v) xs some not none = tt
plain_value bs ms (operand.Based f) xs some not none = absurd (none f refl)
plain_value bs ms (operand.Iterator i) xs some not none =
    let none : IsSome {T = Option Datum × List core.Operand} None = subst (λ v. IsSome (option_map {U = Option Datum × List core.Operand} (λ w. (w, xs)) v)) (no_value i.pairs i.left) some in
    absurd (cc)
plain_value bs ms (operand.Collection what lowest count) xs some not none = absurd (not what lowest count refl)

pub plain_below : (o : Operand) (n : ℕ) → IsPlain o → members_below o n ≡ n
plain_below operand.Om n p = refl
plain_below (operand.Value v) n p = refl
plain_below (operand.Based f) n p = absurd p
plain_below (operand.Iterator i) n p = absurd p
plain_below (operand.Collection what lowest count) n p = absurd p

-- ---- what a step that pops finds

pub top_there : (xs : List core.Operand) → IsSome (top_of xs) → 0 < length xs
top_there [] some = absurd (cc)
top_there (o ∷ xs) some = omega arith

-- the last operand, where the body at work has one
module _ (code : Code) (bs : BasesState) (keeps : ℕ) (at : ℕ) (e : Here) (kept : List (Here × Kept)) (s : Standing)
    (h : MayRun code × IsSound (plain_code code) bs e × AllSound (plain_code code) bs keeps e.slots kept) (is : stands code bs at e kept ≡ s)
    (some : IsSome (top_of s.core.now.operands)) (size : ℕ) (long : size ≡ length e.operands)
    (o : Operand) (there : Some o ≡ slice_get e.operands (size - 1)) where
  above_lowest : lowest_of e < length e.operands
  above_lowest = some_below code bs at e kept s is (top_there s.core.now.operands some)

  -- what it serves as is made of a copy
  pub copy_taken : (e' : Here) (kept' : List (Here × Kept)) (what : Collection) (lowest count : ℕ) (d : Option Datum) → o ≡ operand.Collection what lowest count →
      e' ≡ cut_to e (length e.operands - 1) lowest → kept' ≡ kept → value_of (operand_of bs e.members o) ≡ Some d → TakesTop code bs keeps at e' kept' s d
  copy_taken e' kept' what lowest count d made now same serves =
      takes_top code bs keeps at e e' kept kept' s (size - 1) o d h is
      (omega (arith, long, above_lowest)) (omega (arith, long, above_lowest)) there
      (now ∙ (λ i. cut_to e (sym long i - 1) (members_below (sym made i) (length e.members)))) same serves

  -- a value in a form is taken off
  pub form_taken : (e' : Here) (kept' : List (Here × Kept)) (f : Form) (d : Option Datum) → o ≡ operand.Based f →
      e' ≡ cut_to e (length e.operands - 1) (length e.members) → kept' ≡ kept → d ≡ held_value bs f → TakesTop code bs keeps at e' kept' s d
  form_taken e' kept' f d made now same is_value =
      takes_top code bs keeps at e e' kept kept' s (size - 1) o d h is
      (omega (arith, long, above_lowest)) (omega (arith, long, above_lowest)) there
      (now ∙ (λ i. cut_to e (sym long i - 1) (members_below (sym made i) (length e.members)))) same
      (ap (λ p. value_of (operand_of bs e.members p)) made ∙ ap (λ v. Some v) (sym is_value))

  pub plain_there : (taken : Operand) → Some taken ≡ slice_get e.operands (length e.operands - 1) → ((what : Collection) (lowest count : ℕ) → o ≡ operand.Collection what lowest count → ⊥) → ((f : Form) → o ≡ operand.Based f → ⊥) → IsPlain taken
  plain_there taken last not none =
      let top = top_is code bs at e kept s (size - 1) o h.1 is above_lowest (ap (λ n. n - 1) long) there in
      let plain = plain_value bs e.members o (drop 1 s.core.now.operands) (subst (λ l. IsSome (top_of l)) top some) not none in
      let same : o ≡ taken = some_same o taken (there ∙ ap (λ n. slice_get e.operands (n - 1)) long ∙ sym last) in
      subst IsPlain same plain

pub plain_taken : (code : Code) (bs : BasesState) (keeps : ℕ) (at : ℕ) (e e' : Here) (kept kept' : List (Here × Kept)) (s : Standing) →
    MayRun code × IsSound (plain_code code) bs e × AllSound (plain_code code) bs keeps e.slots kept → stands code bs at e kept ≡ s → IsSome (top_of s.core.now.operands) →
    (taken : Operand) (d : Option Datum) → Some taken ≡ slice_get e.operands (length e.operands - 1) → IsPlain taken → ((cs : BasesState) (ms : List Member) → operand_of cs ms taken ≡ core.Result d) →
    e' ≡ cut_to e (length e.operands - 1) (length e.members) → kept' ≡ kept → TakesTop code bs keeps at e' kept' s d
plain_taken code bs keeps at e e' kept kept' s h is some taken d last plain serves now same =
    let above = some_below code bs at e kept s is (top_there s.core.now.operands some) in
    takes_top code bs keeps at e e' kept kept' s (length e.operands - 1) taken d h is (omega (arith, above)) (omega (arith, above)) last
    (now ∙ ap (cut_to e (length e.operands - 1)) (sym (plain_below taken (length e.members) plain))) same (ap value_of (serves bs e.members))
