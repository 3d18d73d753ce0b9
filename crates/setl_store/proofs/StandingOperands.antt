-- Operands whose forms stand over the bases.
use Rattle.std.proofs.Common.{◌≡◌, ℕ, zero, suc, List, [], ◌∷◌, ◌++◌, take, set, refl, sym, subst, Option, None, Some}
use Rattle.std.specs.Prelude.{slice_get}
use Rattle.std.proofs.lemmas.Option.{same_Some}
use Rattle.setl_value.specs.Datum.{Datum}
use Rattle.setl_value.specs.declared.Value.{Value}
use Rattle.setl_code.specs.CodeCore as core
use Rattle.setl_code.specs.CodeCore.{There}
use Rattle.setl_rep_bases.specs.Bases.{BasesState}
use Rattle.setl_rep_forms.specs.declared.held.Held.{Held as Form}
use Rattle.setl_rep_plain.specs.Standing.{IsHeldOver}
use Rattle.setl_store_slots.specs.Slots.{IsStanding}
use Rattle.setl_store_slots.specs.declared.cells.Held.{Held}
use Rattle.setl_store_slots.specs.declared.cells.Held.TheVariants as held
use Rattle.setl_store_operands.specs.declared.cells.Member.{Member}
use Rattle.setl_store_operands.specs.declared.cells.Operand.{Operand}
use Rattle.setl_store_operands.specs.declared.cells.Operand.TheVariants as operand
use Rattle.setl_store_operands.specs.Operands.{operand_by, operand_in, operand_of, AreOperandsOver, HasMembers, IsOperandOver}
use Rattle.setl_store.specs.Flat.{held_of}

pub over_append : (bs : BasesState) (xs ys : List Operand) → AreOperandsOver bs xs → AreOperandsOver bs ys → AreOperandsOver bs (xs ++ ys)
over_append bs [] ys all more = more
over_append bs (x ∷ xs) ys all more = (all.0, over_append bs xs ys all.1 more)

pub over_take : (bs : BasesState) (n : ℕ) (xs : List Operand) → AreOperandsOver bs xs → AreOperandsOver bs (take n xs)
over_take bs zero xs all = tt
over_take bs (suc n) [] all = tt
over_take bs (suc n) (x ∷ xs) all = (all.0, over_take bs n xs all.1)

pub over_set : (bs : BasesState) (xs : List Operand) (n : ℕ) (o : Operand) → AreOperandsOver bs xs → IsOperandOver bs o → AreOperandsOver bs (set xs n o)
over_set bs [] n o all one = tt
over_set bs (x ∷ xs) zero o all one = (one, all.1)
over_set bs (x ∷ xs) (suc n) o all one = (all.0, over_set bs xs n o all.1 one)

pub over_at : (bs : BasesState) (xs : List Operand) (n : ℕ) (o : Operand) → AreOperandsOver bs xs → Some o ≡ slice_get xs n → IsOperandOver bs o
over_at bs [] n o all e = absurd (cc)
over_at bs (x ∷ xs) zero o all e = subst (IsOperandOver bs) (sym (same_Some o x e)) all.0
over_at bs (x ∷ xs) (suc n) o all e = over_at bs xs n o all.1 e

-- the form of a value that is one of them
pub form_over : (bs : BasesState) (xs : List Operand) (n : ℕ) (o : Operand) (f g : Form) → AreOperandsOver bs xs → Some o ≡ slice_get xs n → o ≡ operand.Based f → g ≡ f → IsHeldOver bs g
form_over bs xs n o f g all there made same = subst (IsHeldOver bs) (sym same) (subst (IsOperandOver bs) made (over_at bs xs n o all there))

pub value_over : (bs : BasesState) (v : Option Value) → IsOperandOver bs (operand_by v)
value_over bs None = tt
value_over bs (Some v) = tt

-- ---- what a slot holds, as an operand

pub held_over : (bs : BasesState) (h : Held) → IsStanding bs h → IsOperandOver bs (operand_in h)
held_over bs held.Om one = tt
held_over bs (held.Value v) one = tt
held_over bs held.Taken one = tt
held_over bs (held.Based m f) one = one.0

pub held_alone : (h : Held) (os : List Operand) (n : ℕ) → HasMembers os n → HasMembers (operand_in h ∷ os) n
held_alone held.Om os n has = has
held_alone (held.Value v) os n has = has
held_alone held.Taken os n has = has
held_alone (held.Based m f) os n has = has

-- the value of what is there
abbrev pub content : core.Held → Option Datum
content core.Gone = None
content (There v) = v

pub held_shown : (bs : BasesState) (ms : List Member) (h : Held) → operand_of bs ms (operand_in h) ≡ core.Result (content (held_of bs h))
held_shown bs ms held.Om = refl
held_shown bs ms (held.Value v) = refl
held_shown bs ms held.Taken = refl
held_shown bs ms (held.Based m f) = refl
