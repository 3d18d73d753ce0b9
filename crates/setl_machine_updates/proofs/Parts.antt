-- `whole(x) with:= y` and `whole(x) +:= y`: the part is read, combined with y, and put.
use Rattle.std.proofs.Common.{◌≡◌, ◌∙◌, ap, sym, subst, refl, ℕ, [], ◌∷◌, Option, Some, arith}
use Rattle.std.specs.Prelude.{Result, Ok, Err, None, IfOk, IfSome}
use Rattle.std.specs.Option.{unwrap_or}
use Rattle.std.proofs.lemmas.Option.{none-some}
use Rattle.std.specs.Borrow.{MutBor}
use Rattle.std.specs.Fn.{Once}
use Rattle.setl_value.specs.declared.Value.{Value}
use Rattle.setl_value.specs.Datum.{Datum}
use Rattle.setl_operators_table.specs.declared.OpFault.{OpFault}
use Rattle.setl_operators_table.specs.Outcome.{Outcome, Gives, value}
use Rattle.setl_model.specs.Core.{Round}
use Rattle.setl_model.specs.Places.{combined, part_of, with_part_at}
use Rattle.setl_machine_updates.specs.Changing.{ChangesPart}
use Rattle.setl_machine_updates.specs.Updates.{Leaves, Updates}
use Rattle.setl_machine_updates.proofs.Inside.{fails_inside, puts_back}

pub part_changed : (whole now x d e : Datum) (g : Option Datum → ℕ → Outcome) (turns : ℕ) (r : Result ℕ OpFault)
    → ((left : ℕ) → part_of (Round (Some x)) (Some whole) left ≡ Gives (Some d) 0) → ((left : ℕ) → with_part_at (Round (Some x)) (Some whole) (Some e) left ≡ value now)
    → Updates (g (Some d) turns) turns (Some e) r → Updates (combined (Round (Some x) ∷ []) (Some whole) g turns) turns (Some now) r
part_changed whole now x d e g turns (Ok left) there written k =
    let read : Leaves (part_of (Round (Some x)) (Some whole) turns) turns (Some d) turns = subst (λ o. Leaves o turns (Some d) turns) (sym (there turns)) (refl, omega arith) in
    puts_back (Round (Some x)) (Some whole) g turns (combined (Round (Some x) ∷ []) (Some whole) g turns) refl (Some d) (Some e) turns left (Some now) (Ok left) read k
    (subst (λ o. Updates o left (Some now) (Ok left)) (sym (written left)) (refl, omega arith))
part_changed whole now x d e g turns (Err fault) there written k =
    let read : Leaves (part_of (Round (Some x)) (Some whole) turns) turns (Some d) turns = subst (λ o. Leaves o turns (Some d) turns) (sym (there turns)) (refl, omega arith) in
    fails_inside (Round (Some x)) (Some whole) g turns (combined (Round (Some x) ∷ []) (Some whole) g turns) refl (Some d) turns fault (Err fault) refl read k

-- what a value without a charge tells
pub given_free : (o : Outcome) (turns : ℕ) (d : Datum) → o ≡ value d → Updates o turns (Some d) (Ok turns)
given_free o turns d h = subst (λ x. Updates x turns (Some d) (Ok turns)) (sym h) (refl, omega arith)

-- the same of a value in which the whole stands
pub handed_on : {F R A B : Type 0} (g : Once F (MutBor Value × Unit {0}) (R × (MutBor Value × Unit {0}))) (change : F) (x whole now w n : Datum) (r : R)
    → w ≡ whole → n ≡ now → (A → B) → ChangesPart g change x w r n A → ChangesPart g change x whole r now B
handed_on g change x whole now w n r e f h k = record {
  old = k.old;
  new = k.new;
  there = λ left. subst (λ v. part_of (Round (Some x)) (Some v) left ≡ Gives (Some k.old) 0) e (k.there left);
  left = k.left;
  written = λ left. subst (λ v. with_part_at (Round (Some x)) (Some v) (Some k.new) left ≡ value now) e (k.written left ∙ ap value f);
  same = λ s. h (k.same s);
}

-- what a clause says of the answer of a closure that was called
pub answered : {R : Type 0} (P : R → Type 0) (o : Option R) (r : R) → o ≡ Some r → IfSome o P → P r
answered P None r e h = absurd (none-some r e)
answered P (Some q) r e h = subst P (ap (λ o. unwrap_or o q) e) h

-- what a clause says of an answer without an error
pub when_ok : {E V : Type 0} (P : V → Type 0) (o : Result V E) (v : V) → o ≡ Ok v → IfOk o P → P v
when_ok P o v e h = subst (λ r. IfOk r P) e h
