-- A change of the part at a selector.
use Rattle.std.proofs.Common.{◌≡◌, ◌∙◌, ap, sym, subst, ℕ, ◌-◌, ◌≤◌, List, [], ◌∷◌, length, map, take, drop, get_or, Option, arith}
use Rattle.std.proofs.lemmas.List.{take_all}
use Rattle.std.specs.Prelude.{Result, Err}
use Rattle.setl_value.specs.Datum.{Datum}
use Rattle.setl_operators_table.specs.declared.OpFault.{OpFault}
use Rattle.setl_operators_table.specs.declared.Operator.{Operator}
use Rattle.setl_operators_table.specs.Operators.{op_of}
use Rattle.setl_operators_table.specs.Outcome.{Outcome, then_with}
use Rattle.setl_operators_table.specs.code.Answers.{Tells}
use Rattle.setl_model.specs.Core.{Selected}
use Rattle.setl_model.specs.Places.{part_of, part_at_all, with_part_at, with_part_at_all, combined}
use Rattle.setl_machine_updates.specs.declared.selectors.Selector.{Selector}
use Rattle.setl_machine_updates.specs.Selectors.{selected}
use Rattle.setl_machine_updates.specs.Updates.{Leaves, Updates}
use Rattle.setl_machine_updates.proofs.Steps.{goes_on, stops}

-- the selectors behind the first one, as the code cuts them off
abbrev pub behind : List Selector → List Selector
behind at = take (length at - 1) (drop 1 at)

behind_is : (x : Selector) (xs : List Selector) → behind (x ∷ xs) ≡ xs
behind_is x xs = ap (λ n. take n xs) {x = length (x ∷ xs) - 1} {y = length xs} (omega arith) ∙ take_all (length xs) xs (omega arith)

-- the part at a selector is read, changed and put
abbrev pub inside : Selected → Option Datum → (Option Datum → ℕ → Outcome) → ℕ → Outcome
inside s whole f left = then_with (part_of s whole left) left (λ p now. then_with (f p now) now (λ new later. with_part_at s whole new later))

pub put_inside : (at : List Selector) (s : Selector) (whole v : Option Datum) (left : ℕ) → 2 ≤ length at → s ≡ get_or at 0 s
    → inside (selected s) whole (λ p now. with_part_at_all (map selected (behind at)) p v now) left ≡ with_part_at_all (map selected at) whole v left
put_inside [] s whole v left h e = absurd (omega arith)
put_inside (x ∷ []) s whole v left h e = absurd (omega arith)
put_inside (x ∷ y ∷ ys) s whole v left h e =
    ap (λ r. inside (selected s) whole (λ p now. with_part_at_all (map selected r) p v now) left) (behind_is x (y ∷ ys))
    ∙ ap (λ r. with_part_at_all (selected r ∷ map selected (y ∷ ys)) whole v left) e

pub combine_inside : (at : List Selector) (s : Selector) (whole : Option Datum) (f : Option Datum → ℕ → Outcome) (left : ℕ) → 1 ≤ length at → s ≡ get_or at 0 s
    → inside (selected s) whole (λ p now. combined (map selected (behind at)) p f now) left ≡ combined (map selected at) whole f left
combine_inside [] s whole f left h e = absurd (omega arith)
combine_inside (x ∷ xs) s whole f left h e =
    ap (λ r. inside (selected s) whole (λ p now. combined (map selected r) p f now) left) (behind_is x xs)
    ∙ ap (λ r. combined (selected r ∷ map selected xs) whole f left) e

pub combine_only : (at : List Selector) (s : Selector) (whole : Option Datum) (f : Option Datum → ℕ → Outcome) (left : ℕ) → length at ≡ 1 → s ≡ get_or at 0 s
    → combined (selected s ∷ []) whole f left ≡ combined (map selected at) whole f left
combine_only [] s whole f left h e = absurd (omega arith)
combine_only (x ∷ []) s whole f left h e = ap (λ r. combined (selected r ∷ []) whole f left) e
combine_only (x ∷ y ∷ ys) s whole f left h e = absurd (omega arith)

-- a put at two selectors is a put at the second one in the part at the first one
pub put_in_two : (at : List Selector) (s r : Selector) (whole v : Option Datum) (left : ℕ) → length at ≡ 2 → s ≡ get_or at 0 s → r ≡ get_or at 1 r
    → combined (selected s ∷ []) whole (λ p now. with_part_at (selected r) p v now) left ≡ with_part_at_all (map selected at) whole v left
put_in_two [] s r whole v left h e f = absurd (omega arith)
put_in_two (x ∷ []) s r whole v left h e f = absurd (omega arith)
put_in_two (x ∷ y ∷ []) s r whole v left h e f =
    ap (λ q. combined (selected q ∷ []) whole (λ p now. with_part_at (selected r) p v now) left) e
    ∙ ap (λ q. combined (selected x ∷ []) whole (λ p now. with_part_at (selected q) p v now) left) f
put_in_two (x ∷ y ∷ z ∷ zs) s r whole v left h e f = absurd (omega arith)

-- the same at selectors that are these
pub at_these : (a b s r : Selected) (old v now : Option Datum) (turns : ℕ) (res : Result ℕ OpFault) → s ≡ a → r ≡ b
    → Updates (combined (a ∷ []) old (λ p left. with_part_at b p v left) turns) turns now res → Updates (combined (s ∷ []) old (λ p left. with_part_at r p v left) turns) turns now res
at_these a b s r old v now turns res e f h =
    subst (λ q. Updates (combined (q ∷ []) old (λ p left. with_part_at r p v left) turns) turns now res) (sym e)
    (subst (λ q. Updates (combined (a ∷ []) old (λ p left. with_part_at q p v left) turns) turns now res) (sym f) h)

pub combined_at_these : (a b s r : Selected) (old old' v v' now : Option Datum) (o : Operator) (turns : ℕ) (res : Result ℕ OpFault) → s ≡ a → r ≡ b → old ≡ old' → v ≡ v'
    → Updates (combined (a ∷ b ∷ []) old' (λ p left. op_of o (p ∷ v' ∷ []) left) turns) turns now res → Updates (combined (s ∷ r ∷ []) old (λ p left. op_of o (p ∷ v ∷ []) left) turns) turns now res
combined_at_these a b s r old old' v v' now o turns res e f i j h =
    subst (λ q. Updates (combined (q ∷ r ∷ []) old (λ p left. op_of o (p ∷ v ∷ []) left) turns) turns now res) (sym e)
    (subst (λ q. Updates (combined (a ∷ q ∷ []) old (λ p left. op_of o (p ∷ v ∷ []) left) turns) turns now res) (sym f)
    (subst (λ q. Updates (combined (a ∷ b ∷ []) q (λ p left. op_of o (p ∷ v ∷ []) left) turns) turns now res) (sym i)
    (subst (λ q. Updates (combined (a ∷ b ∷ []) old' (λ p left. op_of o (p ∷ q ∷ []) left) turns) turns now res) (sym j) h)))

pub combine_two : (at : List Selector) (s r : Selector) (whole : Option Datum) (f : Option Datum → ℕ → Outcome) (left : ℕ) → length at ≡ 2 → s ≡ get_or at 0 s → r ≡ get_or at 1 r
    → combined (selected s ∷ selected r ∷ []) whole f left ≡ combined (map selected at) whole f left
combine_two [] s r whole f left h e g = absurd (omega arith)
combine_two (x ∷ []) s r whole f left h e g = absurd (omega arith)
combine_two (x ∷ y ∷ []) s r whole f left h e g =
    ap (λ q. combined (selected q ∷ selected r ∷ []) whole f left) e ∙ ap (λ q. combined (selected x ∷ selected q ∷ []) whole f left) g
combine_two (x ∷ y ∷ z ∷ zs) s r whole f left h e g = absurd (omega arith)

pub read_inside : (at : List Selector) (s : Selector) (whole : Option Datum) (left : ℕ) → 1 ≤ length at → s ≡ get_or at 0 s
    → then_with (part_of (selected s) whole left) left (λ p now. part_at_all (map selected (behind at)) p now) ≡ part_at_all (map selected at) whole left
read_inside [] s whole left h e = absurd (omega arith)
read_inside (x ∷ xs) s whole left h e =
    ap (λ r. then_with (part_of (selected s) whole left) left (λ p now. part_at_all (map selected r) p now)) (behind_is x xs)
    ∙ ap (λ r. part_at_all (selected r ∷ map selected xs) whole left) e

-- what a change of the part at a selector tells, where o is its outcome
module _ (s : Selected) (whole : Option Datum) (f : Option Datum → ℕ → Outcome) (turns : ℕ) (o : Outcome) (is : inside s whole f turns ≡ o) where
  pub puts_back : (p changed : Option Datum) (left later : ℕ) (new : Option Datum) (r : Result ℕ OpFault)
      → Leaves (part_of s whole turns) turns p left → Leaves (f p left) left changed later → Updates (with_part_at s whole changed later) later new r → Updates o turns new r
  puts_back p changed left later new r h k l =
      subst (λ x. Updates x turns new r) is
      (goes_on (λ q now. then_with (f q now) now (λ x y. with_part_at s whole x y)) turns p left (part_of s whole turns) new r h
      (goes_on (λ x y. with_part_at s whole x y) left changed later (f p left) new r k l))

  pub fails_inside : (p : Option Datum) (left : ℕ) (e : OpFault) (r : Result ℕ OpFault) → r ≡ Err e → Leaves (part_of s whole turns) turns p left → Tells (Err e) (f p left) → Updates o turns whole r
  fails_inside p left e r same h k =
      subst (λ x. Updates o turns whole x) (sym same)
      (subst (λ x. Updates x turns whole (Err e)) is
      (goes_on (λ q now. then_with (f q now) now (λ x y. with_part_at s whole x y)) turns p left (part_of s whole turns) whole (Err e) h
      (stops (f p left) left (λ x y. with_part_at s whole x y) e k)))

  pub fails_reading : (e : OpFault) (r : Result ℕ OpFault) → r ≡ Err e → Tells (Err e) (part_of s whole turns) → Updates o turns whole r
  fails_reading e r same h =
      subst (λ x. Updates o turns whole x) (sym same)
      (subst (λ x. Updates x turns whole (Err e)) is (stops (part_of s whole turns) turns (λ q now. then_with (f q now) now (λ x y. with_part_at s whole x y)) e h))
