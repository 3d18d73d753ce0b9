-- Rows of the operators' table over the lists of bodies.
use Rattle.std.specs.Prelude.{◌≡◌, ℕ, ◌+◌, ◌≤◌, Bool, List, Option, Some, ℤ, pos, negsuc, Result, Ok, refl}
use Rattle.std.proofs.Common.{ap, sym, ◌∙◌, arith}
use Rattle.setl_value.specs.Datum.{Datum, bool, int, text, atom, tuple, set, set_of, tuple_of}
use Rattle.setl_value.specs.Copies.{copies}
use Rattle.setl_scalar.specs.Texts.{repeat_of as repeat_of_text}
use Rattle.setl_tuple.specs.Tuples.{repeat_of as repeat_of_tuple}
use Rattle.setl_operators_table.specs.Outcome.{Gives, Fails, KindFault, charging, value, tuple_value}
use Rattle.setl_operators_table.specs.OutcomeLaws.{paid}
use Rattle.setl_operators_table.specs.Numbers.{times, replicated}
use Rattle.setl_operators_arithmetic.proofs.Views.{parts_back}

-- ---- copies

paid_value : (left k : ℕ) (d : Datum) → k ≤ left → charging k left (value d) ≡ Gives (Some d) k
paid_value left k d h = paid k left (value d) h ∙ ap (Gives (Some d)) {x = k + 0} {y = k} (omega arith)

same_if_ok : {A E : Type 0} (x y : A) (r : Result A E) → r ≡ Ok x → r ≡ Ok y → x ≡ y
same_if_ok x y r p q = cc

pub tuple_copied : (left : ℕ) (n : ℤ) (ps qs : List (Option Datum)) (k : ℕ) → repeat_of_tuple ps n ≡ Ok qs → n ≡ pos k → k ≤ left → replicated left n (tuple_of ps) ≡ Gives (Some (tuple_of qs)) k
tuple_copied left n ps qs k r e h =
    ap (λ z. replicated left z (tuple_of ps)) e
    ∙ ap (λ l. charging k left (tuple_value (copies k l))) (parts_back ps)
    ∙ paid_value left k (tuple_of (copies k ps)) h
    ∙ ap (λ l. Gives (Some (tuple_of l)) k) (same_if_ok (copies k ps) qs (repeat_of_tuple ps (pos k)) refl (ap (repeat_of_tuple ps) (sym e) ∙ r))

pub text_copied : (left : ℕ) (n : ℤ) (t u : List ℕ) (k : ℕ) → repeat_of_text t n ≡ Ok u → n ≡ pos k → k ≤ left → replicated left n (text t) ≡ Gives (Some (text u)) k
text_copied left n t u k r e h =
    ap (λ z. replicated left z (text t)) e
    ∙ paid_value left k (text (copies k t)) h
    ∙ ap (λ l. Gives (Some (text l)) k) (same_if_ok (copies k t) u (repeat_of_text t (pos k)) refl (ap (repeat_of_text t) (sym e) ∙ r))

-- ---- what has no copies

pub no_copies_of_bool : (left : ℕ) (n : ℤ) (b : Bool) → times left (int n) (bool b) ≡ Fails KindFault
no_copies_of_bool left (pos n) b = refl
no_copies_of_bool left (negsuc n) b = refl

pub no_copies_of_atom : (left : ℕ) (n : ℤ) (a : ℕ) → times left (int n) (atom a) ≡ Fails KindFault
no_copies_of_atom left (pos n) a = refl
no_copies_of_atom left (negsuc n) a = refl

pub no_copies_of_set : (left : ℕ) (n : ℤ) (xs : List Datum) → times left (int n) (set_of xs) ≡ Fails KindFault
no_copies_of_set left (pos n) xs = refl
no_copies_of_set left (negsuc n) xs = refl

pub set_by_integer : (left : ℕ) (n : ℤ) (xs : List Datum) → times left (set_of xs) (int n) ≡ Fails KindFault
set_by_integer left (pos n) xs = refl
set_by_integer left (negsuc n) xs = refl

pub times_bool : (left : ℕ) (b : Bool) (d : Datum) → times left (bool b) d ≡ Fails KindFault
times_bool left b (int (pos n)) = refl
times_bool left b (int (negsuc n)) = refl
times_bool left b (bool c) = refl
times_bool left b (text t) = refl
times_bool left b (atom c) = refl
times_bool left b (tuple ps) = refl
times_bool left b (set ms) = refl

pub times_atom : (left a : ℕ) (d : Datum) → times left (atom a) d ≡ Fails KindFault
times_atom left a (int (pos n)) = refl
times_atom left a (int (negsuc n)) = refl
times_atom left a (bool c) = refl
times_atom left a (text t) = refl
times_atom left a (atom c) = refl
times_atom left a (tuple ps) = refl
times_atom left a (set ms) = refl
