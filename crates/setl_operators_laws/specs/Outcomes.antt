-- Outcomes that give values.
use Rattle.std.specs.Prelude.{◌≡◌, ℕ, ◌-◌, ◌≤◌, Bool, true, false, nat_le, List, [], ◌∷◌, Option, Some, None, if◌then◌else◌, refl}
use Rattle.std.specs.List.{AllByRecursion}
use Rattle.std.proofs.Common.{arith}
use Rattle.std.proofs.lemmas.Bool.{leb-true}
use Rattle.setl_value.specs.Datum.{Datum, text, depth}
use Rattle.setl_value.specs.WellFormed.{IsTextByte, IsWellFormed, IsValue}
use Rattle.setl_value.specs.Pairs.{is_map}
use Rattle.setl_operators_table.specs.Collections.{on_map}
use Rattle.setl_operators_table.specs.Outcome.{Outcome, Gives, Fails, Overspends, KindFault, DeepFault, value, within_depth, adding, charging, then_with, one_more, all_values, unary, binary, ternary}
use Rattle.setl_operators_laws.specs.ValueLaws.{IsValueOrOm}

-- it gives a value or `om`, if it gives something
abbrev pub GivesValue : Outcome → Type 0
GivesValue (Gives v n) = IsValueOrOm v
GivesValue (Fails f) = Unit {0}
GivesValue Overspends = Unit {0}

-- each boolean is a value
pub a_boolean : Unit {0} × (0 ≤ 500)
a_boolean = (tt, omega arith)

pub text_value : (t : List ℕ) → AllByRecursion IsTextByte t → IsValue (text t)
text_value t a = (a, omega arith)

pub adding_gives : (n : ℕ) (o : Outcome) → GivesValue o → GivesValue (adding n o)
adding_gives n (Gives v m) h = h
adding_gives n (Fails f) h = tt
adding_gives n Overspends h = tt

pub charging_gives : (n left : ℕ) (o : Outcome) → GivesValue o → GivesValue (charging n left o)
charging_gives n left o h = go (nat_le n left)
  where
    go : (b : Bool) → GivesValue (if b then adding n o else Overspends)
    go true = adding_gives n o h
    go false = tt

pub within_gives : (d : Datum) → IsWellFormed d → GivesValue (within_depth d)
within_gives d w = go (nat_le (depth d) 500) refl
  where
    go : (b : Bool) → nat_le (depth d) 500 ≡ b → GivesValue (if b then value d else Fails DeepFault)
    go true e = (w, leb-true (depth d) 500 e)
    go false e = tt

pub then_gives : (o : Outcome) (left : ℕ) (next : Option Datum → ℕ → Outcome) → GivesValue o → ((v : Option Datum) (n : ℕ) → IsValueOrOm v → GivesValue (next v n)) → GivesValue (then_with o left next)
then_gives (Gives v n) left next h s = adding_gives n (next v (left - n)) (s v (left - n) h)
then_gives (Fails f) left next h s = tt
then_gives Overspends left next h s = tt

pub map_gives : (make : List Datum → Outcome) (f : List Datum) → GivesValue (make f) → GivesValue (on_map make f)
map_gives make f h = go (is_map f)
  where
    go : (b : Bool) → GivesValue (if b then make f else Fails KindFault)
    go true = h
    go false = tt

-- ---- operands

abbrev pub AllValues : Option (List Datum) → Type 0
AllValues None = Unit {0}
AllValues (Some ds) = AllByRecursion IsValue ds

pub operands : (vs : List (Option Datum)) → AllByRecursion IsValueOrOm vs → AllValues (all_values vs)
operands [] a = tt
operands (None ∷ vs) a = tt
operands (Some d ∷ vs) a = go (all_values vs) (operands vs a.1)
  where
    go : (o : Option (List Datum)) → AllValues o → AllValues (one_more d o)
    go None h = tt
    go (Some ds) h = (a.0, h)

pub unary_gives : (f : Datum → Outcome) (o : Option (List Datum)) → ((a : Datum) → IsValue a → GivesValue (f a)) → AllValues o → GivesValue (unary f o)
unary_gives f None h s = tt
unary_gives f (Some []) h s = tt
unary_gives f (Some (a ∷ [])) h s = h a s.0
unary_gives f (Some (a ∷ b ∷ ds)) h s = tt

pub binary_gives : (f : Datum → Datum → Outcome) (o : Option (List Datum)) → ((a b : Datum) → IsValue a → IsValue b → GivesValue (f a b)) → AllValues o → GivesValue (binary f o)
binary_gives f None h s = tt
binary_gives f (Some []) h s = tt
binary_gives f (Some (a ∷ [])) h s = tt
binary_gives f (Some (a ∷ b ∷ [])) h s = h a b s.0 s.1.0
binary_gives f (Some (a ∷ b ∷ c ∷ ds)) h s = tt

pub ternary_gives : (f : Datum → Datum → Datum → Outcome) (o : Option (List Datum)) → ((a b c : Datum) → IsValue a → IsValue b → IsValue c → GivesValue (f a b c)) → AllValues o → GivesValue (ternary f o)
ternary_gives f None h s = tt
ternary_gives f (Some []) h s = tt
ternary_gives f (Some (a ∷ [])) h s = tt
ternary_gives f (Some (a ∷ b ∷ [])) h s = tt
ternary_gives f (Some (a ∷ b ∷ c ∷ [])) h s = h a b c s.0 s.1.0 s.1.1.0
ternary_gives f (Some (a ∷ b ∷ c ∷ d ∷ ds)) h s = tt
