-- Which values are in a flow; `om` is in each.
use Rattle.std.specs.Prelude.{Option, Some, None}
use Rattle.std.specs.List.{AllByRecursion}
use Rattle.setl_value.specs.Datum.{Datum, bool, int, text, atom, tuple, set, element_list, part_list}
use Rattle.setl_value.specs.Pairs.{pair_parts}
use Rattle.setl_advise_flows.specs.Flow.{Kind, Whole, Letters, Truth, Token, Flow, Nothing, Scalar, Set, Tuple, Map, Any}

abbrev pub IsOf : Kind → Datum → Type 0
IsOf Whole (int z) = Unit {0}
IsOf Letters (text t) = Unit {0}
IsOf Truth (bool b) = Unit {0}
IsOf Token (atom n) = Unit {0}
IsOf k d = ⊥

abbrev pub HasPart : (Datum → Type 0) → Option Datum → Type 0
HasPart P None = Unit {0}
HasPart P (Some d) = P d

abbrev pub HasPair : (Datum → Type 0) → (Datum → Type 0) → Option (Datum × Datum) → Type 0
HasPair P Q None = ⊥
HasPair P Q (Some p) = P p.0 × Q p.1

abbrev pub Members : (Datum → Type 0) → Datum → Type 0
Members P (set ms) = AllByRecursion P (element_list ms)
Members P d = ⊥

abbrev pub Components : (Datum → Type 0) → Datum → Type 0
Components P (tuple ps) = AllByRecursion (HasPart P) (part_list ps)
Components P d = ⊥

abbrev pub Has : Flow → Datum → Type 0
Has Nothing d = ⊥
Has (Scalar k) d = IsOf k d
Has (Set f) d = Members (Has f) d
Has (Tuple f) d = Components (Has f) d
Has (Map f g) d = Members (λ m. HasPair (Has f) (Has g) (pair_parts m)) d
Has Any d = Unit {0}

-- a value or `om` is in a flow
abbrev pub HasAt : Flow → Option Datum → Type 0
HasAt f v = HasPart (Has f) v

-- what is in the first flow is in the second
abbrev pub Covers : Flow → Flow → Type 0
Covers f g = (d : Datum) → Has f d → Has g d
