-- An order on flows, whatever the places for constructors.
use Rattle.std.specs.Prelude.{◌≡◌, ℕ, zero, suc, true}
use Rattle.setl_model_runs.specs.Variable.{Variable}
use Rattle.setl_advise_flows.specs.Flow.{Flow, Nothing, Scalar, Set, Tuple, Map, Any, is_kind}
use Rattle.setl_advise_flows.specs.Expressions.{Flows}

-- no value
abbrev pub IsNothing : Flow → Type 0
IsNothing Nothing = Unit {0}
IsNothing f = ⊥

-- The values of the first flow are among those of the second. A map is a set of pairs, and the empty set is a map.
abbrev pub Le : Flow → Flow → Type 0
Le Nothing b = Unit {0}
Le a Any = Unit {0}
Le (Scalar k) (Scalar l) = is_kind k l ≡ true
Le (Set f) (Set g) = Le f g
Le (Tuple f) (Tuple g) = Le f g
Le (Map f g) (Map h k) = Le f h × Le g k
Le (Set f) (Map g h) = IsNothing f
Le (Map g h) (Set f) = Le (Tuple g) f × Le (Tuple h) f
Le a b = ⊥

-- no more constructors inside one another than there are places
abbrev pub Within : ℕ → Flow → Type 0
Within n Nothing = Unit {0}
Within n (Scalar k) = Unit {0}
Within zero (Set f) = ⊥
Within zero (Tuple f) = ⊥
Within zero (Map f g) = ⊥
Within (suc n) (Set f) = Within n f
Within (suc n) (Tuple f) = Within n f
Within (suc n) (Map f g) = Within n f × Within n g
Within n Any = Unit {0}

-- the first flows have no more than the second
pub record AreBelow (s u : Flows) : Type 0 where
  pub of : (x : Variable) → Le (s.of x) (u.of x)
  pub result : (f : ℕ) → Le (s.result f) (u.result f)

-- flows of at most three constructors inside one another
pub record AreWithin (s : Flows) : Type 0 where
  pub of : (x : Variable) → Within 3 (s.of x)
  pub result : (f : ℕ) → Within 3 (s.result f)
