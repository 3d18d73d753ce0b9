-- Look-ups in tables, and one more flow.
use Rattle.std.proofs.Common.{◌≡◌, ◌∙◌, ap, sym, refl, List, [], ◌∷◌, cond, Bool, true, false, Option, Some, None}
use Rattle.std.specs.Map.{lookup}
use Rattle.indexmap.specs.IndexMap.{insert_entry}
use Rattle.setl_advise_flows.specs.Flow as plain
use Rattle.setl_advise_flows.specs.Flow.{join}
use Rattle.setl_advise_lattice.specs.declared.level.Flat.{Flat}
use Rattle.setl_advise_lattice.specs.declared.level.Level.{Level}
use Rattle.setl_advise_lattice.specs.code.Levels.{flow_of}
use Rattle.setl_advise_conditions.specs.Conditions.{Into, ResultOf}
use Rattle.setl_advise_conditions.specs.Conditions as conditions
use Rattle.setl_advise_conditions.specs.Grown.{raised}
use Rattle.setl_advise_gathering.specs.declared.condition.Target.{Target}
use Rattle.setl_advise_gathering.specs.code.Plain.{plain_target}
use Rattle.setl_advise_terms.specs.Table.{is_target, flow_in}
use Rattle.setl_advise_terms.specs.code.Plain.{plain_table, flows_of}
use Rattle.setl_advise_terms.proofs.Targets.{same_target, target_turned, target_through}

abbrev Flow : Type 0
Flow = Level (Level (Level Flat))

abbrev Entries : Type 0
Entries = List (Target × Flow)

-- the flow that a look-up gives
abbrev pub flow_or : Option Flow → plain.Flow
flow_or None = plain.Nothing
flow_or (Some f) = flow_of f

module _ (eq : Target → Target → Bool) (law : (a b : Target) → eq a b ≡ is_target (plain_target a) (plain_target b)) where
  found_by : (b : Bool) (f : Flow) (o : Option Flow) (g : plain.Flow) → flow_or o ≡ g → flow_or (cond b (Some f) o) ≡ cond b (flow_of f) g
  found_by true f o g h = refl
  found_by false f o g h = h

  pub found : (key : Target) (es : Entries) → flow_or (lookup (eq key) es) ≡ flow_in (plain_table es) (plain_target key)
  found key [] = refl
  found key (e ∷ es) =
      found_by (eq key e.0) e.1 (lookup (eq key) es) (flow_in (plain_table es) (plain_target key)) (found key es)
      ∙ ap (λ b. cond b (flow_of e.1) (flow_in (plain_table es) (plain_target key))) (law key e.0)

  pub looked_up : (key : Target) (es : Entries) (o : Option Flow) → o ≡ lookup (eq key) es → flow_or o ≡ flow_in (plain_table es) (plain_target key)
  looked_up key es o h = ap flow_or h ∙ found key es

  -- what a table has once a target has another flow
  abbrev Has : Entries → Target → Flow → Entries → Type 0
  Has new key f es = (t : conditions.Target) → flow_in (plain_table new) t ≡ cond (is_target (plain_target key) t) (flow_of f) (flow_in (plain_table es) t)

  twice : (b : Bool) (x y z : plain.Flow) → cond b x z ≡ cond b x (cond b y z)
  twice true x y z = refl
  twice false x y z = refl

  not_both : (p q : Bool) (x y z : plain.Flow) → (p ≡ true → q ≡ true → ⊥) → cond p y (cond q x z) ≡ cond q x (cond p y z)
  not_both true true x y z h = absurd (h refl refl)
  not_both true false x y z h = refl
  not_both false q x y z h = refl

  no_truth : false ≡ true → ⊥
  no_truth e = cc

  put_by : (key : Target) (f : Flow) (e : Target × Flow) (es : Entries) (b : Bool) → eq key e.0 ≡ b → Has (insert_entry eq es key f) key f es → Has (cond b ((e.0, f) ∷ es) (e ∷ insert_entry eq es key f)) key f (e ∷ es)
  put_by key f e es true h ih t =
      let same : plain_target key ≡ plain_target e.0 = same_target (plain_target key) (plain_target e.0) (sym (law key e.0) ∙ h) in
      let test : is_target t (plain_target e.0) ≡ is_target (plain_target key) t =
      target_turned t (plain_target e.0) ∙ ap (λ u. is_target u t) (sym same) in
      ap (λ b. cond b (flow_of f) (flow_in (plain_table es) t)) test
      ∙ twice (is_target (plain_target key) t) (flow_of f) (flow_of e.1) (flow_in (plain_table es) t)
      ∙ ap (λ b. cond (is_target (plain_target key) t) (flow_of f) (cond b (flow_of e.1) (flow_in (plain_table es) t))) (sym test)
  put_by key f e es false h ih t =
      ap (λ g. cond (is_target t (plain_target e.0)) (flow_of e.1) g) (ih t)
      ∙ not_both (is_target t (plain_target e.0)) (is_target (plain_target key) t) (flow_of f) (flow_of e.1) (flow_in (plain_table es) t)
      (λ p q. no_truth (sym h ∙ law key e.0 ∙ target_through (plain_target key) t (plain_target e.0) q p))

  pub put : (key : Target) (f : Flow) (es : Entries) → Has (insert_entry eq es key f) key f es
  put key f [] t = ap (λ b. cond b (flow_of f) plain.Nothing) (target_turned t (plain_target key))
  put key f (e ∷ es) t = put_by key f e es (eq key e.0) refl (put key f es) t

  -- ---- a target with the values of one more flow

  joined_by : (b : Bool) (x t : conditions.Target) (f j : plain.Flow) (es : Entries) → is_target x t ≡ b → j ≡ join f (flow_in (plain_table es) x) → cond b j (flow_in (plain_table es) t) ≡ cond b (join f (flow_in (plain_table es) t)) (flow_in (plain_table es) t)
  joined_by true x t f j es h is = is ∙ ap (λ u. join f (flow_in (plain_table es) u)) (same_target x t h)
  joined_by false x t f j es h is = refl

  joined_at : (key : Target) (f j : Flow) (es new : Entries) → new ≡ insert_entry eq es key j → flow_of j ≡ join (flow_of f) (flow_in (plain_table es) (plain_target key)) → (t : conditions.Target) → flow_in (plain_table new) t ≡ cond (is_target (plain_target key) t) (join (flow_of f) (flow_in (plain_table es) t)) (flow_in (plain_table es) t)
  joined_at key f j es new put_is is t =
      ap (λ (es : Entries). flow_in (plain_table es) t) put_is
      ∙ put key j es t
      ∙ joined_by (is_target (plain_target key) t) (plain_target key) t (flow_of f) (flow_of j) es refl is

  raised_by_all : (x : conditions.Target) (f : plain.Flow) (es new : Entries) → ((t : conditions.Target) → flow_in (plain_table new) t ≡ cond (is_target x t) (join f (flow_in (plain_table es) t)) (flow_in (plain_table es) t)) → flows_of new ≡ raised (flows_of es) x f
  raised_by_all (Into x) f es new h = λ i. record { of = λ y. h (Into y) i; result = λ n. h (ResultOf n) i }
  raised_by_all (ResultOf m) f es new h = λ i. record { of = λ y. h (Into y) i; result = λ n. h (ResultOf n) i }

  pub is_raised : (key : Target) (f j : Flow) (es new : Entries) → new ≡ insert_entry eq es key j → flow_of j ≡ join (flow_of f) (flow_in (plain_table es) (plain_target key)) → flows_of new ≡ raised (flows_of es) (plain_target key) (flow_of f)
  is_raised key f j es new put_is is = raised_by_all (plain_target key) (flow_of f) es new (joined_at key f j es new put_is is)
