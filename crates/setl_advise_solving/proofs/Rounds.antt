-- Sweeps, condition by condition.
use Rattle.std.proofs.Common.{◌≡◌, ◌∙◌, ap, sym, subst, refl, arith, ℕ, zero, suc, ◌+◌, ◌<◌, ◌≤◌, List, [], ◌∷◌, drop, length, true, false, Bool, inl, inr}
use Rattle.std.proofs.Math.ListN.{get_or}
use Rattle.std.proofs.lemmas.List.{drop_all, drop_more}
use Rattle.setl_advise_flows.specs.Flow.{join}
use Rattle.setl_advise_flows.specs.Expressions.{Flows}
use Rattle.setl_advise_conditions.specs.Conditions.{Meets, MeetsAll, Target, Into, ResultOf, target_flow, term_flow}
use Rattle.setl_advise_conditions.specs.Grown.{Grown, Raised, raised_by, IsAmong}
use Rattle.setl_advise_conditions.specs.Rank.{rank, room}
use Rattle.setl_advise_gathering.specs.declared.condition.Condition.{Condition as Gathered}
use Rattle.setl_advise_gathering.specs.code.Plain.{listed, plain_condition}
use Rattle.setl_advise_terms.specs.Table.{Table, flow_in, flows_in}
use Rattle.setl_advise_solving.proofs.Rooms.{raise_takes_room}

-- the flow of a target in a table
pub flow_is : (es : Table) (t : Target) → flow_in es t ≡ target_flow (flows_in es) t
flow_is es (Into x) = refl
flow_is es (ResultOf f) = refl

pub among_at : (cs : List Gathered) (k : ℕ) (c : Gathered) → k < length cs → c ≡ get_or cs k c → IsAmong (listed cs) (plain_condition c)
among_at [] k c h e = omega (arith, h)
among_at (d ∷ ds) zero c h e = inl (ap plain_condition (sym e))
among_at (d ∷ ds) (suc k) c h e = inr (among_at ds k c (omega (arith, h)) e)

drop_at : (xs : List Gathered) (i : ℕ) (x : Gathered) → i < length xs → x ≡ get_or xs i x → drop i xs ≡ x ∷ drop (i + 1) xs
drop_at xs i x within read = drop_more xs i x within ∙ ap (λ z. z ∷ drop (i + 1) xs) (sym read)

-- flows s before, and flows u once the conditions before a place were looked at
pub record Swept (cs : List Gathered) (k : ℕ) (changed : Bool) (s u : Flows) : Type 0 where
  pub met : changed ≡ false → MeetsAll u (listed (drop k cs)) → MeetsAll u (listed cs)
  pub grown : Grown (listed cs) s → Grown (listed cs) u
  pub less : changed ≡ true → room (listed cs) u < room (listed cs) s
  pub no_more : room (listed cs) u ≤ room (listed cs) s

no_truth : true ≡ false → ⊥
no_truth e = cc

no_falsehood : false ≡ true → ⊥
no_falsehood e = cc

pub begun : (cs : List Gathered) (s : Flows) → Swept cs 0 false s s
begun cs s = record { met = λ e h. h; grown = λ g. g; less = λ e. absurd (no_falsehood e); no_more = omega arith }

-- a condition that is met
pub stays : (cs : List Gathered) (k : ℕ) (changed : Bool) (s u v : Flows) (c : Gathered) → k < length cs → c ≡ get_or cs k c → Swept cs k changed s u → v ≡ u → Meets u (plain_condition c) → Swept cs (k + 1) changed s v
stays cs k changed s u v c within read w same meets =
    subst (λ v. Swept cs (k + 1) changed s v) (sym same)
    (record {
      met = λ e h. w.met e (subst (λ (r : List Gathered). MeetsAll u (listed r)) (sym (drop_at cs k c within read)) (meets, h));
      grown = w.grown;
      less = w.less;
      no_more = w.no_more;
    })

-- a condition that raises the flow of its target
pub rises : (cs : List Gathered) (k : ℕ) (changed : Bool) (s u v : Flows) (c : Gathered) → k < length cs → c ≡ get_or cs k c → Swept cs k changed s u → v ≡ raised_by u (plain_condition c) → rank 3 (target_flow u (plain_condition c).target) < rank 3 (join (term_flow u (plain_condition c).term) (target_flow u (plain_condition c).target)) → Swept cs (k + 1) true s v
rises cs k changed s u v c within read w is more =
    let among = among_at cs k c within read in
    let taken : room (listed cs) (raised_by u (plain_condition c)) < room (listed cs) u = raise_takes_room (listed cs) u (plain_condition c) (term_flow u (plain_condition c).term) among more in
    let before = w.no_more in
    subst (λ v. Swept cs (k + 1) true s v) (sym is)
    (record {
      met = λ e. absurd (no_truth e);
      grown = λ g. Raised u (plain_condition c) (w.grown g) among;
      less = λ e. omega (arith, taken, before);
      no_more = omega (arith, taken, before);
    })

pub all_met : (cs : List Gathered) (k : ℕ) (changed : Bool) (s u : Flows) → length cs ≤ k → Swept cs k changed s u → changed ≡ false → MeetsAll u (listed cs)
all_met cs k changed s u h w e = w.met e (subst (λ (r : List Gathered). MeetsAll u (listed r)) (sym (drop_all k cs h)) tt)
