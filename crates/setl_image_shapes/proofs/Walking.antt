-- The walk goes on, begins and ends.
use Rattle.std.proofs.Common.{◌≡◌, ℕ, suc, ◌<◌, ◌≤◌, true, false, List, [], ◌∷◌, ◌++◌, length, slice_get, Option, Some, None, refl, sym, ap, ◌∙◌, subst, inl, inr, arith}
use Rattle.std.specs.List.{Contains}
use Rattle.std.proofs.lemmas.Bool.{cases_eq}
use Rattle.setl_code.specs.Shapes.{Shape, Outs}
use Rattle.setl_code.specs.Sound.{Table, shape_at, says, all_said, is_fine}
use Rattle.setl_image_shapes.specs.declared.effect.Effect.{Effect}
use Rattle.setl_image_shapes.specs.Effects.{leads}
use Rattle.setl_image_shapes.specs.Tables.{IsClosed, IsTable, Serve, FewBegun, unreached, room, Arrived, Refused, Going}
use Rattle.setl_image_shapes.proofs.Joining.{both_true, true_both}
use Rattle.setl_image_shapes.proofs.Moving.{fine_served, leads_more}
use Rattle.setl_image_shapes.proofs.Arriving.{contains_front, contains_split}

same_some : {A : Type 0} {x y : A} → Some x ≡ Some y → x ≡ y
same_some h = cc

-- ---- a step of the walk

said_weaker : (one two : Table) (os : List (ℕ × Shape)) → ((at : ℕ) (s : Shape) → says (shape_at one at) s ≡ true → says (shape_at two at) s ≡ true) → all_said one os ≡ true → all_said two os ≡ true
said_weaker one two [] weaker said = refl
said_weaker one two (o ∷ os) weaker said =
    let b = both_true said in
    true_both (weaker o.0 o.1 b.0) (said_weaker one two os weaker b.1)

fine_weaker : (one two : Table) (outs : Outs) → ((at : ℕ) (s : Shape) → says (shape_at one at) s ≡ true → says (shape_at two at) s ≡ true) → is_fine one outs ≡ true → is_fine two outs ≡ true
fine_weaker one two None weaker fine = cc
fine_weaker one two (Some os) weaker fine = said_weaker one two os weaker fine

-- where it leads isn't said: there is no table
pub none_led : (effects : List Effect) (table : Table) (at : ℕ) (e : Effect) (s : Shape) → ((other : Table) → IsTable effects other → Serve table other) → slice_get effects at ≡ Some e → shape_at table at ≡ Some s → (other : Table) → IsTable effects other → (os : List (ℕ × Shape)) × (leads e (suc at) s ≡ Some os) × (all_said other os ≡ true)
none_led effects table at e s serve has is other whole = go (shape_at other at) refl (serve other whole at s is)
  where
    go : (o : Option Shape) → shape_at other at ≡ o → says o s ≡ true → (os : List (ℕ × Shape)) × (leads e (suc at) s ≡ Some os) × (all_said other os ≡ true)
    go None so said = absurd (let f : false ≡ true = said in cc)
    go (Some t) so said = fine_served other e (suc at) s t said (whole.fine at e t has so)

pub no_way : (effects : List Effect) (table : Table) (p : List ℕ) (at : ℕ) (e : Effect) (s : Shape) → Going effects table p → slice_get effects at ≡ Some e → shape_at table at ≡ Some s → leads e (suc at) s ≡ None → (other : Table) → IsTable effects other → ⊥
no_way effects table p at e s going has is none other whole =
    let l = none_led effects table at e s going.serve has is other whole in
    let clash : None ≡ Some l.0 = sym none ∙ l.1 in
    cc

pub no_table : (effects : List Effect) (table : Table) (p : List ℕ) (at : ℕ) (e : Effect) (s : Shape) (os : List (ℕ × Shape)) → Going effects table p → slice_get effects at ≡ Some e → shape_at table at ≡ Some s → leads e (suc at) s ≡ Some os → Refused table os → (other : Table) → IsTable effects other → ⊥
no_table effects table p at e s os going has is led refused other whole =
    let l = none_led effects table at e s going.serve has is other whole in
    let same : l.0 ≡ os = same_some (sym l.1 ∙ led) in
    refused other (whole.whole ∙ sym going.size) (going.serve other whole) (subst (λ x. all_said other x ≡ true) same l.2)

-- the step in hand isn't reached
pub goes_past : (effects : List Effect) (table : Table) (p : List ℕ) (at : ℕ) → Going effects table (p ++ at ∷ []) → shape_at table at ≡ None → Going effects table p
goes_past effects table p at going none = record {
  size = going.size;
  pending = λ k h. going.pending k (contains_front p (at ∷ []) k h);
  starts = going.starts;
  closed = closed;
  few = going.few;
  serve = going.serve;
}
  where
    closed : (k : ℕ) → (Contains p k → ⊥) → IsClosed effects table k
    closed k not e s has is = elim (cases_eq k at) [
      | inl same ↦ let clash : None ≡ Some s = sym none ∙ ap (shape_at table) (sym same) ∙ is in absurd (cc)
      | inr other ↦ going.closed k (λ h. elim (contains_split p at k h) [
        | inl before ↦ not before
        | inr last ↦ other last
      ]) e s has is
    ]

-- the shapes arrived where the step in hand leads
pub goes_on : (effects : List Effect) (table new : Table) (p q : List ℕ) (at : ℕ) (e : Effect) (s : Shape) (os : List (ℕ × Shape)) → Going effects table (p ++ at ∷ []) → slice_get effects at ≡ Some e → shape_at table at ≡ Some s → leads e (suc at) s ≡ Some os → Arrived table p os new q → Going effects new q × (room new q ≤ room table p)
goes_on effects table new p q at e s os going has is led arrived = (
  record {
    size = arrived.size ∙ going.size;
    pending = pending;
    starts = arrived.weaker 0 [] going.starts;
    closed = closed;
    few = few.0;
    serve = serve;
  },
  few.1,
)
  where
    few : FewBegun new × (room new q ≤ room table p)
    few = arrived.few going.few (leads_more table e (suc at) s os (going.few at s is) led)

    pending : (k : ℕ) → Contains q k → k < length effects
    pending k h = elim (arrived.inside k h) [
      | inl before ↦ going.pending k (contains_front p (at ∷ []) k before)
      | inr within ↦ omega (arith, within, going.size)
    ]

    serve : (other : Table) → IsTable effects other → Serve new other
    serve other whole =
        let l = none_led effects table at e s going.serve has is other whole in
        let same : l.0 ≡ os = same_some (sym l.1 ∙ led) in
        arrived.serve other (going.serve other whole) (subst (λ x. all_said other x ≡ true) same l.2)

    closed : (k : ℕ) → (Contains q k → ⊥) → IsClosed effects new k
    closed k not f u there now = elim (cases_eq k at) [
      | inl same ↦
          let effect : f ≡ e = same_some (sym there ∙ ap (slice_get effects) same ∙ has) in
          let shape : u ≡ s = same_some (sym now ∙ arrived.stays k not ∙ ap (shape_at table) same ∙ is) in
          let leads_so : leads f (suc k) u ≡ Some os = ap (λ x. leads x (suc k) u) effect ∙ ap (λ n. leads e (suc n) u) same ∙ ap (leads e (suc at)) shape ∙ led in
          subst (λ x. is_fine new x ≡ true) (sym leads_so) arrived.said
      | inr other ↦
          let before : shape_at table k ≡ Some u = sym (arrived.stays k not) ∙ now in
          let fine = going.closed k (λ h. elim (contains_split p at k h) [
            | inl front ↦ not (arrived.kept k front)
            | inr last ↦ other last
          ]) f u there before in
          fine_weaker table new (leads f (suc k) u) arrived.weaker fine
    ]

-- ---- the start and the end

pub begins : (effects : List Effect) (table new : Table) (q : List ℕ) → length table ≡ length effects → ((at : ℕ) → shape_at table at ≡ None) → unreached table ≤ length table → Arrived table [] ((0, []) ∷ []) new q → Going effects new q
begins effects table new q size none all arrived = record {
  size = arrived.size ∙ size;
  pending = pending;
  starts = (both_true arrived.said).0;
  closed = closed;
  few = (arrived.few begun (omega (arith, all), tt)).0;
  serve = serve;
}
  where
    nowhere : (at : ℕ) → Contains [] at → ⊥
    nowhere at h = omega (arith, h.1)

    begun : FewBegun table
    begun at s is = let clash : None ≡ Some s = sym (none at) ∙ is in absurd (cc)

    pending : (k : ℕ) → Contains q k → k < length effects
    pending k h = elim (arrived.inside k h) [
      | inl before ↦ absurd (nowhere k before)
      | inr within ↦ omega (arith, within, size)
    ]

    closed : (k : ℕ) → (Contains q k → ⊥) → IsClosed effects new k
    closed k not e s has is = let clash : None ≡ Some s = sym (none k) ∙ sym (arrived.stays k not) ∙ is in absurd (cc)

    serve : (other : Table) → IsTable effects other → Serve new other
    serve other whole = arrived.serve other (λ at s is. absurd (let clash : None ≡ Some s = sym (none at) ∙ is in cc)) (true_both (subst (λ o. says o [] ≡ true) (sym whole.starts) refl) refl)

pub never_begins : (effects : List Effect) (table : Table) → length table ≡ length effects → ((at : ℕ) → shape_at table at ≡ None) → Refused table ((0, []) ∷ []) → (other : Table) → IsTable effects other → ⊥
never_begins effects table size none refused other whole =
    refused other (whole.whole ∙ sym size) (λ at s is. absurd (let clash : None ≡ Some s = sym (none at) ∙ is in cc)) (true_both (subst (λ o. says o [] ≡ true) (sym whole.starts) refl) refl)

starts_empty : (o : Option Shape) → says o [] ≡ true → o ≡ Some []
starts_empty None h = cc
starts_empty (Some []) h = refl
starts_empty (Some (k ∷ s)) h = cc

pub ends : (effects : List Effect) (table : Table) → Going effects table [] → IsTable effects table
ends effects table going = record {
  whole = going.size;
  starts = starts_empty (shape_at table 0) going.starts;
  fine = λ at. going.closed at (λ h. omega (arith, h.1));
}
