-- The least member above another, with one more block.
use Rattle.std.proofs.Common.{◌≡◌, ℕ, zero, suc, ◌+◌, ◌<◌, ◌⊎◌, inl, inr, ⊎_elim, Bool, true, false, true≢false, not, ◌&&◌, Option, Some, None, is_some, refl, ap, sym, ◌∙◌, arith}
use Rattle.std.proofs.Math.Nat.{eq-or-lt_of_le}
use Rattle.std.proofs.lemmas.Cmp.{upto, tied_itself}
use Rattle.std.specs.Option.{option_map_or}
use Rattle.std.specs.Ordering.{is_lt, is_gt, ordering_reverse}
use Rattle.std.specs.declared.cmp.Ordering.{Ordering}
use Rattle.std.specs.declared.cmp.Ordering.TheVariants.{Less, Equal, Greater}
use Rattle.setl_value.specs.Datum.{Datum}
use Rattle.setl_value.specs.Order.{datum_cmp}
use Rattle.setl_value.specs.OrderLaws.{datum_cmp_total}
use Rattle.setl_base.specs.declared.Elt.{Elt}
use Rattle.setl_base.specs.Base.{Member, BaseState, member_at, value_of, is_above}
use Rattle.setl_base.specs.Least.{IsLeast, is_between}
use Rattle.setl_base.proofs.Found.{lives, value_by_place}

-- ---- the order

not_greater : (x y : Datum) → is_lt (datum_cmp y x) ≡ false → is_gt (datum_cmp x y) ≡ false
not_greater x y h = ap is_gt (datum_cmp_total.antisymm x y) ∙ by (datum_cmp y x) h
  where
    by : (o : Ordering) → is_lt o ≡ false → is_gt (ordering_reverse o) ≡ false
    by Less h = h
    by Equal h = refl
    by Greater h = refl

lt_not_gt : (o : Ordering) → is_lt o ≡ true → is_gt o ≡ false
lt_not_gt Less h = refl
lt_not_gt Equal h = refl
lt_not_gt Greater h = sym h

above_value : (b : BaseState) (e : Elt) (w d : Datum) → value_of b e ≡ Some w → is_above b (Some e) d ≡ is_lt (datum_cmp w d)
above_value b e w d p = ap (λ o. option_map_or (λ x. is_lt (datum_cmp x d)) o false) p

-- ---- one more block

-- a member in the blocks up to n is in those before n, or it is that of the block n
before_or_at : (b : BaseState) (n : ℕ) (f : Elt) (d : Datum) → f.block < n + 1 → value_of b f ≡ Some d → (f.block < n) ⊎ ((m : Member) × (member_at b n ≡ Some m) × (m.value ≡ d))
before_or_at b n f d h p = by (eq-or-lt_of_le (omega (arith, h)))
  where
    by : (f.block ≡ n) ⊎ (f.block < n) → (f.block < n) ⊎ ((m : Member) × (member_at b n ≡ Some m) × (m.value ≡ d))
    by (inl q) = let at = lives b f d p in inr (at.member, ap (member_at b) (sym q ∙ at.number) ∙ at.stands, at.value)
    by (inr q) = inl q

some_is : {A : Type 0} (x y : A) (o : Option A) → o ≡ Some x → o ≡ Some y → x ≡ y
some_is x y o p q = cc

module _ (b : BaseState) (after : Option Elt) (n : ℕ) (v : Datum) (g : ℕ) (stands : member_at b n ≡ Some (record { value = v; generation = g })) where
  -- a member in the blocks up to n is in those before n, or it is v
  before_or_this : (f : Elt) (d : Datum) → f.block < n + 1 → value_of b f ≡ Some d → (f.block < n) ⊎ (v ≡ d)
  before_or_this f d lt p =
      ⊎_elim (λ q. inl q) (λ q. inr (ap (λ (m : Member). m.value) (some_is _ _ (member_at b n) stands q.1) ∙ q.2)) (before_or_at b n f d lt p)

  pub taken : (least : Option Elt) → IsLeast b after n least → is_between b after v least ≡ true → IsLeast b after (n + 1) (Some (record { block = n; generation = g }))
  taken least h between = by (is_above b after v) refl least h between
    where
      itself : (d : Datum) → v ≡ d → is_gt (datum_cmp v d) ≡ false
      itself d q = ap (λ x. is_gt (datum_cmp v x)) (sym q) ∙ ap is_gt (tied_itself datum_cmp_total v)

      lower : (least : Option Elt) → IsLeast b after n least → (is_some least && is_above b least v) ≡ false → (f : Elt) (d : Datum) → f.block < n → value_of b f ≡ Some d → is_above b after d ≡ true → is_gt (datum_cmp v d) ≡ false
      lower None h isnt f d lt p above = absurd (true≢false (sym above ∙ h f d lt p))
      lower (Some e) h isnt f d lt p above =
          upto datum_cmp_total v h.value d (not_greater v h.value (sym (above_value b e h.value v h.living) ∙ isnt)) (h.least f d lt p above)

      not_false : (t : Bool) → not t ≡ true → t ≡ false
      not_false true q = sym q
      not_false false q = refl

      by : (t : Bool) → is_above b after v ≡ t → (least : Option Elt) → IsLeast b after n least → (t && not (is_some least && is_above b least v)) ≡ true → IsLeast b after (n + 1) (Some (record { block = n; generation = g }))
      by false q least h between = absurd (true≢false (sym between))
      by true q least h between = record {
        value = v;
        living = living n stands;
        above = q;
        least = λ f d lt p above. ⊎_elim (λ r. lower least h (not_false (is_some least && is_above b least v) between) f d r p above) (itself d) (before_or_this f d lt p);
      }
        where
          living : (k : ℕ) → member_at b k ≡ Some (record { value = v; generation = g }) → value_of b (record { block = k; generation = g }) ≡ Some v
          living zero p = cc
          living (suc i) p = value_by_place b (record { block = suc i; generation = g }) i (record { value = v; generation = g }) refl p refl

  pub kept : (least : Option Elt) → IsLeast b after n least → is_between b after v least ≡ false → IsLeast b after (n + 1) least
  kept None h between = λ f d lt p. ⊎_elim (λ q. h f d q p) (λ q. ap (is_above b after) (sym q) ∙ by (is_above b after v) between) (before_or_this f d lt p)
    where
      by : (t : Bool) → (t && true) ≡ false → t ≡ false
      by true q = q
      by false q = refl
  kept (Some e) h between = record {
    value = h.value;
    living = h.living;
    above = h.above;
    least = λ f d lt p above. ⊎_elim (λ q. h.least f d q p above) (λ q. ap (λ x. is_gt (datum_cmp h.value x)) (sym q) ∙ by (is_above b after v) (is_above b (Some e) v) (ap (is_above b after) q ∙ above) (above_value b e h.value v h.living) between) (before_or_this f d lt p);
  }
    where
      by : (t u : Bool) → t ≡ true → u ≡ is_lt (datum_cmp h.value v) → (t && not u) ≡ false → is_gt (datum_cmp h.value v) ≡ false
      by true true p q r = lt_not_gt (datum_cmp h.value v) (sym q)
      by true false p q r = absurd (true≢false r)
      by false u p q r = absurd (true≢false (sym p))
