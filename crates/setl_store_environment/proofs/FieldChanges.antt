-- A change of one field, and the way back.
use Rattle.std.proofs.Common.{◌≡◌, ◌∙◌, Bool, true, false, cond, not, ◌&&◌, ◌||◌, Option, None, Some, refl, sym, ap}
use Rattle.std.specs.Prelude.{IsTrue, Result, Ok, Err, OnOk, OnErr}
use Rattle.std.specs.Option.{option_map_or}
use Rattle.std.specs.Ordering.{eq_by_cmp}
use Rattle.std.specs.Cmp.{Equal-is}
use Rattle.std.specs.FinSet as set
use Rattle.std.specs.FinMap as map
use Rattle.setl_local.specs.Place.{Place, place_cmp, place_total, place_antisymmetric}
use Rattle.setl_store_environment.specs.Places.{with_bit, with_content}

same_place : (p q : Place) → eq_by_cmp place_cmp q p ≡ true → q ≡ p
same_place p q e = place_antisymmetric q p ((Equal-is (place_cmp q p)).0 e)

or_hit : (b c : Bool) → (b || c) ≡ cond b true c
or_hit true c = refl
or_hit false c = refl

and_miss : (b c : Bool) → (not b && c) ≡ cond b false c
and_miss true c = refl
and_miss false c = refl

twice : {A : Type 0} (b : Bool) (x y z : A) → cond b x (cond b y z) ≡ cond b x z
twice true x y z = refl
twice false x y z = refl

either_way : {A : Type 0} (b : Bool) (x y : A) → (b ≡ true → x ≡ y) → cond b x y ≡ y
either_way true x y e = e refl
either_way false x y e = refl

bit_at : (bits : set.FinSet place_cmp) (p : Place) (b : Bool) (q : Place) → set.contains (with_bit bits p b) q ≡ cond (eq_by_cmp place_cmp q p) b (set.contains bits q)
bit_at bits p true q = set.contains-insert place_total bits p q ∙ or_hit (eq_by_cmp place_cmp q p) (set.contains bits q)
bit_at bits p false q = set.contains-remove place_total bits p q ∙ and_miss (eq_by_cmp place_cmp q p) (set.contains bits q)

-- of two changes of one bit the second counts
bit_twice : (bits : set.FinSet place_cmp) (p : Place) (a b : Bool) → with_bit (with_bit bits p a) p b ≡ with_bit bits p b
bit_twice bits p a b = set.same_set place_total place_antisymmetric _ _ (λ q.
    bit_at (with_bit bits p a) p b q ∙ ap (cond (eq_by_cmp place_cmp q p) b) (bit_at bits p a q)
    ∙ twice (eq_by_cmp place_cmp q p) b a (set.contains bits q) ∙ sym (bit_at bits p b q))

bit_back : (bits : set.FinSet place_cmp) (p : Place) → with_bit bits p (set.contains bits p) ≡ bits
bit_back bits p = set.same_set place_total place_antisymmetric _ _ (λ q.
    bit_at bits p (set.contains bits p) q ∙ either_way (eq_by_cmp place_cmp q p) _ _ (λ e. ap (set.contains bits) (sym (same_place p q e))))

-- the bit is put where it was taken off before
pub bit_put : (bits : set.FinSet place_cmp) (p : Place) (b : Bool) → cond b (set.insert (set.remove bits p) p) (set.remove bits p) ≡ with_bit bits p b
bit_put bits p true = bit_twice bits p false true
bit_put bits p false = refl

-- and what it was leads back
pub bit_restored : (bits : set.FinSet place_cmp) (p : Place) (b : Bool) → with_bit (cond b (set.insert (set.remove bits p) p) (set.remove bits p)) p (set.contains bits p) ≡ bits
bit_restored bits p b = ap (λ l. with_bit l p (set.contains bits p)) (bit_put bits p b) ∙ bit_twice bits p b (set.contains bits p) ∙ bit_back bits p

module _ {F : Type 0} where
  content_at : (cs : map.FinMap place_cmp F) (p : Place) (c : Option F) (q : Place) → map.get (with_content cs p c) q ≡ cond (eq_by_cmp place_cmp q p) c (map.get cs q)
  content_at cs p (Some c) q = map.get-insert place_total cs p c q
  content_at cs p None q = map.get-remove place_total cs p q

  content_twice : (cs : map.FinMap place_cmp F) (p : Place) (a b : Option F) → with_content (with_content cs p a) p b ≡ with_content cs p b
  content_twice cs p a b = map.same_map place_total place_antisymmetric _ _ (λ q.
      content_at (with_content cs p a) p b q ∙ ap (cond (eq_by_cmp place_cmp q p) b) (content_at cs p a q)
      ∙ twice (eq_by_cmp place_cmp q p) b a (map.get cs q) ∙ sym (content_at cs p b q))

  content_back : (cs : map.FinMap place_cmp F) (p : Place) → with_content cs p (map.get cs p) ≡ cs
  content_back cs p = map.same_map place_total place_antisymmetric _ _ (λ q.
      content_at cs p (map.get cs p) q ∙ either_way (eq_by_cmp place_cmp q p) _ _ (λ e. ap (map.get cs) (sym (same_place p q e))))

  pub content_put : (cs : map.FinMap place_cmp F) (p : Place) (c : Option F) → option_map_or (map.insert (map.remove cs p) p) c (map.remove cs p) ≡ with_content cs p c
  content_put cs p (Some c) = content_twice cs p None (Some c)
  content_put cs p None = refl

  pub content_restored : (cs : map.FinMap place_cmp F) (p : Place) (c : Option F) → with_content (option_map_or (map.insert (map.remove cs p) p) c (map.remove cs p)) p (map.get cs p) ≡ cs
  content_restored cs p c = ap (λ l. with_content l p (map.get cs p)) (content_put cs p c) ∙ content_twice cs p c (map.get cs p) ∙ content_back cs p

or_true : (a b : Bool) → b ≡ true → (a || b) ≡ true
or_true true b h = refl
or_true false b h = h

-- room for one more takes none away
pub more_room : {V E : Type 0} (r : Result V E) (old new : set.FinSet place_cmp) (p : Place) → OnOk r (new ≡ set.insert old p) → OnErr r (new ≡ old) → (k : Place) → IsTrue (set.contains old k) → IsTrue (set.contains new k)
more_room (Ok v) old new p is same k there = ap (λ s. set.contains s k) is ∙ set.contains-insert place_total old p k ∙ or_true (eq_by_cmp place_cmp k p) (set.contains old k) there
more_room (Err e) old new p is same k there = ap (λ s. set.contains s k) same ∙ there
