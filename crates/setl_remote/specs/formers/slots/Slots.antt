-- `Slots` as a type that may hold the type that holds it.
use Rattle.std.specs.Prelude.{◌≡◌, ◌<◌, Option, None, Some, List, []}
use mathlib.Core.Path.{refl, sym, ap, subst}
use mathlib.Core.Logic.{◌⊎◌, inl, inr}
use mathlib.Core.Former.{Former, this, const, or, list, via}
use native.Mathlib.Bridge.{le_prop}
use lib.ListN.{length-map}
use base.Stored.{code_map, gcons, gnum}
use denote.RattleType.{RattleType}
use denote.HoleLaws.{Alike}
use denote.HolePlaces.{Recodes, struct_places, enum_places, eachs, laid}
use denote.Hole.Fix.{over}
use denote.Param.Weighed.{Weighed, w_const, w_or, w_via, w_list}
use denote.Model.Placed.{view_places}
use Rattle.std.specs.Coded.{coded_option}
use Rattle.std.specs.formers.vec.Vec as vec
use Rattle.std.specs.declared.alloc.Global.{Global}
use Rattle.std.specs.contracts.alloc.Global as heap
use Rattle.std.specs.contracts.impls.GlobalAllocator.TheImpl.{ghosts}
use Rattle.std.specs.contracts.option.Option as option
use Rattle.setl_remote.specs.declared.slots.Slots.TheInside.{Inside}
use Rattle.setl_remote.specs.declared.slots.Slots.TheView.{view, invariant}
use Rattle.setl_remote.specs.contracts.slots.Slots as C
use Rattle.setl_remote.specs.contracts.slots.Slots.TheInside as I

module _ {X : Type 0} where
  abbrev pub split : Option X → Unit {0} ⊎ X
  split None = inl tt
  split (Some x) = inr x

  abbrev pub join : Unit {0} ⊎ X → Option X
  join (inl u) = None
  join (inr x) = Some x

  pub join-split : (o : Option X) → join (split o) ≡ o
  join-split None = refl
  join-split (Some x) = refl

  pub split-join : (o : Unit {0} ⊎ X) → split (join o) ≡ o
  split-join (inl u) = refl
  split-join (inr x) = refl

-- one of g's values, or none
abbrev pub slot : Former {0} → Former {0}
slot g = via (or (const (Unit {0})) g) (λ X. Option (g.Of X)) (λ X. split) (λ X. join) (λ X. join-split) (λ X. split-join)

abbrev pub the_former : Former {0} → Former {0}
the_former g = list (slot g)

abbrev pub the_weighed : {g : Former {0}} → Weighed g → Weighed (the_former g)
the_weighed {g} w = w_list (w_via (w_or (w_const (Unit {0})) w) (λ X. Option (g.Of X)) (λ X. split) (λ X. join) (λ X. join-split) (λ X. split-join))

pub the_empty : List (Option ⊥)
the_empty = []

abbrev fields : Former {0}
fields = via (vec.the_former (slot this) Global) Inside (λ X a. a.slots) (λ X v. record { slots = v }) (λ X a. refl) (λ X v. refl)

module _ (R S : RattleType) (h : R.Denot → S.Denot) where
  abbrev on_slot : Option R.Denot → Option S.Denot
  on_slot = (slot this).map R.Denot S.Denot h

  variant : (o : Option R.Denot) → (option.enum S).as_values (on_slot o) ≡ eachs (option.enum R).parts (option.enum S).parts (tt, ((h, tt), tt)) ((option.enum R).as_values o)
  variant None = refl
  variant (Some x) = refl

  slot_places : Alike R S h → Alike (option.the_row R) (option.the_row S) on_slot
  slot_places a = enum_places (option.enum R) (option.enum S) (tt, ((h, tt), tt)) on_slot variant refl (tt, ((laid _ _ _ a, tt), tt))

  pub the_places : Alike R S h → Alike (C.the_row R) (C.the_row S) ((the_former this).map R.Denot S.Denot h)
  the_places a = view_places fields (the_former this) view (λ X Y k u. refl) (λ X u. refl)
      R.Denot S.Denot h (C.the_row R).coded (C.the_row S).coded
      (invariant R.Denot) (invariant S.Denot) (λ u. le_prop) (λ u. le_prop)
      (λ u p. subst (λ n. 0 < n) (sym (length-map u.slots.items on_slot)) p) (λ u p. subst (λ n. 0 < n) (length-map u.slots.items on_slot) p)
      (over (I.the_row R)) (over (I.the_row S))
      (struct_places (I.the_type R) (I.the_type S) (vec.mapped on_slot, tt) _ (λ d. refl) refl
      (laid _ _ _ (vec.the_places heap.the_row ghosts (option.the_row R) (option.the_row S) on_slot (slot_places a)), tt))

  slot_code : Recodes R S h → (o : Option R.Denot) → (coded_option R.coded).code o ≡ (coded_option S.coded).code (on_slot o)
  slot_code e None = refl
  slot_code e (Some x) = ap (gcons (gnum 1)) (sym (e x))

  pub the_codes_placed : Recodes R S h → Recodes (C.the_row R) (C.the_row S) ((the_former this).map R.Denot S.Denot h)
  the_codes_placed e d = sym (code_map (coded_option R.coded).code (coded_option S.coded).code on_slot (slot_code e) d)
