-- A set of one member: `f{x} +:= {y}` does what `f{x} with:= y` does, and `f{x} -:= {y}` what `f{x} less:= y` does.
use Rattle.std.proofs.Common.{◌≡◌, ◌∙◌, ap, sym, refl, ℕ, ◌-◌, Bool, true, false, List, [], ◌∷◌, Option, Some, None, inl, inr, length, slice_get, arith}
use Rattle.std.specs.Prelude.{◌⊎◌, not, ◌||◌}
use Rattle.std.specs.Option.{unwrap_or}
use Rattle.std.specs.Bool.{if◌then◌else◌}
use Rattle.std.specs.declared.cmp.Ordering.{Ordering}
use Rattle.std.specs.declared.cmp.Ordering.TheVariants.{Less as below, Equal, Greater}
use Rattle.std.specs.Ordering.{is_eq, ordering_reverse}
use Rattle.std.proofs.lemmas.List.Elements.{filter_agree}
use Rattle.setl_value.specs.Datum.{Datum, set, Elements, set_of, element_list, element_list-elements_of}
use Rattle.setl_value.specs.Order.{datum_cmp}
use Rattle.setl_value.specs.OrderLaws.{datum_cmp_total, same_datum}
use Rattle.setl_value.specs.Pairs.{pair, images, is_map}
use Rattle.setl_set.specs.Sets.{has_datum, insert_datum, insert_by, remove_datum, union_of, minus_of}
use Rattle.setl_set.specs.Laws.{RisingListsAgree, TestsMembership, Unites}
use Rattle.setl_map.specs.Laws.{ImagesAreShallower}
use Rattle.setl_map.specs.Maps.{without_point, put_images}
use Rattle.setl_operators_table.specs.declared.Operator.TheVariants.{Add, Subtract, With, Less}
use Rattle.setl_operators_table.specs.Outcome.{Outcome, Gives, Fails, Overspends, KindFault, adding, then_with, set_value, within_depth}
use Rattle.setl_operators_table.specs.Operators.{op_of}
use Rattle.setl_operators_table.specs.Puts.{add_image}
use Rattle.setl_model.specs.Core.{Brace}
use Rattle.setl_model.specs.Places.{part_of, with_part_at, combined}
use Rattle.setl_machine_updates.specs.Changing.{CombinesAlike}
use Rattle.setl_machine_updates.proofs.Images.{one_image_more, puts_set}
use Rattle.setl_machine_updates.proofs.Removing.{paired, or_swapped}

pub alone : (ds : List Datum) (d : Datum) → length ds ≡ 1 → slice_get ds 0 ≡ Some d → ds ≡ d ∷ []
alone [] d n h = absurd (omega (arith, n))
alone (e ∷ []) d n h = ap (λ o. unwrap_or o d ∷ []) h
alone (e ∷ f ∷ ds) d n h = absurd (omega (arith, n))

-- ---- one more

or_again : (a b : Bool) → (a || b) ≡ (a || (a || b))
or_again true b = refl
or_again false b = refl

more_by : (o : Ordering) (d x y e : Datum) (es more : List Datum) → datum_cmp y e ≡ o → has_datum d (paired x more) ≡ (is_eq (datum_cmp d (pair x y)) || has_datum d (paired x es))
    → has_datum d (paired x (insert_by o y e es more)) ≡ (is_eq (datum_cmp d (pair x y)) || has_datum d (paired x (e ∷ es)))
more_by below d x y e es more p h = refl
more_by Equal d x y e es more p h =
    or_again (is_eq (datum_cmp d (pair x e))) (has_datum d (paired x es)) ∙ ap (λ z. is_eq (datum_cmp d (pair x z)) || has_datum d (paired x (e ∷ es))) (sym (same_datum y e p))
more_by Greater d x y e es more p h =
    let same = is_eq (datum_cmp d (pair x e)) in
    ap (λ b. same || b) h ∙ or_swapped same (is_eq (datum_cmp d (pair x y))) (has_datum d (paired x es))

has_more : (d x y : Datum) (ys : List Datum) → has_datum d (paired x (insert_datum y ys)) ≡ (is_eq (datum_cmp d (pair x y)) || has_datum d (paired x ys))
has_more d x y [] = refl
has_more d x y (e ∷ es) = more_by (datum_cmp y e) d x y e es (insert_datum y es) refl (has_more d x y es)

has_last : (d x y : Datum) (ys : List Datum) → has_datum d (paired x (union_of ys (y ∷ []))) ≡ (is_eq (datum_cmp d (pair x y)) || has_datum d (paired x ys))
has_last d x y [] = refl
has_last d x y (e ∷ es) =
    let same = is_eq (datum_cmp d (pair x e)) in
    has_more d x e (union_of es (y ∷ [])) ∙ ap (λ b. same || b) (has_last d x y es) ∙ or_swapped same (is_eq (datum_cmp d (pair x y))) (has_datum d (paired x es))

other : {P Q R : Type 0} → (Q → R) → P ⊎ Q → P ⊎ R
other f (inl p) = inl p
other f (inr q) = inr (f q)

module _ (agree : RisingListsAgree) (tests : TestsMembership) (unites : Unites) where
  same_union : (ds ms ns : List Datum) → ((d : Datum) → has_datum d ms ≡ has_datum d ns) → union_of ds ms ≡ union_of ds ns
  same_union ds ms ns same =
      let a = unites ds ms in
      let b = unites ds ns in
      agree (union_of ds ms) (union_of ds ns) a.rising b.rising (λ d. (
        λ c. (b.members d).1 (other (λ m. (tests d ns).0 (sym (same d) ∙ (tests d ms).1 m)) ((a.members d).0 c)),
        λ c. (a.members d).1 (other (λ m. (tests d ms).0 (same d ∙ (tests d ns).1 m)) ((b.members d).0 c)),
      ))

  puts_more : (x y : Datum) (f : List Datum) → put_images x (union_of (images x f) (y ∷ [])) f ≡ put_images x (insert_datum y (images x f)) f
  puts_more x y f =
      let ys = images x f in
      same_union (without_point x f) (paired x (union_of ys (y ∷ []))) (paired x (insert_datum y ys)) (λ d. has_last d x y ys ∙ sym (has_more d x y ys))

  -- by whether there is a map
  of_map : (ms : Elements) (x y : Datum) (left : ℕ) (b : Bool) → is_map (element_list ms) ≡ b
      → combined (Brace (Some x) ∷ []) (Some (set ms)) (λ p now. op_of Add (p ∷ Some (set_of (y ∷ [])) ∷ []) now) left ≡ add_image (set ms) x y
  of_map ms x y left true h =
      let f = element_list ms in
      let ys = images x f in
      puts_set (λ p now. op_of Add (p ∷ Some (set_of (y ∷ [])) ∷ []) now) ms x (union_of ys (y ∷ [])) left h (λ now. ap (λ l. set_value (union_of l (y ∷ []))) (element_list-elements_of ys))
      ∙ ap (λ l. within_depth (set_of l)) (puts_more x y f)
      ∙ sym (ap (λ b. if b then within_depth (set_of (put_images x (insert_datum y ys) f)) else Fails KindFault) h)
  of_map ms x y left false h =
      ap (λ b. then_with (if b then set_value (images x (element_list ms)) else Fails KindFault) left (λ p now. then_with (op_of Add (p ∷ Some (set_of (y ∷ [])) ∷ []) now) now (λ new later. with_part_at (Brace (Some x)) (Some (set ms)) new later))) h
      ∙ sym (ap (λ b. if b then within_depth (set_of (put_images x (insert_datum y (images x (element_list ms))) (element_list ms))) else Fails KindFault) h)

  one_added : (d x y : Datum) (left : ℕ) → combined (Brace (Some x) ∷ []) (Some d) (λ p now. op_of Add (p ∷ Some (set_of (y ∷ [])) ∷ []) now) left ≡ add_image d x y
  one_added (set ms) x y left = of_map ms x y left (is_map (element_list ms)) refl
  one_added d x y left = refl

  pub added_alike : ImagesAreShallower → (y : Datum) → CombinesAlike Add (set_of (y ∷ [])) With y
  added_alike law y None x left = refl
  added_alike law y (Some d) x left = one_added d x y left ∙ sym (one_image_more law d x y left)

-- ---- one less

turned : (o : Ordering) → not (is_eq (ordering_reverse o) || false) ≡ not (is_eq o)
turned below = refl
turned Equal = refl
turned Greater = refl

not_the_one : (y d : Datum) → not (has_datum d (y ∷ [])) ≡ not (is_eq (datum_cmp y d))
not_the_one y d = ap (λ o. not (is_eq o || false)) (datum_cmp_total.antisymm d y) ∙ turned (datum_cmp y d)

one_gone : (y : Datum) (ds : List Datum) → minus_of ds (y ∷ []) ≡ remove_datum y ds
one_gone y ds = filter_agree (λ d. not (has_datum d (y ∷ []))) (λ d. not (is_eq (datum_cmp y d))) (not_the_one y) ds

subtracted : (y : Datum) (p : Option Datum) (now : ℕ) → op_of Subtract (p ∷ Some (set_of (y ∷ [])) ∷ []) now ≡ op_of Less (p ∷ Some y ∷ []) now
subtracted y None now = refl
subtracted y (Some (set ms)) now = ap set_value (one_gone y (element_list ms))
subtracted y (Some d) now = refl

then_alike : (f g : Option Datum → ℕ → Outcome) (next : Option Datum → ℕ → Outcome) (left : ℕ) → ((p : Option Datum) (now : ℕ) → f p now ≡ g p now) → (o : Outcome)
    → then_with o left (λ p now. then_with (f p now) now next) ≡ then_with o left (λ p now. then_with (g p now) now next)
then_alike f g next left same (Gives v n) = ap (λ o. adding n (then_with o (left - n) next)) (same v (left - n))
then_alike f g next left same (Fails e) = refl
then_alike f g next left same Overspends = refl

pub subtracted_alike : (y : Datum) → CombinesAlike Subtract (set_of (y ∷ [])) Less y
subtracted_alike y whole x left =
    then_alike (λ p now. op_of Subtract (p ∷ Some (set_of (y ∷ [])) ∷ []) now) (λ p now. op_of Less (p ∷ Some y ∷ []) now) (λ new later. with_part_at (Brace (Some x)) whole new later) left (subtracted y) (part_of (Brace (Some x)) whole left)
