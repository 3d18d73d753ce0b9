-- The one image of a point that a closure changed in place.
use Rattle.std.proofs.Common.{◌≡◌, ◌∙◌, ap, sym, subst, ℕ, ◌≤◌, true, List, Some}
use Rattle.std.specs.Borrow.{MutBor}
use Rattle.std.specs.Fn.{Once}
use Rattle.std.specs.Bool.{if◌then◌else◌}
use Rattle.setl_value.specs.declared.Value.{Value}
use Rattle.setl_value.specs.Datum.{Datum, depth, set_of, element_list-elements_of}
use Rattle.setl_value.specs.Pairs.{is_map}
use Rattle.setl_map.specs.code.Changing.{ChangesImage}
use Rattle.setl_map.specs.Maps.{image, put_image}
use Rattle.setl_operators_table.specs.Outcome.{Gives, Fails, KindFault, value, within_depth}
use Rattle.setl_operators_table.specs.OutcomeLaws.{shallow}
use Rattle.setl_operators_table.specs.Collections.{on_map}
use Rattle.setl_model.specs.Core.{Round}
use Rattle.setl_model.specs.Places.{part_of, with_part_at}
use Rattle.setl_machine_updates.specs.Changing.{ChangesPart}

image_is : (f : List Datum) (x d : Datum) (left : ℕ) → is_map f ≡ true → image x f ≡ Some d → part_of (Round (Some x)) (Some (set_of f)) left ≡ Gives (Some d) 0
image_is f x d left h i =
    ap (on_map (λ m. Gives (image x m) 0)) (element_list-elements_of f) ∙ ap (λ b. if b then Gives (image x f) 0 else Fails KindFault) h ∙ ap (λ o. Gives o 0) i

map_with : (f : List Datum) (x e : Datum) (left : ℕ) → is_map f ≡ true → depth (set_of (put_image x (Some e) f)) ≤ 500
    → with_part_at (Round (Some x)) (Some (set_of f)) (Some e) left ≡ value (set_of (put_image x (Some e) f))
map_with f x e left h s =
    let new = within_depth (set_of (put_image x (Some e) f)) in
    ap (on_map (λ m. within_depth (set_of (put_image x (Some e) m)))) (element_list-elements_of f) ∙ ap (λ b. if b then new else Fails KindFault) h ∙ shallow (set_of (put_image x (Some e) f)) s

-- the image is the part at the point
pub image_changed : {F R : Type 0} (g : Once F (MutBor Value × Unit {0}) (R × (MutBor Value × Unit {0}))) (change : F) (f now : List Datum) (x : Datum) (r : R) (IsSame : Type 0)
    → ChangesImage g change x f r now IsSame → depth (set_of now) ≤ 500 → ChangesPart g change x (set_of f) r (set_of now) IsSame
image_changed g change f now x r IsSame k s = record {
  old = k.old;
  new = k.new;
  there = λ left. image_is f x k.old left k.map k.there;
  left = k.left;
  written = λ left. map_with f x k.new left k.map (subst (λ l. depth (set_of l) ≤ 500) k.written s) ∙ ap (λ l. value (set_of l)) (sym k.written);
  same = k.same;
}
