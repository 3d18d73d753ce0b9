-- `f{x} with:= y` and `f{x} less:= y`: the images are read, y is added to them or taken out, and they are put.
use Rattle.std.proofs.Common.{◌≡◌, ◌∙◌, ◌<◌, ap, sym, refl, ℕ, ◌-◌, ◌+◌, Bool, true, false, List, [], ◌∷◌, Option, Some, arith}
use Rattle.std.specs.Prelude.{nat_le}
use Rattle.std.specs.Bool.{if◌then◌else◌}
use Rattle.std.proofs.lemmas.Bool.Decides.{nat_tests}
use Rattle.setl_value.specs.Datum.{Datum, set, Elements, depth, set_of, elements_of, element_list, element_list-elements_of}
use Rattle.setl_value.specs.Pairs.{is_map, images}
use Rattle.setl_set.specs.Sets.{insert_datum, remove_datum}
use Rattle.setl_operators_table.specs.declared.Operator.TheVariants.{With, Less, PutImages}
use Rattle.setl_map.specs.Laws.{ImagesAreShallower}
use Rattle.setl_map.specs.Maps.{put_images}
use Rattle.setl_operators_table.specs.Outcome.{Outcome, Gives, Fails, Overspends, DeepFault, KindFault, adding, then_with, value, set_value, within_depth}
use Rattle.setl_operators_table.specs.Collections.{on_map, with_datum}
use Rattle.setl_operators_table.specs.Operators.{op_of}
use Rattle.setl_operators_table.specs.Puts.{add_image}
use Rattle.setl_model.specs.Core.{Brace}
use Rattle.setl_model.specs.Places.{combined}

no_charge : (o : Outcome) → adding 0 o ≡ o
no_charge (Gives v n) = ap (Gives v) {x = 0 + n} {y = n} (omega arith)
no_charge (Fails f) = refl
no_charge Overspends = refl

-- ---- these images are put

abbrev puts : Elements → Datum → Option Datum → ℕ → Outcome
puts ms x new later = op_of PutImages (Some (set ms) ∷ Some x ∷ new ∷ []) later

puts_images : (ms : Elements) (x : Datum) (ys : List Datum) (left : ℕ) → is_map (element_list ms) ≡ true
    → puts ms x (Some (set_of ys)) left ≡ within_depth (set_of (put_images x ys (element_list ms)))
puts_images ms x ys left h =
    ap (λ l. on_map (λ f. within_depth (set_of (put_images x l f))) (element_list ms)) (element_list-elements_of ys)
    ∙ ap (λ b. if b then within_depth (set_of (put_images x ys (element_list ms))) else Fails KindFault) h

-- by whether they are too deep
puts_shallow : ImagesAreShallower → (ms : Elements) (x : Datum) (ys : List Datum) (left : ℕ) → is_map (element_list ms) ≡ true → (b : Bool) → nat_le (depth (set_of ys)) 500 ≡ b
    → then_with (if b then value (set_of ys) else Fails DeepFault) left (puts ms x) ≡ within_depth (set_of (put_images x ys (element_list ms)))
puts_shallow law ms x ys left h true e = no_charge (puts ms x (Some (set_of ys)) (left - 0)) ∙ puts_images ms x ys (left - 0) h
puts_shallow law ms x ys left h false e =
    let d = set_of (put_images x ys (element_list ms)) in
    let less = law x ys (element_list ms) in
    let deep : nat_le (depth d) 500 ≡ false = grind (arith, nat_tests) in
    ap (λ b. if b then value d else Fails DeepFault) (sym deep)

-- ---- by whether there is a map

of_map : ImagesAreShallower → (ms : Elements) (x y : Datum) (left : ℕ) (b : Bool) → is_map (element_list ms) ≡ b
    → then_with (if b then set_value (images x (element_list ms)) else Fails KindFault) left (λ p now. then_with (op_of With (p ∷ Some y ∷ []) now) now (puts ms x))
    ≡ (if b then within_depth (set_of (put_images x (insert_datum y (images x (element_list ms))) (element_list ms))) else Fails KindFault)
of_map law ms x y left true h =
    let ys = images x (element_list ms) in
    let zs = insert_datum y ys in
    no_charge (then_with (with_datum (set_of ys) y) (left - 0) (puts ms x))
    ∙ ap (λ l. then_with (within_depth (set_of (insert_datum y l))) (left - 0) (puts ms x)) (element_list-elements_of ys)
    ∙ puts_shallow law ms x zs (left - 0) h (nat_le (depth (set_of zs)) 500) refl
of_map law ms x y left false h = refl

pub one_image_more : ImagesAreShallower → (d x y : Datum) (left : ℕ) → combined (Brace (Some x) ∷ []) (Some d) (λ p now. op_of With (p ∷ Some y ∷ []) now) left ≡ add_image d x y
one_image_more law (set ms) x y left = of_map law ms x y left (is_map (element_list ms)) refl
one_image_more law d x y left = refl

-- ---- one less

-- what gives a set of the images without a charge
pub puts_set : (f : Option Datum → ℕ → Outcome) (ms : Elements) (x : Datum) (zs : List Datum) (left : ℕ) → is_map (element_list ms) ≡ true
    → ((now : ℕ) → f (Some (set_of (images x (element_list ms)))) now ≡ set_value zs)
    → combined (Brace (Some x) ∷ []) (Some (set ms)) f left ≡ within_depth (set_of (put_images x zs (element_list ms)))
puts_set f ms x zs left h e =
    let ys = images x (element_list ms) in
    ap (λ b. then_with (if b then set_value ys else Fails KindFault) left (λ p now. then_with (f p now) now (puts ms x))) h
    ∙ no_charge (then_with (f (Some (set_of ys)) (left - 0)) (left - 0) (puts ms x))
    ∙ ap (λ o. then_with o (left - 0) (puts ms x)) (e (left - 0))
    ∙ no_charge (puts ms x (Some (set_of zs)) (left - 0 - 0))
    ∙ puts_images ms x zs (left - 0 - 0) h

puts_less : (ms : Elements) (x y : Datum) (left : ℕ) → is_map (element_list ms) ≡ true
    → combined (Brace (Some x) ∷ []) (Some (set ms)) (λ p now. op_of Less (p ∷ Some y ∷ []) now) left
    ≡ within_depth (set_of (put_images x (remove_datum y (images x (element_list ms))) (element_list ms)))
puts_less ms x y left h =
    let ys = images x (element_list ms) in
    puts_set (λ p now. op_of Less (p ∷ Some y ∷ []) now) ms x (remove_datum y ys) left h (λ now. ap (λ l. set_value (remove_datum y l)) (element_list-elements_of ys))

shallow : (d : Datum) → depth d < 501 → within_depth d ≡ value d
shallow d h =
    let small : nat_le (depth d) 500 ≡ true = grind (arith, nat_tests) in
    ap (λ b. if b then value d else Fails DeepFault) small

-- where the map without the pair of x and y is `left_over`
pub one_image_less : (f left_over : List Datum) (x y : Datum) (left : ℕ) → is_map f ≡ true → left_over ≡ put_images x (remove_datum y (images x f)) f → depth (set_of left_over) < 501
    → combined (Brace (Some x) ∷ []) (Some (set_of f)) (λ p now. op_of Less (p ∷ Some y ∷ []) now) left ≡ value (set_of left_over)
one_image_less f left_over x y left h e small =
    puts_less (elements_of f) x y left (ap is_map (element_list-elements_of f) ∙ h)
    ∙ ap (λ l. within_depth (set_of (put_images x (remove_datum y (images x l)) l))) (element_list-elements_of f)
    ∙ ap (λ l. within_depth (set_of l)) (sym e)
    ∙ shallow (set_of left_over) small
