-- What `with` and `+` make of a value is at least as deep as it.
use Rattle.std.specs.Prelude.{◌≡◌, ℕ, ℤ, ◌+◌, Bool, true, false, List, [], ◌∷◌, ◌++◌, Option, Some, None, Result, Ok, Err, max, nat_le, if◌then◌else◌}
use Rattle.std.specs.Option.{unwrap_or}
use Rattle.std.proofs.Common.{ap, sym, arith}
use Rattle.setl_value.specs.Datum.{Datum, int, text, tuple, set, Parts, Elements, depth, elements_depth, elements_of, element_list, elements_of-element_list, parts_depth, parts_of, part_list, parts_of-part_list, set_of, tuple_of}
use Rattle.setl_scalar.specs.declared.ScalarFault.{ScalarFault}
use Rattle.setl_scalar.specs.declared.ScalarFault.TheVariants.{Wide, Zero, Range, NoMemory}
use Rattle.setl_scalar.specs.Integers.{add_of}
use Rattle.setl_set.specs.Sets.{insert_datum, union_of}
use Rattle.setl_tuple.specs.Tuples.{with_of}
use Rattle.setl_map.specs.DepthLaws.{depth_insert, depth_set_from}
use Rattle.setl_operators_table.specs.Laws.{WithGrows, PlusGrows}
use Rattle.setl_operators_table.specs.Numbers.{whole}
use Rattle.setl_operators_table.specs.Outcome.{Outcome, Gives, Fails, Overspends, DeepFault, value}

abbrev given : Outcome → Option Datum
given (Gives v n) = v
given (Fails f) = None
given Overspends = None

same_value : (d e : Datum) (n : ℕ) → value d ≡ Gives (Some e) n → d ≡ e
same_value d e n h = ap (λ o. unwrap_or (given o) d) h

same_within : (d e : Datum) (n : ℕ) (b : Bool) → (if b then value d else Fails DeepFault) ≡ Gives (Some e) n → d ≡ e
same_within d e n true h = same_value d e n h
same_within d e n false h = absurd cc

elements_append : (xs ys : List Datum) → elements_depth (elements_of (xs ++ ys)) ≡ max (elements_depth (elements_of xs)) (elements_depth (elements_of ys))
elements_append [] ys = omega arith
elements_append (x ∷ xs) ys = omega (arith, elements_append xs ys)

parts_append : (xs ys : List (Option Datum)) → parts_depth (parts_of (xs ++ ys)) ≡ max (parts_depth (parts_of xs)) (parts_depth (parts_of ys))
parts_append [] ys = omega arith
parts_append (None ∷ xs) ys = parts_append xs ys
parts_append (Some d ∷ xs) ys = omega (arith, parts_append xs ys)

elements_back : (ms : Elements) → elements_depth (elements_of (element_list ms)) ≡ elements_depth ms
elements_back ms = ap elements_depth (elements_of-element_list ms)

parts_back : (ps : Parts) → parts_depth (parts_of (part_list ps)) ≡ parts_depth ps
parts_back ps = ap parts_depth (parts_of-part_list ps)

pub with_grows : WithGrows
with_grows (set ms) y e n h =
    let is = same_within (set_of (insert_datum y (element_list ms))) e n (nat_le (depth (set_of (insert_datum y (element_list ms)))) 500) h in
    let size : depth e ≡ 1 + max (depth y) (elements_depth ms) = omega (arith, ap depth is, depth_insert y (element_list ms), elements_back ms) in
    (omega (arith, size), omega (arith, size))
with_grows (tuple ps) y e n h =
    let is = same_within (tuple_of (with_of (part_list ps) y)) e n (nat_le (depth (tuple_of (with_of (part_list ps) y))) 500) h in
    let size : depth e ≡ 1 + max (parts_depth ps) (depth y) = omega (arith, ap depth is, parts_append (part_list ps) (Some y ∷ []), parts_back ps) in
    (omega (arith, size), omega (arith, size))
with_grows d y e n h = absurd cc

whole_flat : (r : Result ℤ ScalarFault) (e : Datum) (n : ℕ) → whole r ≡ Gives (Some e) n → depth e ≡ 0
whole_flat (Ok z) e n h = sym (ap depth (same_value (int z) e n h))
whole_flat (Err Zero) e n h = absurd cc
whole_flat (Err Range) e n h = absurd cc
whole_flat (Err Wide) e n h = absurd cc
whole_flat (Err NoMemory) e n h = absurd cc

pub plus_grows : PlusGrows
plus_grows (int a) (int b) e n h = let flat = whole_flat (add_of a b) e n h in (omega (arith, flat), omega (arith, flat))
plus_grows (set a) (set b) e n h =
    let xs = element_list a in
    let ys = element_list b in
    let is = same_value (set_of (union_of xs ys)) e n h in
    let size : depth e ≡ 1 + max (elements_depth a) (elements_depth b) = omega (arith, ap depth is, depth_set_from (xs ++ ys), elements_append xs ys, elements_back a, elements_back b) in
    (omega (arith, size), omega (arith, size))
plus_grows (tuple a) (tuple b) e n h =
    let is = same_value (tuple_of (part_list a ++ part_list b)) e n h in
    let size : depth e ≡ 1 + max (parts_depth a) (parts_depth b) = omega (arith, ap depth is, parts_append (part_list a) (part_list b), parts_back a, parts_back b) in
    (omega (arith, size), omega (arith, size))
plus_grows (text a) (text b) e n h =
    let is = same_value (text (a ++ b)) e n h in
    let size : depth e ≡ 0 = sym (ap depth is) in
    (omega (arith, size), omega (arith, size))
plus_grows d y e n h = absurd cc
