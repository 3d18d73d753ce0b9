-- Images are less deep than their map.
use Rattle.std.proofs.Common.{ℕ, ◌≤◌, Bool, true, false, List, [], ◌∷◌, Option, None, Some, arith}
use Rattle.std.specs.List.{filter_map, cons_option}
use Rattle.std.specs.Bool.{if◌then◌else◌}
use Rattle.setl_value.specs.Datum.{Datum, bool, int, text, atom, tuple, set, no_part, om_then, part_then, elements_of, depth, elements_depth, part_depth}
use Rattle.setl_value.specs.Pairs.{pair_parts, first_of, second_of, is_datum, images, pairs_at}

abbrev second : Datum → Option Datum
second d = second_of (pair_parts d)

second_depth : (d : Datum) → part_depth (second d) ≤ depth d
second_depth (bool z) = omega arith
second_depth (int z) = omega arith
second_depth (text z) = omega arith
second_depth (atom z) = omega arith
second_depth (set ms) = omega arith
second_depth (tuple no_part) = omega arith
second_depth (tuple (om_then ps)) = omega arith
second_depth (tuple (part_then x no_part)) = omega arith
second_depth (tuple (part_then x (om_then ps))) = omega arith
second_depth (tuple (part_then x (part_then y no_part))) = omega arith
second_depth (tuple (part_then x (part_then y (om_then ps)))) = omega arith
second_depth (tuple (part_then x (part_then y (part_then z ps)))) = omega arith

one_more : (o : Option Datum) (l : List Datum) (n : ℕ) → part_depth o ≤ n → elements_depth (elements_of l) ≤ n → elements_depth (elements_of (cons_option o l)) ≤ n
one_more None l n h g = g
one_more (Some d) l n h g = omega (arith, h, g)

pub images_depth : (x : Datum) (f : List Datum) → elements_depth (elements_of (images x f)) ≤ elements_depth (elements_of f)
images_depth x [] = omega arith
images_depth x (d ∷ f) = by (is_datum x (first_of (pair_parts d))) (images_depth x f)
  where
    by : (t : Bool) → elements_depth (elements_of (images x f)) ≤ elements_depth (elements_of f) → elements_depth (elements_of (filter_map second (if t then d ∷ pairs_at x f else pairs_at x f))) ≤ elements_depth (elements_of (d ∷ f))
    by true h =
        let n : ℕ = elements_depth (elements_of (d ∷ f)) in
        one_more (second d) (images x f) n (omega (arith, second_depth d)) (omega (arith, h))
    by false h = omega (arith, h)
