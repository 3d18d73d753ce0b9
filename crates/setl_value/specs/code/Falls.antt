-- Each body in a body is less deep than it.
use Rattle.std.specs.Prelude.{◌≡◌, ℕ, ◌+◌, ◌*◌, ◌≤◌, List, [], ◌∷◌, ◌++◌, map, max, Option, Some, None}
use Rattle.std.proofs.Common.{arith}
use denote.Param.Weighed.{most}
use Rattle.std.specs.declared.rc.Rc.{Rc}
use Rattle.std.specs.declared.vec.Vec.{Vec}
use Rattle.std.specs.declared.alloc.Global.{Global}
use Rattle.setl_value.specs.declared.Value.{Value}
use Rattle.setl_value.specs.declared.Value.TheVariants.{Bool, Int, Text, Atom, Tuple, Set}
use Rattle.setl_value.specs.declared.Pages.TheDeep.{deep-Value}
use Rattle.setl_value_pages.specs.Pages.{joined}
use Rattle.setl_value.specs.Datum.{Datum, depth, elements_depth, elements_of, parts_depth, parts_of}
use Rattle.setl_value.specs.declared.Pages.TheShapes.{weighed-TupleBody-parts-at-1}
use Rattle.setl_value.specs.code.DatumOf.{datum, page, part}

pub one_falls : (v : Value) → deep-Value v ≤ 2 * depth (datum v) + 2
one_falls (Bool b) = omega arith
one_falls (Int z) = omega arith
one_falls (Text z) = omega arith
one_falls (Atom n) = omega arith
one_falls (Tuple ps) = omega arith
one_falls (Set ds) = omega arith

depth_append : (xs ys : List Datum) → elements_depth (elements_of (xs ++ ys)) ≡ max (elements_depth (elements_of xs)) (elements_depth (elements_of ys))
depth_append [] ys = omega arith
depth_append (x ∷ xs) ys = omega (arith, depth_append xs ys)

page_falls : (vs : List Value) → most deep-Value vs ≤ 2 * elements_depth (elements_of (map datum vs)) + 2
page_falls [] = omega arith
page_falls (v ∷ vs) = omega (arith, one_falls v, page_falls vs)

pub pages_fall : (ps : List (Rc (Vec Value Global) Global)) → most (λ p. most deep-Value p.value.items) ps ≤ 2 * elements_depth (elements_of (joined (map page ps))) + 2
pages_fall [] = omega arith
pages_fall (p ∷ ps) = omega (arith, page_falls p.value.items, pages_fall ps, depth_append (page p) (joined (map page ps)))

abbrev part_deep : Option Value → ℕ
part_deep o = weighed-TupleBody-parts-at-1.weight Value deep-Value o

pub parts_fall : (ps : List (Option Value)) → most part_deep ps ≤ 2 * parts_depth (parts_of (map part ps)) + 2
parts_fall [] = omega arith
parts_fall (None ∷ ps) = omega (arith, parts_fall ps)
parts_fall (Some v ∷ ps) = omega (arith, one_falls v, parts_fall ps)
