-- The depth of a set with one member more, and of the set of a list's data.
use Rattle.std.specs.Prelude.{◌≡◌, List, [], ◌∷◌, max, refl}
use Rattle.std.specs.declared.cmp.Ordering.{Ordering}
use Rattle.std.specs.declared.cmp.Ordering.TheVariants.{Less, Equal, Greater}
use Rattle.std.proofs.Common.{ap, arith}
use Rattle.setl_value.specs.Datum.{Datum, depth, elements_depth, elements_of}
use Rattle.setl_value.specs.Order.{datum_cmp}
use Rattle.setl_value.specs.OrderLaws.{same_datum}
use Rattle.setl_set.specs.Sets.{insert_datum, insert_by, set_from}

depth_insert_by : (o : Ordering) (d e : Datum) (es more : List Datum) → datum_cmp d e ≡ o → elements_depth (elements_of more) ≡ max (depth d) (elements_depth (elements_of es))
    → elements_depth (elements_of (insert_by o d e es more)) ≡ max (depth d) (elements_depth (elements_of (e ∷ es)))
depth_insert_by Less d e es more p h = refl
depth_insert_by Equal d e es more p h = omega (arith, ap depth (same_datum d e p))
depth_insert_by Greater d e es more p h = omega (arith, h)

pub depth_insert : (d : Datum) (ds : List Datum) → elements_depth (elements_of (insert_datum d ds)) ≡ max (depth d) (elements_depth (elements_of ds))
depth_insert d [] = refl
depth_insert d (e ∷ es) = depth_insert_by (datum_cmp d e) d e es (insert_datum d es) refl (depth_insert d es)

pub depth_set_from : (ds : List Datum) → elements_depth (elements_of (set_from ds)) ≡ elements_depth (elements_of ds)
depth_set_from [] = refl
depth_set_from (d ∷ ds) = omega (arith, depth_insert d (set_from ds), depth_set_from ds)
