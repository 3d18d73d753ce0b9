use Rattle.std.specs.Prelude.{◌≡◌, ◌≤◌, drop, map}
use Rattle.std.specs.Cmp.Lexicographic.{slice_cmp}
use Rattle.std.specs.Option.{option_cmp}
use Rattle.setl_value.specs.code.Body.{Members}
use Rattle.setl_value.specs.Datum.{depth, set_of}
use Rattle.setl_value.specs.code.DatumOf.{part}
use Rattle.setl_value.specs.Order.{datum_cmp}
use Rattle.setl_value.proofs.+comparing.Given as goal

abbrev pub invariant-SetBody::compare-loop-v : goal.invariant-SetBody::compare-loop-v
invariant-SetBody::compare-loop-v l =
    (slice_cmp datum_cmp (Members l.self) (Members l.other) ≡ slice_cmp datum_cmp l.v-iterator l.others) × (depth (set_of l.v-iterator) ≤ depth (set_of (Members l.self)))

abbrev pub invariant-TupleBody::compare_lists-loop-i : goal.invariant-TupleBody::compare_lists-loop-i
invariant-TupleBody::compare_lists-loop-i l = slice_cmp (option_cmp datum_cmp) (map part l.parts) (map part l.others) ≡ slice_cmp (option_cmp datum_cmp) (map part (drop l.i l.parts)) (map part (drop l.i l.others))

abbrev pub invariant-TupleBody::compare_any-loop-i : goal.invariant-TupleBody::compare_any-loop-i
invariant-TupleBody::compare_any-loop-i l = slice_cmp (option_cmp datum_cmp) (map part l.parts) (map part l.others) ≡ slice_cmp (option_cmp datum_cmp) (map part (drop l.i l.parts)) (map part (drop l.i l.others))
