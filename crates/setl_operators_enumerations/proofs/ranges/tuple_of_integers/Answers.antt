use Rattle.std.proofs.Common.{◌≡◌, arith, ap, sym, subst, ◌∙◌, map}
use Rattle.std.specs.Int.{w128}
use Rattle.std.proofs.lemmas.Int.{to_z-of_z}
use Rattle.setl_value.specs.Datum.{parts_depth, parts_of}
use Rattle.setl_value.specs.code.DatumOf.{datum, part}
use Rattle.setl_operators_table.specs.Ranges.{spread}
use Rattle.setl_operators_enumerations.specs.Integers.{AreWide}
use Rattle.setl_operators_enumerations.proofs.Outcomes.{depth_all, some_data, tuple_charged}
use Rattle.setl_operators_enumerations.proofs.ranges.tuple_of_integers.Goals as goal

pub of-requires : goal.of-requires
of-requires c =
    let e = ap (map part) c.in_ok-parts.ensures ∙ some_data c.in_ok-integers.field-0.items in
    record { shallow = omega (arith, ap (λ l. parts_depth (parts_of l)) e, depth_all (map datum c.in_ok-integers.field-0.items), c.in_ok-integers.ensures.shallow) }

pub returns : goal.returns
returns c =
    λ by s w.
    (let a = to_z-of_z w128 c.args.a c.ranges.a in
    let values = c.in_ok-integers.field-0.items in
    let is : map datum values ≡ spread c.args.a by c.args.n = c.in_ok-integers.ensures.spread by (to_z-of_z w128 c.args.step c.ranges.step ∙ s) (subst (λ x. AreWide x by c.args.n) (sym a) w) ∙ ap (λ x. spread x by c.args.n) a in
    tuple_charged c.args.n (spread c.args.a by c.args.n) (map datum values) (map part c.in_ok-parts.parts.items) c.in_ok-of.field-0 is (ap (map part) c.in_ok-parts.ensures ∙ some_data values) c.in_ok-of.ensures.trimmed)
