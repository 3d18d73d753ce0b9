use Rattle.std.proofs.Common.{◌≡◌, arith, sym, ◌∙◌, subst, ap, map, ◌+◌, ◌-◌, ◌%◌, ◌<◌, ◌^◌, ◌+ℤ◌, ◌++◌, ◌∷◌, [], to_z, of_z}
use Rattle.std.specs.Int.{int_wrap, w128}
use Rattle.std.proofs.lemmas.Int.{to_z-of_z, wrapping_add_onto}
use Rattle.std.proofs.lemmas.List.{map-append}
use Rattle.setl_value.specs.Datum.{int, elements_depth, elements_of}
use Rattle.setl_value.specs.code.DatumOf.{datum}
use Rattle.setl_operators_enumerations.proofs.Spreads.{IsOnWay, on_way_more, shallow_more}
use Rattle.setl_operators_enumerations.proofs.integers.integers.Goals as goal

pub loop-i-preserved : goal.loop-i-preserved
loop-i-preserved c =
    let a = to_z w128 (of_z w128 c.args.a) in
    let s = to_z w128 (of_z w128 c.args.step) in
    let z = to_z w128 c.loop-i.next-bits in
    let next = to_z w128 ((c.loop-i.next-bits + of_z w128 c.args.step) % 340282366920938463463374607431768211456) in
    let ds = map datum c.loop-i.values.items in
    let pushed : map datum c.push.new.self.items ≡ ds ++ int z ∷ [] = ap (map datum) c.in_ok-push.ensures.items ∙ map-append datum c.loop-i.values.items _ in
    let bits : c.loop-i.next-bits < 2 ^ 128 = omega arith in
    let e : next ≡ int_wrap w128 (z +ℤ s) = wrapping_add_onto w128 c.loop-i.next-bits c.args.step bits c.ranges.step ∙ ap (λ t. int_wrap w128 (z +ℤ t)) (sym (to_z-of_z w128 c.args.step c.ranges.step)) in
    record {
      on_way = subst (λ l. IsOnWay a s c.args.n l next (c.args.n - (c.loop-i.i + 1))) (sym pushed) (on_way_more a s c.args.n ds z next c.loop-i.i (omega arith) e c.loop-i.invariant.on_way);
      shallow = ap (λ l. elements_depth (elements_of l)) pushed ∙ shallow_more ds z c.loop-i.invariant.shallow;
    }
