use Rattle.std.proofs.Common.{◌≡◌, ◌-◌, ℕ, List, Option, arith, sym, ap, ◌∙◌, length, take, drop}
use Rattle.std.proofs.lemmas.List.{length-drop, take_all}
use Rattle.std.specs.Prelude.{map}
use Rattle.setl_value.specs.declared.Value.{Value}
use Rattle.std.specs.Option.{option_cmp}
use Rattle.std.specs.Cmp.Lexicographic.{slice_cmp}
use Rattle.setl_value.proofs.Lex.{lex_end}
use Rattle.setl_value.specs.code.Body.{Members}
use Rattle.setl_value.specs.code.DatumOf.{part}
use Rattle.setl_value.specs.Order.{datum_cmp}
use Rattle.setl_value.specs.OrderLaws.{elements_cmp_as_lists, parts_cmp_as_lists}
use Rattle.setl_value.proofs.+comparing.Goals as goal

pub Value::compare-returns-in-Tuple-Tuple : goal.Value::compare-returns-in-Tuple-Tuple
Value::compare-returns-in-Tuple-Tuple t c = rw (c.in-Tuple-Tuple.is-0, c.in-Tuple-Tuple.is-1) (c.compare.ensures ∙ sym (parts_cmp_as_lists c.in-Tuple-Tuple.a c.in-Tuple-Tuple.b))

pub Value::compare_any-returns-in-Tuple-Tuple : goal.Value::compare_any-returns-in-Tuple-Tuple
Value::compare_any-returns-in-Tuple-Tuple t c = rw (c.in-Tuple-Tuple.is-0, c.in-Tuple-Tuple.is-1) (c.compare.ensures ∙ sym (parts_cmp_as_lists c.in-Tuple-Tuple.a c.in-Tuple-Tuple.b))

pub Value::compare_any-returns-in-Set-Set : goal.Value::compare_any-returns-in-Set-Set
Value::compare_any-returns-in-Set-Set t c = rw (c.in-Set-Set.is-0, c.in-Set-Set.is-1) (c.compare-in-Set-Set.ensures ∙ sym (elements_cmp_as_lists (Members c.in-Set-Set.a) (Members c.in-Set-Set.b)))

pub TupleBody::compare_lists-returns : goal.TupleBody::compare_lists-returns
TupleBody::compare_lists-returns t c =
    let rest : (v : List (Option Value)) (s : ℕ) → take (length v - s) (drop s v) ≡ drop s v = λ v s. take_all (length v - s) (drop s v) (omega (arith, length-drop s v)) in
    let v = c.deref-2.result.now in
    let w = c.deref-4.result.now in
    let xs = take (length v - c.self.inside.start) (drop c.self.inside.start v) in
    let ys = take (length w - c.other.inside.start) (drop c.other.inside.start w) in
    c.cmp.ensures ∙ sym (lex_end part (option_cmp datum_cmp) xs ys c.loop-i.i (omega (arith, c.loop-i.auto.i-end, c.loop-i-test.false, c.min-shared.ensures)))
    ∙ sym c.loop-i.invariant
    ∙ (λ k. slice_cmp (option_cmp datum_cmp) ((ap (map part) (rest v c.self.inside.start ∙ ap (drop c.self.inside.start) (c.deref-2.ensures.value ∙ ap (λ v. v.items) c.deref.ensures)) ∙ c.self.view_is) k) ((ap (map part) (rest w c.other.inside.start ∙ ap (drop c.other.inside.start) (c.deref-4.ensures.value ∙ ap (λ v. v.items) c.deref-3.ensures)) ∙ c.other.view_is) k))

pub TupleBody::compare_any-returns : goal.TupleBody::compare_any-returns
TupleBody::compare_any-returns t c =
    let rest : (v : List (Option Value)) (s : ℕ) → take (length v - s) (drop s v) ≡ drop s v = λ v s. take_all (length v - s) (drop s v) (omega (arith, length-drop s v)) in
    let v = c.deref-2.result.now in
    let w = c.deref-4.result.now in
    let xs = take (length v - c.self.inside.start) (drop c.self.inside.start v) in
    let ys = take (length w - c.other.inside.start) (drop c.other.inside.start w) in
    c.cmp.ensures ∙ sym (lex_end part (option_cmp datum_cmp) xs ys c.loop-i.i (omega (arith, c.loop-i.auto.i-end, c.loop-i-test.false, c.min-shared.ensures)))
    ∙ sym c.loop-i.invariant
    ∙ (λ k. slice_cmp (option_cmp datum_cmp) ((ap (map part) (rest v c.self.inside.start ∙ ap (drop c.self.inside.start) (c.deref-2.ensures.value ∙ ap (λ v. v.items) c.deref.ensures)) ∙ c.self.view_is) k) ((ap (map part) (rest w c.other.inside.start ∙ ap (drop c.other.inside.start) (c.deref-4.ensures.value ∙ ap (λ v. v.items) c.deref-3.ensures)) ∙ c.other.view_is) k))
