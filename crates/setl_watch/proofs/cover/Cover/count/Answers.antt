use Rattle.std.proofs.Common.{◌≡◌, ◌∙◌, ℕ, false, true, sym, ap, subst, slice_set, slice_index_or}
use Rattle.std.specs.List.{insert}
use Rattle.setl_watch.specs.Covers.{counted, has, place}
use Rattle.setl_watch.proofs.Counting.{counted_there, counted_new}
use Rattle.setl_watch.proofs.cover.Cover.count.Goals as goal

pub returns-then-not-has-clause-ok : goal.returns-then-not-has-clause-ok
returns-then-not-has-clause-ok c =
    let line = c.args.line in
    let cs = c.self.inside.counts.items in
    let at : c.place-at.result ≡ place line cs = c.place-at.ensures.place ∙ ap (place line) c.deref.ensures.value in
    let none : has line cs ≡ false = sym (ap (has line) c.deref-2.ensures.value) ∙ sym c.has.ensures.same ∙ c.if-not-has.true in
    (c.in_ok-insert.ensures).items ∙ ap (λ n. insert cs n (line, 1)) at ∙ counted_new line cs none ∙ ap (counted line) c.self.view_is

pub returns-clause-ok : goal.returns-clause-ok
returns-clause-ok c =
    let line = c.args.line in
    let cs = c.self.inside.counts.items in
    let at : c.place-at.result ≡ place line cs = c.place-at.ensures.place ∙ ap (place line) c.deref.ensures.value in
    let there : has line cs ≡ true = sym (ap (has line) c.deref-2.ensures.value) ∙ sym c.has.ensures.same ∙ c.if-not-has.false in
    let place_is : ℕ → ℕ × ℕ → Type 0 = λ n p. p ≡ slice_index_or cs n p in
    let sum = c.in-Some.ensures in
    ap (λ n. slice_set cs n (c.index_mut.result.now.0, c.in-Some.count)) at
    ∙ counted_there line cs c.index_mut.result.now c.index.result.now c.in-Some.count (subst (λ n. place_is n c.index_mut.result.now) at c.index_mut.ensures.value) (subst (λ n. place_is n c.index.result.now) at c.index.ensures) sum.1 there
    ∙ ap (counted line) c.self.view_is
