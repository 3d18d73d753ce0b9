use Rattle.std.proofs.Common.{◌≡◌, ◌∷◌, refl, sym, subst}
use Rattle.setl_rep_entering.proofs.Undoing.{IsUndoing, undoes, mark_there, mark_within}
use Rattle.setl_rep_entering.proofs.enter.undo_all.Goals as goal

pub undo-requires-clause-there : goal.undo-requires-clause-there
undo-requires-clause-there c =
    let next : c.loop-m.m-iterator.rest.items ≡ c.in-Some.m ∷ c.next.new.self.rest.items = c.in-Some.ensures.steps.0 in
    let u = subst (λ l. IsUndoing c.args.bases.now c.loop-m.bases l c.args.marks.items) next c.loop-m.invariant in
    mark_there u.marks.0 c.loop-m.bases c.in-Some.m u.marks.1.0.0 u.marks.2

pub undo-requires-clause-within : goal.undo-requires-clause-within
undo-requires-clause-within c =
    let next : c.loop-m.m-iterator.rest.items ≡ c.in-Some.m ∷ c.next.new.self.rest.items = c.in-Some.ensures.steps.0 in
    let u = subst (λ l. IsUndoing c.args.bases.now c.loop-m.bases l c.args.marks.items) next c.loop-m.invariant in
    mark_within u.marks.0 c.loop-m.bases c.in-Some.m u.marks.1.0.1 u.marks.2

pub loop-m-preserved : goal.loop-m-preserved
loop-m-preserved c =
    let rest = c.next.new.self.rest.items in
    let next : c.loop-m.m-iterator.rest.items ≡ c.in-Some.m ∷ rest = c.in-Some.ensures.steps.0 in
    let u = subst (λ l. IsUndoing c.args.bases.now c.loop-m.bases l c.args.marks.items) next c.loop-m.invariant in
    subst (λ now. IsUndoing c.args.bases.now now rest c.args.marks.items) (sym c.undo.ensures)
    (undoes c.instances_are_read.ensures.put c.instances_are_read.ensures.names c.args.bases.now c.loop-m.bases c.in-Some.m rest c.args.marks.items u)

pub loop-m-init : goal.loop-m-init
loop-m-init c =
    let all : c.into_iter-m-iterator.result.rest.items ≡ c.args.marks.items = c.into_iter-m-iterator.ensures.into_iter_gives.0 in
    subst (λ l. IsUndoing c.args.bases.now c.args.bases.now l c.args.marks.items) (sym all) (record { same = refl; marks = c.requires })
