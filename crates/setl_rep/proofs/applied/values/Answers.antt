use Rattle.std.proofs.Common.{◌≡◌, ◌∙◌, ◌∷◌, [], List, length, refl, sym, subst, arith}
use Rattle.setl_rep_forms.specs.declared.held.Held.{Held}
use Rattle.setl_rep.proofs.Reading.{IsRead, starts, steps, ends}
use Rattle.setl_rep.proofs.applied.values.Goals as goal

nothing : (hs : List Held) → length hs ≡ 0 → hs ≡ []
nothing [] h = refl
nothing (x ∷ hs) h = absurd (omega arith)

pub loop-h-init : goal.loop-h-init
loop-h-init c =
    let all : c.into_iter-h-iterator.result.rest.items ≡ c.args.args.items = c.into_iter-h-iterator.ensures.into_iter_gives.0 in
    subst (λ vs. IsRead c.args.bases.now vs c.into_iter-h-iterator.result.rest.items c.args.args.items) (sym c.in_ok-values.ensures.items)
    (subst (λ rest. IsRead c.args.bases.now [] rest c.args.args.items) (sym all) (starts c.args.bases.now c.args.args.items c.requires))

pub value-requires : goal.value-requires
value-requires c =
    let next : c.loop-h.h-iterator.rest.items ≡ c.in-Some.h ∷ c.next.new.self.rest.items = c.in-Some.ensures.steps.0 in
    (subst (λ l. IsRead c.args.bases.now c.loop-h.values.items l c.args.args.items) next c.loop-h.invariant).over.0

pub loop-h-preserved : goal.loop-h-preserved
loop-h-preserved c =
    let next : c.loop-h.h-iterator.rest.items ≡ c.in-Some.h ∷ c.next.new.self.rest.items = c.in-Some.ensures.steps.0 in
    subst (λ vs. IsRead c.args.bases.now vs c.next.new.self.rest.items c.args.args.items) (sym c.in_ok-push.ensures.items)
    (steps c.args.bases.now c.loop-h.values.items c.in_ok-value.field-0 c.in-Some.h c.next.new.self.rest.items c.args.args.items c.in_ok-value.ensures
    (subst (λ l. IsRead c.args.bases.now c.loop-h.values.items l c.args.args.items) next c.loop-h.invariant))

pub returns : goal.returns
returns c =
    let none : c.loop-h.h-iterator.rest.items ≡ [] = nothing c.loop-h.h-iterator.rest.items (sym c.loop-h.h-iterator.rest.ok.0 ∙ c.in-None.ensures.steps.0) in
    ends c.args.bases.now c.loop-h.values.items c.args.args.items (subst (λ l. IsRead c.args.bases.now c.loop-h.values.items l c.args.args.items) none c.loop-h.invariant)
