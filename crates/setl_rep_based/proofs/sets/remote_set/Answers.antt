use Rattle.std.proofs.Common.{◌≡◌, ◌∷◌, sym, subst}
use Rattle.setl_value.specs.code.Body.{Members}
use Rattle.setl_value.specs.code.DatumOf.{datum}
use Rattle.setl_rep_based.proofs.Building.{IsBuilt, starts, steps, ends, rising_members}
use Rattle.setl_rep_based.proofs.sets.remote_set.Goals as goal

pub loop-v-init : goal.loop-v-init
loop-v-init c =
    let all : c.into_iter-v-iterator.result ≡ Members c.args.s.now = cc (c.members-v-items.ensures, c.into_iter-v-iterator.ensures.into_iter_gives) in
    subst (λ rest. IsBuilt c.args.base.now c.in_ok-bits.bits rest (Members c.args.s.now)) (sym all)
    (starts c.tests_are_exact.ensures.membership c.sets_have_their_members.ensures.members c.args.base.now c.in_ok-bits.bits (Members c.args.s.now) c.in_ok-bits.ensures c.requires)

pub loop-v-preserved : goal.loop-v-preserved
loop-v-preserved c =
    let all = Members c.args.s.now in
    let next : c.loop-v.v-iterator ≡ datum c.in-Some.v.now ∷ c.next.new.self = c.in-Some.ensures.steps in
    steps c.tests_are_exact.ensures.membership c.sets_have_their_members.ensures.members c.args.base.now c.loop-v.bits c.put.new.self c.handle.result (datum c.in-Some.v.now) c.next.new.self all
    c.in_ok-put.ensures.ok c.handle.ensures (subst (λ rest. IsBuilt c.args.base.now c.loop-v.bits rest all) next c.loop-v.invariant)

pub returns-clause-members : goal.returns-clause-members
returns-clause-members c =
    ends c.tests_are_exact.ensures.membership c.sets_have_their_members.ensures.members c.rising_lists_agree.ensures c.args.base.now c.loop-v.bits c.loop-v.v-iterator (Members c.args.s.now)
    c.in-None.ensures.steps.0 (rising_members (Members c.args.s.now) c.learn.ensures) c.loop-v.invariant
