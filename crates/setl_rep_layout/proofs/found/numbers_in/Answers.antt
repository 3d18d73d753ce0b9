use Rattle.std.proofs.Common.{◌≡◌, ◌∷◌, subst, sym}
use Rattle.setl_value.specs.code.Body.{Members}
use Rattle.setl_value.specs.code.DatumOf.{datum}
use Rattle.setl_rep_layout.specs.Found.{key, keys, IsWith}
use Rattle.setl_rep_layout.proofs.Finding.{IsBuilt, starts, steps, ends}
use Rattle.setl_rep_layout.proofs.found.numbers_in.Goals as goal

pub loop-v-init : goal.loop-v-init
loop-v-init c =
    let all = keys c.args.first (Members c.args.s.now) in
    let is : c.into_iter-v-iterator.result ≡ Members c.args.s.now = cc (c.members-v-items.ensures, c.into_iter-v-iterator.ensures.into_iter_gives) in
    subst (λ l. IsBuilt c.args.base.now c.in_ok-numbers.numbers (keys c.args.first l) all) (sym is) (starts c.args.base.now c.in_ok-numbers.numbers all c.in_ok-numbers.ensures)

pub loop-v-preserved : goal.loop-v-preserved
loop-v-preserved c =
    let first = c.args.first in
    let all = keys first (Members c.args.s.now) in
    let next : c.loop-v.v-iterator ≡ datum c.in-Some.v.now ∷ c.next.new.self = c.in-Some.ensures.steps in
    steps c.args.base.now c.loop-v.numbers c.put.new.numbers (key first (datum c.in-Some.v.now)) (keys first c.next.new.self) all
    (subst (λ o. IsWith c.args.base.now o c.loop-v.numbers c.put.new.numbers) c.key.ensures c.in_ok-put.ensures)
    (subst (λ l. IsBuilt c.args.base.now c.loop-v.numbers (keys first l) all) next c.loop-v.invariant)

pub returns : goal.returns
returns c =
    let all = keys c.args.first (Members c.args.s.now) in
    ends c.args.base.now c.loop-v.numbers all (subst (λ l. IsBuilt c.args.base.now c.loop-v.numbers (keys c.args.first l) all) c.in-None.ensures.steps.0 c.loop-v.invariant)
