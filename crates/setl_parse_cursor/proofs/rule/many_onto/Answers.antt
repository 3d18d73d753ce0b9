use Rattle.std.proofs.Common.{◌≡◌, ◌-◌, length, ap, ◌∙◌, rules, arith}
use Rattle.std.proofs.lemmas.Grind.{common_steps}
use Rattle.setl_parse_reading.specs.code.Reading as r
use Rattle.setl_parse_cursor.proofs.Onto.{starts}
use Rattle.setl_parse_cursor.proofs.Turns.{one_more, no_more}
use Rattle.setl_parse_cursor.proofs.rule.many_onto.Goals as goal

pub loop-turn-init : goal.loop-turn-init
loop-turn-init g c =
    let begins = g.R.Repeated.begins_with c.args.rule.now in
    let part = g.R.Rule.reader c.args.rule.now in
    let toks = c.args.tokens.now in
    let all : length toks ≡ c.left-turn-end.result - 0 = omega arith in
    starts begins part c.args.items (length toks) toks ∙ ap (λ n. r.many_from begins part n c.args.items toks) all

pub returns-then-not-begins : goal.returns-then-not-begins
unfolding r.many_from
returns-then-not-begins g c =
    let e = one_more (λ n. r.many_from (g.R.Repeated.begins_with c.args.rule.now) (g.R.Rule.reader c.args.rule.now) n c.loop-turn.found c.loop-turn.tokens) _ c.loop-turn._turn c.loop-turn-test.true c.loop-turn.invariant in
    first_of (search rules, grind (arith, common_steps))

pub returns-in_err-found : goal.returns-in_err-found
unfolding r.many_from
returns-in_err-found g c =
    let e = one_more (λ n. r.many_from (g.R.Repeated.begins_with c.args.rule.now) (g.R.Rule.reader c.args.rule.now) n c.loop-turn.found c.loop-turn.tokens) _ c.loop-turn._turn c.loop-turn-test.true c.loop-turn.invariant in
    first_of (search rules, grind (arith, common_steps))

pub loop-turn-preserved : goal.loop-turn-preserved
unfolding r.many_from
loop-turn-preserved g c =
    let e = one_more (λ n. r.many_from (g.R.Repeated.begins_with c.args.rule.now) (g.R.Rule.reader c.args.rule.now) n c.loop-turn.found c.loop-turn.tokens) _ c.loop-turn._turn c.loop-turn-test.true c.loop-turn.invariant in
    first_of (search rules, grind (arith, common_steps))

pub returns : goal.returns
unfolding r.many_from
returns g c =
    let e = no_more (λ n. r.many_from (g.R.Repeated.begins_with c.args.rule.now) (g.R.Rule.reader c.args.rule.now) n c.loop-turn.found c.loop-turn.tokens) _ c.loop-turn._turn c.loop-turn-test.false c.loop-turn.invariant in
    first_of (search rules, grind (arith, common_steps))
