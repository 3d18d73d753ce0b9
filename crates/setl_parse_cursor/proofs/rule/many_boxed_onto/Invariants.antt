use Rattle.std.proofs.Common.{◌≡◌, ◌-◌}
use Rattle.setl_parse_reading.specs.code.Reading as r
use Rattle.setl_parse_cursor.specs.code.Behind.{many_onto}
use Rattle.setl_parse_cursor.proofs.rule.many_boxed_onto.Given as goal

abbrev pub invariant-loop-turn : goal.invariant-loop-turn
invariant-loop-turn g l =
    many_onto l.fn.items (g.R.Repeated.begins_with l.rule) (g.R.Rule.reader l.rule) l.fn.tokens
    ≡ r.many_from (g.R.Repeated.begins_with l.rule) (g.R.Rule.reader l.rule) (l._turn-end - l._turn) l.found l.tokens
