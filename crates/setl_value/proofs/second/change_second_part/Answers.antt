use Rattle.std.proofs.Common.{ap, sym, ◌∙◌, arith}
use Rattle.std.proofs.lemmas.Option.{IfSome_then}
use Rattle.std.proofs.lemmas.Result.{IfOk-weaker}
use Rattle.setl_value.specs.Datum.{tuple_of}
use Rattle.setl_value.proofs.Changing.{none_then, second_set, second_there}
use Rattle.setl_value.proofs.second.change_second_part.Goals as goal

pub change_at-requires-clause-grows : goal.change_at-requires-clause-grows
change_at-requires-clause-grows g c = λ d there r e leaves.
    let pair = sym c.is_pair.ensures ∙ c.if-is_pair.true in
    let s = second_set c.args.t.now pair d e there in
    let grows = c.requires.grows s.0 d s.1 r e leaves in
    (grows.0, omega (arith, grows.1))

pub returns-then-is_pair-clause-changed : goal.returns-then-is_pair-clause-changed
returns-then-is_pair-clause-changed g c =
    let pair = sym c.is_pair.ensures ∙ c.if-is_pair.true in
    IfOk-weaker c.change_at.result _ _ (λ o h.
    IfSome_then o h (λ r m.
    let s = second_set c.args.t.now pair m.0 m.1 m.2 in
    record { first = s.0; old = m.0; new = m.1; was = s.1; left = m.3; is = ap tuple_of m.4 ∙ s.2 })) c.change_at.ensures.changed

pub returns-then-is_pair-clause-nothing : goal.returns-then-is_pair-clause-nothing
returns-then-is_pair-clause-nothing g c =
    let pair = sym c.is_pair.ensures ∙ c.if-is_pair.true in
    IfOk-weaker c.change_at.result _ _ (λ o h. none_then o (λ n. absurd (second_there c.args.t.now pair n)) h) c.change_at.ensures.nothing
