use Rattle.std.proofs.Common.{◌∙◌, ◌++◌, map, length, ap, sym}
use Rattle.std.proofs.lemmas.List.{append-nil}
use Rattle.setl_value.specs.code.DatumOf.{part}
use Rattle.setl_code.specs.Machine.{selected_by}
use Rattle.setl_code.specs.Plain.{plain_bracket}
use Rattle.setl_machine_updates.specs.Selectors.{selected}
use Rattle.setl_machine_variables.proofs.Altered.{one_selector_more, no_selector_more, none_left}
use Rattle.setl_machine_variables.proofs.altering.selectors.Goals as goal

pub loop-bracket-preserved : goal.loop-bracket-preserved
loop-bracket-preserved c =
    let before = c.loop-bracket.bracket-iterator in
    let after = c.next.new.self in
    let rest = selected_by (map plain_bracket after.a.rest.now) (map part after.b.rest.items) in
    c.loop-bracket.invariant
    ∙ one_selector_more c.loop-bracket.at.items c.selector.result c.in-Some.bracket.now c.in-Some.value before.a.rest.now after.a.rest.now before.b.rest.items after.b.rest.items c.in-Some.ensures.steps.0 c.in-Some.ensures.steps.1.0 c.selector.ensures
    ∙ sym (ap (λ done. map selected done ++ rest) c.in_ok-push.ensures.items)

pub returns : goal.returns
returns c =
    let left = c.loop-bracket.bracket-iterator in
    sym (c.loop-bracket.invariant ∙ ap (λ ss. map selected c.loop-bracket.at.items ++ ss) (no_selector_more left.a.rest.now left.b.rest.items (none_left (length left.a.rest.now) (length left.b.rest.items) left.b.rest.len c.in-None.ensures.steps left.b.rest.ok.0)) ∙ append-nil (map selected c.loop-bracket.at.items))
