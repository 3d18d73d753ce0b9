use Rattle.std.proofs.Common.{◌∙◌, ap, sym, is_some}
use Rattle.setl_names.specs.ByName.{value_at}
use Rattle.setl_modes_declarations.proofs.Elements.{finds_present, finds_absent}
use Rattle.setl_modes_declarations.proofs.bases.put_number.Goals as goal

pub returns-then-contains_key : goal.returns-then-contains_key
returns-then-contains_key c bases m count finds =
    finds_present c.args.numbers.now c.args.name.now m
    (ap (λ z. is_some (value_at c.args.numbers.now z)) (sym c.bytes.ensures.value) ∙ sym c.contains_key.ensures ∙ c.if-contains_key.true) bases finds

pub returns : goal.returns
returns c bases m count finds =
    finds_absent c.args.numbers.now c.insert.new.self c.in_ok-key.key c.args.name.now c.args.number m
    (ap (λ z. is_some (value_at c.args.numbers.now z)) (sym c.bytes.ensures.value) ∙ sym c.contains_key.ensures ∙ c.if-contains_key.false)
    (c.in_ok-key.ensures.items ∙ c.bytes-2.ensures.value) c.in_ok-insert.ensures.entries bases count finds
