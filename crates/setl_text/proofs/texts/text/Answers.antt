use Rattle.std.proofs.Common.{◌++◌, ◌∙◌, ap}
use Rattle.setl_value.specs.code.DatumOf.{datum}
use Rattle.setl_text.specs.Texts.{inner_text}
use Rattle.setl_text.proofs.PlainTexts.{no_line_end}
use Rattle.setl_text.proofs.texts.text.Goals as goal

pub returns-clause-no_line_end : goal.returns-clause-no_line_end
returns-clause-no_line_end c =
    let d = datum c.args.v.now in
    no_line_end d c.push_inner.new.into.items c.learn.ensures (c.in_ok-push_inner.ensures ∙ ap (λ l. l ++ inner_text d) c.new-into.ensures.items)
