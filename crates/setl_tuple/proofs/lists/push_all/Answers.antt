use Rattle.std.proofs.Common.{◌∙◌, ◌++◌, ap, map}
use Rattle.std.proofs.lemmas.Result.{on_ok_weaker}
use Rattle.setl_value.specs.code.DatumOf.{part}
use Rattle.setl_tuple.proofs.Puts.{whole_part}
use Rattle.setl_tuple.proofs.lists.push_all.Goals as goal

pub returns : goal.returns
returns c =
    let whole = whole_part c.args.t.now c.len.result c.len.ensures in
    on_ok_weaker c.push_part.result (λ e. e ∙ ap (λ l. map part c.args.parts.now.items ++ l) whole) c.push_part.ensures
