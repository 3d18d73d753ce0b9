use Rattle.std.proofs.Common.{◌≡◌, [], ap, ◌∙◌, Some, slice_get, map, length}
use Rattle.std.proofs.lemmas.Option.{slice_get_read, slice_get-map}
use Rattle.std.specs.Option.{option_map}
use Rattle.setl_value.specs.code.DatumOf.{part}
use Rattle.setl_text.specs.Texts.{argument_text}
use Rattle.setl_text.proofs.TextLists.{spaced_more}
use Rattle.setl_text.proofs.texts.line.Goals as goal

pub arguments-preserved : goal.arguments-preserved
arguments-preserved c =
    let vs = c.args.vs.now in
    let i = c.arguments.i in
    let v = c.index-vs-i.result in
    let at : slice_get (map part vs) i ≡ Some (part v) = slice_get-map part vs i ∙ ap (option_map part) (slice_get_read vs (length vs) i v (λ _. length vs) c.arguments-test.true c.index-vs-i.is) in
    spaced_more argument_text (map part vs) [] c.arguments.into.items c.push_blank.new.into.items c.push_argument.new.into.items i (part v) at c.arguments.invariant c.in_ok-push_blank.ensures c.in_ok-push_argument.ensures
