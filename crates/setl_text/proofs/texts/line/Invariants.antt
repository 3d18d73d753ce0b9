use Rattle.std.proofs.Common.{◌≡◌, take, map}
use Rattle.setl_value.specs.code.DatumOf.{part}
use Rattle.setl_text.specs.Texts.{argument_text, spaced}
use Rattle.setl_text.proofs.texts.line.Given as goal

abbrev pub invariant-arguments : goal.invariant-arguments
invariant-arguments l = l.into.items ≡ spaced (map argument_text (take l.i (map part l.vs)))
