use Rattle.std.proofs.Common.{◌≡◌, drop}
use Rattle.setl_image_codec.specs.Texts.{all_are, is_text_byte}
use Rattle.setl_image_codec.proofs.texts.is_text.Given as goal

abbrev pub invariant-loop-b : goal.invariant-loop-b
invariant-loop-b l = all_are is_text_byte (drop l.b-index l.bytes) ≡ all_are is_text_byte l.bytes
