use Rattle.std.proofs.Common.{◌≡◌, drop}
use Rattle.setl_image_codec.specs.Texts.{all_are, is_name_byte}
use Rattle.setl_image_codec.proofs.texts.are_name_bytes.Given as goal

abbrev pub invariant-loop-b : goal.invariant-loop-b
invariant-loop-b l = all_are is_name_byte (drop l.b-index l.bytes) ≡ all_are is_name_byte l.bytes
