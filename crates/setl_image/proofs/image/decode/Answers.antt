use Rattle.std.proofs.Common.{rules}
use Rattle.setl_image.specs.Views.{image_of}
use Rattle.setl_image.proofs.Decoding.{ended, found_is_spelled, rest_is_bad}
use Rattle.setl_image.proofs.image.decode.Goals as goal

pub returns-then-not-is_empty-clause-bad : goal.returns-then-not-is_empty-clause-bad
returns-then-not-is_empty-clause-bad c = rest_is_bad c.images_are_exact.ensures.exact c.args.bytes.now (image_of c.in_ok-found.found) c.in_ok-found.rest.now c.in_ok-found.ensures (search rules)

pub returns-clause-spelled : goal.returns-clause-spelled
returns-clause-spelled c = found_is_spelled c.images_are_exact.ensures.exact c.args.bytes.now (image_of c.in_ok-found.found) c.in_ok-found.rest.now c.in_ok-found.ensures (search (rules, ended c.in_ok-found.rest.now))
