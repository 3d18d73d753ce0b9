use Rattle.std.proofs.Common.{◌≡◌, ◌-◌, map}
use Rattle.setl_image_codec.specs.Codec.{read_all}
use Rattle.setl_image_codec.proofs.Turns.{onto}
use Rattle.setl_image_codec.proofs.lists.read_items.Given as goal

abbrev pub invariant-loop-turn : goal.invariant-loop-turn
invariant-loop-turn g l = onto (map g.C.Coder.view l.items) (read_all (g.C.Coder.codec l.coder) (l.count - l._turn) l.rest) ≡ read_all (g.C.Coder.codec l.coder) l.count l.bytes
