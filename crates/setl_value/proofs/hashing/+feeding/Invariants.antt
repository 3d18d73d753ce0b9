use Rattle.std.specs.Prelude.{map, ◌≡◌, ◌≤◌, drop, fold}
use Rattle.setl_value.specs.code.Body.{Members}
use Rattle.setl_value.specs.Datum.{depth, elements_of, parts_of, set_of}
use Rattle.setl_value.specs.code.HashInput.{elements_writes, parts_writes}
use Rattle.setl_value.specs.code.DatumOf.{part}
use Rattle.setl_value.proofs.hashing.+feeding.Given as goal

abbrev pub invariant-feed_members-loop-v : goal.invariant-feed_members-loop-v
invariant-feed_members-loop-v g l =
    (fold g.H.Hasher.write l.state (elements_writes (elements_of l.v-iterator)) ≡ fold g.H.Hasher.write l.initial.state (elements_writes (elements_of (Members l.s)))) × (depth (set_of l.v-iterator) ≤ depth (set_of (Members l.s)))

abbrev pub invariant-feed_parts-loop-p : goal.invariant-feed_parts-loop-p
invariant-feed_parts-loop-p g l = fold g.H.Hasher.write l.state (parts_writes (parts_of (map part (drop l.p-index l.parts)))) ≡ fold g.H.Hasher.write l.initial.state (parts_writes (parts_of (map part l.parts)))
