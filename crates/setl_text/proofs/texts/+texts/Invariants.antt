use Rattle.std.proofs.Common.{◌≡◌, ◌+◌, ◌*◌, ◌++◌, take, map}
use Rattle.setl_value.specs.code.Body.{Members}
use Rattle.setl_value.specs.Datum.{depth, set_of, tuple_of}
use Rattle.setl_value.specs.code.DatumOf.{datum}
use Rattle.setl_text.specs.Texts.{inner_text, spaced}
use Rattle.setl_text.specs.code.TextParts.{component_text}
use Rattle.setl_text.proofs.TextLists.{behind, AllLess}
use Rattle.setl_text.proofs.texts.+texts.Given as goal

abbrev pub decreases-push_inner : goal.decreases-push_inner
decreases-push_inner l = 4 * depth (datum l.v.now) + 3

abbrev pub decreases-push_set : goal.decreases-push_set
decreases-push_set l = 4 * depth (set_of (Members l.s.now)) + 2

abbrev pub decreases-push_members : goal.decreases-push_members
decreases-push_members l = 4 * depth (set_of (Members l.s.now)) + 1

abbrev pub decreases-push_tuple : goal.decreases-push_tuple
decreases-push_tuple l = 4 * depth (tuple_of l.t.now) + 2

abbrev pub decreases-push_parts : goal.decreases-push_parts
decreases-push_parts l = 4 * depth (tuple_of l.t.now) + 1

abbrev pub decreases-push_part : goal.decreases-push_part
decreases-push_part l = 4 * depth (tuple_of l.t.now)

abbrev pub invariant-push_members-members : goal.invariant-push_members-members
invariant-push_members-members l =
    (l.into.items ++ behind l.v-iterator ≡ l.fn.into.items ++ spaced (map inner_text (Members l.s))) × AllLess (depth (set_of (Members l.s))) l.v-iterator

abbrev pub invariant-push_parts-parts : goal.invariant-push_parts-parts
invariant-push_parts-parts l = l.into.items ≡ l.fn.into.items ++ spaced (map component_text (take l.i l.t))
