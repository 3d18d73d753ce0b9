-- The wholes after `f(x) := y`, `t(i) := y`, `f{x} := s` and `f{x} with:= y`.
use Rattle.std.specs.Prelude.{ℕ, ◌-◌, pos, List, [], ◌∷◌, length, int_le, Option, Some, None, if◌then◌else◌}
use Rattle.setl_value.specs.Datum.{Datum, int, tuple, set, part_list, element_list, set_of, tuple_of}
use Rattle.setl_value.specs.Pairs.{images}
use Rattle.setl_set.specs.Sets.{insert_datum}
use Rattle.setl_tuple.specs.Tuples.{index_of, put_of}
use Rattle.setl_map.specs.Maps.{put_image, put_images}
use Rattle.setl_operators_table.specs.Outcome.{Outcome, Fails, OmFault, KindFault, RangeFault, tuple_value, within_depth, charging}
use Rattle.setl_operators_table.specs.Collections.{on_map}

-- the tuple with y at index i, past its end only where y isn't `om`; each `om` put in between charges a turn
abbrev pub put_part : ℕ → ℕ → Option Datum → List (Option Datum) → Outcome
put_part left i None ps = tuple_value (put_of ps i None)
put_part left i (Some d) ps = charging (i - length ps) left (within_depth (tuple_of (put_of ps i (Some d))))

-- the whole after `f(x) := y` or `t(i) := y`, where y may be `om`
abbrev pub put_value : ℕ → Datum → Datum → Option Datum → Outcome
put_value left (set ms) x y = on_map (λ f. within_depth (set_of (put_image x y f))) (element_list ms)
put_value left (tuple ps) (int i) y = if int_le (pos 1) i then put_part left (index_of i) y (part_list ps) else Fails RangeFault
put_value left d x y = Fails KindFault

abbrev pub put : ℕ → List (Option Datum) → Outcome
put left (Some d ∷ Some x ∷ y ∷ []) = put_value left d x y
put left vs = Fails OmFault

-- the whole after `f{x} := s`
abbrev pub put_set : Datum → Datum → Datum → Outcome
put_set (set ms) x (set ys) = on_map (λ f. within_depth (set_of (put_images x (element_list ys) f))) (element_list ms)
put_set d x s = Fails KindFault

-- the whole after `f{x} with:= y`, where x has one image more
abbrev pub add_image : Datum → Datum → Datum → Outcome
add_image (set ms) x y = on_map (λ f. within_depth (set_of (put_images x (insert_datum y (images x f)) f))) (element_list ms)
add_image d x y = Fails KindFault
