-- The selections `f(x)`, `t(i)`, `f{x}`, `t(i..j)` and `t(i..)`. Places are counted from 1.
use Rattle.std.specs.Prelude.{ℕ, ℤ, pos, List, [], ◌∷◌, int_le, slice_get, length, Option, Result, Ok, Err, if◌then◌else◌}
use Rattle.std.specs.Option.{option_map}
use Rattle.setl_value.specs.Datum.{Datum, int, text, tuple, set, part_list, element_list}
use Rattle.setl_value.specs.Pairs.{images}
use Rattle.setl_scalar.specs.declared.ScalarFault.{ScalarFault}
use Rattle.setl_scalar.specs.Texts.{slice_of as slice_of_text}
use Rattle.setl_tuple.specs.declared.TupleFault.{TupleFault}
use Rattle.setl_tuple.specs.Tuples.{index_of, get_of, slice_of as slice_of_tuple}
use Rattle.setl_map.specs.Maps.{image}
use Rattle.setl_operators_table.specs.Outcome.{Outcome, Gives, Fails, KindFault, RangeFault, value, set_value, tuple_value}
use Rattle.setl_operators_table.specs.Collections.{on_map}

-- a component, which is `om` past the end; the only fault is a place below 1
abbrev pub component : Result (Option Datum) TupleFault → Outcome
component (Ok p) = Gives p 0
component (Err e) = Fails RangeFault

-- the string of the byte at place i, which is `om` past the end
abbrev pub letter : List ℕ → ℤ → Outcome
letter t i = if int_le (pos 1) i then Gives (option_map (λ b. text (b ∷ [])) (slice_get t (index_of i))) 0 else Fails RangeFault

abbrev pub get : Datum → Datum → Outcome
get (set ms) x = on_map (λ f. Gives (image x f) 0) (element_list ms)
get (tuple ps) (int i) = component (get_of (part_list ps) i)
get (text t) (int i) = letter t i
get d x = Fails KindFault

abbrev pub images_of : Datum → Datum → Outcome
images_of (set ms) x = on_map (λ f. set_value (images x f)) (element_list ms)
images_of d x = Fails KindFault

-- a part of a tuple, and of a string; the only fault is that the places don't lie in it
abbrev pub part_of_tuple : Result (List (Option Datum)) TupleFault → Outcome
part_of_tuple (Ok ps) = tuple_value ps
part_of_tuple (Err e) = Fails RangeFault

abbrev pub part_of_text : Result (List ℕ) ScalarFault → Outcome
part_of_text (Ok t) = value (text t)
part_of_text (Err e) = Fails RangeFault

abbrev pub slice : Datum → Datum → Datum → Outcome
slice (tuple ps) (int i) (int j) = part_of_tuple (slice_of_tuple (part_list ps) i j)
slice (text t) (int i) (int j) = part_of_text (slice_of_text t i j)
slice d i j = Fails KindFault

abbrev pub tail : Datum → Datum → Outcome
tail (tuple ps) i = slice (tuple ps) i (int (pos (length (part_list ps))))
tail (text t) i = slice (text t) i (int (pos (length t)))
tail d i = Fails KindFault
