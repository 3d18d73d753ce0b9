-- Whether two flows are one.
use Rattle.std.specs.Prelude.{Bool, true, false, ◌&&◌}
use Rattle.setl_advise_flows.specs.Flow.{Flow, Nothing, Scalar, Set, Tuple, Map, Any, is_kind}

abbrev pub is_flow : Flow → Flow → Bool
is_flow Nothing Nothing = true
is_flow (Scalar k) (Scalar l) = is_kind k l
is_flow (Set f) (Set g) = is_flow f g
is_flow (Tuple f) (Tuple g) = is_flow f g
is_flow (Map f g) (Map h k) = is_flow f h && is_flow g k
is_flow Any Any = true
is_flow a b = false
