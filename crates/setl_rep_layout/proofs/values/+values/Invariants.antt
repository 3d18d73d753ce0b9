use Rattle.std.proofs.Common.{◌≡◌, ◌++◌, drop}
use Rattle.setl_modes.specs.Modes.{mode_of}
use Rattle.setl_value.specs.code.Body.{Members}
use Rattle.setl_rep_layout.specs.Texts.{after_blanks}
use Rattle.setl_rep_layout.specs.Values.{point_texts}
use Rattle.setl_rep_layout.proofs.values.+values.Given as goal

abbrev pub invariant-push_each_point-loop-n : goal.invariant-push_each_point-loop-n
invariant-push_each_point-loop-n l =
    let texts = point_texts l.bases (mode_of l.mode) (Members l.f) l.base in
    l.into.items ++ after_blanks (texts (drop l.n-index l.list)) ≡ l.initial.into.items ++ after_blanks (texts l.list)
