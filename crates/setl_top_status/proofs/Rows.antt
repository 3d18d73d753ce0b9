-- The worked lines, by computation.
use Rattle.std.proofs.Common.{◌≡◌, refl}
use Rattle.std.specs.Prelude.{codes}
use Rattle.std.specs.Fmt.{digits}
use Rattle.setl_model_runs.specs.Events.{Stopped, Wide, Unfit, Nothing}
use Rattle.setl_model_runs.specs.Variable.{Global}
use Rattle.setl_top_status.specs.Ends.{error_line}

pub wide_line : error_line (Stopped Wide 3) ≡ codes "line 3: wide\n"
unfolding digits
wide_line = refl

pub unfit_line : error_line (Stopped (Unfit (Global (codes "s"))) 14) ≡ codes "line 14: value does not fit s\n"
unfolding digits
unfit_line = refl

pub nothing_line : error_line (Stopped Nothing 2) ≡ codes "line 2: nothing to go back to\n"
unfolding digits
nothing_line = refl
