use Rattle.std.proofs.Common.{◌≡◌, ◌++◌, drop, map}
use Rattle.setl_model_runs.specs.Variable.{Global}
use Rattle.setl_code.specs.Listing.{listing, procedures_text}
use Rattle.setl_code.specs.Plain.{plain_bodies, plain_code}
use Rattle.setl_code_listing.specs.Parts.{bodies_of}
use Rattle.setl_code_listing.proofs.push_bodies.Given as goal

abbrev pub invariant-loop-n : goal.invariant-loop-n
invariant-loop-n l = l.into.items ++ procedures_text (bodies_of l.code) (plain_bodies (map Global l.code.vars) l.n (drop l.n l.bodies)) ≡ l.fn.into.items ++ listing (plain_code l.code)
