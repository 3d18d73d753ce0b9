use Rattle.std.proofs.Common.{◌≡◌, ◌++◌, drop, map}
use Rattle.setl_code.specs.Listing.{steps_text}
use Rattle.setl_code.specs.Plain.{plain_step}
use Rattle.setl_code_listing.specs.Parts.{bodies_of, body_of, variables_of}
use Rattle.setl_code_listing.proofs.push_steps.Given as goal

abbrev pub invariant-loop-at : goal.invariant-loop-at
invariant-loop-at l = l.into.items ++ steps_text (bodies_of l.code) l.at (map (plain_step (variables_of l.code l.body)) (drop l.at l.steps)) ≡ l.fn.into.items ++ steps_text (bodies_of l.code) 0 (body_of l.code l.body).steps
