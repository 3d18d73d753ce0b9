use Rattle.std.proofs.Common.{◌≡◌, ◌++◌, ℕ, drop, map}
use Rattle.setl_value.specs.code.DatumOf.{part}
use Rattle.setl_program.specs.ProgramOf.{parameter_of}
use Rattle.setl_model.specs.Calls.{bindings}
use Rattle.setl_watch.specs.Notices.{noticed}
use Rattle.setl_watch.specs.code.NoticeOf.{notice_of}
use Rattle.setl_code_events.specs.Told.{stores_told}
use Rattle.setl_code_events.proofs.events.push_bindings.Given as goal

abbrev pub invariant-loop-parameter : goal.invariant-loop-parameter
invariant-loop-parameter l = (n : ℕ) → map notice_of l.events.items ++ map noticed (stores_told l.line (bindings n (map parameter_of (drop l.parameter-index l.parameters)) (map part l.values.rest.items))) ≡ map notice_of l.fn.events.items ++ map noticed (stores_told l.line (bindings n (map parameter_of l.parameters) (map part l.fn.values.items)))
