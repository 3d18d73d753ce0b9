use Rattle.std.proofs.Common.{◌≡◌, ◌++◌, drop, map}
use Rattle.setl_program.specs.Expressions.{behind_of}
use Rattle.setl_program.specs.code.Plain.{plain_selector}
use Rattle.setl_program.specs.Statements as spec
use Rattle.setl_program_elaborate.specs.Elaborators.{made, past, does}
use Rattle.setl_program_elaborate.proofs.elaborator.Elaborator.selectors.Given as goal

abbrev pub invariant-loop-selector : goal.invariant-loop-selector
invariant-loop-selector l = (map plain_selector l.all ++ made (spec.selectors (map behind_of (drop l.selector-index l.selectors))) l.self, past (spec.selectors (map behind_of (drop l.selector-index l.selectors))) l.self) ≡ does (spec.selectors (map behind_of l.selectors)) l.initial.self
