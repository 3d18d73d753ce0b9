-- The lines that tell why a source is refused.
use Rattle.std.specs.Prelude.{ℕ, List, ◌++◌, codes, decimal}
use Rattle.setl_top_status.specs.declared.reason.Reason.{Reason}
use Rattle.setl_top_status.specs.declared.reason.Reason.TheVariants as reason

-- what stands at a place of the source, in bytes from 0
abbrev pub at_place : ℕ → List ℕ → List ℕ
at_place place what = codes "at " ++ decimal place ++ codes ": " ++ what

abbrev pub reason_line : Reason → List ℕ
reason_line reason.TooLong = codes "source too long"
reason_line (reason.Byte place) = at_place place (codes "byte")
reason_line (reason.OpenString place) = at_place place (codes "open string")
reason_line (reason.WideNumber place) = at_place place (codes "wide number")
reason_line (reason.Syntax place) = at_place place (codes "syntax")
reason_line (reason.Nesting place) = at_place place (codes "nesting")
reason_line (reason.Broken rule line) = codes "line " ++ decimal line ++ codes ": rule " ++ decimal rule
