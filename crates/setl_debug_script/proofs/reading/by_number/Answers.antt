use Rattle.setl_debug_script.proofs.Parts.{none_with_number, none_without_number}
use Rattle.setl_debug_script.proofs.reading.by_number.Goals as goal
use Rattle.setl_debug_script.proofs.reading.by_number.Goals.{else-is-4-via-then-is-4+then-n-ge1+else-n, else-is-4-via-then-is-4+else-n-ge1, else-is-4-via-else-is-4}
use Rattle.std.proofs.Common.{◌≡◌, ◌≤◌, ◌<◌, ◌^◌, codes, arith, rules}

pub returns-else-is-4 : goal.returns-else-is-4
returns-else-is-4 c =
    none_with_number c.args.word.now c.args.digits.now c.in_ok-n.n c.requires c.in_ok-n.ensures.number.0 c.in_ok-n.ensures.number.1 (search rules) (search rules) (search rules)
    (λ until low high. elim c.else-is-4.branch [
      | else-is-4-via-then-is-4+then-n-ge1+else-n w ↦ omega arith
      | else-is-4-via-then-is-4+else-n-ge1 w ↦ omega arith
      | else-is-4-via-else-is-4 w ↦ let u = until in search rules
    ])
