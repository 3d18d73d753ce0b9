use Rattle.std.proofs.Common.{◌+◌, ◌-◌, ◌∙◌, List, ℕ, Option, Some, length, take, drop, sym, ap}
use Rattle.std.proofs.lemmas.List.{take_rest}
use Rattle.setl_debug_script.proofs.Parts.{by_parts}
use Rattle.setl_debug_script.proofs.reading.read_command.Goals as goal

pub returns-in-Some : goal.returns-in-Some
returns-in-Some c =
    let line = c.args.line.now in
    let at = c.in-Some.at in
    by_parts c.by_value.result line (take at line) (Some (take (length line - (at + 1)) (drop (at + 1) line)))
    (c.in-Some.ensures.some ∙ ap (λ (v : List ℕ). let p : List ℕ × Option (List ℕ) = (take at line, Some v) in p) (sym (take_rest line (at + 1)))) c.by_value.ensures
