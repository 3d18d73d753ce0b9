use Rattle.std.proofs.Common.{◌≡◌, ℕ, map, drop}
use Rattle.setl_code.specs.Plain.{plain_name}
use Rattle.setl_image_names.specs.Once.{variables_seen, are_new}
use Rattle.setl_image_names.proofs.differing.put_names.Given as goal

abbrev pub invariant-loop-name : goal.invariant-loop-name
invariant-loop-name l = (n : ℕ) → are_new (variables_seen n l.seen.keys) (map (plain_name n) (drop l.name-index l.names)) ≡ are_new (variables_seen n l.fn.seen.keys) (map (plain_name n) l.names)
