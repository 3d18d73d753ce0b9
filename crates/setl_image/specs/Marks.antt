-- What stands behind the mark at the front of bytes.
use Rattle.std.specs.Prelude.{ℕ, List, [], ◌∷◌, Option, Some, None, nat_eq, if◌then◌else◌}

abbrev pub strip : (mark bytes : List ℕ) → Option (List ℕ)
strip [] bytes = Some bytes
strip (b ∷ mark) [] = None
strip (b ∷ mark) (x ∷ bytes) = if nat_eq b x then strip mark bytes else None
