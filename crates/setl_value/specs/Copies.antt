-- Copies of a list, and places in it: the same for strings and tuples.
use Rattle.std.specs.Prelude.{ℕ, ℤ, pos, ◌+ℤ◌, Bool, ◌&&◌, List, int_le, replicate}
use Rattle.std.specs.List.{flat_map}

-- n copies of t, one after another
abbrev pub copies : {A : Type 0} → ℕ → List A → List A
copies n t = flat_map (λ copy. copy) (replicate n t)

-- 1 <= i <= j + 1 and j <= n: the places i to j, counted from 1, lie in a list of length n. Where i is j + 1 there are none
abbrev pub are_places : ℤ → ℤ → ℕ → Bool
are_places i j n = int_le (pos 1) i && int_le i (j +ℤ pos 1) && int_le j (pos n)
