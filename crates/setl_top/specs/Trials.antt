-- The trial: a fixed program, and the input that is drawn for it.
use Rattle.std.specs.Prelude.{◌+◌, ◌*◌, ◌/◌, ◌%◌, ◌^◌, ℕ, zero, suc, List, [], ◌∷◌, ◌++◌, codes, decimal}

-- a text with these lines, each of which byte 10 ends
abbrev pub text_of : List (List ℕ) → List ℕ
text_of [] = []
text_of (line ∷ lines) = line ++ 10 ∷ text_of lines

-- ---- the program

-- The nodes that are reached from the first: `g` is a map in a local base whose images are sparse sets, and `seen` is a
-- remote set over the same base.
unfoldable pub trial_lines : List (List ℕ)
trial_lines =
    codes "program trial;"
    ∷ codes "repr"
    ∷ codes "base node: int;"
    ∷ codes "g: local mmap{elmt node} sparse set(elmt node);"
    ∷ codes "seen: remote set(elmt node);"
    ∷ codes "end repr;"
    ∷ codes "g := {}; seen := {}; todo := [1];"
    ∷ codes "read(e);"
    ∷ codes "(while e /= om) g{e(1)} with:= e(2); read(e); end while;"
    ∷ codes "(while todo /= [])"
    ∷ codes "x fromb todo;"
    ∷ codes "if x notin seen then"
    ∷ codes "seen with:= x;"
    ∷ codes "(for y in g{x}) todo with:= y; end for;"
    ∷ codes "end if;"
    ∷ codes "end while;"
    ∷ codes "print(#seen);"
    ∷ codes "end program;"
    ∷ []

unfoldable pub trial_source : List ℕ
unfolding trial_lines
trial_source = text_of trial_lines

-- ---- its input

-- the number that the generator has after this one
abbrev pub next_draw : ℕ → ℕ
next_draw x = (x * 6364136223846793005 + 1442695040888963407) % 2 ^ 64

-- the node that is drawn by it, from 1 to the number of nodes
abbrev pub drawn : ℕ → ℕ → ℕ
drawn nodes x = x / 2 ^ 33 % nodes + 1

-- a line of the input: an edge from one node to another
abbrev pub edge_line : ℕ → ℕ → List ℕ
edge_line u v = codes "[" ++ decimal u ++ codes " " ++ decimal v ++ codes "]"

-- so many lines, each of two draws, where the generator has this number before the first
abbrev pub edge_lines : ℕ → ℕ → ℕ → List (List ℕ)
edge_lines nodes zero x = []
edge_lines nodes (suc n) x =
    edge_line (drawn nodes (next_draw x)) (drawn nodes (next_draw (next_draw x)))
    ∷ edge_lines nodes n (next_draw (next_draw x))

-- the input of a trial: two lines for each node
abbrev pub trial_input : ℕ → ℕ → List ℕ
trial_input seed nodes = text_of (edge_lines nodes (2 * nodes) seed)

-- ---- its output

-- the line that a trial writes whose program printed this
abbrev pub trial_line : ℕ → ℕ → List ℕ → List ℕ
trial_line seed nodes printed =
    codes "trial " ++ decimal seed ++ codes " " ++ decimal nodes ++ codes ": " ++ printed
