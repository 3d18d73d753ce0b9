-- Names and lists of names.
use Rattle.std.specs.Prelude.{◌≡◌, ℕ, Bool, false, ◌||◌, List, [], ◌∷◌, ◌++◌, if◌then◌else◌, bytes_eq}
use Rattle.std.specs.List.{list_any}

abbrev pub Name : Type 0
Name = List ℕ

-- whether a name is among names
abbrev pub has : List Name → Name → Bool
has xs x = list_any (bytes_eq x) xs

-- the names, with one more at the end unless it is there
abbrev pub with_name : List Name → Name → List Name
with_name xs x = if has xs x then xs else xs ++ x ∷ []

-- the names, with those of the second list behind them that aren't there, in their order
abbrev pub with_names : List Name → List Name → List Name
with_names xs [] = xs
with_names xs (y ∷ ys) = with_names (with_name xs y) ys

-- names that begin with these
abbrev pub BeginsWith : List Name → List Name → Type 0
BeginsWith all xs = (ys : List Name) × (all ≡ xs ++ ys)

-- the names that stand in a list, in the order of their first appearance
abbrev pub in_order : List Name → List Name
in_order xs = with_names [] xs

-- whether a name of a list is among these or stands earlier in the list
abbrev pub repeats_after : List Name → List Name → Bool
repeats_after seen [] = false
repeats_after seen (x ∷ xs) = has seen x || repeats_after (with_name seen x) xs

-- whether a name stands twice in a list
abbrev pub has_repeat : List Name → Bool
has_repeat xs = repeats_after [] xs
