-- What is told of the constructs that are open.
use Rattle.std.specs.Prelude.{ℕ, nat_lt, if◌then◌else◌, List, [], ◌∷◌, ◌++◌, length, codes, decimal, flat_map}
use Rattle.setl_explain_words.specs.Kinds.{kind_text}
use Rattle.setl_explain_open.specs.declared.reached.Opening.{Opening}

-- a construct, with the line of its first token
unfoldable pub opening_text : Opening → List ℕ
opening_text o = codes "    " ++ kind_text o.kind ++ codes " of line " ++ decimal o.line ++ 10 ∷ []

-- a line that says that so many constructs are open
unfoldable pub heading : ℕ → List ℕ
heading count = if nat_lt 0 count then codes "Still open at this place:\n" else []

-- a line for each construct, below that one
abbrev pub open_text : List Opening → List ℕ
open_text os = heading (length os) ++ flat_map opening_text os
