-- The texts of values.
use Rattle.std.specs.Prelude.{ℕ, true, false, List, [], ◌∷◌, ◌++◌, map, cond, nat_eq, codes, decimal, Option, Some, None}
use Rattle.std.specs.Fmt.{signed_decimal}
use Rattle.setl_value.specs.Datum.{Datum, bool, int, text, atom, tuple, set, Parts, no_part, om_then, part_then, Elements, no_element, element_then}

-- a string with each apostrophe doubled
abbrev pub doubled : List ℕ → List ℕ
doubled [] = []
doubled (b ∷ bs) = cond (nat_eq b 39) (39 ∷ 39 ∷ doubled bs) (b ∷ doubled bs)

-- texts with one blank between two
abbrev pub spaced : List (List ℕ) → List ℕ
spaced [] = []
spaced (t ∷ []) = t
spaced (t ∷ u ∷ ts) = t ++ 32 ∷ spaced (u ∷ ts)

-- the text between an opening and a closing byte
abbrev pub enclosed : ℕ → List ℕ → ℕ → List ℕ
enclosed first t last = first ∷ t ++ last ∷ []

-- the text of a value inside another one
abbrev mutual
  pub inner_text : Datum → List ℕ
  inner_text (bool true) = codes "true"
  inner_text (bool false) = codes "false"
  inner_text (int n) = signed_decimal n
  inner_text (text t) = enclosed 39 (doubled t) 39
  inner_text (atom n) = 35 ∷ decimal n
  inner_text (tuple ps) = enclosed 91 (spaced (part_texts ps)) 93
  inner_text (set ms) = enclosed 123 (spaced (element_texts ms)) 125

  -- the texts of a tuple's components, of which `om` is `*`
  pub part_texts : Parts → List (List ℕ)
  part_texts no_part = []
  part_texts (om_then ps) = (42 ∷ []) ∷ part_texts ps
  part_texts (part_then d ps) = inner_text d ∷ part_texts ps

  -- the texts of a set's members
  pub element_texts : Elements → List (List ℕ)
  element_texts no_element = []
  element_texts (element_then d ms) = inner_text d ∷ element_texts ms

-- the text of a value as a whole argument of `print`, and of `str`: a string stands as it is
abbrev pub whole_text : Datum → List ℕ
whole_text (text t) = t
whole_text d = inner_text d

-- the text of an argument of `print`
abbrev pub argument_text : Option Datum → List ℕ
argument_text None = 42 ∷ []
argument_text (Some d) = whole_text d

-- the line that `print` writes
abbrev pub print_line : List (Option Datum) → List ℕ
print_line vs = spaced (map argument_text vs) ++ 10 ∷ []
