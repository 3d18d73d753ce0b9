-- What is told of the kinds of tokens that can stand at a place.
use Rattle.std.specs.Prelude.{◌≡◌, ℕ, ◌^◌, nat_lt, MatchBool, List, [], ◌∷◌, ◌++◌, length, codes, flat_map}
use Rattle.setl_tree.specs.declared.kind.Kind.{Kind}
use Rattle.setl_explain_words.specs.Kinds.{kind_text}
use Rattle.setl_explain_next.specs.Next.{IsNext}

-- The first ten with which the source up to the place can go on; of a source of more than 2^20 bytes none is told.
abbrev pub AreTold : List ℕ → ℕ → List Kind → Type 0
AreTold source at kinds = MatchBool (nat_lt (2 ^ 20) (length source)) (kinds ≡ []) (IsNext source at kinds)

-- a kind behind a comma
unfoldable pub further_text : Kind → List ℕ
further_text kind = codes ", " ++ kind_text kind

-- the words before the kinds
unfoldable pub words_before : List ℕ
words_before = codes "Here can stand (at most ten are told): "

-- a line with the kinds; nothing where there are none
abbrev pub next_text : List Kind → List ℕ
next_text [] = []
next_text (k ∷ ks) = words_before ++ kind_text k ++ flat_map further_text ks ++ 10 ∷ []
