-- A `repr` section: the bases that are used, and the variables that are declared.
use Rattle.std.specs.Prelude.{◌≡◌, refl, ℕ, Bool, false, ◌||◌, cond, List, [], ◌∷◌, ◌++◌, codes}
use Rattle.std.specs.Fmt.{digits}
use Rattle.setl_advise_flows.specs.Flow.{Kind, Whole, Letters, Truth, Token, Flow, Scalar, Set, Tuple, Map, Any, is_kind}
use Rattle.setl_advise_flows.specs.Advice.{Bases, kind_mode, advised}
use Rattle.setl_advise_section.specs.Text.{base_text, line_text}

-- whether the base of a kind is named in the images of a map, and in its mode
abbrev pub is_scalar : Kind → Flow → Bool
is_scalar k (Scalar l) = is_kind k l
is_scalar k f = false

abbrev pub map_uses : Kind → Kind → Flow → Bool
map_uses k Truth g = false
map_uses k l g = is_kind k l || is_scalar k g

-- whether the mode that is advised for a flow names the base of a kind, which isn't that of booleans
abbrev pub uses : Kind → Flow → Bool
uses k (Set f) = is_scalar k f
uses k (Tuple f) = is_scalar k f
uses k (Map (Scalar l) g) = map_uses k l g
uses k f = false

-- variables by their names, with their flows
abbrev pub Variables : Type 0
Variables = List (List ℕ × Flow)

abbrev pub is_used : Kind → Variables → Bool
is_used k [] = false
is_used k (v ∷ vs) = uses k v.1 || is_used k vs

abbrev pub base_line : Bases → Kind → Variables → List ℕ
base_line b k vs = cond (is_used k vs) (base_text (b k) (kind_mode k)) []

abbrev pub lines_text : Bases → Variables → List ℕ
lines_text b [] = []
lines_text b (v ∷ vs) = line_text v.0 (advised b v.1) ++ lines_text b vs

-- the section that declares these variables
abbrev pub section_text : Bases → Variables → List ℕ
section_text b vs = codes "repr\n" ++ base_line b Whole vs ++ base_line b Letters vs ++ base_line b Token vs ++ lines_text b vs ++ codes "end repr;\n"

-- ---- worked rows
abbrev first : Bases
first k = 1

-- g := {[1,2],[2,3],[4,1]}, seen := {}, todo := [1], and integers taken from todo
reached : section_text first ((codes "g", Map (Scalar Whole) (Scalar Whole)) ∷ (codes "seen", Set (Scalar Whole)) ∷ (codes "todo", Tuple (Scalar Whole)) ∷ (codes "x", Scalar Whole) ∷ (codes "y", Scalar Whole) ∷ [])
    ≡ codes "repr\nbase b1: int;\ng: sparse mmap{elmt b1} sparse set(elmt b1);\nseen: remote set(elmt b1);\ntodo: tuple(elmt b1);\nx: int;\ny: int;\nend repr;\n"
unfolding digits
reached = refl

-- what is read can be any value
mixed : section_text first ((codes "x", Any) ∷ (codes "s", Set Any) ∷ (codes "t", Set (Scalar Letters)) ∷ [])
    ≡ codes "repr\nbase b1: string;\ns: set(general);\nt: remote set(elmt b1);\nend repr;\n"
unfolding digits
mixed = refl
