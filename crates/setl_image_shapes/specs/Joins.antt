-- Where paths meet: the strongest shape that two shapes serve.
use Rattle.std.specs.Prelude.{ℕ, ◌+◌, [], ◌∷◌, Option, Some, None}
use Rattle.setl_code.specs.Shapes.{Kind, AResult, ACollection, AnIterator, APairIterator, Shape}

abbrev pub joined_kind : Kind → Kind → Option Kind
joined_kind AResult AResult = Some AResult
joined_kind AResult ACollection = Some AResult
joined_kind ACollection AResult = Some AResult
joined_kind ACollection ACollection = Some ACollection
joined_kind AnIterator AnIterator = Some AnIterator
joined_kind APairIterator APairIterator = Some APairIterator
joined_kind k l = None

abbrev pub with_top : Option Kind → Option Shape → Option Shape
with_top None s = None
with_top (Some k) None = None
with_top (Some k) (Some s) = Some (k ∷ s)

-- the strongest shape that both serve, if there is one
abbrev pub joined : Shape → Shape → Option Shape
joined [] [] = Some []
joined (k ∷ ks) (l ∷ ls) = with_top (joined_kind k l) (joined ks ls)
joined ks ls = None

abbrev pub is_begun : Kind → ℕ
is_begun AResult = 0
is_begun ACollection = 1
is_begun AnIterator = 0
is_begun APairIterator = 0

-- how many collections a shape says
abbrev pub collections : Shape → ℕ
collections [] = 0
collections (k ∷ ks) = is_begun k + collections ks
