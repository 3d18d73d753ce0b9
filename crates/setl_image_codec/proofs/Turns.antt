-- Turns of a loop that reads a list.
use Rattle.std.proofs.Common.{◌≡◌, ℕ, zero, suc, ◌+◌, ◌-◌, ◌<◌, ◌≤◌, List, [], ◌∷◌, ◌++◌, map, Option, Some, None, refl, sym, ap, arith}
use Rattle.std.proofs.lemmas.List.{append_assoc, append-nil, map-append}
use Rattle.setl_image_codec.specs.Codec.{Codec, read_all, then_read}

-- what was read, behind what was found before
abbrev pub onto : {A : Type 0} → List A → Option (List A × List ℕ) → Option (List A × List ℕ)
onto found None = None
onto found (Some x) = Some (found ++ x.0, x.1)

pub onto_nothing : {A : Type 0} (r : Option (List A × List ℕ)) → onto [] r ≡ r
onto_nothing None = refl
onto_nothing (Some x) = refl

onto_one : {A : Type 0} (found : List A) (x : A) (r : Option (List A × List ℕ)) → onto found (then_read r (λ xs behind. Some (x ∷ xs, behind))) ≡ onto (found ++ x ∷ []) r
onto_one found x None = refl
onto_one found x (Some y) = ap (λ t. Some (t, y.1)) (sym (append_assoc found (x ∷ []) y.0))

one_left : (count at : ℕ) → at < count → count - at ≡ suc (count - (at + 1))
one_left count at more = omega (arith, more)

-- a value more
pub turn : {X A : Type 0} (view : X → A) (c : Codec A) (found : List X) (count at : ℕ) (rest behind : List ℕ) (x : X) → at < count → c.read rest ≡ Some (view x, behind) → onto (map view found) (read_all c (count - at) rest) ≡ onto (map view (found ++ x ∷ [])) (read_all c (count - (at + 1)) behind)
turn view c found count at rest behind x more is = rw (map-append view found (x ∷ [])) (rw (one_left count at more) (rw is (onto_one (map view found) (view x) (read_all c (count - (at + 1)) behind))))

-- a value that isn't there
pub no_turn : {A : Type 0} (c : Codec A) (found : List A) (count at : ℕ) (rest : List ℕ) → at < count → c.read rest ≡ None → onto found (read_all c (count - at) rest) ≡ None
no_turn c found count at rest more is = rw (one_left count at more) (rw is refl)

-- no value more
pub no_more : {A : Type 0} (c : Codec A) (found : List A) (count at : ℕ) (rest : List ℕ) → count ≤ at → onto found (read_all c (count - at) rest) ≡ Some (found, rest)
no_more c found count at rest none =
    let zeros : count - at ≡ zero = omega (arith, none) in
    rw zeros (ap (λ t. Some (t, rest)) (append-nil found))
