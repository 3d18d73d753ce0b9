-- The first unknown base of modes behind modes.
use Rattle.std.proofs.Common.{◌≡◌, ◌∙◌, ℕ, ◌==◌, Bool, true, false, not, ◌&&◌, if◌then◌else◌, List, [], ◌∷◌, ◌++◌, Option, Some, None, refl, sym, ap}
use Rattle.setl_tree.specs.declared.mode.Attribute.{Attribute}
use Rattle.setl_tree.specs.declared.mode.Core.{Core}
use Rattle.setl_tree.specs.declared.mode.Core.TheVariants as co
use Rattle.setl_tree.specs.declared.mode.WrittenMode.{WrittenMode}
use Rattle.setl_names.specs.Names.{Name, has}
use Rattle.setl_names_walk.specs.Breaking.{either}
use Rattle.setl_modes_written.specs.Written.{Written, Simple, Element, Tuple, Set, Smap, Mmap, written, parts}
use Rattle.setl_modes_written.specs.code.Tests.{core_written}
use Rattle.setl_modes_declarations.specs.Breaking.{unknown_at}
use Rattle.setl_modes_declarations.proofs.Appends.{smap_written, mmap_written}

-- that of the first modes, or else that of the others
pub in_either : (line : ℕ) (bases : List Name) (xs ys : List Written) → unknown_at line bases (xs ++ ys) ≡ either (unknown_at line bases xs) (unknown_at line bases ys)
in_either line bases [] ys = refl
in_either line bases (Simple a ∷ xs) ys = in_either line bases xs ys
in_either line bases (Element a at b ∷ xs) ys = by (not (has bases b) && at == line) (in_either line bases xs ys)
  where
    by : (t : Bool) → unknown_at line bases (xs ++ ys) ≡ either (unknown_at line bases xs) (unknown_at line bases ys) →
        (if t then Some b else unknown_at line bases (xs ++ ys)) ≡ either (if t then Some b else unknown_at line bases xs) (unknown_at line bases ys)
    by true later = refl
    by false later = later
in_either line bases (Tuple a m ∷ xs) ys = in_either line bases xs ys
in_either line bases (Set a m ∷ xs) ys = in_either line bases xs ys
in_either line bases (Smap a d r ∷ xs) ys = in_either line bases xs ys
in_either line bases (Mmap a d r ∷ xs) ys = in_either line bases xs ys

-- that of a mode with two modes inside
pub in_smap : (line : ℕ) (bases : List Name) (x : Core) (d r : WrittenMode) (a : Option Attribute) → x ≡ co.Smap d r → unknown_at line bases (parts (core_written x a)) ≡ unknown_at line bases (parts (written d) ++ parts (written r))
in_smap line bases x d r a h = ap (λ (m : Written). unknown_at line bases (parts m)) (smap_written x d r a h)

pub in_mmap : (line : ℕ) (bases : List Name) (x : Core) (d r : WrittenMode) (a : Option Attribute) → x ≡ co.Mmap d r → unknown_at line bases (parts (core_written x a)) ≡ unknown_at line bases (parts (written d) ++ parts (written r))
in_mmap line bases x d r a h = ap (λ (m : Written). unknown_at line bases (parts m)) (mmap_written x d r a h)

-- The first unknown base of two modes, where the first has none, and where it has one. The code holds the same modes.
pub in_second : (line : ℕ) (bases : List Name) (d r d1 r1 : WrittenMode) (y whole : Option Name) → whole ≡ unknown_at line bases (parts (written d) ++ parts (written r)) → d1 ≡ d → r1 ≡ r →
    None ≡ unknown_at line bases (parts (written d1)) → y ≡ unknown_at line bases (parts (written r1)) → y ≡ whole
in_second line bases d r d1 r1 y whole is ed er none found =
    let at : WrittenMode → Option Name = λ m. unknown_at line bases (parts (written m)) in
    found
    ∙ ap at er
    ∙ ap (λ (z : Option Name). either z (at r)) (none ∙ ap at ed)
    ∙ sym (in_either line bases (parts (written d)) (parts (written r)))
    ∙ sym is

pub in_first : (line : ℕ) (bases : List Name) (d r d1 : WrittenMode) (x : Name) (whole : Option Name) → whole ≡ unknown_at line bases (parts (written d) ++ parts (written r)) → d1 ≡ d →
    Some x ≡ unknown_at line bases (parts (written d1)) → Some x ≡ whole
in_first line bases d r d1 x whole is ed found =
    let at : WrittenMode → Option Name = λ m. unknown_at line bases (parts (written m)) in
    ap (λ (z : Option Name). either z (at r)) (found ∙ ap at ed)
    ∙ sym (in_either line bases (parts (written d)) (parts (written r)))
    ∙ sym is
