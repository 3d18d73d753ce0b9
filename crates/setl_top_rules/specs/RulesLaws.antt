-- Laws of first breaks.
use Rattle.std.proofs.Common.{◌≡◌, ◌∙◌, Bool, true, false, List, [], ◌∷◌, ◌++◌, fold, Option, None, Some, if◌then◌else◌, refl, sym}
use Rattle.std.proofs.lemmas.List.Sums.{fold-append}
use Rattle.setl_names.specs.Breaks.{precedes, earlier, first_break}
use Rattle.setl_names.specs.declared.broken.Break.{Break}

either_way : (bs : List Break) (a b : Break) (t : Bool) → (fold earlier (Some b) bs ≡ None → ⊥) → (fold earlier (Some a) bs ≡ None → ⊥) → fold earlier (if t then Some b else Some a) bs ≡ None → ⊥
either_way bs a b true h k e = h e
either_way bs a b false h k e = k e

still : (bs : List Break) (a : Break) → fold earlier (Some a) bs ≡ None → ⊥
still [] a h = absurd (cc)
still (b ∷ bs) a h = either_way bs a b (precedes b a) (still bs b) (still bs a) h

from_none : (x : Option Break) (bs : List Break) → fold earlier x bs ≡ None → x ≡ None
from_none None bs h = refl
from_none (Some a) bs h = absurd (still bs a h)

-- a front of breaks has no first one, where all have none
pub none_before : (bs cs : List Break) → first_break (bs ++ cs) ≡ None → first_break bs ≡ None
none_before bs cs h = from_none (first_break bs) cs (sym (fold-append earlier None bs cs) ∙ h)
