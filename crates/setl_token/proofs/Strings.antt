-- How a string is read on.
use Rattle.std.proofs.Common.{◌≡◌, ℕ, ◌+◌, ◌<◌, ◌==◌, if◌then◌else◌, List, [], ◌∷◌, length, get_or, drop, Some, None, refl, arith, ap, ◌∙◌}
use Rattle.std.proofs.lemmas.List.{at_drop_more, get_or-drop, drop-drop}
use Rattle.setl_token.specs.code.Pieces.{string_end}

-- one step, by the byte at the front and the one behind it, which is 0 where there is none
pub string_end_step : (at b : ℕ) (z : List ℕ) → string_end at (b ∷ z) ≡ (if b == 39 then (if get_or z 0 0 == 39 then string_end (at + 2) (drop 1 z) else Some (at + 1)) else (if b == 10 then None else string_end (at + 1) z))
string_end_step at b [] = grind arith
string_end_step at b (c ∷ z) = refl

pub string_end_more : (z : List ℕ) (at : ℕ) → at < length z → string_end at (drop at z) ≡ (if get_or z at 0 == 39 then (if get_or z (at + 1) 0 == 39 then string_end (at + 2) (drop (at + 2) z) else Some (at + 1)) else (if get_or z at 0 == 10 then None else string_end (at + 1) (drop (at + 1) z)))
string_end_more z at below =
    let behind : get_or (drop (at + 1) z) 0 0 ≡ get_or z (at + 1) 0 = grind (arith, get_or-drop) in
    let two : at + 1 + 1 ≡ at + 2 = omega arith in
    let next : drop 1 (drop (at + 1) z) ≡ drop (at + 2) z = drop-drop 1 (at + 1) z ∙ ap (λ (n : ℕ). drop n z) two in
    at_drop_more (string_end at) z at 0 below ∙ (rw (string_end_step, behind, next) refl)
