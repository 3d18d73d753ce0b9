-- Bytes cut into their pieces by computing.
use Rattle.std.proofs.Common.{◌≡◌, ◌<◌, ◌↔◌, ℕ, zero, suc, List, [], ◌∷◌, length, drop, Option, Some, None, option_map, Result, Ok, Err, refl, subst, arith}
use Rattle.setl_token.specs.declared.Cause.{Cause}
use Rattle.setl_token.specs.declared.pieces.Piece.{Piece}
use Rattle.setl_token.specs.Form.{IsLongest}
use Rattle.setl_token.specs.Lex.{CutsInto}
use Rattle.setl_token.specs.code.Pieces.{piece_at}

abbrev next : Result Piece Cause → List ℕ → (List ℕ → Option (List Piece)) → Option (List Piece)
next (Ok p) z go = option_map (λ ps. p ∷ ps) (go (drop p.len z))
next (Err cause) z go = None

-- the pieces of bytes, if there are at most so many
abbrev pub cut : ℕ → List ℕ → Option (List Piece)
cut n [] = Some []
cut zero (b ∷ z) = None
cut (suc n) (b ∷ z) = next (piece_at (b ∷ z)) (b ∷ z) (cut n)

abbrev pub Longest : Type 0
Longest = (z : List ℕ) (p : Piece) → 0 < length z → (piece_at z ≡ Ok p) ↔ IsLongest z p

behind : Longest → (n : ℕ) (b : ℕ) (z : List ℕ) (ps : List Piece) (p : Piece) → piece_at (b ∷ z) ≡ Ok p → (rest : Option (List Piece)) → ((qs : List Piece) → rest ≡ Some qs → CutsInto (drop p.len (b ∷ z)) qs []) → option_map (λ qs. p ∷ qs) rest ≡ Some ps → CutsInto (b ∷ z) ps []
behind longest n b z ps p e None r k = absurd (cc)
behind longest n b z ps p e (Some qs) r k =
    let same : p ∷ qs ≡ ps = cc in
    let some : 0 < length (b ∷ z) = omega arith in
    subst (λ rs. CutsInto (b ∷ z) rs []) same (some, (longest (b ∷ z) p some).0 e, r qs refl)

at_piece : Longest → (n : ℕ) (b : ℕ) (z : List ℕ) (ps : List Piece) (r : Result Piece Cause) → piece_at (b ∷ z) ≡ r → ((w : List ℕ) (qs : List Piece) → cut n w ≡ Some qs → CutsInto w qs []) → next r (b ∷ z) (cut n) ≡ Some ps → CutsInto (b ∷ z) ps []
at_piece longest n b z ps (Ok p) e h k = behind longest n b z ps p e (cut n (drop p.len (b ∷ z))) (λ qs. h (drop p.len (b ∷ z)) qs) k
at_piece longest n b z ps (Err cause) e h k = absurd (cc)

pub cut_is_exact : Longest → (n : ℕ) (z : List ℕ) (ps : List Piece) → cut n z ≡ Some ps → CutsInto z ps []
cut_is_exact longest n [] ps h = let e : [] ≡ ps = cc in subst (λ qs. CutsInto [] qs []) e refl
cut_is_exact longest zero (b ∷ z) ps h = absurd (cc)
cut_is_exact longest (suc n) (b ∷ z) ps h = at_piece longest n b z ps (piece_at (b ∷ z)) refl (cut_is_exact longest n) h
