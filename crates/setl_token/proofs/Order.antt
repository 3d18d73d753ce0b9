-- The tokens of a source stand in order within it.
use Rattle.std.proofs.Common.{◌≡◌, ℕ, zero, suc, ◌+◌, ◌-◌, ◌<◌, ◌≤◌, List, [], ◌∷◌, length, take, drop, Option, Some, Ok, subst, arith, length-drop}
use Rattle.std.specs.List.{slice_get}
use Rattle.setl_token.specs.declared.Token.{Token}
use Rattle.setl_token.specs.declared.pieces.PieceKind.{PieceKind}
use Rattle.setl_token.specs.declared.pieces.PieceKind.TheVariants as is
use Rattle.setl_token.specs.declared.pieces.Piece.{Piece}
use Rattle.setl_token.specs.Lex.{CutsInto, tokens_of, token_of, Spelled}
use Rattle.setl_token.specs.Form.{IsForm}
use Rattle.setl_token.specs.Text.{token_text, IsFormed}
use Rattle.std.proofs.lemmas.List.{drop-drop}
use Rattle.setl_token.proofs.Fits.{Fits, piece_fits}
use Rattle.setl_token.proofs.Longest.{of_longest}

-- from a place up to an end the tokens stand in order, each with a byte at least
abbrev pub InOrder : ℕ → ℕ → List Token → Type 0
InOrder at end [] = Unit {0}
InOrder at end (t ∷ ts) = (at ≤ t.from) × (t.from < t.to) × (t.to ≤ end) × InOrder t.to end ts

from_earlier : (at later end : ℕ) (ts : List Token) → at ≤ later → InOrder later end ts → InOrder at end ts
from_earlier at later end [] e h = tt
from_earlier at later end (t ∷ ts) e h = (omega arith, h.1, h.2, h.3)

in_order_of : (source : List ℕ) (at len : ℕ) (k : PieceKind) (others : List Token) → 0 < len → at + len ≤ length source → InOrder (at + len) (length source) others → InOrder at (length source) (token_of source at len k others)
in_order_of source at len (is.Token k) others some within h = (omega arith, omega arith, within, h)
in_order_of source at len is.Blank others some within h = from_earlier at (at + len) (length source) others (omega arith) h
in_order_of source at len is.Comment others some within h = from_earlier at (at + len) (length source) others (omega arith) h

in_order : (source z : List ℕ) (at : ℕ) (ps : List Piece) (rest : List ℕ) → CutsInto z ps rest → at + length z ≡ length source → InOrder at (length source) (tokens_of source at ps)
in_order source z at [] rest a e = tt
in_order source [] at (p ∷ ps) rest a e = absurd (omega (arith, a.0))
in_order source (b ∷ t) at (p ∷ ps) rest a e =
    let fits : Fits (b ∷ t) (Ok p) = subst (Fits (b ∷ t)) (of_longest (b ∷ t) p a.0 a.1) (piece_fits b t) in
    in_order_of source at p.len p.kind (tokens_of source (at + p.len) ps) fits.0 (omega (arith, fits.1))
    (in_order source (drop p.len (b ∷ t)) (at + p.len) ps rest a.2 (omega (arith, fits.1, length-drop p.len (b ∷ t))))

pub spelled_in_order : (source : List ℕ) (ts : List Token) → Spelled source ts → InOrder 0 (length source) ts
spelled_in_order source ts s = subst (InOrder 0 (length source)) s.among (in_order source source 0 s.pieces [] s.all (omega arith))

abbrev some_token : Token → Option Token
some_token t = Some t

token_is : (t u : Token) → some_token t ≡ some_token u → t ≡ u
token_is t u e = cc

at_in_order : (at end : ℕ) (ts : List Token) (i : ℕ) (t : Token) → InOrder at end ts → slice_get ts i ≡ Some t → (t.from < t.to) × (t.to ≤ end)
at_in_order at end [] zero t h e = absurd (cc)
at_in_order at end [] (suc i) t h e = absurd (cc)
at_in_order at end (u ∷ us) zero t h e = let f : u ≡ t = token_is u t e in (subst (λ (v : Token). v.from < v.to) f h.1, subst (λ (v : Token). v.to ≤ end) f h.2)
at_in_order at end (u ∷ us) (suc i) t h e = at_in_order u.to end us i t h.3 e

-- each token of a source lies within it
pub token_within : (source : List ℕ) (ts : List Token) → Spelled source ts → (i : ℕ) (t : Token) → slice_get ts i ≡ Some t → (t.from < t.to) × (t.to ≤ length source)
token_within source ts s i t e = at_in_order 0 (length source) ts i t (spelled_in_order source ts s) e

few : (at end : ℕ) (ts : List Token) → at ≤ end → InOrder at end ts → at + length ts ≤ end
few at end [] e h = omega arith
few at end (t ∷ ts) e h = omega (arith, few t.to end ts h.2 h.3)

-- a source has no more tokens than bytes
pub few_tokens : (source : List ℕ) (ts : List Token) → Spelled source ts → length ts ≤ length source
few_tokens source ts s = omega (arith, few 0 (length source) ts (omega arith) (spelled_in_order source ts s))

-- each token's bytes are of the form of its kind
abbrev pub EachFormed : List ℕ → List Token → Type 0
EachFormed source [] = Unit {0}
EachFormed source (t ∷ ts) = IsForm (is.Token t.kind) (token_text source t) (drop t.to source) × EachFormed source ts

formed_of : (source : List ℕ) (at len : ℕ) (k : PieceKind) (others : List Token) → IsForm k (take len (drop at source)) (drop len (drop at source)) → EachFormed source others → EachFormed source (token_of source at len k others)
formed_of source at len (is.Token k) others form h =
    let e : len ≡ at + len - at = omega arith in
    (subst (λ (y : List ℕ). IsForm (is.Token k) (take (at + len - at) (drop at source)) y) (drop-drop len at source) (subst (λ (n : ℕ). IsForm (is.Token k) (take n (drop at source)) (drop len (drop at source))) e form), h)
formed_of source at len is.Blank others form h = h
formed_of source at len is.Comment others form h = h

each_formed : (source : List ℕ) (at : ℕ) (ps : List Piece) (rest : List ℕ) → CutsInto (drop at source) ps rest → EachFormed source (tokens_of source at ps)
each_formed source at [] rest a = tt
each_formed source at (p ∷ ps) rest a =
    formed_of source at p.len p.kind (tokens_of source (at + p.len) ps) a.1.begins.1
    (each_formed source (at + p.len) ps rest (subst (λ (y : List ℕ). CutsInto y ps rest) (drop-drop p.len at source) a.2))

formed_at : (source : List ℕ) (ts : List Token) (i : ℕ) (t : Token) → EachFormed source ts → slice_get ts i ≡ Some t → IsForm (is.Token t.kind) (token_text source t) (drop t.to source)
formed_at source [] zero t h e = absurd (cc)
formed_at source [] (suc i) t h e = absurd (cc)
formed_at source (u ∷ us) zero t h e = subst (λ (v : Token). IsForm (is.Token v.kind) (token_text source v) (drop v.to source)) (token_is u t e) h.0
formed_at source (u ∷ us) (suc i) t h e = formed_at source us i t h.1 e

-- the bytes of a token of a source are of the form of its kind
pub token_formed : (source : List ℕ) (ts : List Token) → Spelled source ts → (i : ℕ) (t : Token) → slice_get ts i ≡ Some t → IsFormed source t
token_formed source ts s i t e = record { form = formed_at source ts i t (subst (EachFormed source) s.among (each_formed source 0 s.pieces [] s.all)) e }
