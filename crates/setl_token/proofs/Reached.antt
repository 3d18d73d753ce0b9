-- Pieces one after another.
use Rattle.std.proofs.Common.{◌≡◌, ◌⊎◌, inl, inr, ⊎_elim, ℕ, zero, suc, ◌+◌, ◌<◌, ◌≤◌, ◌==◌, List, [], ◌∷◌, ◌++◌, length, take, drop, count_by, cond, Result, Ok, Err, refl, sym, ap, subst, ◌∙◌, arith, length-drop}
use Rattle.std.proofs.lemmas.List.{append-nil, drop-drop, nil_from_length}
use Rattle.std.proofs.Math.Seq.{take-add}
use Rattle.std.proofs.lemmas.List.Sums.{sum_by-append}
use Rattle.setl_token.specs.declared.Token.{Token}
use Rattle.setl_token.specs.declared.TokenKind.{TokenKind}
use Rattle.setl_token.specs.declared.Cause.{Cause}
use Rattle.setl_token.specs.declared.Cause.TheVariants as cause
use Rattle.setl_token.specs.declared.pieces.PieceKind.{PieceKind}
use Rattle.setl_token.specs.declared.pieces.PieceKind.TheVariants as is
use Rattle.setl_token.specs.declared.pieces.Piece.{Piece}
use Rattle.setl_token.specs.Form.{IsLongest, IsCause}
use Rattle.setl_token.specs.Lex.{CutsInto, tokens_of, token_of, line_at, Spelled, LexFails, Tells, fault_of}
use Rattle.setl_token.proofs.Longest.{bare, longest_of, one_cause, one_piece, piece_some, stands_of}
use Rattle.setl_token.specs.code.Pieces.{piece_at}
use Rattle.std.proofs.lemmas.Bool.{cases_lt}

abbrev pub width : List Piece → ℕ
width [] = 0
width (p ∷ ps) = p.len + width ps

-- pieces up to a place, and the tokens among them
pub record Found (source : List ℕ) (at : ℕ) (tokens : List Token) : Type 0 where
  pub pieces : List Piece
  pub before : CutsInto source pieces (drop at source)
  pub place : width pieces ≡ at
  pub among : tokens_of source 0 pieces ≡ tokens

pub reaches_push : (z : List ℕ) (ps : List Piece) (rest : List ℕ) (p : Piece) → CutsInto z ps rest → 0 < length rest → IsLongest rest p → CutsInto z (ps ++ p ∷ []) (drop p.len rest)
reaches_push z [] rest p before some next = subst (λ (y : List ℕ). (0 < length y) × IsLongest y p × (drop p.len y ≡ drop p.len rest)) (sym before) (some, next, refl)
reaches_push z (q ∷ qs) rest p before some next = (before.0, before.1, reaches_push (drop q.len z) qs rest p before.2 some next)

-- where a cause stands no piece begins
not_both : (z y : List ℕ) (c : Cause) (p : Piece) → z ≡ y → IsCause c y → IsLongest z p → ⊥
not_both z y c p e stands longest = bare c z (subst (IsCause c) (sym e) stands) p.kind p.len longest.begins

-- the pieces from a place are determined
same_pieces : (z : List ℕ) (ps qs : List Piece) → CutsInto z ps [] → CutsInto z qs [] → ps ≡ qs
same_pieces z [] [] a b = refl
same_pieces z [] (q ∷ qs) a b = absurd (omega (arith, b.0, ap length a))
same_pieces z (p ∷ ps) [] a b = absurd (omega (arith, a.0, ap length b))
same_pieces z (p ∷ ps) (q ∷ qs) a b =
    let e : p ≡ q = one_piece z p q a.0 a.1 b.1 in
    let others : CutsInto (drop p.len z) qs [] = subst (λ (r : Piece). CutsInto (drop r.len z) qs []) (sym e) b.2 in
    ((λ i. e i ∷ same_pieces (drop p.len z) ps qs a.2 others i))

-- pieces up to a fault stop where pieces up to any other fault do
same_rest : (z : List ℕ) (ps qs : List Piece) (r s : List ℕ) (c d : Cause) → CutsInto z ps r → IsCause c r → CutsInto z qs s → IsCause d s → r ≡ s
same_rest z [] [] r s c d a stands b stays = sym a ∙ b
same_rest z [] (q ∷ qs) r s c d a stands b stays = absurd (not_both z r c q a stands b.1)
same_rest z (p ∷ ps) [] r s c d a stands b stays = absurd (not_both z s d p b stays a.1)
same_rest z (p ∷ ps) (q ∷ qs) r s c d a stands b stays =
    let e : p ≡ q = one_piece z p q a.0 a.1 b.1 in
    same_rest (drop p.len z) ps qs r s c d a.2 stands (subst (λ (t : Piece). CutsInto (drop t.len z) qs s) (sym e) b.2) stays

-- what is spelled doesn't fail
no_fault : (z : List ℕ) (ps qs : List Piece) (rest : List ℕ) (c : Cause) → CutsInto z ps [] → CutsInto z qs rest → 0 < length rest → IsCause c rest → ⊥
no_fault z [] [] rest c a b some stands = absurd (omega (arith, some, ap length a, ap length b))
no_fault z [] (q ∷ qs) rest c a b some stands = absurd (omega (arith, b.0, ap length a))
no_fault z (p ∷ ps) [] rest c a b some stands = not_both z rest c p b stands a.1
no_fault z (p ∷ ps) (q ∷ qs) rest c a b some stands =
    let e : p ≡ q = one_piece z p q a.0 a.1 b.1 in
    no_fault (drop p.len z) ps qs rest c a.2 (subst (λ (r : Piece). CutsInto (drop r.len z) qs rest) (sym e) b.2) some stands

-- no source is spelled of two lists of tokens
pub one_spelling : (source : List ℕ) (a b : List Token) → Spelled source a → Spelled source b → a ≡ b
one_spelling source a b s t = sym s.among ∙ ap (tokens_of source 0) (same_pieces source s.pieces t.pieces s.all t.all) ∙ t.among

-- a source that is spelled has no fault
pub spelled_or_fails : (source : List ℕ) (a : List Token) (c : Cause) (at : ℕ) → Spelled source a → LexFails source c at → ⊥
spelled_or_fails source a c at s f = no_fault source s.pieces f.pieces f.rest c s.all f.before f.some f.stands

-- a source has at most one fault
pub one_fault : (source : List ℕ) (c d : Cause) (i j : ℕ) → LexFails source c i → LexFails source d j → (c ≡ d) × (i ≡ j)
one_fault source c d i j f g =
    let e : f.rest ≡ g.rest = same_rest source f.pieces g.pieces f.rest g.rest c d f.before f.stands g.before g.stands in
    (one_cause g.rest c d g.some (subst (IsCause c) e f.stands) g.stands, omega (arith, f.place, g.place, ap length e))

-- what the fault of a cause tells
pub tells : (source : List ℕ) (c : Cause) (at : ℕ) → LexFails source c at → Tells source (fault_of c at)
tells source cause.Byte at f = f
tells source cause.OpenString at f = f
tells source cause.WideNumber at f = f

drop_drop : (z : List ℕ) (a b : ℕ) → drop b (drop a z) ≡ drop (a + b) z
drop_drop z a b = drop-drop b a z

token_append : (source : List ℕ) (at len : ℕ) (k : PieceKind) (xs ys : List Token) → token_of source at len k (xs ++ ys) ≡ token_of source at len k xs ++ ys
token_append source at len (is.Token k) xs ys = refl
token_append source at len is.Blank xs ys = refl
token_append source at len is.Comment xs ys = refl

tokens_push : (source : List ℕ) (ps : List Piece) (p : Piece) (at : ℕ) → tokens_of source at (ps ++ p ∷ []) ≡ tokens_of source at ps ++ token_of source (at + width ps) p.len p.kind []
tokens_push source [] p at = let e : at + 0 ≡ at = omega arith in ap (λ (n : ℕ). token_of source n p.len p.kind []) (sym e)
tokens_push source (q ∷ qs) p at =
    let e : at + q.len + width qs ≡ at + (q.len + width qs) = omega arith in
    ap (token_of source at q.len q.kind) (tokens_push source qs p (at + q.len) ∙ ap (λ (n : ℕ). tokens_of source (at + q.len) qs ++ token_of source n p.len p.kind []) e)
    ∙ token_append source at q.len q.kind (tokens_of source (at + q.len) qs) (token_of source (at + (q.len + width qs)) p.len p.kind [])

width_push : (ps : List Piece) (p : Piece) → width (ps ++ p ∷ []) ≡ width ps + p.len
width_push [] p = omega arith
width_push (q ∷ qs) p = omega (arith, width_push qs p)

-- one more piece
pub found_push : (source : List ℕ) (at : ℕ) (tokens : List Token) (p : Piece) → Found source at tokens → at < length source → IsLongest (drop at source) p
    → Found source (at + p.len) (tokens ++ token_of source at p.len p.kind [])
found_push source at tokens p f below next = record {
  pieces = f.pieces ++ p ∷ [];
  before = subst (λ (z : List ℕ). CutsInto source (f.pieces ++ p ∷ []) z) (drop_drop source at p.len) (reaches_push source f.pieces (drop at source) p f.before (omega (arith, length-drop at source)) next);
  place = width_push f.pieces p ∙ ap (λ (n : ℕ). n + p.len) f.place;
  among = let e : 0 + width f.pieces ≡ at = omega (arith, f.place) in tokens_push source f.pieces p 0 ∙ (λ i. f.among i ++ token_of source (e i) p.len p.kind []);
}

pub found_all : (source : List ℕ) (at : ℕ) (tokens : List Token) → Found source at tokens → length source ≤ at → Spelled source tokens
found_all source at tokens f end =
    let none : drop at source ≡ [] = nil_from_length (drop at source) (omega (arith, length-drop at source)) in
    record { pieces = f.pieces; all = subst (λ (z : List ℕ). CutsInto source f.pieces z) none f.before; among = f.among }

-- the fault at a place that pieces lead to
pub found_fault : (source : List ℕ) (at : ℕ) (tokens : List Token) (c : Cause) → Found source at tokens → at < length source → IsCause c (drop at source) → LexFails source c at
found_fault source at tokens c f below stands = record {
  pieces = f.pieces;
  rest = drop at source;
  before = f.before;
  some = omega (arith, length-drop at source);
  stands = stands;
  place = omega (arith, length-drop at source);
}

-- the line of a later place
pub line_more : (source : List ℕ) (at n : ℕ) → line_at source (at + n) ≡ line_at source at + count_by (λ (b : ℕ). b == 10) (take n (drop at source))
line_more source at n =
    let parts = ap (count_by (λ (b : ℕ). b == 10)) (take-add at n source) in
    omega (arith, parts, sum_by-append (λ (b : ℕ). cond (b == 10) 1 0) (take at source) (take n (drop at source)))

-- a token behind others
pub push_token : (source : List ℕ) (at len line : ℕ) (k : PieceKind) (t : TokenKind) (others : List Token) → k ≡ is.Token t → line ≡ line_at source at
    → others ++ token_of source at len k [] ≡ others ++ record { kind = t; from = at; to = at + len; line = line } ∷ []
push_token source at len line k t others e l = rw (e, l) refl

-- a blank or a comment behind tokens
pub push_none : (source : List ℕ) (at len : ℕ) (k : PieceKind) (others : List Token) → ((t : TokenKind) → k ≡ is.Token t → ⊥) → others ++ token_of source at len k [] ≡ others
push_none source at len (is.Token t) others none = absurd (none t refl)
push_none source at len is.Blank others none = append-nil others
push_none source at len is.Comment others none = append-nil others

-- a source is spelled, or it fails
abbrev pub Ends : List ℕ → Type 0
Ends source = ((ts : List Token) × Spelled source ts) ⊎ ((c : Cause) × (at : ℕ) × LexFails source c at)

goes_on : (source : List ℕ) (at : ℕ) (ts : List Token) → Found source at ts → at < length source → ((next : ℕ) (us : List Token) → at < next → Found source next us → Ends source)
    → (r : Result Piece Cause) → piece_at (drop at source) ≡ r → Ends source
goes_on source at ts f below later (Ok p) e =
    let some : 0 < length (drop at source) = omega (arith, length-drop at source) in
    later (at + p.len) (ts ++ token_of source at p.len p.kind []) (omega (arith, piece_some (drop at source) p some e)) (found_push source at ts p f below (longest_of (drop at source) p some e))
goes_on source at ts f below later (Err c) e =
    inr (c, at, found_fault source at ts c f below (stands_of (drop at source) c (omega (arith, length-drop at source)) e))

reads_on : (left : ℕ) (source : List ℕ) (at : ℕ) (ts : List Token) → Found source at ts → length source < at + left → Ends source
reads_on zero source at ts f end = inl (ts, found_all source at ts f (omega arith))
reads_on (suc left) source at ts f end =
    ⊎_elim
    (λ below. goes_on source at ts f below (λ next us more g. reads_on left source next us g (omega arith)) (piece_at (drop at source)) refl)
    (λ past. inl (ts, found_all source at ts f past))
    (cases_lt at (length source))

pub spelled_or_fault : (source : List ℕ) → Ends source
spelled_or_fault source = reads_on (length source + 1) source 0 [] (record { pieces = []; before = refl; place = refl; among = refl }) (omega arith)
