-- Texts compared byte by byte, and the spellings of one length.
use Rattle.std.proofs.Common.{◌≡◌, ℕ, ◌≤◌, ◌==◌, Bool, true, false, ◌&&◌, ◌||◌, not, cond, leb, List, [], ◌∷◌, length, map, filter, refl, ap, sym, ◌∙◌, arith}
use Rattle.std.specs.List.{list_any, list_all}
use Rattle.std.specs.Str.{bytes_eq}
use Rattle.std.proofs.lemmas.Bool.{and_parts}
use Rattle.std.proofs.lemmas.Bool.Decides.{nat_tests}
use Rattle.std.proofs.lemmas.Slice.Eq.{bytes_eq-Decides}
use denote.Enum.Bare.{sameb}
use Rattle.setl_tree.specs.declared.kind.Kind.{Kind}
use Rattle.setl_tree.specs.declared.kind.Kind.TheVariants as k
use Rattle.setl_tree.specs.contracts.kind.Kind.{the_type}
use Rattle.setl_token.specs.Spellings.{Spelling, spellings, listed, kind_in, is_reserved}

decided : (xs ys : List ℕ) (b : Bool) → bytes_eq xs ys ≡ b → (xs ≡ ys → ⊥) → false ≡ b
decided xs ys true e h = absurd (h ((bytes_eq-Decides xs ys).0 e))
decided xs ys false e h = refl

pub other_text : (xs ys : List ℕ) → (xs ≡ ys → ⊥) → false ≡ bytes_eq xs ys
other_text xs ys h = decided xs ys (bytes_eq xs ys) refl h

pub same_text : (xs ys : List ℕ) → xs ≡ ys → true ≡ bytes_eq xs ys
same_text xs ys e = sym ((bytes_eq-Decides xs ys).1 e)

-- the spellings of so many bytes
abbrev pub spellings_with : ℕ → List Spelling
spellings_with n = filter (λ (s : Spelling). length s.0 == n) spellings

abbrev usual : Spelling → Bool
usual s = leb 1 (length s.0) && leb (length s.0) 10

all_usual : list_all usual spellings ≡ true
unfolding spellings
all_usual = refl

none_step : (n : ℕ) (s : Spelling) (ss : List Spelling) → (1 ≤ n → n ≤ 10 → ⊥) → (usual s && list_all usual ss) ≡ true → (cond (length s.0 == n) (s ∷ filter (λ (s : Spelling). length s.0 == n) ss) (filter (λ (s : Spelling). length s.0 == n) ss) ≡ filter (λ (s : Spelling). length s.0 == n) ss) × (list_all usual ss ≡ true)
none_step n s ss out all = (grind (arith, nat_tests), grind (arith, nat_tests))

none_with : (n : ℕ) → (1 ≤ n → n ≤ 10 → ⊥) → (ss : List Spelling) → list_all usual ss ≡ true → filter (λ (s : Spelling). length s.0 == n) ss ≡ []
none_with n out [] all = refl
none_with n out (s ∷ ss) all = let step = none_step n s ss out all in step.0 ∙ none_with n out ss step.1

pub no_spellings : (n : ℕ) → (1 ≤ n → n ≤ 10 → ⊥) → spellings_with n ≡ []
no_spellings n out = none_with n out spellings all_usual

other_len : (t w : List ℕ) → (length w == length t) ≡ false → bytes_eq t w ≡ false
other_len t w e = grind (arith, nat_tests, bytes_eq-Decides t w)

-- only spellings of its own length can be equal to a text
kind_with : (t : List ℕ) (s : Spelling) (ss : List Spelling) (b : Bool) → (length s.0 == length t) ≡ b → kind_in (filter (λ (s : Spelling). length s.0 == length t) ss) t ≡ kind_in ss t
    → kind_in (cond b (s ∷ filter (λ (s : Spelling). length s.0 == length t) ss) (filter (λ (s : Spelling). length s.0 == length t) ss)) t ≡ cond (bytes_eq t s.0) s.1 (kind_in ss t)
kind_with t s ss true e others = ap (λ (r : Kind). cond (bytes_eq t s.0) s.1 r) others
kind_with t s ss false e others = rw (other_len t s.0 e) others

pub kind_of_len : (t : List ℕ) (ss : List Spelling) → kind_in (filter (λ (s : Spelling). length s.0 == length t) ss) t ≡ kind_in ss t
kind_of_len t [] = refl
kind_of_len t (s ∷ ss) = kind_with t s ss (length s.0 == length t) refl (kind_of_len t ss)

-- ---- what is listed

abbrev has_kind : Spelling → Bool
has_kind s = not (sameb the_type s.1 k.SourceEnd)

all_have_kinds : list_all has_kind spellings ≡ true
unfolding spellings
all_have_kinds = refl

listed_step : (t : List ℕ) (s : Spelling) (ss : List Spelling) (b : Bool) → bytes_eq t s.0 ≡ b → has_kind s ≡ true → list_any (bytes_eq t) (map (λ (s : Spelling). s.0) ss) ≡ not (sameb the_type (kind_in ss t) k.SourceEnd)
    → (b || list_any (bytes_eq t) (map (λ (s : Spelling). s.0) ss)) ≡ not (sameb the_type (cond b s.1 (kind_in ss t)) k.SourceEnd)
listed_step t s ss true e kind others = sym kind
listed_step t s ss false e kind others = others

any_listed : (t : List ℕ) (ss : List Spelling) → list_all has_kind ss ≡ true → list_any (bytes_eq t) (map (λ (s : Spelling). s.0) ss) ≡ not (sameb the_type (kind_in ss t) k.SourceEnd)
any_listed t [] all = refl
any_listed t (s ∷ ss) all =
    let each = and_parts (has_kind s) (list_all has_kind ss) all in
    listed_step t s ss (bytes_eq t s.0) refl each.0 (any_listed t ss each.1)

-- a text is listed where it has a kind
pub reserved_is : (t : List ℕ) → is_reserved t ≡ not (sameb the_type (kind_in spellings t) k.SourceEnd)
unfolding listed
reserved_is t = any_listed t spellings all_have_kinds
