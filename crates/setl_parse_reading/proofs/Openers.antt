-- Tokens that open a nesting, where reading stops.
use Rattle.std.proofs.Common.{◌≡◌, ℕ, zero, suc, ◌≤◌, true, [], ◌∷◌, ◌++◌, length, Ok, Err, refl, sym, ap, subst, ◌∙◌, append_assoc, arith, inl, inr, ◌⊎◌, length-append}
use Rattle.setl_tree.specs.Tokens.{Token, Tokens}
use Rattle.setl_parse_reading.specs.declared.fault.Fault.TheVariants.{Memory, Syntax, Nesting}
use Rattle.setl_parse_reading.specs.Fronts.{opens_nesting}
use Rattle.setl_parse_reading.specs.code.Reading.{Outcome, Reader, and_then, pure}
use Rattle.setl_parse_reading.proofs.Laws.{Took}
use Rattle.setl_parse_reading.proofs.Reach.{left}

-- at the place at which so many tokens are left stands one that opens a nesting
pub record Opener (toks : Tokens) (count : ℕ) : Type 0 where
  pub front : Tokens
  pub token : Token
  pub others : Tokens
  pub parts : toks ≡ front ++ token ∷ others
  pub place : length (token ∷ others) ≡ count
  pub opens : opens_nesting token.kind ≡ true

-- Where reading stops behind a token that opens a nesting, one may open; and where it ends at a nesting, such a token
-- stands there.
abbrev pub Shows : {A : Type 0} → ℕ → Tokens → Outcome A → Type 0
Shows room toks (Ok (a, rest)) = Opener toks (suc (length rest)) → 1 ≤ room
Shows room toks (Err (Syntax n)) = Opener toks (suc n) → 1 ≤ room
Shows room toks (Err (Nesting n)) = Opener toks n
Shows room toks (Err Memory) = ⊥

pub at_most : (m n : ℕ) → m ≤ n → (suc m ≤ n) ⊎ (m ≡ n)
at_most zero zero le = inr refl
at_most zero (suc n) le = inl (omega arith)
at_most (suc m) zero le = absurd (omega (arith, le))
at_most (suc m) (suc n) le = elim (at_most m n (omega (arith, le))) [ inl less ↦ inl (omega (arith, less)) | inr same ↦ inr (ap suc same) ]

-- no token stands before all of them
pub none_before : (toks : Tokens) → Opener toks (suc (length toks)) → ⊥
none_before toks o = let long = ap length o.parts ∙ length-append o.front (o.token ∷ o.others) in omega (arith, long, o.place)

heads : (t u : Token) (one two : Tokens) → t ∷ one ≡ u ∷ two → t ≡ u
heads t u one two h = cc

tails : (t u : Token) (one two : Tokens) → t ∷ one ≡ u ∷ two → one ≡ two
tails t u one two h = cc

-- the shorter of two ends is the end of the longer
shorter_end : (one two mid back : Tokens) → one ++ back ≡ two ++ mid → length back ≤ length mid → (x : Tokens) × (mid ≡ x ++ back)
shorter_end one [] mid back h le = (one, sym h)
shorter_end [] (u ∷ two) mid back h le = let long = ap length h ∙ length-append (u ∷ two) mid in absurd (omega (arith, long, le))
shorter_end (t ∷ one) (u ∷ two) mid back h le = shorter_end one two mid back (tails t u (one ++ back) (two ++ mid) h) le

-- one behind the tokens that were taken
pub opener_behind : {toks mid : Tokens} {count : ℕ} (used : Tokens) → toks ≡ used ++ mid → Opener mid count → Opener toks count
opener_behind used parts o = record {
  front = used ++ o.front;
  token = o.token;
  others = o.others;
  parts = parts ∙ ap (λ (z : Tokens). used ++ z) o.parts ∙ sym (append_assoc used o.front (o.token ∷ o.others));
  place = o.place;
  opens = o.opens;
}

pub opener_left : {toks mid : Tokens} {count : ℕ} (used : Tokens) → toks ≡ used ++ mid → count ≤ length mid → Opener toks count → Opener mid count
opener_left {mid = mid} used parts le o =
    let x = shorter_end o.front used mid (o.token ∷ o.others) (sym o.parts ∙ parts) (omega (arith, le, o.place)) in
    record { front = x.0; token = o.token; others = o.others; parts = x.1; place = o.place; opens = o.opens }

-- where more may open
pub shows_more : {A : Type 0} (room more : ℕ) (toks : Tokens) → room ≤ more → (o : Outcome A) → Shows room toks o → Shows more toks o
shows_more room more toks le (Ok (a, rest)) shows = λ o. let some = shows o in omega (arith, le, some)
shows_more room more toks le (Err (Syntax n)) shows = λ o. let some = shows o in omega (arith, le, some)
shows_more room more toks le (Err (Nesting n)) shows = shows
shows_more room more toks le (Err Memory) shows = shows

-- what is read behind the tokens that were taken
pub shows_behind : {A : Type 0} (room : ℕ) (toks used mid : Tokens) → toks ≡ used ++ mid → (Opener toks (suc (length mid)) → 1 ≤ room) → (o : Outcome A) → left o ≤ length mid → Shows room mid o → Shows room toks o
shows_behind room toks used mid parts first (Ok (a, rest)) le shows = λ o. elim (at_most (length rest) (length mid) le) [
  | inl less ↦ shows (opener_left used parts less o)
  | inr same ↦ first (subst (λ (n : ℕ). Opener toks (suc n)) same o)
]
shows_behind room toks used mid parts first (Err (Syntax n)) le shows = λ o. elim (at_most n (length mid) le) [
  | inl less ↦ shows (opener_left used parts less o)
  | inr same ↦ first (subst (λ (n : ℕ). Opener toks (suc n)) same o)
]
shows_behind room toks used mid parts first (Err (Nesting n)) le shows = opener_behind used parts shows
shows_behind room toks used mid parts first (Err Memory) le shows = shows

pub shows_then : {A B : Type 0} (room : ℕ) (toks : Tokens) (L : Tokens → A → Type 0) (o : Outcome A) (f : A → Reader B) → Shows room toks o → ((a : A) (mid : Tokens) → o ≡ Ok (a, mid) → Took L toks a mid)
    → ((a : A) (mid : Tokens) → left (f a mid) ≤ length mid) → ((a : A) (mid : Tokens) → Shows room mid (f a mid)) → Shows room toks (and_then o f)
shows_then room toks L (Ok (a, mid)) f shows took within behind = let t = took a mid refl in shows_behind room toks t.used mid t.parts shows (f a mid) (within a mid) (behind a mid)
shows_then room toks L (Err (Syntax n)) f shows took within behind = shows
shows_then room toks L (Err (Nesting n)) f shows took within behind = shows
shows_then room toks L (Err Memory) f shows took within behind = shows

-- nothing was read
pub shows_none : {A : Type 0} (room : ℕ) (a : A) (toks : Tokens) → Shows room toks (pure a toks)
shows_none room a toks = λ o. absurd (none_before toks o)

first_opens : (t : Token) (toks front : Tokens) (token : Token) (others : Tokens) → t ∷ toks ≡ front ++ token ∷ others → length (token ∷ others) ≡ suc (length toks) → opens_nesting token.kind ≡ true → opens_nesting t.kind ≡ true
first_opens t toks [] token others parts place opens = ap (λ (z : Token). opens_nesting z.kind) (heads t token toks others parts) ∙ opens
first_opens t toks (u ∷ front) token others parts place opens = let long = ap length parts ∙ length-append (u ∷ front) (token ∷ others) in absurd (omega (arith, long, place))

-- the token that was read last
pub last_opens : (t : Token) (toks : Tokens) → Opener (t ∷ toks) (suc (length toks)) → opens_nesting t.kind ≡ true
last_opens t toks o =
    first_opens t toks o.front o.token o.others o.parts o.place o.opens
