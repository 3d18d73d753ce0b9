-- The numbers of the points of a map.
use Rattle.std.proofs.Common.{◌≡◌, ◌∙◌, ℕ, zero, suc, ◌+◌, ◌≤◌, Bool, true, false, ◌&&◌, ◌||◌, cond, nat_eq, nat_lt, List, [], ◌∷◌, length, map, drop, Option, None, Some, refl, sym, ap, subst, arith}
use Rattle.std.specs.Cmp.{nat_cmp_total}
use Rattle.std.specs.List.{list_any}
use Rattle.std.specs.Map.{lookup}
use Rattle.std.specs.Option.{is_some, option_map, IfSome}
use Rattle.std.specs.Ordering.{nat_cmp, eq_by_cmp}
use Rattle.std.specs.FinSet as set
use Rattle.std.proofs.lemmas.Bool.Decides.{nat_tests}
use Rattle.setl_operators_table.specs.declared.Operator.TheVariants.{Domain}
use Rattle.setl_operators_table.specs.Operators.{op_of}
use Rattle.setl_operators_table.specs.Outcome.{Gives}
use Rattle.setl_remote.specs.Slots.{slot_at, slots_len}
use Rattle.setl_sparse.specs.Entries.{content_at}
use Rattle.setl_rep_bases.specs.declared.BaseId.{BaseId}
use Rattle.setl_rep_bases.specs.Bases.{BasesState}
use Rattle.setl_rep_forms.specs.declared.held.Held.{Held}
use Rattle.setl_rep_forms.specs.Form.{Form, table, numbers, remote, sparse, slots_from, entries_of}
use Rattle.setl_rep_forms.specs.FormOf.{form}
use Rattle.setl_rep_forms.specs.Stands.{stands, IsOver}
use Rattle.setl_rep_tables.specs.Tables.{content_in, SlotsAreKeyed}
use Rattle.setl_rep_maps.specs.Contents.{table_of, IsDomain, IsKeyedForm}
use Rattle.setl_rep_maps.specs.Laws.{NumbersAreDomains}
use Rattle.setl_rep_images.proofs.Selected.{tells_domain}

-- ---- numbers below one

or_none : (a : Bool) → (a || false) ≡ a
or_none true = refl
or_none false = refl

-- the numbers below k that pass a test, and then k
pub one_more : (t : ℕ → Bool) (k q : ℕ) → ((nat_eq k q && t k) || (nat_lt q k && t q)) ≡ (nat_lt q (k + 1) && t q)
one_more t k q = by (nat_eq k q) (nat_lt q k) (nat_lt q (k + 1)) refl refl refl
  where
    by : (a b c : Bool) → nat_eq k q ≡ a → nat_lt q k ≡ b → nat_lt q (k + 1) ≡ c → ((a && t k) || (b && t q)) ≡ (c && t q)
    by true true c e f g = absurd (grind (arith, nat_tests, e, f))
    by true false true e f g = let same : k ≡ q = grind (arith, nat_tests, e) in or_none (t k) ∙ ap t same
    by true false false e f g = absurd (grind (arith, nat_tests, e, g))
    by false true true e f g = refl
    by false true false e f g = absurd (grind (arith, nat_tests, f, g))
    by false false true e f g = absurd (grind (arith, nat_tests, e, f, g))
    by false false false e f g = refl

module _ {T : Type 0} where
  -- the numbers below k that have a content
  abbrev pub HasBelow : List (Option T) → ℕ → set.FinSet nat_cmp → Type 0
  HasBelow cs k ns = (q : ℕ) → set.contains ns q ≡ (nat_lt q k && is_some (slot_at cs q))

  -- one number more
  abbrev pub HasMore : List (Option T) → ℕ → (old new : set.FinSet nat_cmp) → Type 0
  HasMore cs n old new = (q : ℕ) → set.contains new q ≡ ((nat_eq n q && is_some (slot_at cs n)) || set.contains old q)

  pub goes_on : (cs : List (Option T)) (k : ℕ) (old new : set.FinSet nat_cmp) → HasBelow cs k old → HasMore cs k old new → HasBelow cs (k + 1) new
  goes_on cs k old new h m q = m q ∙ ap (λ b. (nat_eq k q && is_some (slot_at cs k)) || b) (h q) ∙ one_more (λ n. is_some (slot_at cs n)) k q

  pub has_none : (cs : List (Option T)) → HasBelow cs 0 set.empty
  has_none cs q = set.contains-empty nat_cmp q ∙ nothing (nat_lt q 0) refl
    where
      nothing : (b : Bool) → nat_lt q 0 ≡ b → false ≡ (b && is_some (slot_at cs q))
      nothing true e = absurd (grind (arith, nat_tests, e))
      nothing false e = refl

  past : (cs : List (Option T)) (q : ℕ) → length cs ≤ q → slot_at cs q ≡ None
  past [] q h = refl
  past (c ∷ cs) zero h = absurd (omega (arith, h))
  past (c ∷ cs) (suc q) h = past cs q (omega (arith, h))

  pub has_all : (cs : List (Option T)) (ns : set.FinSet nat_cmp) → HasBelow cs (slots_len cs + 1) ns → (n : ℕ) → set.contains ns n ≡ is_some (slot_at cs n)
  has_all cs ns h n = h n ∙ by (nat_lt n (slots_len cs + 1)) refl
    where
      by : (b : Bool) → nat_lt n (slots_len cs + 1) ≡ b → (b && is_some (slot_at cs n)) ≡ is_some (slot_at cs n)
      by true e = refl
      by false e = let far : slots_len cs + 1 ≤ n = grind (arith, nat_tests, e) in ap is_some (sym (past cs n (omega (arith, far))))

  pub put_one : (cs : List (Option T)) (n : ℕ) (old : set.FinSet nat_cmp) → is_some (slot_at cs n) ≡ true → HasMore cs n old (set.insert old n)
  put_one cs n old h q = set.contains-insert nat_cmp_total old n q ∙ ap (λ b. b || set.contains old q) (same ∙ sym (ap (λ b. nat_eq n q && b) h))
    where
      and_true : (b : Bool) → b ≡ (b && true)
      and_true true = refl
      and_true false = refl

      same : eq_by_cmp nat_cmp q n ≡ (nat_eq n q && true)
      same = (let e : eq_by_cmp nat_cmp q n ≡ nat_eq n q = grind (arith, nat_tests) in e) ∙ and_true (nat_eq n q)

  pub put_none : (cs : List (Option T)) (n : ℕ) (old : set.FinSet nat_cmp) → is_some (slot_at cs n) ≡ false → HasMore cs n old old
  put_none cs n old h q = ap (λ b. b || set.contains old q) (sym (ap (λ b. nat_eq n q && b) h ∙ and_false (nat_eq n q)))
    where
      and_false : (b : Bool) → (b && false) ≡ false
      and_false true = refl
      and_false false = refl

-- ---- a list

-- what is there or comes yet
abbrev pub IsGathered : (ns : set.FinSet nat_cmp) (rest all : List ℕ) → Type 0
IsGathered ns rest all = (q : ℕ) → (set.contains ns q || list_any (nat_eq q) rest) ≡ list_any (nat_eq q) all

pub gathers_none : (all : List ℕ) → IsGathered set.empty all all
gathers_none all q = ap (λ b. b || list_any (nat_eq q) all) (set.contains-empty nat_cmp q)

or_moves : (a b c : Bool) → ((a || b) || c) ≡ (b || (a || c))
or_moves true true c = refl
or_moves true false c = refl
or_moves false b c = refl

pub gathers : (ns new : set.FinSet nat_cmp) (n : ℕ) (rest all : List ℕ) → new ≡ set.insert ns n → IsGathered ns (n ∷ rest) all → IsGathered new rest all
gathers ns new n rest all e h q =
    ap (λ s. set.contains s q || list_any (nat_eq q) rest) e
    ∙ ap (λ b. b || list_any (nat_eq q) rest) (set.contains-insert nat_cmp_total ns n q)
    ∙ or_moves (eq_by_cmp nat_cmp q n) (set.contains ns q) (list_any (nat_eq q) rest)
    ∙ ap (λ b. set.contains ns q || (b || list_any (nat_eq q) rest)) (let same : eq_by_cmp nat_cmp q n ≡ nat_eq q n = grind (arith, nat_tests) in same)
    ∙ h q

pub none_left : (xs : List ℕ) (i : ℕ) → length xs ≤ i → drop i xs ≡ []
none_left [] zero h = refl
none_left [] (suc i) h = refl
none_left (x ∷ xs) zero h = absurd (omega (arith, h))
none_left (x ∷ xs) (suc i) h = none_left xs i (omega (arith, h))

pub gathered : (ns : set.FinSet nat_cmp) (all : List ℕ) → IsGathered ns [] all → (q : ℕ) → set.contains ns q ≡ list_any (nat_eq q) all
gathered ns all h q = sym (or_none (set.contains ns q)) ∙ h q

-- ---- tables

slots : (cs : List (Option Held)) (n : ℕ) → slot_at (map (option_map form) cs) n ≡ option_map form (slot_at cs n)
slots [] n = refl
slots (c ∷ cs) zero = refl
slots (c ∷ cs) (suc n) = slots cs n

contents : (es : List (ℕ × Held)) (n : ℕ) → content_in (entries_of (map (λ e. (e.0, form e.1)) es)) n ≡ option_map form (lookup (nat_eq n) es)
contents [] n = refl
contents (e ∷ es) n = by (nat_eq n e.0) (contents es n)
  where
    by : (t : Bool) → content_in (entries_of (map (λ e. (e.0, form e.1)) es)) n ≡ option_map form (lookup (nat_eq n) es)
        → cond t (Some (form e.1)) (content_in (entries_of (map (λ e. (e.0, form e.1)) es)) n) ≡ option_map form (cond t (Some e.1) (lookup (nat_eq n) es))
    by true h = refl
    by false h = h

as_some : (o : Option Held) → is_some o ≡ is_some (option_map form o)
as_some None = refl
as_some (Some h) = refl

pub remote_domain : SlotsAreKeyed → (f g : Form) (b : BaseId) (many : Bool) (cs : List (Option Held)) (ns : set.FinSet nat_cmp)
    → f ≡ table remote b many (slots_from 0 (map (option_map form) cs)) → g ≡ numbers remote b ns → ((n : ℕ) → set.contains ns n ≡ is_some (slot_at cs n)) → IsDomain f g
remote_domain keyed f g b many cs ns e d h =
    subst (λ x. IsDomain x g) (sym e) (subst (λ x. IsDomain (table remote b many (slots_from 0 (map (option_map form) cs))) x) (sym d) (refl, refl, λ n. h n ∙ as_some (slot_at cs n) ∙ ap is_some (sym ((keyed (map (option_map form) cs)).1 n ∙ slots cs n))))

pub sparse_domain : (f g : Form) (b : BaseId) (many : Bool) (es : List (ℕ × Held)) (ns : set.FinSet nat_cmp)
    → f ≡ table sparse b many (entries_of (map (λ e. (e.0, form e.1)) es)) → g ≡ numbers sparse b ns → ((n : ℕ) → set.contains ns n ≡ is_some (content_at es n)) → IsDomain f g
sparse_domain f g b many es ns e d h =
    subst (λ x. IsDomain x g) (sym e) (subst (λ x. IsDomain (table sparse b many (entries_of (map (λ p. (p.0, form p.1)) es))) x) (sym d) (refl, refl, λ n. h n ∙ as_some (content_at es n) ∙ ap is_some (sym (contents es n))))

-- ---- the operator

table_parts : (f g : Form) → IsDomain f g → (p : BaseId × Bool) × (table_of f ≡ Some p)
table_parts (table k b many es) (numbers l d ns) h = ((b, many), refl)
table_parts (table k b many es) g h = absurd h
table_parts f g h = absurd h

module _ (law : NumbersAreDomains) (bs : BasesState) (f : Form) (over : IsOver bs f) (keyed : IsKeyedForm f) where
  abbrev pub IsPointSet : Option Held → Type 0
  IsPointSet o = IfSome o (λ h. IsDomain f (form h))

  tells : (g : Form) → IsDomain f g → (left : ℕ) → op_of Domain (stands bs f ∷ []) left ≡ Gives (stands bs g) 0
  tells g h left = let p = table_parts f g h in tells_domain bs f p.0.0 p.0.1 p.1 left ∙ ap (λ v. Gives v 0) (sym (law bs f g over keyed h).1)

  pub told : (o : Option Held) → IsPointSet o → IfSome o (λ h. (left : ℕ) → op_of Domain (stands bs f ∷ []) left ≡ Gives (stands bs (form h)) 0)
  told None h = tt
  told (Some g) h = tells (form g) h

  pub stays_over : (o : Option Held) → IsPointSet o → IfSome o (λ h. IsOver bs (form h))
  stays_over None h = tt
  stays_over (Some g) h = (law bs f (form g) over keyed h).0
