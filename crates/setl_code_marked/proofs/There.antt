-- There is a marked code of each code: whether something is read later can be decided.
use Rattle.std.proofs.Common.{◌≡◌, ◌<◌, ◌≤◌, ◌+◌, ℕ, zero, suc, Bool, true, false, List, [], ◌∷◌, ◌⊎◌, inl, inr, length, get_or, slice_set, Option, Some, None, refl, sym, ap, ◌∙◌, subst, arith}
use Rattle.std.specs.Prelude.{slice_get, ◌&&◌, ◌||◌, not}
use Rattle.std.specs.List.{Contains}
use Rattle.std.proofs.lemmas.Bool.{cases_eq}
use Rattle.std.proofs.lemmas.List.{get_or-set_other, length-set}
use Rattle.std.proofs.lemmas.Option.{slice_get_within}
use Rattle.setl_model_runs.specs.Variable.{Variable}
use Rattle.setl_code.specs.Code.{Instr, Load, Step, Body}
use Rattle.setl_code.specs.Shapes.{successors}
use Rattle.setl_code.specs.Sound.{is_read, is_written, ReadLater, reads, later, may_take}
use Rattle.setl_code_marked.specs.Marked.{as_take, Marks, MarksStep, MarksBody, MarksBodies}
use Rattle.setl_code_marked.specs.Claims.{MarkedIsThere}

-- ---- tables of truth values

falses : List Bool → ℕ
falses [] = 0
falses (true ∷ bs) = falses bs
falses (false ∷ bs) = suc (falses bs)

-- one place more is set
fewer : (bs : List Bool) (at : ℕ) → at < length bs → get_or bs at false ≡ false → suc (falses (slice_set bs at true)) ≡ falses bs
unfolding falses
fewer [] at within h = absurd (omega arith)
fewer (true ∷ bs) zero within h = cc
fewer (false ∷ bs) zero within h = refl
fewer (true ∷ bs) (suc at) within h = let less : at < length bs = omega arith in fewer bs at less h
fewer (false ∷ bs) (suc at) within h = let less : at < length bs = omega arith in ap suc (fewer bs at less h)

none_set : ℕ → List Bool
none_set zero = []
none_set (suc n) = false ∷ none_set n

none_length : (n : ℕ) → length (none_set n) ≡ n
unfolding none_set
none_length zero = refl
none_length (suc n) = ap suc (none_length n)

none_at : (n at : ℕ) → get_or (none_set n) at false ≡ true → ⊥
unfolding none_set
none_at zero at h = cc
none_at (suc n) zero h = cc
none_at (suc n) (suc at) h = none_at n at h

-- whether one of these places is set
abbrev any_set : List Bool → List ℕ → Bool
any_set t [] = false
any_set t (to ∷ tos) = get_or t to false || any_set t tos

set_any : (t : List Bool) (tos : List ℕ) (to : ℕ) → Contains tos to → get_or t to false ≡ true → any_set t tos ≡ true
set_any t [] to (k, less, same) h = absurd (omega arith)
set_any t (x ∷ tos) to (zero, less, same) h = rw (subst (λ (y : ℕ). get_or t y false ≡ true) (sym same) h) refl
set_any t (x ∷ tos) to (suc k, less, same) h =
    let smaller : k < length tos = omega arith in
    or_right (get_or t x false) (any_set t tos) (set_any t tos to (k, smaller, same) h)
  where
    or_right : (a b : Bool) → b ≡ true → a || b ≡ true
    or_right true b h = refl
    or_right false b h = h

some_set : (t : List Bool) (tos : List ℕ) → any_set t tos ≡ true → (to : ℕ) × Contains tos to × (get_or t to false ≡ true)
some_set t [] h = cc
some_set t (x ∷ tos) h = go (get_or t x false) refl h (some_set t tos)
  where
    go : (b : Bool) → get_or t x false ≡ b → b || any_set t tos ≡ true → (any_set t tos ≡ true → (to : ℕ) × Contains tos to × (get_or t to false ≡ true)) → (to : ℕ) × Contains (x ∷ tos) to × (get_or t to false ≡ true)
    go true is g more = (x, (0, omega arith, refl), is)
    go false is g more =
        let r = more g in
        (r.0, (suc r.1.0, (let less : r.1.0 < length tos = r.1.1 in omega arith), r.1.2), r.2)

and_both : (a b : Bool) → a && b ≡ true → (a ≡ true) × (b ≡ true)
and_both true b h = (refl, h)
and_both false b h = cc

or_either : (a b : Bool) → a || b ≡ true → (a ≡ true) ⊎ (b ≡ true)
or_either true b h = inl refl
or_either false b h = inr h

not_false : (a : Bool) → not a ≡ true → a ≡ false
not_false false h = refl
not_false true h = cc

module _ (n : ℕ) (b : Body) (x : Variable) where
  -- ---- what is read later

  abbrev wants : List Bool → ℕ → Option Step → Bool
  wants t at None = false
  wants t at (Some s) = is_read n b s.1 x || (not (is_written s.1 x) && any_set t (successors s.1 (suc at)))

  abbrev Justified : List Bool → Type 0
  Justified t = (at : ℕ) → get_or t at false ≡ true → ReadLater n b x at

  abbrev Closed : List Bool → Type 0
  Closed t = (at : ℕ) → at < length b.steps → wants t at (slice_get b.steps at) ≡ true → get_or t at false ≡ true

  justified_step : (t : List Bool) (at : ℕ) → Justified t → (o : Option Step) → slice_get b.steps at ≡ o → wants t at o ≡ true → ReadLater n b x at
  justified_step t at just None is h = cc
  justified_step t at just (Some s) is h = go (or_either (is_read n b s.1 x) (not (is_written s.1 x) && any_set t (successors s.1 (suc at))) h)
    where
      go : (is_read n b s.1 x ≡ true) ⊎ (not (is_written s.1 x) && any_set t (successors s.1 (suc at)) ≡ true) → ReadLater n b x at
      go (inl read) = reads {line = s.0} is read
      go (inr rest) =
          let two = and_both (not (is_written s.1 x)) (any_set t (successors s.1 (suc at))) rest in
          let there = some_set t (successors s.1 (suc at)) two.1 in
          later {line = s.0} is (not_false (is_written s.1 x) two.0) there.1 (just there.0 there.2)

  all_set : (t : List Bool) → Closed t → (at : ℕ) → ReadLater n b x at → get_or t at false ≡ true
  all_set t closed at (reads {line = line} {i = i} is read) = closed at (slice_get_within b.steps at (line, i) is) (rw (is, read) refl)
  all_set t closed at (later {line = line} {to = to} {i = i} is kept within more) =
      let set : any_set t (successors i (suc at)) ≡ true = set_any t (successors i (suc at)) to within (all_set t closed to more) in
      closed at (slice_get_within b.steps at (line, i) is) (rw (is, kept, set) (either (is_read n b i x)))
    where
      either : (p : Bool) → p || true ≡ true
      either true = refl
      either false = refl

  -- a place that is to be set and isn't, or there is none
  abbrev Lacking : List Bool → Type 0
  Lacking t = (at : ℕ) × (at < length b.steps) × (wants t at (slice_get b.steps at) ≡ true) × (get_or t at false ≡ false)

  search_to : (t : List Bool) (count : ℕ) → count ≤ length b.steps → Lacking t ⊎ ((at : ℕ) → at < count → wants t at (slice_get b.steps at) ≡ true → get_or t at false ≡ true)
  search_to t zero within = inr (λ at less h. absurd (omega arith))
  search_to t (suc count) within = go (search_to t count (omega arith)) (wants t count (slice_get b.steps count)) (get_or t count false) refl refl
    where
      here : count < length b.steps
      here = omega arith

      go : Lacking t ⊎ ((at : ℕ) → at < count → wants t at (slice_get b.steps at) ≡ true → get_or t at false ≡ true) → (w g : Bool) → wants t count (slice_get b.steps count) ≡ w → get_or t count false ≡ g → Lacking t ⊎ ((at : ℕ) → at < suc count → wants t at (slice_get b.steps at) ≡ true → get_or t at false ≡ true)
      go (inl found) w g e f = inl found
      go (inr none) true false e f = inl (count, here, e, f)
      go (inr none) true true e f = inr (λ at less h. elim (cases_eq at count) [
        | inl same ↦ subst (λ (a : ℕ). get_or t a false ≡ true) (sym same) f
        | inr other ↦ (let smaller : at < count = omega arith in none at smaller h)
      ])
      go (inr none) false g e f = inr (λ at less h. elim (cases_eq at count) [
        | inl same ↦ absurd (clash (sym e ∙ ap (λ (a : ℕ). wants t a (slice_get b.steps a)) (sym same) ∙ h))
        | inr other ↦ (let smaller : at < count = omega arith in none at smaller h)
      ])
        where
          clash : false ≡ true → ⊥
          clash h = cc

  record Table : Type 0 where
    table : List Bool
    justified : Justified table
    closed : Closed table

  set_one : (t : List Bool) → Justified t → (found : Lacking t) → Justified (slice_set t found.0 true)
  set_one t just found at h = elim (cases_eq at found.0) [
    | inl same ↦ subst (λ (a : ℕ). ReadLater n b x a) (sym same) (justified_step t found.0 just (slice_get b.steps found.0) refl found.2)
    | inr other ↦ just at (sym (get_or-set_other t found.0 at true false other) ∙ h)
  ]

  settle : (fuel : ℕ) (t : List Bool) → length t ≡ length b.steps → falses t ≤ fuel → Justified t → Table
  settle zero t long few just = go (search_to t (length b.steps) (omega arith))
    where
      go : Lacking t ⊎ Closed t → Table
      go (inr closed) = record { table = t; justified = just; closed = closed }
      go (inl found) = absurd (let less : suc (falses (slice_set t found.0 true)) ≡ falses t = fewer t found.0 (omega (arith, found.1)) found.3 in omega arith)
  settle (suc fuel) t long few just = go (search_to t (length b.steps) (omega arith)) (settle fuel)
    where
      go : Lacking t ⊎ Closed t → ((u : List Bool) → length u ≡ length b.steps → falses u ≤ fuel → Justified u → Table) → Table
      go (inr closed) more = record { table = t; justified = just; closed = closed }
      go (inl found) more =
          let less : suc (falses (slice_set t found.0 true)) ≡ falses t = fewer t found.0 (omega (arith, found.1)) found.3 in
          more (slice_set t found.0 true) (length-set t found.0 true ∙ long) (omega arith) (set_one t just found)

  whole : Table
  whole = settle (falses (none_set (length b.steps))) (none_set (length b.steps)) (none_length (length b.steps)) (omega arith) (λ at h. absurd (none_at (length b.steps) at h))

  pub decided : (at : ℕ) → ReadLater n b x at ⊎ (ReadLater n b x at → ⊥)
  decided at = go (get_or whole.table at false) refl
    where
      go : (v : Bool) → get_or whole.table at false ≡ v → ReadLater n b x at ⊎ (ReadLater n b x at → ⊥)
      go true is = inl (whole.justified at is)
      go false is = inr (λ read. clash (sym is ∙ all_set whole.table whole.closed at read))
        where
          clash : false ≡ true → ⊥
          clash h = cc

-- ---- the marked code

module _ (declared : List Variable) where
  record Becomes (n : ℕ) (b : Body) (at : ℕ) (i : Instr) : Type 0 where
    instr : Instr
    marks : Marks declared n b at i instr

  becomes : (n : ℕ) (b : Body) (at : ℕ) (i : Instr) → Becomes n b at i
  becomes n b at (Load x) = go (may_take declared x) refl (decided n b x (suc at))
    where
      go : (may : Bool) → may_take declared x ≡ may → ReadLater n b x (suc at) ⊎ (ReadLater n b x (suc at) → ⊥) → Becomes n b at (Load x)
      go true is (inr last) = record { instr = as_take (Load x); marks = inl ((is, last), refl) }
      go true is (inl read) = record { instr = Load x; marks = inr (λ uses. uses.1 read, refl) }
      go false is d = record { instr = Load x; marks = inr (λ uses. clash (sym is ∙ uses.0), refl) }
        where
          clash : false ≡ true → ⊥
          clash h = cc
  becomes n b at i = record { instr = i; marks = inr (λ uses. uses, refl) }

  record StepsMarked (n : ℕ) (b : Body) (from : ℕ) (ss : List Step) : Type 0 where
    steps : List Step
    each : (k at : ℕ) → at ≡ from + k → MarksStep declared n b at (slice_get ss k) (slice_get steps k)

  all_steps : (n : ℕ) (b : Body) (from : ℕ) (ss : List Step) → StepsMarked n b from ss
  all_steps n b from [] = record { steps = []; each = λ k at is. tt }
  all_steps n b from (s ∷ ss) =
      let rest = all_steps n b (suc from) ss in
      let first = becomes n b from s.1 in
      record { steps = (s.0, first.instr) ∷ rest.steps; each = each rest first }
    where
      each : (rest : StepsMarked n b (suc from) ss) (first : Becomes n b from s.1) (k at : ℕ) → at ≡ from + k → MarksStep declared n b at (slice_get (s ∷ ss) k) (slice_get ((s.0, first.instr) ∷ rest.steps) k)
      each rest first zero at is = (refl, (let here : from ≡ at = omega arith in subst (λ (a : ℕ). Marks declared n b a s.1 first.instr) here first.marks))
      each rest first (suc k) at is = rest.each k at (omega arith)

  record BodiesMarked (from : ℕ) (bs : List Body) : Type 0 where
    bodies : List Body
    each : (k n : ℕ) → n ≡ from + k → MarksBodies declared n (slice_get bs k) (slice_get bodies k)

  all_bodies : (from : ℕ) (bs : List Body) → BodiesMarked from bs
  all_bodies from [] = record { bodies = []; each = λ k n is. tt }
  all_bodies from (b ∷ bs) =
      let rest = all_bodies (suc from) bs in
      let first = all_steps from b 0 b.steps in
      record { bodies = record b { steps = first.steps } ∷ rest.bodies; each = each rest first }
    where
      each : (rest : BodiesMarked (suc from) bs) (first : StepsMarked from b 0 b.steps) (k n : ℕ) → n ≡ from + k → MarksBodies declared n (slice_get (b ∷ bs) k) (slice_get (record b { steps = first.steps } ∷ rest.bodies) k)
      each rest first zero n is =
          let here : from ≡ n = omega arith in
          subst (λ (m : ℕ). MarksBody declared m b (record b { steps = first.steps })) here (record { rest = refl; steps = λ at. first.each at at (omega arith) })
      each rest first (suc k) n is = rest.each k n (omega arith)

pub marked_is_there : MarkedIsThere
marked_is_there declared c =
    let all = all_bodies declared 0 c.bodies in
    (record { vars = c.vars; bodies = all.bodies }, record { vars = refl; bodies = λ n. all.each n n (omega arith) })
