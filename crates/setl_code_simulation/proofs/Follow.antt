-- A machine that follows another runs alike.
use Rattle.std.proofs.Common.{◌≡◌, subst, ◌<◌, ◌≤◌, ◌+◌, arith, ℕ, zero, suc, Bool, true, false, List, [], ◌∷◌, ◌++◌, refl, sym, ap, ◌∙◌, append-nil}
use Rattle.setl_model_runs.specs.Events.{End, Unfit, Stored, Stopped, Event}
use Rattle.setl_model_runs.specs.RunLaws.{runs_join}
use Rattle.setl_model_runs.specs.Run.{Store, Move, State, Next, Goes, Ends, Machine, Test, if_fits, stored, store_all, settle, step, and_then, run}
use Rattle.setl_code_simulation.specs.Follow.{Related, moves, halts, quiet, Answers, by_step, after_step, by_none, Follows, Shows, Shares, Same}

-- a run ends in one way
pub ends_alike : {C : Type 0} (n : Machine C) (test : Test) (k i : ℕ) (a l l' : State C) (e e' : End) → run n test k a ≡ Ends e l → run n test i a ≡ Ends e' l' → Ends e l ≡ Ends e' l'
ends_alike n test zero i a l l' e e' h g = cc
ends_alike n test (suc k) zero a l l' e e' h g = cc
ends_alike {C = C} n test (suc k) (suc i) a l l' e e' h g = go (step n test a) h g (λ b. ends_alike n test k i b l l' e e')
  where
    go : (x : Next C) → and_then x (run n test k) ≡ Ends e l → and_then x (run n test i) ≡ Ends e' l' → ((b : State C) → run n test k b ≡ Ends e l → run n test i b ≡ Ends e' l' → Ends e l ≡ Ends e' l') → Ends e l ≡ Ends e' l'
    go (Goes b) h g ih = ih b h g
    go (Ends f b) h g ih = sym h ∙ g

-- A move that the second makes alike, or that is quiet.
pub data MadeAlike {K C : Type 0} (R : K → C → Type 0) (x : Move K) (y : Move C) : Type 0 where
  alike : Related R x y → MadeAlike R x y
  alone : (k : K) → x ≡ quiet k → MadeAlike R x y

-- The second comes to a state that shows the same, with that in hand which the first does next.
pub record Meets {K C : Type 0} (m : Machine K) (n : Machine C) (R InHand Seen : K → C → Type 0) (test : Test) (s : State K) (t : State C) : Type 0 where
  pub steps : ℕ
  pub state : State C
  pub leads : run n test steps t ≡ Goes state
  pub same : Shares Seen s state
  pub in_hand : InHand s.core state.core
  pub made : MadeAlike R (m.move s.core) (n.move state.core)

module _ (K C : Type 0) (m : Machine K) (n : Machine C) (R : K → C → Type 0) (rank : (k : K) (c : C) → R k c → ℕ) (Keeps : C → C → Type 0) (InHand : K → C → Type 0) (Seen : K → C → Type 0) (follows : Follows m n R rank Keeps InHand) (shows : Shows R Keeps Seen) (test : Test) where
  seen : (s : State K) (t : State C) → Shares R s t → Shares Seen s t
  seen s t h = record { core = shows.seen s.core t.core h.core; out = h.out; events = h.events }

  stores_same : (line : ℕ) (xs : List Store) (s : State K) (t : State C) → Shares R s t → Same R Seen (store_all m test line xs s) (store_all n test line xs t)
  stores_same line [] s t h = h
  stores_same line (x ∷ xs) s t h = go (test x.0 x.1) (stores_same line xs _ _ one)
    where
      one : Shares R (stored m line x s) (stored n line x t)
      one = record { core = follows.writes x.0 x.1 s.core t.core h.core; out = h.out; events = ap (λ l. l ++ Stored line x.0 x.1 ∷ []) h.events }

      go : (b : Bool) → Same R Seen (store_all m test line xs (stored m line x s)) (store_all n test line xs (stored n line x t)) → Same R Seen (if_fits b (store_all m test line xs (stored m line x s)) (Stopped (Unfit x.0) line) s) (if_fits b (store_all n test line xs (stored n line x t)) (Stopped (Unfit x.0) line) t)
      go true later = later
      go false later = (refl, seen s t h)

  settle_same : (x : Move K) (y : Move C) (s : State K) (t : State C) → Related R x y → Shares Seen s t → Same R Seen (settle m test s x) (settle n test t y)
  settle_same x y s t (moves {said = said} {told = told} {line = line} {xs = xs} r) h =
      stores_same line xs _ _ (record { core = r; out = ap (λ l. l ++ said) h.out; events = ap (λ l. l ++ told) h.events })
  settle_same x y s t halts h = (refl, h)

  then_goes : (x : Next C) → and_then x Goes ≡ x
  then_goes (Goes s) = refl
  then_goes (Ends e s) = refl

  abbrev at : C → List ℕ → List Event → State C
  at c out events = record { core = c; out = out; events = events }

  -- a quiet step leads to a state with the same output and events
  quiet_step : (c c' : C) (out : List ℕ) (events : List Event) → n.move c ≡ quiet c' → step n test (at c out events) ≡ Goes (at c' (out ++ []) (events ++ []))
  quiet_step c c' out events q = ap (settle n test (at c out events)) q

  quiet_shares : (s : State K) (c c' : C) (out : List ℕ) (events : List Event) → Keeps c c' → Shares Seen s (at c out events) → Shares Seen s (at c' (out ++ []) (events ++ []))
  quiet_shares s c c' out events stays h =
      record { core = shows.kept s.core c c' h.core stays; out = h.out ∙ sym (append-nil out); events = h.events ∙ sym (append-nil events) }

  -- One move of the first is some steps of the second, one at least; or none, where the rank falls.
  data Reply (r : ℕ) (x : Move K) (s : State K) (t : State C) : Type 0 where
    stepped : (k : ℕ) → Same R Seen (settle m test s x) (run n test (suc k) t) → Reply r x s t
    idle : (k : K) → settle m test s x ≡ Goes (record { core = k; out = s.out ++ []; events = s.events ++ [] }) → (h : R k t.core) → rank k t.core h < r → Reply r x s t

  more : (r r' : ℕ) (x : Move K) (s : State K) (t u : State C) → step n test t ≡ Goes u → (s.out ≡ u.out) → (s.events ≡ u.events) → Reply r' x s u → Reply r x s t
  more r r' x s t u e o v (stepped k same) = stepped (suc k) (rw e same)
  more r r' x s t u e o v (idle k q h l) =
      stepped 0 (rw (q, e) (record { core = h; out = append-nil s.out ∙ o; events = append-nil s.events ∙ v }))

  answer : (s : State K) (r : ℕ) (x : Move K) (c : C) (out : List ℕ) (events : List Event) → Answers R rank n Keeps (InHand s.core) r x c → Shares Seen s (at c out events) → Reply r x s (at c out events)
  answer s r x c out events (by_step does h) shares =
      stepped 0 (rw (then_goes (settle n test (at c out events) (n.move c))) (settle_same x (n.move c) s _ h shares))
  answer s r x c out events (after_step {r' = r'} c' q stays a) shares =
      let later = quiet_shares s c c' out events stays shares in
      more r r' x s (at c out events) (at c' (out ++ []) (events ++ [])) (quiet_step c c' out events q) later.out later.events (answer s r' x c' (out ++ []) (events ++ []) a later)
  answer s r x c out events (by_none {k = k} does h l) shares = idle k refl h l

  answered : (s : State K) (t : State C) (h : Shares R s t) → Reply (rank s.core t.core h.core) (m.move s.core) s t
  answered s t h = answer s (rank s.core t.core h.core) (m.move s.core) t.core t.out t.events (follows.answers s.core t.core h.core) (seen s t h)

  abbrev still_shares : (k : K) (s : State K) (t : State C) → R k t.core → Shares R s t → Shares R (record { core = k; out = s.out ++ []; events = s.events ++ [] }) t
  still_shares k s t h shares = record { core = h; out = append-nil s.out ∙ shares.out; events = append-nil s.events ∙ shares.events }

  -- ---- ends

  abbrev EndsWith : End → State C → State K → Type 0
  EndsWith e l s = (j : ℕ) × (s' : State K) × (run m test j s ≡ Ends e s') × Shares Seen s' l

  one_more : (e : End) (l : State C) (s u : State K) → step m test s ≡ Goes u → EndsWith e l u → EndsWith e l s
  one_more e l s u h (j, s', r, v) = (suc j, s', ap (λ y. and_then y (run m test j)) h ∙ r, v)

  goes_then_ends : (k i : ℕ) (t u l : State C) (e : End) → run n test k t ≡ Goes u → run n test i t ≡ Ends e l → (j : ℕ) × (j + k ≡ i) × (run n test j u ≡ Ends e l)
  goes_then_ends zero i t u l e h g = let same : t ≡ u = cc in (i, omega arith, ap (run n test i) (sym same) ∙ g)
  goes_then_ends (suc k) zero t u l e h g = cc
  goes_then_ends (suc k) (suc i) t u l e h g = go (step n test t) h g (λ b. goes_then_ends k i b u l e)
    where
      go : (x : Next C) → and_then x (run n test k) ≡ Goes u → and_then x (run n test i) ≡ Ends e l → ((b : State C) → run n test k b ≡ Goes u → run n test i b ≡ Ends e l → (j : ℕ) × (j + k ≡ i) × (run n test j u ≡ Ends e l)) → (j : ℕ) × (j + suc k ≡ suc i) × (run n test j u ≡ Ends e l)
      go (Goes b) h g ih = let r = ih b h g in (r.0, omega (arith, r.1), r.2)
      go (Ends f b) h g ih = cc

  module _ (e : End) (l : State C) where
    within : (b : ℕ) → ((s : State K) (t : State C) (i : ℕ) → i ≤ b → Shares R s t → run n test i t ≡ Ends e l → EndsWith e l s) → (r : ℕ) (s : State K) (t : State C) (i : ℕ) → i ≤ suc b → (h : Shares R s t) → rank s.core t.core h.core < r → run n test i t ≡ Ends e l → EndsWith e l s
    within b fewer zero s t i le h lt g = let no : ⊥ = omega arith in absurd no
    within b fewer (suc r) s t i le h lt g =
        go (answered s t h) (within b fewer r)
      where
        ended : (x : Next K) (k : ℕ) (y : Next C) → step m test s ≡ x → run n test (suc k) t ≡ y → Same R Seen x y → EndsWith e l s
        ended (Goes u) k (Goes v) hx hy same =
            let c = goes_then_ends (suc k) i t v l e hy g in
            one_more e l s u hx (fewer u v c.0 (let q = c.1 in omega (arith, q)) same c.2)
        ended (Ends f u) k (Ends f' v) hx hy same =
            let a = ends_alike n test (suc k) i t v l f' e hy g in
            let e1 : f' ≡ e = cc in
            let e2 : v ≡ l = cc in
            (1, u, ap (λ y. and_then y (run m test 0)) hx ∙ ap (λ z. Ends z u) (same.0 ∙ e1), subst (λ z. Shares Seen u z) e2 same.1)
        ended (Goes u) k (Ends f' v) hx hy same = absurd same
        ended (Ends f u) k (Goes v) hx hy same = absurd same

        go : Reply (rank s.core t.core h.core) (m.move s.core) s t → ((s : State K) (t : State C) (i : ℕ) → i ≤ suc b → (h : Shares R s t) → rank s.core t.core h.core < r → run n test i t ≡ Ends e l → EndsWith e l s) → EndsWith e l s
        go (stepped k same) ih = ended _ k _ refl refl same
        go (idle k q h' l') ih =
            one_more e l s _ q (ih _ t i le (still_shares k s t h' h) (omega (arith, l', lt)) g)

    follow_end : (b : ℕ) (s : State K) (t : State C) (i : ℕ) → i ≤ b → Shares R s t → run n test i t ≡ Ends e l → EndsWith e l s
    follow_end b s t zero le h g = cc
    follow_end zero s t (suc i) le h g = let no : ⊥ = omega arith in absurd no
    follow_end (suc b) s t (suc i) le h g = within b (follow_end b) (suc (rank s.core t.core h.core)) s t (suc i) le h (omega arith) g

  -- where the second ends, the first ends alike
  pub ends_too : (e : End) (l : State C) (s : State K) (t : State C) (i : ℕ) → Shares R s t → run n test i t ≡ Ends e l → EndsWith e l s
  ends_too e l s t i h g = follow_end e l i s t i (omega arith) h g

  abbrev EndsThere : End → State K → State C → Type 0
  EndsThere e l t = (j : ℕ) × (t' : State C) × (run n test j t ≡ Ends e t') × Shares Seen l t'

  -- where the first ends, the second ends alike
  pub ends_there : (i : ℕ) (e : End) (l : State K) (s : State K) (t : State C) → Shares R s t → run m test i s ≡ Ends e l → EndsThere e l t
  ends_there zero e l s t h g = cc
  ends_there (suc i) e l s t h g =
      go (answered s t h) (ends_there i e l)
    where
      joined : (k : ℕ) (v : State C) → run n test (suc k) t ≡ Goes v → EndsThere e l v → EndsThere e l t
      joined k v hy (j, t', r, q) = let all = runs_join n test (suc k) j t v (Ends e t') hy r in (all.0, t', all.1, q)

      ended : (x : Next K) (k : ℕ) (y : Next C) → step m test s ≡ x → run n test (suc k) t ≡ y → Same R Seen x y → and_then x (run m test i) ≡ Ends e l → ((s : State K) (t : State C) → Shares R s t → run m test i s ≡ Ends e l → EndsThere e l t) → EndsThere e l t
      ended (Goes u) k (Goes v) hx hy same later ih = joined k v hy (ih u v same later)
      ended (Ends f u) k (Ends f' v) hx hy same later ih =
          let e1 : f ≡ e = cc in
          let l1 : u ≡ l = cc in
          (suc k, v, hy ∙ ap (λ z. Ends z v) (sym same.0 ∙ e1), subst (λ z. Shares Seen z v) l1 same.1)
      ended (Goes u) k (Ends f' v) hx hy same later ih = absurd same
      ended (Ends f u) k (Goes v) hx hy same later ih = absurd same

      go : Reply (rank s.core t.core h.core) (m.move s.core) s t → ((s : State K) (t : State C) → Shares R s t → run m test i s ≡ Ends e l → EndsThere e l t) → EndsThere e l t
      go (stepped k same) ih = ended _ k _ refl refl same g ih
      go (idle k q h' l') ih =
          let s' : State K = record { core = k; out = s.out ++ []; events = s.events ++ [] } in
          let later : run m test i s' ≡ Ends e l = sym (ap (λ x. and_then x (run m test i)) q) ∙ g in
          ih s' t (still_shares k s t h' h) later

  -- ---- reached states

  abbrev ReachesThere : State K → State C → Type 0
  ReachesThere u t = (j : ℕ) × (t' : State C) × (run n test j t ≡ Goes t') × Shares R u t'

  -- where the first comes to a state, the second comes to a related one
  reaches_there : (i : ℕ) (u s : State K) (t : State C) → Shares R s t → run m test i s ≡ Goes u → ReachesThere u t
  reaches_there zero u s t h g = let same : s ≡ u = cc in (0, t, refl, subst (λ z. Shares R z t) same h)
  reaches_there (suc i) u s t h g = go (answered s t h) (reaches_there i u)
    where
      joined : (k : ℕ) (v : State C) → run n test (suc k) t ≡ Goes v → ReachesThere u v → ReachesThere u t
      joined k v hy (j, t', r, q) = let all = runs_join n test (suc k) j t v (Goes t') hy r in (all.0, t', all.1, q)

      went : (x : Next K) (k : ℕ) (y : Next C) → run n test (suc k) t ≡ y → Same R Seen x y → and_then x (run m test i) ≡ Goes u → ((s : State K) (t : State C) → Shares R s t → run m test i s ≡ Goes u → ReachesThere u t) → ReachesThere u t
      went (Goes a) k (Goes v) hy same later ih = joined k v hy (ih a v same later)
      went (Ends f a) k y hy same later ih = cc
      went (Goes a) k (Ends f v) hy same later ih = absurd same

      go : Reply (rank s.core t.core h.core) (m.move s.core) s t → ((s : State K) (t : State C) → Shares R s t → run m test i s ≡ Goes u → ReachesThere u t) → ReachesThere u t
      go (stepped k same) ih = went _ k _ refl same g ih
      go (idle k q h' l') ih =
          let s' : State K = record { core = k; out = s.out ++ []; events = s.events ++ [] } in
          let later : run m test i s' ≡ Goes u = sym (ap (λ x. and_then x (run m test i)) q) ∙ g in
          ih s' t (still_shares k s t h' h) later

  after_quiet : (s : State K) (t u : State C) → step n test t ≡ Goes u → Meets m n R InHand Seen test s u → Meets m n R InHand Seen test s t
  after_quiet s t u h r =
      record { steps = suc r.steps; state = r.state; leads = ap (λ y. and_then y (run n test r.steps)) h ∙ r.leads; same = r.same; in_hand = r.in_hand; made = r.made }

  meets_by : (s : State K) (r : ℕ) (x : Move K) (c : C) (out : List ℕ) (events : List Event) → Answers R rank n Keeps (InHand s.core) r x c → m.move s.core ≡ x → Shares Seen s (at c out events) → Meets m n R InHand Seen test s (at c out events)
  meets_by s r x c out events (by_step does h) is shares =
      record { steps = 0; state = at c out events; leads = refl; same = shares; in_hand = does; made = alike (subst (λ y. Related R y (n.move c)) (sym is) h) }
  meets_by s r x c out events (after_step {r' = r'} c' q stays a) is shares =
      let later = quiet_shares s c c' out events stays shares in
      after_quiet s (at c out events) (at c' (out ++ []) (events ++ [])) (quiet_step c c' out events q) (meets_by s r' x c' (out ++ []) (events ++ []) a is later)
  meets_by s r x c out events (by_none {k = k} does h l) is shares =
      record { steps = 0; state = at c out events; leads = refl; same = shares; in_hand = does; made = alone k is }

  meets : (s : State K) (t : State C) → Shares R s t → Meets m n R InHand Seen test s t
  meets s t h = meets_by s (rank s.core t.core h.core) (m.move s.core) t.core t.out t.events (follows.answers s.core t.core h.core) refl (seen s t h)

  -- where the first comes to a state, the second meets what it does next
  pub meets_there : (i : ℕ) (u s : State K) (t : State C) → Shares R s t → run m test i s ≡ Goes u → Meets m n R InHand Seen test u t
  meets_there i u s t h g =
      let r = reaches_there i u s t h g in
      let x = meets u r.1 r.3 in
      let all = runs_join n test r.0 x.steps t r.1 (Goes x.state) r.2 x.leads in
      record { steps = all.0; state = x.state; leads = all.1; same = x.same; in_hand = x.in_hand; made = x.made }
