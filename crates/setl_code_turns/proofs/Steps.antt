-- Steps and runs with fewer and with more turns left.
use Rattle.std.proofs.Common.{arith, ◌≡◌, refl, sym, ap, ◌∙◌, subst, ℕ, zero, suc, Bool, true, false, List, [], ◌∷◌}
use Rattle.std.specs.Prelude.{◌≤◌, ◌<◌, ◌+◌, ◌++◌}
use Rattle.setl_model_runs.specs.Variable.{Global, Own, Bound}
use Rattle.setl_model_runs.specs.Events.{End, Done, Stopped, Unfit, Spent, Stuck}
use Rattle.setl_model_runs.specs.Run.{Store, Move, Moves, Halts, State, Next, Goes, Ends, Test, stored, if_fits, store_all, settle, step, and_then, run}
use Rattle.setl_code.specs.Code.{Code}
use Rattle.setl_code.specs.CodeCore.{CodeCore}
use Rattle.setl_code.specs.Machine.{machine, fetch}
use Rattle.setl_code_turns.specs.Laws.{richer}
use Rattle.setl_code_turns.proofs.Moves.{Follows, IsPoor}
use Rattle.setl_code_turns.proofs.Instructions.{stepping}

-- What a step ends in with d turns more: the same end; where turns lacked nothing was done, and with the others fewer than d
-- are left.
abbrev pub KeepsEnd : (d : ℕ) → State CodeCore → End → State CodeCore → Next CodeCore → Type 0
KeepsEnd d s Spent t y = (t ≡ s) × ((u : State CodeCore) → y ≡ Goes u → u.core.world.left < d)
KeepsEnd d s Done t y = y ≡ Ends Done (richer d t)
KeepsEnd d s (Stopped why line) t y = y ≡ Ends (Stopped why line) (richer d t)
KeepsEnd d s Stuck t y = y ≡ Ends Stuck (richer d t)

-- What comes after a state, and after that state with d turns more.
abbrev pub Comes : (d : ℕ) → State CodeCore → Next CodeCore → Next CodeCore → Type 0
Comes d s (Goes t) y = (y ≡ Goes (richer d t)) × (t.core.world.left ≤ s.core.world.left)
Comes d s (Ends e t) y = KeepsEnd d s e t y

module _ (c : Code) (test : Test) (d : ℕ) (some : 0 < d) where
  -- a store in a core with more turns left
  stored_richer : (line : ℕ) (x : Store) (s : State CodeCore) → stored (machine c) line x (richer d s) ≡ richer d (stored (machine c) line x s)
  stored_richer line (Global name, v) s = refl
  stored_richer line (Own body name, v) s = refl
  stored_richer line (Bound former name, v) s = refl

  stored_left : (line : ℕ) (x : Store) (s : State CodeCore) → (stored (machine c) line x s).core.world.left ≡ s.core.world.left
  stored_left line (Global name, v) s = refl
  stored_left line (Own body name, v) s = refl
  stored_left line (Bound former name, v) s = refl

  stores_come : (line : ℕ) (xs : List Store) (a s : State CodeCore) → s.core.world.left ≤ a.core.world.left → Comes d a (store_all (machine c) test line xs s) (store_all (machine c) test line xs (richer d s))
  stores_come line [] a s h = (refl, h)
  stores_come line (x ∷ xs) a s h = split (test x.0 x.1) (stores_come line xs a (stored (machine c) line x s) (subst (λ k. k ≤ a.core.world.left) (sym (stored_left line x s)) h))
    where
      split : (b : Bool) → Comes d a (store_all (machine c) test line xs (stored (machine c) line x s)) (store_all (machine c) test line xs (richer d (stored (machine c) line x s))) → Comes d a (if_fits b (store_all (machine c) test line xs (stored (machine c) line x s)) (Stopped (Unfit x.0) line) s) (if_fits b (store_all (machine c) test line xs (stored (machine c) line x (richer d s))) (Stopped (Unfit x.0) line) (richer d s))
      split true later = rw (stored_richer line x s) (later)
      split false later = refl

  -- stores leave the turns
  poor_stores : (line : ℕ) (xs : List Store) (s u : State CodeCore) → s.core.world.left < d → store_all (machine c) test line xs s ≡ Goes u → u.core.world.left < d
  poor_stores line [] s u h e = let same : s ≡ u = cc in subst (λ (t : State CodeCore). t.core.world.left < d) same h
  poor_stores line (x ∷ xs) s u h e = split (test x.0 x.1) e (λ k. poor_stores line xs (stored (machine c) line x s) u (subst (λ n. n < d) (sym (stored_left line x s)) h) k)
    where
      split : (b : Bool) → if_fits b (store_all (machine c) test line xs (stored (machine c) line x s)) (Stopped (Unfit x.0) line) s ≡ Goes u → (store_all (machine c) test line xs (stored (machine c) line x s) ≡ Goes u → u.core.world.left < d) → u.core.world.left < d
      split true e later = later e
      split false e later = absurd (cc)

  poor_settles : (s u : State CodeCore) (m : Move CodeCore) → IsPoor d m → settle (machine c) test s m ≡ Goes u → u.core.world.left < d
  poor_settles s u (Moves said told to line xs) h e = poor_stores line xs (record { core = to; out = s.out ++ said; events = s.events ++ told }) u h e
  poor_settles s u (Halts f) h e = absurd (cc)

  settle_comes : (s : State CodeCore) (m m' : Move CodeCore) → Follows s.core.world.left d m m' → Comes d s (settle (machine c) test s m) (settle (machine c) test (richer d s) m')
  settle_comes s (Moves said told to line xs) m' h = rw (h.0) (stores_come line xs s (record { core = to; out = s.out ++ said; events = s.events ++ told }) h.1)
  settle_comes s (Halts Done) m' h = rw h
  settle_comes s (Halts (Stopped why line)) m' h = rw h
  settle_comes s (Halts Stuck) m' h = rw h
  settle_comes s (Halts Spent) m' h = (refl, λ u e. poor_settles (richer d s) u m' h e)

  pub step_comes : (s : State CodeCore) → Comes d s (step (machine c) test s) (step (machine c) test (richer d s))
  step_comes s = settle_comes s _ _ (stepping d some c (fetch c s.core.now.body s.core.now.at) s.core)

-- ---- runs

never_grows_once : (c : Code) (test : Test) (s t : State CodeCore) → step (machine c) test s ≡ Goes t → t.core.world.left ≤ s.core.world.left
never_grows_once c test s t e = (subst (λ x. Comes 1 s x (step (machine c) test (richer 1 s))) e (step_comes c test 1 (omega arith) s)).1

pub never_grows : (c : Code) (test : Test) (n : ℕ) (s t : State CodeCore) → run (machine c) test n s ≡ Goes t → t.core.world.left ≤ s.core.world.left
never_grows c test zero s t e = let same : s ≡ t = cc in subst (λ (u : State CodeCore). u.core.world.left ≤ s.core.world.left) same (omega arith)
never_grows c test (suc n) s t e = go (step (machine c) test s) refl e (λ u k. never_grows c test n u t k)
  where
    go : (x : Next CodeCore) → step (machine c) test s ≡ x → and_then x (run (machine c) test n) ≡ Goes t → ((u : State CodeCore) → run (machine c) test n u ≡ Goes t → t.core.world.left ≤ u.core.world.left) → t.core.world.left ≤ s.core.world.left
    go (Goes u) is e later = omega (arith, never_grows_once c test s u is, later u e)
    go (Ends f u) is e later = absurd (cc)

-- one step more
no_more : (c : Code) (test : Test) (x : Next CodeCore) → and_then x (run (machine c) test 0) ≡ x
no_more c test (Goes t) = refl
no_more c test (Ends e t) = refl

pub one_more : (c : Code) (test : Test) (n : ℕ) (a b : State CodeCore) → run (machine c) test n a ≡ Goes b → run (machine c) test (suc n) a ≡ step (machine c) test b
one_more c test zero a b h = let same : a ≡ b = cc in subst (λ (s : State CodeCore). run (machine c) test 1 a ≡ step (machine c) test s) same (no_more c test (step (machine c) test a))
one_more c test (suc n) a b h = go (step (machine c) test a) h (λ d k. one_more c test n d b k)
  where
    go : (x : Next CodeCore) → and_then x (run (machine c) test n) ≡ Goes b → ((d : State CodeCore) → run (machine c) test n d ≡ Goes b → run (machine c) test (suc n) d ≡ step (machine c) test b) → and_then x (run (machine c) test (suc n)) ≡ step (machine c) test b
    go (Goes d) h later = later d h
    go (Ends e d) h later = absurd (cc)

module _ (c : Code) (test : Test) (d : ℕ) (some : 0 < d) where
  pub reaches : (n : ℕ) (s t : State CodeCore) → run (machine c) test n (richer d s) ≡ Goes t → d ≤ t.core.world.left → (u : State CodeCore) × (run (machine c) test n s ≡ Goes u) × (t ≡ richer d u)
  reaches zero s t e h = let same : richer d s ≡ t = cc in (s, refl, sym same)
  reaches (suc n) s t e h = go (step (machine c) test s) (step_comes c test d some s) (λ a k. reaches n a t k h)
    where
      ended : (f : End) (u : State CodeCore) → step (machine c) test (richer d s) ≡ Ends f u → ⊥
      ended f u is = let k : and_then (Ends f u) (run (machine c) test n) ≡ Goes t = subst (λ x. and_then x (run (machine c) test n) ≡ Goes t) is e in cc

      spent : ((u : State CodeCore) → step (machine c) test (richer d s) ≡ Goes u → u.core.world.left < d) → (x : Next CodeCore) → step (machine c) test (richer d s) ≡ x → and_then x (run (machine c) test n) ≡ Goes t → ⊥
      spent few (Goes u) is k = omega (arith, few u is, never_grows c test n u t k, h)
      spent few (Ends f u) is k = cc

      go : (x : Next CodeCore) → Comes d s x (step (machine c) test (richer d s)) → ((a : State CodeCore) → run (machine c) test n (richer d a) ≡ Goes t → (u : State CodeCore) × (run (machine c) test n a ≡ Goes u) × (t ≡ richer d u)) → (u : State CodeCore) × (and_then x (run (machine c) test n) ≡ Goes u) × (t ≡ richer d u)
      go (Goes a) come later = later a (subst (λ x. and_then x (run (machine c) test n) ≡ Goes t) come.0 e)
      go (Ends Spent a) come later = absurd (spent come.1 (step (machine c) test (richer d s)) refl e)
      go (Ends Done a) come later = absurd (ended Done (richer d a) come)
      go (Ends (Stopped why line) a) come later = absurd (ended (Stopped why line) (richer d a) come)
      go (Ends Stuck a) come later = absurd (ended Stuck (richer d a) come)

  pub spends : (s u : State CodeCore) → step (machine c) test (richer d s) ≡ Goes u → u.core.world.left < d → step (machine c) test s ≡ Ends Spent s
  spends s u e few = go (step (machine c) test s) (step_comes c test d some s)
    where
      other : (f : End) (t : State CodeCore) → step (machine c) test (richer d s) ≡ Ends f t → ⊥
      other f t is = cc

      go : (x : Next CodeCore) → Comes d s x (step (machine c) test (richer d s)) → x ≡ Ends Spent s
      go (Goes t) come =
          let same : u ≡ richer d t = cc in
          let left : u.core.world.left ≡ t.core.world.left + d = ap (λ (w : State CodeCore). w.core.world.left) same in
          absurd (omega (arith, left, few))
      go (Ends Spent t) come = ap (Ends Spent) come.0
      go (Ends Done t) come = absurd (other Done (richer d t) come)
      go (Ends (Stopped why line) t) come = absurd (other (Stopped why line) (richer d t) come)
      go (Ends Stuck t) come = absurd (other Stuck (richer d t) come)

  pub stops : (s t u : State CodeCore) (f : End) → step (machine c) test (richer d s) ≡ Ends f u → step (machine c) test s ≡ Goes t → ⊥
  stops s t u f e g = let come = subst (λ x. Comes d s x (step (machine c) test (richer d s))) g (step_comes c test d some s) in let goes = come.0 in cc

  pub keeps_end : (n : ℕ) (s t : State CodeCore) (e : End) → (e ≡ Spent → ⊥) → run (machine c) test n s ≡ Ends e t → run (machine c) test n (richer d s) ≡ Ends e (richer d t)
  keeps_end zero s t e other h = absurd (cc)
  keeps_end (suc n) s t e other h = go (step (machine c) test s) (step_comes c test d some s) h (λ a k. keeps_end n a t e other k)
    where
      alike : (f : End) (a : State CodeCore) → step (machine c) test (richer d s) ≡ Ends f (richer d a) → Ends f a ≡ Ends e t → and_then (step (machine c) test (richer d s)) (run (machine c) test n) ≡ Ends e (richer d t)
      alike f a come k =
          let end : f ≡ e = cc in
          let state : a ≡ t = cc in
          subst (λ y. and_then y (run (machine c) test n) ≡ Ends e (richer d t)) (sym come) (ap (λ g. Ends g (richer d a)) end ∙ ap (λ b. Ends e (richer d b)) state)

      go : (x : Next CodeCore) → Comes d s x (step (machine c) test (richer d s)) → and_then x (run (machine c) test n) ≡ Ends e t → ((a : State CodeCore) → run (machine c) test n a ≡ Ends e t → run (machine c) test n (richer d a) ≡ Ends e (richer d t)) → and_then (step (machine c) test (richer d s)) (run (machine c) test n) ≡ Ends e (richer d t)
      go (Goes a) come h later = subst (λ y. and_then y (run (machine c) test n) ≡ Ends e (richer d t)) (sym come.0) (later a h)
      go (Ends Spent a) come h later = let end : Spent ≡ e = cc in absurd (other (sym end))
      go (Ends Done a) come h later = alike Done a come h
      go (Ends (Stopped why line) a) come h later = alike (Stopped why line) a come h
      go (Ends Stuck a) come h later = alike Stuck a come h
