-- Laws over the runs of any machine.
use Rattle.std.proofs.Common.{◌≡◌, ℕ, zero, suc, Bool, true, false, List, [], ◌∷◌, ◌++◌, refl, sym, ap, ◌∙◌, subst, append_assoc, append-nil}
use Rattle.setl_model_runs.specs.Variable.{Variable}
use Rattle.setl_model_runs.specs.Events.{Unfit, End, Stopped}
use Rattle.setl_model_runs.specs.Run.{Store, Move, Moves, Halts, State, Next, Goes, Ends, Machine, Test, stored, if_fits, store_all, settle, step, and_then, run}
use Rattle.setl_model.specs.Laws.{Grows, IsFront, IsUnfit}

module _ (C : Type 0) (m : Machine C) where
  -- One end.

  pub ends_alike : (test : Test) (n k : ℕ) (a l l' : State C) (e e' : End) → run m test n a ≡ Ends e l → run m test k a ≡ Ends e' l' → Ends e l ≡ Ends e' l'
  ends_alike test zero k a l l' e e' h g = cc
  ends_alike test (suc n) zero a l l' e e' h g = cc
  ends_alike test (suc n) (suc k) a l l' e e' h g = go (step m test a) h g (λ b. ends_alike test n k b l l' e e')
    where
      go : (x : Next C) → and_then x (run m test n) ≡ Ends e l → and_then x (run m test k) ≡ Ends e' l' → ((b : State C) → run m test n b ≡ Ends e l → run m test k b ≡ Ends e' l' → Ends e l ≡ Ends e' l') → Ends e l ≡ Ends e' l'
      go (Goes b) h g ih = ih b h g
      go (Ends f b) h g ih = sym h ∙ g

  -- a state that a run passes has that run's end before it
  pub goes_then_ends : (test : Test) (k n : ℕ) (a t l : State C) (e : End) → run m test k a ≡ Goes t → run m test n a ≡ Ends e l → (j : ℕ) × (run m test j t ≡ Ends e l)
  goes_then_ends test zero n a t l e h g = let same : a ≡ t = cc in (n, ap (run m test n) (sym same) ∙ g)
  goes_then_ends test (suc k) zero a t l e h g = cc
  goes_then_ends test (suc k) (suc n) a t l e h g = go (step m test a) h g (λ b. goes_then_ends test k n b t l e)
    where
      go : (x : Next C) → and_then x (run m test k) ≡ Goes t → and_then x (run m test n) ≡ Ends e l → ((b : State C) → run m test k b ≡ Goes t → run m test n b ≡ Ends e l → (j : ℕ) × (run m test j t ≡ Ends e l)) → (j : ℕ) × (run m test j t ≡ Ends e l)
      go (Goes b) h g ih = ih b h g
      go (Ends f b) h g ih = cc

  -- Growth.

  abbrev pub GrowsTo : State C → Next C → Type 0
  GrowsTo a (Goes b) = Grows C a b
  GrowsTo a (Ends e b) = Grows C a b

  grows_refl : (a : State C) → Grows C a a
  grows_refl a = record { said = []; told = []; out = sym (append-nil a.out); events = sym (append-nil a.events) }

  grows_trans : (a b c : State C) → Grows C a b → Grows C b c → Grows C a c
  grows_trans a b c g h =
      record {
        said = g.said ++ h.said;
        told = g.told ++ h.told;
        out = h.out ∙ ap (λ o. o ++ h.said) g.out ∙ append_assoc a.out g.said h.said;
        events = h.events ∙ ap (λ o. o ++ h.told) g.events ∙ append_assoc a.events g.told h.told;
      }

  grows_to : (a b : State C) (n : Next C) → Grows C a b → GrowsTo b n → GrowsTo a n
  grows_to a b (Goes c) g h = grows_trans a b c g h
  grows_to a b (Ends e c) g h = grows_trans a b c g h

  stores_grow : (test : Test) (line : ℕ) (xs : List Store) (a : State C) → GrowsTo a (store_all m test line xs a)
  stores_grow test line [] a = grows_refl a
  stores_grow test line (x ∷ xs) a = go (test x.0 x.1) (stores_grow test line xs (stored m line x a))
    where
      one : Grows C a (stored m line x a)
      one = record { said = []; told = _; out = sym (append-nil a.out); events = refl }

      go : (b : Bool) → GrowsTo (stored m line x a) (store_all m test line xs (stored m line x a)) → GrowsTo a (if_fits b (store_all m test line xs (stored m line x a)) (Stopped (Unfit x.0) line) a)
      go true later = grows_to a (stored m line x a) _ one later
      go false later = grows_refl a

  settle_grows : (test : Test) (a : State C) (move : Move C) → GrowsTo a (settle m test a move)
  settle_grows test a (Moves said told to line xs) =
      grows_to a (record { core = to; out = a.out ++ said; events = a.events ++ told }) _ (record { said = said; told = told; out = refl; events = refl }) (stores_grow test line xs _)
  settle_grows test a (Halts e) = grows_refl a

  pub step_grows : (test : Test) (a : State C) → GrowsTo a (step m test a)
  step_grows test a = settle_grows test a (m.move a.core)

  pub run_grows : (test : Test) (n : ℕ) (a : State C) → GrowsTo a (run m test n a)
  run_grows test zero a = grows_refl a
  run_grows test (suc n) a = go (step m test a) (step_grows test a) (run_grows test n)
    where
      go : (x : Next C) → GrowsTo a x → ((b : State C) → GrowsTo b (run m test n b)) → GrowsTo a (and_then x (run m test n))
      go (Goes b) g later = grows_to a b _ g (later b)
      go (Ends e b) g later = g

  -- what a state that a run passes has written is the front of what that run writes
  pub passed_is_front : (test : Test) (k n : ℕ) (a t l : State C) (e : End) → run m test k a ≡ Goes t → run m test n a ≡ Ends e l → IsFront t.out l.out
  passed_is_front test k n a t l e h g =
      let later = goes_then_ends test k n a t l e h g in
      let grown : Grows C t l = subst (GrowsTo t) later.1 (run_grows test later.0 t) in
      (grown.said, grown.out)

  -- Tests of stores.

  abbrev Open : Test
  Open x v = true

  -- a tested step is the untested one, or it stops at a store after the same output
  data Agrees : Next C → Next C → Type 0 where
    alike : {n : Next C} → Agrees n n
    cut : {x : Variable} {line : ℕ} {s t : State C} → t.out ≡ s.out → Agrees (Ends (Stopped (Unfit x) line) s) (Goes t)

  stores_out : (line : ℕ) (xs : List Store) (a : State C) → (t : State C) × (store_all m Open line xs a ≡ Goes t) × (t.out ≡ a.out)
  stores_out line [] a = (a, refl, refl)
  stores_out line (x ∷ xs) a = let r = stores_out line xs (stored m line x a) in (r.0, r.1, r.2)

  stores_agree : (test : Test) (line : ℕ) (xs : List Store) (a : State C) → Agrees (store_all m test line xs a) (store_all m Open line xs a)
  stores_agree test line [] a = alike
  stores_agree test line (x ∷ xs) a = go (test x.0 x.1) (stores_agree test line xs (stored m line x a)) (stores_out line (x ∷ xs) a)
    where
      go : (b : Bool) → Agrees (store_all m test line xs (stored m line x a)) (store_all m Open line xs (stored m line x a)) → (t : State C) × (store_all m Open line (x ∷ xs) a ≡ Goes t) × (t.out ≡ a.out) → Agrees (if_fits b (store_all m test line xs (stored m line x a)) (Stopped (Unfit x.0) line) a) (store_all m Open line (x ∷ xs) a)
      go true later r = later
      go false later r = rw r.1 (cut r.2)

  settle_agrees : (test : Test) (a : State C) (move : Move C) → Agrees (settle m test a move) (settle m Open a move)
  settle_agrees test a (Moves said told to line xs) = stores_agree test line xs _
  settle_agrees test a (Halts e) = alike

  step_agrees : (test : Test) (a : State C) → Agrees (step m test a) (step m Open a)
  step_agrees test a = settle_agrees test a (m.move a.core)

  -- the untested run ends alike, or the tested one ended at a store after the output of a state that the untested run reaches
  pub data Shortens : Next C → ℕ → State C → Type 0 where
    whole : {n : ℕ} {a : State C} {x : Next C} → run m Open n a ≡ x → Shortens x n a
    short : {n : ℕ} {a : State C} {x : Variable} {line : ℕ} {s : State C} → (k : ℕ) (t : State C) → run m Open k a ≡ Goes t → t.out ≡ s.out → Shortens (Ends (Stopped (Unfit x) line) s) n a

  pub run_shortens : (test : Test) (n : ℕ) (a : State C) → Shortens (run m test n a) n a
  run_shortens test zero a = whole refl
  run_shortens test (suc n) a = go (step m test a) (step m Open a) refl (step_agrees test a) (run_shortens test n)
    where
      later : (b : State C) (z : Next C) → step m Open a ≡ Goes b → Shortens z n b → Shortens z (suc n) a
      later b z h (whole e) = whole (ap (λ y. and_then y (run m Open n)) h ∙ e)
      later b z h (short k t e o) = short (suc k) t (ap (λ y. and_then y (run m Open k)) h ∙ e) o

      go : (x y : Next C) → step m Open a ≡ y → Agrees x y → ((b : State C) → Shortens (run m test n b) n b) → Shortens (and_then x (run m test n)) (suc n) a
      go (Goes b) y h alike ih = later b _ h (ih b)
      go (Ends e b) y h alike ih = whole (ap (λ y. and_then y (run m Open n)) h)
      go x y h (cut {t = t} o) ih = short 1 t (ap (λ y. and_then y (run m Open zero)) h) o

  pub tested_is_front : (test : Test) (n k : ℕ) (a l l' : State C) (e e' : End) → run m test n a ≡ Ends e l → run m Open k a ≡ Ends e' l' → IsFront l.out l'.out
  tested_is_front test n k a l l' e e' h g = go _ h (run_shortens test n a)
    where
      go : (x : Next C) → x ≡ Ends e l → Shortens x n a → IsFront l.out l'.out
      go x eq (whole r) =
          let same = ends_alike Open n k a l l' e e' (r ∙ eq) g in
          let last : l ≡ l' = cc in
          ([], ap (λ s. s.out) (sym last) ∙ sym (append-nil l.out))
      go x eq (short {s = u} j t r out) =
          let last : u ≡ l = cc in
          let front = passed_is_front Open j k a t l' e' r g in
          (front.0, front.1 ∙ ap (λ z. z ++ front.0) (out ∙ ap (λ s. s.out) last))

  pub fitting_is_whole : (test : Test) (n : ℕ) (a l : State C) (e : End) → (IsUnfit e → ⊥) → run m test n a ≡ Ends e l → run m Open n a ≡ Ends e l
  fitting_is_whole test n a l e fits h = go _ h (run_shortens test n a)
    where
      unfit : (x : Variable) (line : ℕ) (u : State C) → Ends (Stopped (Unfit x) line) u ≡ Ends e l → IsUnfit e
      unfit x line u eq = let same : Stopped (Unfit x) line ≡ e = cc in subst IsUnfit same tt

      go : (x : Next C) → x ≡ Ends e l → Shortens x n a → run m Open n a ≡ Ends e l
      go x eq (whole r) = r ∙ eq
      go x eq (short {x = y} {line = line} {s = u} j t r out) = absurd (fits (unfit y line u eq))
