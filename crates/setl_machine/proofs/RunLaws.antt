-- Runs one after the other are a run, and a run doesn't rest on what was written before it.
use Rattle.std.proofs.Common.{◌≡◌, ◌∙◌, ◌+◌, ℕ, zero, suc, Bool, true, false, List, [], ◌∷◌, ◌++◌, refl, sym, ap, append_assoc, arith}
use Rattle.std.proofs.lemmas.List.{append-nil}
use Rattle.setl_model_runs.specs.Events.{Event, Stored, End}
use Rattle.setl_model_runs.specs.Run.{Store, Move, Moves, Halts, State, Next, Goes, Ends, Machine, Test, stored, if_fits, store_all, settle, step, and_then, run}
pub use Rattle.setl_machine.specs.Outcome.{behind, all_behind}

-- nothing written or told yet
abbrev begun : {C : Type 0} → C → State C
begun k = record { core = k; out = []; events = [] }

behind_start : {C : Type 0} (s : State C) → behind s (begun s.core) ≡ s
behind_start {C} s =
    let f : List ℕ → List Event → State C = λ o t. record { core = s.core; out = o; events = t } in
    ap (λ o. f o (s.events ++ [])) (append-nil s.out) ∙ ap (λ t. f s.out t) (append-nil s.events)

stored_behind : {C : Type 0} (m : Machine C) (line : ℕ) (x : Store) (a s : State C) → stored m line x (behind a s) ≡ behind a (stored m line x s)
stored_behind {C} m line x a s =
    let f : List Event → State C = λ t. record { core = m.write x.0 x.1 s.core; out = a.out ++ s.out; events = t } in
    ap f (append_assoc a.events s.events (Stored line x.0 x.1 ∷ []))

fits_behind : {C : Type 0} (b : Bool) (x y : Next C) (e : End) (a s : State C) → x ≡ all_behind a y → if_fits b x e (behind a s) ≡ all_behind a (if_fits b y e s)
fits_behind true x y e a s h = h
fits_behind false x y e a s h = refl

store_all_behind : {C : Type 0} (m : Machine C) (test : Test) (line : ℕ) (xs : List Store) (a s : State C) → store_all m test line xs (behind a s) ≡ all_behind a (store_all m test line xs s)
store_all_behind m test line [] a s = refl
store_all_behind {C} m test line (x ∷ xs) a s =
    fits_behind (test x.0 x.1) _ (store_all m test line xs (stored m line x s)) _ a s (ap (store_all m test line xs) (stored_behind m line x a s) ∙ store_all_behind m test line xs a (stored m line x s))

settle_behind : {C : Type 0} (m : Machine C) (test : Test) (a s : State C) (move : Move C) → settle m test (behind a s) move ≡ all_behind a (settle m test s move)
settle_behind {C} m test a s (Moves said told to line xs) =
    let f : List ℕ → List Event → State C = λ o t. record { core = to; out = o; events = t } in
    let e = ap (λ o. f o ((a.events ++ s.events) ++ told)) (append_assoc a.out s.out said) ∙ ap (λ t. f (a.out ++ (s.out ++ said)) t) (append_assoc a.events s.events told) in
    ap (store_all m test line xs) e ∙ store_all_behind m test line xs a (f (s.out ++ said) (s.events ++ told))
settle_behind m test a s (Halts e) = refl

then_behind : {C : Type 0} (a : State C) (f : State C → Next C) → ((t : State C) → f (behind a t) ≡ all_behind a (f t)) → (x : Next C) → and_then (all_behind a x) f ≡ all_behind a (and_then x f)
then_behind a f h (Goes t) = h t
then_behind a f h (Ends e t) = refl

run_behind : {C : Type 0} (m : Machine C) (test : Test) (n : ℕ) (a s : State C) → run m test n (behind a s) ≡ all_behind a (run m test n s)
run_behind m test zero a s = refl
run_behind {C} m test (suc n) a s =
    ap (λ x. and_then x (run m test n)) (settle_behind m test a s (m.move s.core)) ∙ then_behind a (run m test n) (run_behind m test n a) (step m test s)

then_more : {C : Type 0} (f g h : State C → Next C) → ((t : State C) → f t ≡ and_then (g t) h) → (x : Next C) → and_then x f ≡ and_then (and_then x g) h
then_more f g h e (Goes t) = e t
then_more f g h e (Ends d t) = refl

-- so many steps and then so many
run_more : {C : Type 0} (m : Machine C) (test : Test) (n k : ℕ) (a : State C) → run m test (n + k) a ≡ and_then (run m test n a) (run m test k)
run_more m test zero k a = let e : 0 + k ≡ k = omega arith in ap (λ j. run m test j a) e
run_more {C} m test (suc n) k a =
    let e : suc n + k ≡ suc (n + k) = omega arith in
    ap (λ j. run m test j a) e ∙ then_more (run m test (n + k)) (run m test n) (run m test k) (run_more m test n k) (step m test a)

-- a run that goes on where another one came to
pub run_joined : {C : Type 0} (m : Machine C) (test : Test) (n k : ℕ) (a s : State C) → run m test n a ≡ Goes s → run m test (n + k) a ≡ all_behind s (run m test k (begun s.core))
run_joined m test n k a s h =
    run_more m test n k a ∙ (ap (λ x. and_then x (run m test k)) h ∙ (ap (run m test k) (sym (behind_start s)) ∙ run_behind m test k s (begun s.core)))

-- an end stays
pub run_ended : {C : Type 0} (m : Machine C) (test : Test) (n k : ℕ) (a : State C) (e : End) (s : State C) → run m test n a ≡ Ends e s → run m test (n + k) a ≡ Ends e s
run_ended m test n k a e s h = run_more m test n k a ∙ ap (λ x. and_then x (run m test k)) h

pub run_one : {C : Type 0} (m : Machine C) (test : Test) (a : State C) → run m test 1 a ≡ step m test a
run_one {C} m test a = go (step m test a)
  where
    go : (x : Next C) → and_then x (run m test 0) ≡ x
    go (Goes t) = refl
    go (Ends e t) = refl

-- a step from a state is one from its core, behind what was written and told
pub step_behind : {C : Type 0} (m : Machine C) (test : Test) (a : State C) → step m test a ≡ all_behind a (step m test (begun a.core))
step_behind m test a = sym (run_one m test a) ∙ run_joined m test 0 1 a a refl ∙ ap (all_behind a) (run_one m test (begun a.core))
