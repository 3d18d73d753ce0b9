-- What watchers count of the events of a run.
use Rattle.std.proofs.Common.{◌≡◌, ◌∙◌, refl, sym, ap, arith, ℕ, suc, Bool, true, false, List, [], ◌∷◌, ◌++◌, map, cond, min}
use Rattle.std.specs.Prelude.{◌+◌, ◌-◌, ◌^◌, nat_eq}
use Rattle.std.specs.List.{count_by}
use Rattle.std.proofs.lemmas.List.Sums.{sum_by-cons}
use Rattle.setl_model_runs.specs.Events.{Event, Called, Returned, Stored, Printed, Kept, Back, Forgot}
use Rattle.setl_watch.specs.HitCounts.{hits}
use Rattle.setl_watch.specs.Notices.{Notice, noticed}
use Rattle.setl_watch.specs.Watches.{Watch, after, counted_by}
use Rattle.setl_debug_machine.specs.Screens.{after_all, is_store_at, hits_in}

-- told in two parts
pub after_more : (w : Watch) (es fs : List Notice) → after_all w (es ++ fs) ≡ after_all (after_all w es) fs
after_more w [] fs = refl
after_more w (e ∷ es) fs = after_more (after w e) es fs

none_more : (line n : ℕ) → hits line n ≡ hits line (n + 0)
none_more line n = let e : n ≡ n + 0 = omega arith in ap (hits line) e

one_told : (line n : ℕ) (e : Event) → after (hits line n) (noticed e) ≡ hits line (n + cond (is_store_at line e) 1 0)
one_told line n (Called at name) = none_more line n
one_told line n (Returned name) = none_more line n
one_told line n (Printed bytes) = none_more line n
one_told line n Kept = none_more line n
one_told line n Back = none_more line n
one_told line n Forgot = none_more line n
one_told line n (Stored at x v) = go (nat_eq at line)
  where
    go : (b : Bool) → record (hits line n) { state = record { events = []; counts = cond b ((line, suc n) ∷ []) ((line, n) ∷ []) } } ≡ hits line (n + cond b 1 0)
    go true = let e : suc n ≡ n + 1 = omega arith in ap (hits line) e
    go false = none_more line n

all_told : (line n : ℕ) (es : List Event) → after_all (hits line n) (map noticed es) ≡ hits line (n + count_by (is_store_at line) es)
all_told line n [] = none_more line n
all_told line n (e ∷ es) =
    let one = cond (is_store_at line e) 1 0 in
    let sum = sum_by-cons (λ e. cond (is_store_at line e) 1 0) e es in
    let whole : (n + one) + count_by (is_store_at line) es ≡ n + count_by (is_store_at line) (e ∷ es) = omega (arith, sum) in
    ap (λ w. after_all w (map noticed es)) (one_told line n e) ∙ all_told line (n + one) es ∙ ap (hits line) whole

pub stores_counted : (line : ℕ) (es : List Event) → min (counted_by (after_all (hits line 0) (map noticed es))) (2 ^ 64 - 1) ≡ hits_in es line
stores_counted line es =
    let all : (0 + count_by (is_store_at line) es) + 0 ≡ count_by (is_store_at line) es = omega arith in
    ap (λ w. min (counted_by w) (2 ^ 64 - 1)) (all_told line 0 es) ∙ ap (λ n. min n (2 ^ 64 - 1)) all
