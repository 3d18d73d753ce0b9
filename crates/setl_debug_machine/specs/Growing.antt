-- With more turns a line was stored at as often, or more often.
use Rattle.std.proofs.Common.{◌≡◌, ◌∙◌, ◌≤◌, ◌+◌, ◌-◌, ◌^◌, ℕ, List, ◌++◌, cond, min, sym, ap, subst, arith}
use Rattle.std.specs.List.{count_by}
use Rattle.std.proofs.lemmas.List.Sums.{sum_by-append}
use Rattle.setl_model_runs.specs.Events.{Event}
use Rattle.setl_model_turns.specs.Laws.{TurnsOnlyCut}
use Rattle.setl_debug_machine.specs.Screens.{PlainRun, IsScreen, is_store_at, hits_in}
use Rattle.setl_debug_target.specs.Screens.{Screen}

-- A screen of the run, beside the law that a bound on turns only cuts a run, by which more turns take no store back.
abbrev pub HasScreen : PlainRun → ℕ → Screen → Type 0
HasScreen r turns s = IsScreen r turns s × TurnsOnlyCut

least_grows : (a b most : ℕ) → a ≤ b → min a most ≤ min b most
least_grows a b most h = omega arith

-- more events have as many stores or more
hits_more : (line : ℕ) (es more : List Event) → hits_in es line ≤ hits_in (es ++ more) line
hits_more line es more =
    let both = sum_by-append (λ e. cond (is_store_at line e) 1 0) es more in
    least_grows (count_by (is_store_at line) es) (count_by (is_store_at line) (es ++ more)) (2 ^ 64 - 1) (omega (arith, both))

pub more_turns_more_hits : (r : PlainRun) (line j k : ℕ) (a b : Screen) → j ≤ k → HasScreen r j a → HasScreen r k b → a.hits line ≤ b.hits line
more_turns_more_hits r line j k a b le x y =
    let cut = (x.1 r.program r.input j k r.based a.written b.written x.0.end y.0.end le x.0.means y.0.means).1 in
    let fewer : a.hits line ≡ hits_in x.0.means.last.events line = ap (λ (f : ℕ → ℕ). f line) x.0.hits in
    let many : b.hits line ≡ hits_in (x.0.means.last.events ++ cut.0) line = ap (λ (f : ℕ → ℕ). f line) y.0.hits ∙ ap (λ es. hits_in es line) cut.1 in
    subst (λ n. n ≤ b.hits line) (sym fewer) (subst (λ n. hits_in x.0.means.last.events line ≤ n) (sym many) (hits_more line x.0.means.last.events cut.0))
