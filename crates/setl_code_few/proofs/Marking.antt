-- Marked code is as small as the code that it is made of.
use Rattle.std.proofs.Common.{◌≡◌, ◌≤◌, ℕ, suc, ◌+◌, ◌*◌, List, [], ◌∷◌, length, slice_get, Option, Some, None, refl, ap, subst, arith}
use Rattle.setl_model_runs.specs.Variable.{Variable}
use Rattle.setl_program.specs.ProgramOf.{program_of}
use Rattle.setl_code.specs.Code.{Step, Body, Code}
use Rattle.setl_code.specs.CodeOf.{code_of}
use Rattle.setl_code.specs.CodeCore.{variables_of}
use Rattle.setl_code_marked.specs.Marked.{MarksStep, MarksBody, MarksBodies, Marked}
use Rattle.setl_code_few.specs.Claims.{Linear, declared_of}
use Rattle.setl_code_few.specs.Markings.{MarkedIsLinear, MarkedIsFew}
use Rattle.setl_code_few.proofs.Whole.{code_is_linear, linear_is_few}

steps_marked : (declared : List Variable) (n : ℕ) (b : Body) (at : ℕ) (ss ts : List Step) → ((k : ℕ) → MarksStep declared n b (at + k) (slice_get ss k) (slice_get ts k)) → length ts ≤ length ss
steps_marked declared n b at ss [] h = omega arith
steps_marked declared n b at [] (t ∷ ts) h = absurd (h 0)
steps_marked declared n b at (s ∷ ss) (t ∷ ts) h =
    let later = steps_marked declared n b (suc at) ss ts (λ k. let place : at + suc k ≡ suc at + k = omega arith in subst (λ z. MarksStep declared n b z (slice_get ss k) (slice_get ts k)) place (h (suc k))) in
    omega (arith, later)

body_marked : (declared : List Variable) (n : ℕ) (b d : Body) → MarksBody declared n b d → (length d.steps ≤ length b.steps) × (variables_of n d ≡ variables_of n b)
body_marked declared n b d h = (steps_marked declared n b 0 b.steps d.steps (λ k. let place : k ≡ 0 + k = omega arith in subst (λ z. MarksStep declared n b z (slice_get b.steps k) (slice_get d.steps k)) place (h.steps k)), ap (variables_of n) h.rest)

bodies_marked : (declared : List Variable) (at : ℕ) (bs ds : List Body) → ((k : ℕ) → MarksBodies declared (at + k) (slice_get bs k) (slice_get ds k)) → length ds ≤ length bs
bodies_marked declared at bs [] h = omega arith
bodies_marked declared at [] (d ∷ ds) h = absurd (h 0)
bodies_marked declared at (b ∷ bs) (d ∷ ds) h =
    let later = bodies_marked declared (suc at) bs ds (λ k. let place : at + suc k ≡ suc at + k = omega arith in subst (λ z. MarksBodies declared z (slice_get bs k) (slice_get ds k)) place (h (suc k))) in
    omega (arith, later)

one_marked : (declared : List Variable) (n tokens : ℕ) (o : Option Body) (d : Body) → MarksBodies declared n o (Some d) → ((b : Body) → o ≡ Some b → (length b.steps ≤ 9 * tokens) × (length (variables_of n b) ≤ tokens)) → (length d.steps ≤ 9 * tokens) × (length (variables_of n d) ≤ tokens)
one_marked declared n tokens None d h g = absurd h
one_marked declared n tokens (Some b) d h g =
    let was = g b refl in
    let steps = was.0 in
    let variables = was.1 in
    let marks = body_marked declared n b d h in
    let fewer = marks.0 in
    let same = ap length marks.1 in
    (omega (arith, steps, fewer), omega (arith, variables, same))

marked_linear : (declared : List Variable) (c m : Code) (tokens : ℕ) → Marked declared c m → Linear c declared tokens → Linear m declared tokens
marked_linear declared c m tokens h g =
    let bodies = bodies_marked declared 0 c.bodies m.bodies (λ k. let place : k ≡ 0 + k = omega arith in subst (λ z. MarksBodies declared z (slice_get c.bodies k) (slice_get m.bodies k)) place (h.bodies k)) in
    let were = g.counts.0 in
    let same = ap length h.vars in
    let vars = g.counts.1 in
    record {
      bodies = λ n d is. one_marked declared n tokens (slice_get c.bodies n) d (subst (λ o. MarksBodies declared n (slice_get c.bodies n) o) is (h.bodies n)) (λ b was. g.bodies n b was);
      counts = (omega (arith, bodies, were), omega (arith, same, vars), g.counts.2);
    }

pub marked_is_linear : MarkedIsLinear
marked_is_linear toks t c h marks = marked_linear (declared_of (program_of t)) (code_of (program_of t)) c (length toks) marks (code_is_linear toks t h)

pub marked_is_few : MarkedIsFew
marked_is_few toks t c h less marks = linear_is_few c (declared_of (program_of t)) (length toks) (marked_is_linear toks t c h marks) less
