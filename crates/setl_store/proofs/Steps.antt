-- The step in hand.
use Rattle.std.proofs.Common.{◌≡◌, ℕ, zero, suc, ◌+◌, List, [], ◌∷◌, length, map, reverse, refl, sym, ap, ◌∙◌, subst, arith, Option, Some, None}
use Rattle.std.specs.Prelude.{slice_get, IfNone}
use Rattle.std.specs.Borrow.{Bor}
use Rattle.std.specs.Option.{option_map}
use Rattle.std.proofs.lemmas.List.{length-map, length-append}
use Rattle.std.proofs.lemmas.Option.{slice_get-map, same_Some}
use Rattle.setl_model_runs.specs.Variable.{Global, Own}
use Rattle.setl_code.specs.declared.code.Body.{Body}
use Rattle.setl_code.specs.declared.code.Code.{Code}
use Rattle.setl_code.specs.declared.code.Step.{Step}
use Rattle.setl_code.specs.CodeCore.{CodeCore}
use Rattle.setl_code.specs.Machine.{body_steps, fetch}
use Rattle.setl_code.specs.MayRun.{InstrFits, StepsFit, MayRun}
use Rattle.setl_code.specs.Plain.{Variables, plain_body, plain_step, plain_code, plain_name}
use Rattle.setl_rep_bases.specs.Bases.{BasesState}
use Rattle.setl_store.specs.declared.cells.Kept.{Kept}
use Rattle.setl_store.specs.Flat.{Here, step_of, own_count_of, body_in, cells, own_in, helds, results, core_of, stands, IsSound, AllSound}
use Rattle.setl_store.specs.Standing.{Standing, variables, variables_in}
use Rattle.setl_store.proofs.Bodies.{own_by, BodyFits, body_at, body_fits, names_same}
use Rattle.setl_store.proofs.Slots.{Innermost, innermost, innermost_of, sizes}

-- ---- steps of plain bodies

abbrev variables_by_slots : Code → ℕ → Option Body → Variables
variables_by_slots code n b = record { global = map Global code.vars; own = own_by n b }

steps_same : (code : Code) (n at : ℕ) (b : Option Body) → slice_get (body_steps (option_map (plain_body (map Global code.vars) n) b)) at ≡ option_map (plain_step (variables_by_slots code n b)) (step_of b at)
steps_same code n at None = refl
steps_same code n at (Some b) = slice_get-map (plain_step (variables_by_slots code n (Some b))) b.steps at

fetched : (code : Code) (n at : ℕ) → fetch (plain_code code) n at ≡ option_map (plain_step (variables_by_slots code n (slice_get code.bodies n))) (step_of (slice_get code.bodies n) at)
fetched code n at =
    ap (λ b. slice_get (body_steps b) at) (body_at (map Global code.vars) 0 code.bodies n n (omega arith))
    ∙ steps_same code n at (slice_get code.bodies n)

-- ---- the variables in hand

variables_here : (code : Code) (bs : BasesState) (at : ℕ) (e : Here) (kept : List (Here × Kept)) → Innermost bs (plain_code code) e →
    variables (core_of (plain_code code) bs at e kept) ≡ variables_by_slots code (body_in (reverse e.activations)) (slice_get code.bodies (body_in (reverse e.activations)))
variables_here code bs at e kept (innermost f fs is h) =
    let c = plain_code code in
    let z = sizes c f fs (helds bs e) (length (results bs e)) h in
    subst (λ l. record { global = map (λ s. s.0) (cells c.vars (helds bs e)); own = map (λ s. s.0) (own_in c l (helds bs e)) } ≡ variables_by_slots code (body_in l) (slice_get code.bodies (body_in l))) (sym is)
    (λ i. record { global = z.globals_are i; own = (z.own_are ∙ names_same code f.body) i })

-- what the body at work has in hand
pub at_work : (code : Code) (bs : BasesState) (at : ℕ) (e : Here) (kept : List (Here × Kept)) (s : Standing) (n : ℕ) → IsSound (plain_code code) bs e → stands code bs at e kept ≡ s → n ≡ body_in (reverse e.activations) → variables s.core ≡ variables_in (plain_code s.code) n
at_work code bs at e kept s n h is number =
    let m = body_in (reverse e.activations) in
    subst (λ (t : Standing). variables t.core ≡ variables_in (plain_code t.code) n) is
    (variables_here code bs at e kept (innermost_of bs (plain_code code) e h)
    ∙ (λ i. record { global = map Global code.vars; own = sym (names_same code m) i })
    ∙ ap (variables_in (plain_code code)) (sym number))

-- ---- the step in hand of a store

pub step_found : (code : Code) (bs : BasesState) (at : ℕ) (e : Here) (kept : List (Here × Kept)) (s : Standing) (n : ℕ) (x : Step) → IsSound (plain_code code) bs e → stands code bs at e kept ≡ s → n ≡ body_in (reverse e.activations) →
    step_of (slice_get code.bodies n) at ≡ Some x → fetch (plain_code s.code) s.core.now.body s.core.now.at ≡ Some (plain_step (variables s.core) x)
step_found code bs at e kept s n x h is number found =
    let m = body_in (reverse e.activations) in
    subst (λ (t : Standing). fetch (plain_code t.code) t.core.now.body t.core.now.at ≡ Some (plain_step (variables t.core) x)) is
    (fetched code m at
    ∙ ap (option_map (plain_step (variables_by_slots code m (slice_get code.bodies m)))) (subst (λ k. step_of (slice_get code.bodies k) at ≡ Some x) number found)
    ∙ ap (λ v. Some (plain_step v x)) (sym (variables_here code bs at e kept (innermost_of bs (plain_code code) e h))))

no_step : (code : Code) (bs : BasesState) (at : ℕ) (e : Here) (kept : List (Here × Kept)) (s : Standing) (n : ℕ) → stands code bs at e kept ≡ s → n ≡ body_in (reverse e.activations) →
    step_of (slice_get code.bodies n) at ≡ None → fetch (plain_code s.code) s.core.now.body s.core.now.at ≡ None
no_step code bs at e kept s n is number none =
    let m = body_in (reverse e.activations) in
    subst (λ (t : Standing). fetch (plain_code t.code) t.core.now.body t.core.now.at ≡ None) is
    (fetched code m at
    ∙ ap (option_map (plain_step (variables_by_slots code m (slice_get code.bodies m)))) (subst (λ k. step_of (slice_get code.bodies k) at ≡ None) number none))

-- the same, of an answer
pub step_missing : (r : Option (Bor Step)) (code : Code) (bs : BasesState) (at : ℕ) (e : Here) (kept : List (Here × Kept)) (s : Standing) (n : ℕ) → stands code bs at e kept ≡ s → n ≡ body_in (reverse e.activations) →
    IfNone r (step_of (slice_get code.bodies n) at ≡ None) → IfNone r (fetch (plain_code s.code) s.core.now.body s.core.now.at ≡ None)
step_missing None code bs at e kept s n is number none = no_step code bs at e kept s n is number none
step_missing (Some x) code bs at e kept s n is number none = tt

-- ---- what it names is there

fits_in : (globals own : ℕ) (ss : List Step) (at : ℕ) (x : Step) → StepsFit globals own ss → slice_get ss at ≡ Some x → InstrFits globals own x.what
fits_in globals own [] at x h e = absurd (cc)
fits_in globals own (s ∷ ss) zero x h e = subst (λ (y : Step). InstrFits globals own y.what) (same_Some s x e) h.0
fits_in globals own (s ∷ ss) (suc at) x h e = fits_in globals own ss at x h.1 e

fits_by : (globals n : ℕ) (b : Option Body) (at : ℕ) (x : Step) → BodyFits globals n b → step_of b at ≡ Some x → InstrFits globals (own_count_of b) x.what
fits_by globals n None at x h e = absurd (cc)
fits_by globals n (Some b) at x h e = fits_in globals (length b.parameters + length b.names) b.steps at x h.1 e

pub counted : (n : ℕ) (b : Option Body) → length (own_by n b) ≡ own_count_of b
counted n None = refl
counted n (Some b) =
    length-append (map (λ p. Own n p.name) b.parameters) (map (plain_name n) b.names)
    ∙ (λ i. length-map b.parameters (λ p. Own n p.name) i + length-map b.names (plain_name n) i)

-- how many variables there are
record Counts (code : Code) (n : ℕ) (k : CodeCore) : Type 0 where
  pub globals : length k.globals ≡ length code.vars
  pub own : length k.now.own ≡ own_count_of (slice_get code.bodies n)

counts_by : (code : Code) (bs : BasesState) (at : ℕ) (e : Here) (kept : List (Here × Kept)) → Innermost bs (plain_code code) e → Counts code (body_in (reverse e.activations)) (core_of (plain_code code) bs at e kept)
counts_by code bs at e kept (innermost f fs is h) =
    let c = plain_code code in
    let z = sizes c f fs (helds bs e) (length (results bs e)) h in
    record {
      globals = z.globals_length ∙ length-map code.vars Global;
      own =
          subst (λ l. length (own_in c l (helds bs e)) ≡ own_count_of (slice_get code.bodies (body_in l))) (sym is)
          (z.own_length ∙ ap length (names_same code f.body) ∙ counted f.body (slice_get code.bodies f.body));
    }

pub step_fits : (code : Code) (bs : BasesState) (keeps : ℕ) (at : ℕ) (e : Here) (kept : List (Here × Kept)) (s : Standing) (n place : ℕ) (x : Step) → MayRun code × IsSound (plain_code code) bs e × AllSound (plain_code code) bs keeps e.slots kept → stands code bs at e kept ≡ s → n ≡ body_in (reverse e.activations) →
    step_of (slice_get code.bodies n) place ≡ Some x → InstrFits (length s.core.globals) (length s.core.now.own) x.what
step_fits code bs keeps at e kept s n place x h is number found =
    let z = counts_by code bs at e kept (innermost_of bs (plain_code code) e h.1) in
    let fits = fits_by (length code.vars) n (slice_get code.bodies n) place x (body_fits (length code.vars) 0 code.bodies n n (omega arith) (h.0).1) found in
    subst (λ (t : Standing). InstrFits (length t.core.globals) (length t.core.now.own) x.what) is
    (subst (λ m. InstrFits m (length (core_of (plain_code code) bs at e kept).now.own) x.what) (sym z.globals)
    (subst (λ m. InstrFits (length code.vars) m x.what) (sym (z.own ∙ ap (λ m. own_count_of (slice_get code.bodies m)) (sym number))) fits))
