-- Tables of shapes of effects are those of plain steps.
use Rattle.std.proofs.Common.{◌≡◌, ◌∙◌, ℕ, zero, suc, ◌+◌, ◌<◌, ◌≤◌, List, [], ◌∷◌, map, length, take, get_or, Some, Bool, true, false, Result, Ok, Err, IfOk, refl, sym, ap, subst, arith}
use Rattle.std.specs.Prelude.{slice_get}
use Rattle.setl_model_runs.specs.Variable.{Variable}
use Rattle.setl_tree.specs.declared.tree.Param.{Param}
use Rattle.setl_tree.specs.declared.tree.Passing.{Passing}
use Rattle.setl_tree.specs.declared.tree.Passing.TheVariants.{Rd, Wr, Rw}
use Rattle.setl_program.specs.ProgramOf.{parameter_of}
use Rattle.setl_code.specs.declared.code.Alteration.TheVariants as alteration
use Rattle.setl_code.specs.declared.code.Begin.TheVariants as begin
use Rattle.setl_code.specs.declared.code.Instr.{Instr}
use Rattle.setl_code.specs.declared.code.Instr.TheVariants as i
use Rattle.setl_code.specs.declared.code.Step.{Step}
use Rattle.setl_code.specs.declared.code.Body.{Body}
use Rattle.setl_code.specs.Code as plain
use Rattle.setl_code.specs.Plain.{Variables, plain_instr, plain_step, plain_bodies, plain_bracket}
use Rattle.setl_code.specs.Shapes.{Shape, outs, handed, one_more, alter_outs, call_outs, without_results}
use Rattle.setl_code.specs.Sound.{Table, shape_at, is_fine}
use Rattle.setl_image_shapes.specs.declared.effect.Effect.{Effect}
use Rattle.setl_image_shapes.specs.Effects.{leads}
use Rattle.setl_image_shapes.specs.Tables.{IsTable, HasTable}
use Rattle.setl_image_operands.specs.declared.shapes.Signature.{Signature}
use Rattle.setl_image_operands.specs.Operands.{signature_of, call_effect, effect_of, effect_at, KeepsShapes, HasShapes}
use Rattle.setl_image_operands.proofs.Lists.{length_map, mapped_from, mapped_to}

-- ---- instructions

call_same : (bodies : List plain.Body) (n at : ℕ) (s : Shape) → call_outs (slice_get bodies n) at s ≡ leads (call_effect (slice_get (map signature_of bodies) n)) at s
call_same [] n at s = refl
call_same (b ∷ bodies) zero at s = refl
call_same (b ∷ bodies) (suc n) at s = call_same bodies n at s

same_outs : (bodies : List plain.Body) (xs : Variables) (what : Instr) (at : ℕ) (s : Shape) → outs bodies (plain_instr xs what) at s ≡ leads (effect_of (map signature_of bodies) what) at s
same_outs bodies xs what at s = go what
  where
    go : (w : Instr) → outs bodies (plain_instr xs w) at s ≡ leads (effect_of (map signature_of bodies) w) at s
    go (i.Store x) = refl
    go (i.Operate o n) = refl
    go (i.Alter alteration.Put x bs) = ap (λ n. alter_outs plain.Putting at (without_results n s)) (length_map plain_bracket bs)
    go (i.Alter (alteration.Combine o) x bs) = ap (λ n. alter_outs (plain.Combining o) at (without_results n s)) (length_map plain_bracket bs)
    go (i.Alter (alteration.TakeOut k) x bs) = ap (λ n. alter_outs (plain.TakingOut k) at (without_results n s)) (length_map plain_bracket bs)
    go (i.Decide k to) = refl
    go i.TestTruth = refl
    go (i.Unless to) = refl
    go (i.Jump to) = refl
    go i.Discard = refl
    go i.Duplicate = refl
    go (i.Parts n) = refl
    go (i.Begin (begin.Members k) n) = refl
    go (i.Begin begin.Points n) = refl
    go (i.Next to) = refl
    go (i.Collect k) = refl
    go (i.Add n) = refl
    go (i.Leave n) = refl
    go i.Round = refl
    go (i.Call n) = call_same bodies n at s
    go i.Return = refl
    go i.Back = refl
    go i.Forget = refl
    go (i.Print n) = refl
    go i.Stop = refl
    go w = refl

-- ---- tables

step_same : (bodies : List plain.Body) (xs : Variables) (t : Step) (line : ℕ) (it : plain.Instr) (at : ℕ) (s : Shape) → plain_step xs t ≡ (line, it) → outs bodies it at s ≡ leads (effect_at (map signature_of bodies) t) at s
step_same bodies xs t line it at s is =
    let same : plain_instr xs t.what ≡ it = ap (λ (p : plain.Step). p.1) is in
    sym (ap (λ (w : plain.Instr). outs bodies w at s) same) ∙ same_outs bodies xs t.what at s

to_shapes : (bodies : List plain.Body) (xs : Variables) (steps : List Step) (table : Table) → IsTable (map (effect_at (map signature_of bodies)) steps) table → KeepsShapes bodies (map (plain_step xs) steps) table
to_shapes bodies xs steps table is = record {
  whole = is.whole ∙ length_map (effect_at (map signature_of bodies)) steps ∙ sym (length_map (plain_step xs) steps);
  starts = is.starts;
  fine = fine;
}
  where
    fine : (at line : ℕ) (it : plain.Instr) (s : Shape) → slice_get (map (plain_step xs) steps) at ≡ Some (line, it) → shape_at table at ≡ Some s → is_fine table (outs bodies it (suc at) s) ≡ true
    fine at line it s stands there =
        let m = mapped_from (plain_step xs) steps at (line, it) stands in
        let here = mapped_to (effect_at (map signature_of bodies)) steps at m.item m.is in
        subst (λ o. is_fine table o ≡ true) (sym (step_same bodies xs m.item line it (suc at) s m.gives)) (is.fine at (effect_at (map signature_of bodies) m.item) s here there)

from_shapes : (bodies : List plain.Body) (xs : Variables) (steps : List Step) (table : Table) → KeepsShapes bodies (map (plain_step xs) steps) table → IsTable (map (effect_at (map signature_of bodies)) steps) table
from_shapes bodies xs steps table is = record {
  whole = is.whole ∙ length_map (plain_step xs) steps ∙ sym (length_map (effect_at (map signature_of bodies)) steps);
  starts = is.starts;
  fine = fine;
}
  where
    fine : (at : ℕ) (e : Effect) (s : Shape) → slice_get (map (effect_at (map signature_of bodies)) steps) at ≡ Some e → shape_at table at ≡ Some s → is_fine table (leads e (suc at) s) ≡ true
    fine at e s stands there =
        let m = mapped_from (effect_at (map signature_of bodies)) steps at e stands in
        let here = mapped_to (plain_step xs) steps at m.item m.is in
        let fine = is.fine at m.item.line (plain_instr xs m.item.what) s here there in
        subst (λ o. is_fine table o ≡ true) (same_outs bodies xs m.item.what (suc at) s ∙ ap (λ (f : Effect). leads f (suc at) s) m.gives) fine

has_same : (so : Bool) (bodies : List plain.Body) (xs : Variables) (steps : List Step) → HasTable so (map (effect_at (map signature_of bodies)) steps) → HasShapes so bodies (map (plain_step xs) steps)
has_same true bodies xs steps has = (has.0, to_shapes bodies xs steps has.0 has.1)
has_same false bodies xs steps none = λ table keeps. none table (from_shapes bodies xs steps table keeps)

pub shapes_so : {E : Type 0} (r : Result Bool E) (bodies : List plain.Body) (xs : Variables) (calls : List Signature) (effects : List Effect) (steps : List Step) → effects ≡ map (effect_at calls) steps → calls ≡ map signature_of bodies → IfOk r (λ so. HasTable so effects) → IfOk r (λ so. HasShapes so bodies (map (plain_step xs) steps))
shapes_so (Err e) bodies xs calls effects steps made signed has = tt
shapes_so (Ok so) bodies xs calls effects steps made signed has = has_same so bodies xs steps (subst (HasTable so) (made ∙ ap (λ (cs : List Signature). map (effect_at cs) steps) signed) has)

-- ---- signatures

handed_more : (ps : List Param) (k : ℕ) (d : Param) → k < length ps → handed (map parameter_of (take (suc k) ps)) ≡ one_more (get_or ps k d).passing (handed (map parameter_of (take k ps)))
handed_more [] k d less = absurd (omega (arith, less))
handed_more (p ∷ ps) zero d less = refl
handed_more (p ∷ ps) (suc k) d less = ap (one_more p.passing) (handed_more ps k d (omega (arith, less))) ∙ swap p.passing (get_or ps k d).passing (handed (map parameter_of (take k ps)))
  where
    swap : (a b : Passing) (n : ℕ) → one_more a (one_more b n) ≡ one_more b (one_more a n)
    swap Rd b n = refl
    swap Wr Rd n = refl
    swap Wr Wr n = refl
    swap Wr Rw n = refl
    swap Rw Rd n = refl
    swap Rw Wr n = refl
    swap Rw Rw n = refl

-- one parameter more
pub handed_next : (ps : List Param) (k n : ℕ) (p : Param) → k < length ps → p ≡ get_or ps k p → n ≡ handed (map parameter_of (take k ps)) → one_more p.passing n ≡ handed (map parameter_of (take (k + 1) ps))
handed_next ps k n p less is so =
    let next : suc k ≡ k + 1 = omega arith in
    ap (one_more p.passing) so ∙ ap (λ (q : Param). one_more q.passing (handed (map parameter_of (take k ps)))) is ∙ sym (handed_more ps k p less) ∙ ap (λ j. handed (map parameter_of (take j ps))) next

-- the signature of a body
abbrev pub signed : Body → Signature
signed b = record { popped = length b.parameters; back = handed (map parameter_of b.parameters) }

pub signatures_more : (vars : List Variable) (n : ℕ) (bodies : List Body) → map signature_of (plain_bodies vars n bodies) ≡ map signed bodies
signatures_more vars n [] = refl
signatures_more vars n (b ∷ bodies) =
    ap (λ k. record { popped = k; back = handed (map parameter_of b.parameters) } ∷ map signature_of (plain_bodies vars (suc n) bodies)) (length_map parameter_of b.parameters)
    ∙ ap (λ rest. signed b ∷ rest) (signatures_more vars (suc n) bodies)

pub all_signed : (vars : List Variable) (n : ℕ) (bodies : List Body) (calls : List Signature) → calls ≡ map signed bodies → calls ≡ map signature_of (plain_bodies vars n bodies)
all_signed vars n bodies calls is = is ∙ sym (signatures_more vars n bodies)

take_whole : {A : Type 0} (xs : List A) (k : ℕ) → length xs ≤ k → take k xs ≡ xs
take_whole [] zero past = refl
take_whole [] (suc k) past = refl
take_whole (x ∷ xs) zero past = absurd (omega (arith, past))
take_whole (x ∷ xs) (suc k) past = ap (λ rest. x ∷ rest) (take_whole xs k (omega (arith, past)))

-- all bodies are signed
pub all_are_signed : (vars : List Variable) (n k : ℕ) (bodies : List Body) (calls : List Signature) → length bodies ≤ k → calls ≡ map signed (take k bodies) → calls ≡ map signature_of (plain_bodies vars n bodies)
all_are_signed vars n k bodies calls past is = all_signed vars n bodies calls (is ∙ ap (map signed) (take_whole bodies k past))
