-- The code of a formed program is sound.
use Rattle.std.proofs.Common.{◌≡◌, ◌<◌, ℕ, zero, suc, ◌+◌, true, false, List, [], ◌∷◌, ◌++◌, ◌⊎◌, inl, inr, length, Option, Some, None, refl, sym, ap, ◌∙◌, subst, arith}
use Rattle.std.specs.Prelude.{slice_get}
use Rattle.std.specs.Option.{option_map}
use Rattle.std.proofs.lemmas.Option.{slice_get-map}
use Rattle.std.proofs.lemmas.List.{length-map}
use Rattle.setl_model_runs.specs.Variable.{Variable}
use Rattle.setl_program.specs.Program.{Procedure, Program}
use Rattle.setl_program.specs.FormedLaws.{formed_at}
use Rattle.setl_program.specs.Formed.{FormedBlock, Formed}
use Rattle.setl_code.specs.Code.{Instr, Take, Jump, Push, ReturnTop, StopRun, Step, Body, Code}
use Rattle.setl_code.specs.Piece.{Piece, empty, step, jump_out, jump_on, join, ending_at, going_on_at, Labels, no_loop, past, steps_of, Is, Laid, one}
use Rattle.setl_code.specs.PieceLaws.{past_steps}
use Rattle.setl_code.specs.Generated.{main_code, procedure_code}
use Rattle.setl_code.specs.CodeOf.{code_of, main_body, procedure_body}
use Rattle.setl_code.specs.Shapes.{Shape, all_serve, outs, free_successors}
use Rattle.setl_code.specs.Sound.{shape_at, is_fine, AllLower, SoundBody, Sound}
use Rattle.setl_code_soundness.proofs.Laying.{Entry, shapes, heights, shape_of, height_of, lies_alone, Leads, Each, Fine, Checked}
use Rattle.setl_code_soundness.proofs.Joining.{then_, goes, stops}
use Rattle.setl_code_soundness.proofs.Expressions.{HasBodies, place}
use Rattle.setl_code_soundness.proofs.Statements.{block_checked}

-- ---- each step of a piece

-- a place of two lists one behind the other
split : (A B : List Step) (i : ℕ) (st : Step) → slice_get (A ++ B) i ≡ Some st → (slice_get A i ≡ Some st) ⊎ ((k : ℕ) × (i ≡ length A + k) × (slice_get B k ≡ Some st))
split [] B i st h = inr (i, omega arith, h)
split (x ∷ A) B zero st h = inl h
split (x ∷ A) B (suc i) st h = elim (split A B i st h) [ inl one ↦ inl one | inr two ↦ inr (two.0, (let is = two.1 in omega arith), two.2) ]

-- what holds of each step of a piece holds of each step of its code
module _ (P : ℕ → ℕ → Instr → Type 0) where
  single : (at line line' : ℕ) (j j' : Instr) → P at line' j' → ◌≡◌ {A = Option Step} (Some (line', j')) (Some (line, j)) → P (at + 0) line j
  single at line line' j j' h is =
      let same : ◌≡◌ {A = Step} (line', j') (line, j) = cc in
      let here : at ≡ at + 0 = omega arith in
      subst (λ m. P m line j) here (subst (λ (s : Step). P at s.0 s.1) same h)

  pub each_of : (p : Piece) (l : Labels) (at i line : ℕ) (j : Instr) → Each P l at p → slice_get (steps_of l p) i ≡ Some (line, j) → P (at + i) line j
  each_of empty l at i line j h is = cc
  each_of (step line' j') l at zero line j h is = single at line line' j j' h is
  each_of (step line' j') l at (suc i) line j h is = cc
  each_of (jump_out line') l at zero line j h is = single at line line' j (Jump l.exit) h is
  each_of (jump_out line') l at (suc i) line j h is = cc
  each_of (jump_on line') l at zero line j h is = single at line line' j (Jump l.again) h is
  each_of (jump_on line') l at (suc i) line j h is = cc
  each_of (join p q) l at i line j h is = go (split (steps_of l p) (steps_of l q) i (line, j) is) (λ k one. each_of p l at k line j h.0 one) (λ k two. each_of q l (past at p) k line j h.1 two)
    where
      go : (slice_get (steps_of l p) i ≡ Some (line, j)) ⊎ ((k : ℕ) × (i ≡ length (steps_of l p) + k) × (slice_get (steps_of l q) k ≡ Some (line, j))) → ((k : ℕ) → slice_get (steps_of l p) k ≡ Some (line, j) → P (at + k) line j) → ((k : ℕ) → slice_get (steps_of l q) k ≡ Some (line, j) → P (past at p + k) line j) → P (at + i) line j
      go (inl one) first second = first i one
      go (inr two) first second =
          let place : past at p + two.0 ≡ at + i = (let is = two.1 in let all = past_steps p l at in omega arith) in
          subst (λ m. P m line j) place (second two.0 two.2)
  each_of (ending_at to p) l at i line j h is = each_of p (record l { exit = to }) at i line j h is
  each_of (going_on_at to p) l at i line j h is = each_of p (record l { again = to }) at i line j h is

-- ---- bodies

no_operand : (s : Shape) → all_serve [] s ≡ true → s ≡ []
no_operand [] h = refl
no_operand (k ∷ s) h = cc

same_shape : (s t : Shape) (o : Option Shape) → o ≡ Some s → o ≡ Some t → s ≡ t
same_shape s t o h g = cc

-- Steps with a table in which each of them is fine.
pub record LaidOut (bs : List Body) (n : ℕ) (steps : List Step) : Type 0 where
  pub table : List Entry
  pub whole : length table ≡ length steps
  pub starts : shape_at (shapes table) 0 ≡ Some []
  pub each : (at line : ℕ) (i : Instr) → Is steps at line i → Fine bs n table at line i

-- code that is checked as a whole
pub laid_out : {bs : List Body} {n : ℕ} (code : Laid) → Checked bs n None None None (λ a. code) [] None → LaidOut bs n (steps_of no_loop (code 0))
laid_out {bs = bs} {n = n} code p = record {
  table = T;
  whole = whole;
  starts = shape_of T 0 all.0.entry all.0.is ∙ ap Some (no_operand all.0.entry.shape all.0.fits);
  each = step_of;
}
  where
    T : List Entry
    T = p.entries 0

    all : Leads T 0 [] (0 + p.size) × Each (Fine bs n T) no_loop 0 (code 0)
    all = p.good T no_loop 0 0 0 (lies_alone T) (tt, tt, tt) tt

    whole : length T ≡ length (steps_of no_loop (code 0))
    whole =
        let one = p.counts 0 in
        let two = p.places 0 0 in
        let three = past_steps (code 0) no_loop 0 in
        omega arith

    step_of : (at line : ℕ) (i : Instr) → Is (steps_of no_loop (code 0)) at line i → Fine bs n T at line i
    step_of at line i here =
        let place : 0 + at ≡ at = omega arith in
        subst (λ m. Fine bs n T m line i) place (each_of (Fine bs n T) (code 0) no_loop 0 at line i all.1 here)

sound_body : (c : Code) (declared : List Variable) (n : ℕ) (b : Body) → LaidOut c.bodies n b.steps → SoundBody c declared n b
sound_body c declared n b p = record {
  below = λ at line i here. (p.each at line i here).below;
  table = shapes p.table;
  whole = length-map p.table (λ (e : Entry). Some e.shape) ∙ p.whole;
  starts = p.starts;
  fine = λ at line i s here shape. (
      let f = p.each at line i here in
      subst (λ t. is_fine (shapes p.table) (outs c.bodies i (suc at) t) ≡ true) (same_shape f.entry.shape s (shape_at (shapes p.table) at) (shape_of p.table at f.entry f.is) shape) f.keeps);
  heights = heights p.table;
  falls = λ at line i here. (
      let f = p.each at line i here in
      subst (λ h. AllLower (heights p.table) h (free_successors i (suc at))) (sym (height_of p.table at f.entry f.is)) f.falls);
  takes = λ at line x here. absurd ((p.each at line (Take x) here).no_take);
}

-- ---- programs

module _ (p : Program) (formed : Formed p) where
  has : HasBodies (code_of p).bodies p.procedures
  has f = slice_get-map procedure_body p.procedures f

  pub main_laid : LaidOut (code_of p).bodies 0 (main_body p).steps
  main_laid =
      laid_out (main_code p.end_line p.main)
      (then_ (block_checked (code_of p).bodies 0 p.procedures has false zero p.main formed.0 tt) (stops StopRun (λ at. refl) (λ at. refl) tt tt))

  pub procedure_laid : (f : ℕ) (q : Procedure) → slice_get p.procedures f ≡ Some q → LaidOut (code_of p).bodies (suc f) (procedure_body q).steps
  procedure_laid f q is =
      let number : 1 + f ≡ suc f = omega arith in
      let over : 0 < suc f = omega arith in
      let block_formed = subst (λ m. FormedBlock (place m p.procedures) false q.body) number (formed_at p.procedures 1 f p.procedures q formed.1 is) in
      laid_out (procedure_code q.end_line q.body)
      (then_ (block_checked (code_of p).bodies (suc f) p.procedures has false zero q.body block_formed tt)
      (then_ (goes (Push None) (λ at. refl) (λ hs h at less. (less, tt)) tt tt) (stops ReturnTop (λ at. refl) (λ at. refl) over tt)))

-- what holds of the main program and of each procedure holds of each body
pub each_body : (p : Program) (P : ℕ → Body → Type 0) → P 0 (main_body p) → ((f : ℕ) (q : Procedure) → slice_get p.procedures f ≡ Some q → P (suc f) (procedure_body q)) → (n : ℕ) (b : Body) → slice_get (code_of p).bodies n ≡ Some b → P n b
each_body p P main procedures zero b is = let same : main_body p ≡ b = cc in subst (P zero) same main
each_body p P main procedures (suc f) b is = go (slice_get p.procedures f) refl (sym (slice_get-map procedure_body p.procedures f) ∙ is)
  where
    go : (o : Option Procedure) → slice_get p.procedures f ≡ o → option_map procedure_body o ≡ Some b → P (suc f) b
    go None there h = cc
    go (Some q) there h = let same : procedure_body q ≡ b = cc in subst (P (suc f)) same (procedures f q there)

pub code_of_programs_is_sound : (p : Program) → Formed p → (declared : List Variable) → Sound (code_of p) declared
code_of_programs_is_sound p formed declared = record {
  bodies = each_body p (SoundBody (code_of p) declared)
      (sound_body (code_of p) declared 0 (main_body p) (main_laid p formed))
      (λ f q is. sound_body (code_of p) declared (suc f) (procedure_body q) (procedure_laid p formed f q is));
  main = omega arith;
}
