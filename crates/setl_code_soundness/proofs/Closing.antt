-- The code of a formed program whose names are there is closed.
use Rattle.std.proofs.Common.{◌≡◌, ◌<◌, ℕ, zero, suc, ◌+◌, true, false, List, [], ◌∷◌, ◌++◌, map, length, Option, Some, None, refl, ap, subst, arith}
use Rattle.std.specs.Prelude.{slice_get}
use Rattle.std.proofs.lemmas.Option.{slice_get_within}
use Rattle.setl_model_runs.specs.Variable.{Variable, Global}
use Rattle.setl_program.specs.Program.{Block, Parameter, Procedure, Program}
use Rattle.setl_program.specs.Formed.{FormedBlock, Formed}
use Rattle.setl_program.specs.FormedLaws.{formed_at}
use Rattle.setl_code.specs.Code.{Instr, Push, Load, Take, StoreIn, Alter, Decides, Unless, Jump, NextOr, CallBody, ReturnTop, StopRun, Step, Body, Code}
use Rattle.setl_code.specs.Piece.{no_loop, steps_of, Is, Laid}
use Rattle.setl_code.specs.Generated.{block, main_code, procedure_code}
use Rattle.setl_code.specs.CodeOf.{code_of, main_body, procedure_body}
use Rattle.setl_code.specs.Names.{in_block, own_names}
use Rattle.setl_code.specs.Shapes.{AResult, ACollection, AnIterator, APairIterator, Shape, next_outs, call_outs, without_results}
use Rattle.setl_code.specs.Sound.{shape_at, says, all_said, is_fine, Names, HasSlot, ends_body, last_step, ClosedBody, Closed}
use Rattle.setl_code_soundness.specs.Named.{AreAmong, NamedBlock, NamedProcedures, Named}
use Rattle.setl_code_soundness.proofs.Laying.{Entry, shapes, parts, Each, Fine}
use Rattle.setl_code_soundness.proofs.Operands.{led}
use Rattle.setl_code_soundness.proofs.Uses.{Each_of, Uses, block_used}
use Rattle.setl_code_soundness.proofs.Occurring.{of_block}
use Rattle.setl_code_soundness.proofs.Slotted.{Slot, all_slotted}
use Rattle.setl_code_soundness.proofs.Expressions.{place}
use Rattle.setl_code_soundness.proofs.Bodies.{LaidOut, each_of, main_laid, procedure_laid, each_body}

-- ---- targets

-- a place of which a table says a shape is in it
said_within : (T : List Entry) (to : ℕ) (s : Shape) → says (shape_at (shapes T) to) s ≡ true → to < length T
said_within [] to s h = cc
said_within (e ∷ T) zero s h = omega arith
said_within (e ∷ T) (suc to) s h = let later = said_within T to s h in omega arith

next_within : (T : List Entry) (at to : ℕ) (s : Shape) → is_fine (shapes T) (next_outs at to s) ≡ true → to < length T
next_within T at to (AnIterator ∷ s) h = said_within T to s (parts _ true (parts _ (all_said (shapes T) ((to, s) ∷ [])) h).1).0
next_within T at to (APairIterator ∷ s) h = said_within T to s (parts _ true (parts _ (all_said (shapes T) ((to, s) ∷ [])) h).1).0
next_within T at to [] h = cc
next_within T at to (AResult ∷ s) h = cc
next_within T at to (ACollection ∷ s) h = cc

called_within : (T : List Entry) (bs : List Body) (m at : ℕ) (s : Shape) → is_fine (shapes T) (call_outs (slice_get bs m) at s) ≡ true → m < length bs
called_within T bs m at s h = go (slice_get bs m) refl h
  where
    go : (o : Option Body) → slice_get bs m ≡ o → is_fine (shapes T) (call_outs o at s) ≡ true → m < length bs
    go None is h = cc
    go (Some b) is h = slice_get_within bs m b is

-- ---- one instruction

module _ (c : Code) (n : ℕ) (b : Body) (laid : LaidOut c.bodies n b.steps) where
  names_there : (at line : ℕ) (i : Instr) → Fine c.bodies n laid.table at line i → Uses (HasSlot c n b) at line i → Names c n b i
  names_there at line (Load x) f u = u
  names_there at line (Take x) f u = u
  names_there at line (StoreIn x) f u = u
  names_there at line (Alter a x ks) f u = u
  names_there at line (Decides k to) f u =
      let t = led (shapes laid.table) (without_results 1 f.entry.shape) (λ t. (suc at, t) ∷ (to, AResult ∷ t) ∷ []) f.keeps in
      let within = said_within laid.table to (AResult ∷ t.0) (parts _ true (parts _ (all_said (shapes laid.table) ((to, AResult ∷ t.0) ∷ [])) t.2).1).0 in
      let long = laid.whole in
      omega arith
  names_there at line (Unless to) f u =
      let t = led (shapes laid.table) (without_results 1 f.entry.shape) (λ t. (suc at, t) ∷ (to, t) ∷ []) f.keeps in
      let within = said_within laid.table to t.0 (parts _ true (parts _ (all_said (shapes laid.table) ((to, t.0) ∷ [])) t.2).1).0 in
      let long = laid.whole in
      omega arith
  names_there at line (Jump to) f u =
      let within = said_within laid.table to f.entry.shape (parts _ true f.keeps).0 in
      let long = laid.whole in
      omega arith
  names_there at line (NextOr to) f u =
      let within = next_within laid.table (suc at) to f.entry.shape f.keeps in
      let long = laid.whole in
      omega arith
  names_there at line (CallBody m) f u = called_within laid.table c.bodies m (suc at) f.entry.shape f.keeps
  names_there at line i f u = tt

-- ---- bodies

-- the last step is that of what comes behind
last_behind : (ss : List Step) (st : Step) (rest : List Step) → last_step (ss ++ (st ∷ rest)) ≡ last_step (st ∷ rest)
last_behind [] st rest = refl
last_behind (s ∷ []) st rest = refl
last_behind (s ∷ t ∷ ss) st rest = last_behind (t ∷ ss) st rest

closed_body : (c : Code) (n : ℕ) (b : Body) (code : Laid) → b.steps ≡ steps_of no_loop (code 0) → LaidOut c.bodies n b.steps → Each (Uses (HasSlot c n b)) no_loop 0 (code 0) → ends_body (last_step b.steps) ≡ true → ClosedBody c n b
closed_body c n b code is laid uses last = record {
  names = λ at line i here. names_there c n b laid at line i (laid.each at line i here) (used at line i here);
  last = last;
}
  where
    used : (at line : ℕ) (i : Instr) → Is b.steps at line i → Uses (HasSlot c n b) at line i
    used at line i here = each_of (Uses (HasSlot c n b)) (code 0) no_loop 0 at line i uses (subst (λ ss. slice_get ss at ≡ Some (line, i)) is here)

module _ (p : Program) (formed : Formed p) where
  -- the variables of a block have slots in a body with these names
  slotted : (n : ℕ) (ps : List Parameter) (b : Block) → FormedBlock (place n p.procedures) false b → AreAmong (map Global p.vars) (in_block b) → Each_of (Slot (map Global p.vars) n ps (own_names ps b)) (in_block b)
  slotted n ps b f g = all_slotted (map Global p.vars) n ps (in_block b) (of_block (place n p.procedures) b false f) g

  main_closed : NamedBlock (map Global p.vars) p.main → ClosedBody (code_of p) 0 (main_body p)
  main_closed named =
      let V = HasSlot (code_of p) 0 (main_body p) in
      closed_body (code_of p) 0 (main_body p) (main_code p.end_line p.main) refl (main_laid p formed)
      (block_used V p.main zero no_loop 0 (slotted 0 [] p.main formed.0 named.0) named.1, tt)
      (ap ends_body (last_behind (steps_of no_loop (block zero p.main 0)) (p.end_line, StopRun) []))

  procedure_closed : (f : ℕ) (q : Procedure) → slice_get p.procedures f ≡ Some q → NamedBlock (map Global p.vars) q.body → ClosedBody (code_of p) (suc f) (procedure_body q)
  procedure_closed f q is named =
      let V = HasSlot (code_of p) (suc f) (procedure_body q) in
      let number : 1 + f ≡ suc f = omega arith in
      let block_formed = subst (λ m. FormedBlock (place m p.procedures) false q.body) number (formed_at p.procedures 1 f p.procedures q formed.1 is) in
      closed_body (code_of p) (suc f) (procedure_body q) (procedure_code q.end_line q.body) refl (procedure_laid p formed f q is)
      (block_used V q.body zero no_loop 0 (slotted (suc f) q.parameters q.body block_formed named.0) named.1, (tt, tt))
      (ap ends_body (last_behind (steps_of no_loop (block zero q.body 0)) (q.end_line, Push None) ((q.end_line, ReturnTop) ∷ [])))

named_at : (vars : List Variable) (ps : List Procedure) (f : ℕ) (q : Procedure) → NamedProcedures vars ps → slice_get ps f ≡ Some q → NamedBlock vars q.body
named_at vars [] f q h is = cc
named_at vars (p ∷ ps) zero q h is = let same : p ≡ q = cc in subst (λ r. NamedBlock vars r.body) same h.0
named_at vars (p ∷ ps) (suc f) q h is = named_at vars ps f q h.1 is

pub code_of_programs_is_closed : (p : Program) → Formed p → Named p → Closed (code_of p)
code_of_programs_is_closed p formed named = record {
  bodies = each_body p (ClosedBody (code_of p)) (main_closed p formed named.0) (λ f q is. procedure_closed p formed f q is (named_at (map Global p.vars) p.procedures f q named.1 is));
}
