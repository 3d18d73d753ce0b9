-- The code of calls and returns follows their meaning.
use Rattle.std.proofs.Common.{◌≡◌, ℕ, zero, suc, ◌+◌, Bool, true, false, List, [], ◌∷◌, length, reverse, Option, Some, None, refl, sym, ap, ◌∙◌, subst, arith}
use Rattle.std.specs.Prelude.{slice_get, cond}
use Rattle.std.specs.Option.{option_map}
use Rattle.setl_value.specs.Datum.{Datum}
use Rattle.setl_model_runs.specs.Variable.{Variable, Environment, value_in, is_variable}
use Rattle.setl_program.specs.Program.{Arguments, no_argument, rd_argument, wr_argument, rw_argument, Parameter, Procedure, Program}
use Rattle.setl_program.specs.Formed.{Passed, PassedAs, FormedBlock, Formed}
use Rattle.setl_model.specs.Core.{Shared, Hand, Frame, Snapshot, line_of}
use Rattle.setl_model.specs.Calls.{parameter, enter, leave, hand_backs}
use Rattle.setl_program.specs.FormedLaws.{arguments_number, as_many, formed_at}
use Rattle.setl_model.specs.Calls.{handed_back as backs_of}
use Rattle.setl_code.specs.Code.{Code}
use Rattle.setl_code.specs.Piece.{Labels, no_loop, past, Stands}
use Rattle.setl_code.specs.Generated.{store_slots, set_by, procedure_code}
use Rattle.setl_code.specs.CodeOf.{main_body, procedure_body}
use Rattle.setl_code.specs.CodeCore.{Result as OperandResult}
use Rattle.setl_code.specs.CodeCore.{There, Cells, held_in, cleared, variables_of, Operand, Copy}
use Rattle.setl_code.specs.Machine.{call_body, return_to, handed_back, body_steps}
use Rattle.setl_code_simulation.specs.Follow.{Related, moves}
use Rattle.setl_code_simulation.specs.Matches.{Where, steps_in, Loop, Holds, Fills, filled, fills, AfterResult, ends, Awaits, awaits, result_below, executing, storing, Matches}
use Rattle.setl_code_simulation.specs.States.{Alike}
use Rattle.setl_code_simulation.proofs.Stands.{stands_alone}
use Rattle.setl_code_simulation.proofs.Parts.{code_core, core, Same, all_popped, turns}

-- the code of a program has its bodies
pub record Coded (c : Code) (pr : Program) : Type 0 where
  pub main : slice_get c.bodies 0 ≡ Some (main_body pr)
  pub procedures : (f : ℕ) → slice_get c.bodies (suc f) ≡ option_map procedure_body (slice_get pr.procedures f)

-- every variable is `om`
pub all_om : (xs : List Variable) → Alike (cleared xs) []
all_om [] x = refl
all_om (y ∷ ys) x = go (is_variable y x) (all_om ys x)
  where
    go : (b : Bool) → held_in (cleared ys) x ≡ There None → cond b (There None) (held_in (cleared ys) x) ≡ There None
    go true later = refl
    go false later = later

module _ (c : Code) (pr : Program) (coded : Coded c pr) (formed : Formed pr) where
  -- a procedure is called with results on the operands
  pub called : (f n : ℕ) (os xs : List Operand) (vs : List (Option Datum)) (all : Arguments) (l : Labels) (g o : Cells) (s : Shared) (p : Where) (at : ℕ) (ks : List Copy) (hand : Hand) (w u : List Frame) (ss : List Snapshot) → Same c pr.procedures g o s ks ss → Holds n os vs xs → Passed (slice_get pr.procedures f) all → n ≡ arguments_number all → Stands (steps_in c p) l (suc at) (store_slots (line_of w) (set_by all) (suc at)) → AfterResult c pr.procedures p (past (suc at) (store_slots (line_of w) (set_by all) (suc at))) xs w → Related (Matches c pr.procedures) (call_body (suc f) (slice_get c.bodies (suc f)) (line_of w) (code_core g o s.world p at os ks)) (enter (suc f) (slice_get pr.procedures f) all (reverse vs) w (core s hand u ss))
  called f n os xs vs all l g o s p at ks hand w u ss same h passed many here after = go (slice_get pr.procedures f) refl passed
    where
      go : (q : Option Procedure) → slice_get pr.procedures f ≡ q → Passed q all → Related (Matches c pr.procedures) (call_body (suc f) (slice_get c.bodies (suc f)) (line_of w) (code_core g o s.world p at os ks)) (enter (suc f) q all (reverse vs) w (core s hand u ss))
      go None is ok = absurd ok
      go (Some q) is ok =
          let body : slice_get c.bodies (suc f) ≡ Some (procedure_body q) = coded.procedures f ∙ ap (option_map procedure_body) is in
          let count : n ≡ length q.parameters = many ∙ sym (as_many q.parameters all ok) in
          let pops = subst (λ m. Holds m os vs xs) count h in
          let inner : Where = record { body = suc f; callers = record { body = p.body; at = suc at; own = o; operands = xs } ∷ p.callers } in
          let steps : steps_in c inner ≡ (procedure_body q).steps = ap (λ b. body_steps b) body in
          let stand = subst (λ code. Stands code no_loop 0 (procedure_code q.end_line q.body 0)) (sym steps) (stands_alone (procedure_code q.end_line q.body 0) no_loop) in
          let number : 1 + f ≡ suc f = omega arith in
          let block_formed = subst (λ m. FormedBlock (record { body = m; procedures = pr.procedures }) false q.body) number (formed_at pr.procedures 1 f pr.procedures q formed.1 is) in
          let loop : Loop = record { is_loop = false; labels = no_loop; leaves = zero } in
          let back = ends refl stand.1.0 stand.1.1 (awaits l (record { body = p.body; at = suc at; own = o; operands = xs }) p.callers (procedure_body q) all tt refl same.own body refl refl ok here after) in
          rw (body, all_popped pops)
          (turns c pr.procedures (code_core g o s.world p at os ks) (core s hand u ss) refl _ _
          (λ m. moves (record { world = refl; globals = same.globals; own = all_om (variables_of (suc f) (procedure_body q)); kept = same.kept; place = executing loop block_formed stand.0 back })))

  -- ---- returns

  -- what is handed back lies on the operands, the first on top
  record HandedBack (n : ℕ) (ps : List Parameter) (all : Arguments) (own : Cells) (e : Environment) (xs : List Operand) : Type 0 where
    operands : List Operand
    gives : handed_back n ps own xs ≡ Some operands
    fill : Fills (set_by all) operands (backs_of (hand_backs n ps all) e) xs

  hands : (n : ℕ) (ps : List Parameter) (all : Arguments) (own : Cells) (e : Environment) (xs : List Operand) → PassedAs ps all → Alike own e → HandedBack n ps all own e xs
  hands n [] no_argument own e xs h alike = record { operands = xs; gives = refl; fill = filled }
  hands n (p ∷ ps) (rd_argument x rest) own e xs h alike =
      let r = hands n ps rest own e xs h.1 alike in
      record { operands = r.operands; gives = rw (h.0, r.gives) refl; fill = r.fill }
  hands n (p ∷ ps) (wr_argument x rest) own e xs h alike =
      let r = hands n ps rest own e xs h.1 alike in
      record { operands = OperandResult (value_in e (parameter n p)) ∷ r.operands; gives = rw (h.0, r.gives, alike (parameter n p)) refl; fill = fills refl r.fill }
  hands n (p ∷ ps) (rw_argument x rest) own e xs h alike =
      let r = hands n ps rest own e xs h.1 alike in
      record { operands = OperandResult (value_in e (parameter n p)) ∷ r.operands; gives = rw (h.0, r.gives, alike (parameter n p)) refl; fill = fills refl r.fill }
  hands n [] (rd_argument x rest) own e xs h alike = absurd h
  hands n [] (wr_argument x rest) own e xs h alike = absurd h
  hands n [] (rw_argument x rest) own e xs h alike = absurd h
  hands n (p ∷ ps) no_argument own e xs h alike = absurd h

  -- a procedure returns with a result
  pub left : {p : Where} {name : List ℕ} {backs : List (Variable × Variable)} {own : Environment} {w : List Frame} (v : Option Datum) (g o : Cells) (s : Shared) (at : ℕ) (xs ys : List Operand) (ks : List Copy) (hand : Hand) (u : List Frame) (ss : List Snapshot) → Same c pr.procedures g o s ks ss → Awaits c pr.procedures p name backs own w → Related (Matches c pr.procedures) (return_to (slice_get c.bodies p.body) v (code_core g o s.world p at ys ks) p.callers) (leave name backs own v w (core s hand u ss))
  left {p = p} v g o s at xs ys ks hand u ss same (awaits l caller outer b all inside waits alike is named zipped passed here after) =
      let r = hands p.body b.parameters all o s.own (OperandResult v ∷ caller.operands) passed same.own in
      rw (is, waits, named, zipped, r.gives)
      (moves (record { world = refl; globals = same.globals; own = alike; kept = same.kept; place = storing l r.fill here (result_below refl after) }))
