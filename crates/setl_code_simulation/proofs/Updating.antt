-- The code of updates follows their meaning: the parts of places, what is put there or taken out, and the store.
use Rattle.std.proofs.Common.{◌≡◌, ℕ, suc, ◌-◌, List, [], ◌∷◌, ◌++◌, map, length, reverse, Option, Some, refl, sym, ap, ◌∙◌, subst, append-nil, append_assoc}
use Rattle.std.specs.Prelude.{slice_get}
use mathlib.Core.List.{reverse_aux}
use Rattle.std.proofs.lemmas.List.{length-reverse}
use Rattle.std.proofs.lemmas.Grind.{reverse_onto}
use Rattle.setl_value.specs.Datum.{Datum}
use Rattle.setl_operators_table.specs.Outcome.{Outcome}
use Rattle.setl_operators_table.specs.Operators.{op_of}
use Rattle.setl_model_runs.specs.Variable.{Variable, Global, Own, Bound}
use Rattle.setl_program.specs.Program.{Selectors, no_selector, round_selector, brace_selector, no_stmt, Program}
use Rattle.setl_program.specs.Formed.{FormedSelectors, Formed}
use Rattle.setl_model.specs.World.{World}
use Rattle.setl_model.specs.Core.{Shared, Hand, Evaluate, Selected, Round, Brace, Change, RoundSelector, BraceSelector, Frame, InStmt, Snapshot, read_variable}
use Rattle.setl_model.specs.Places.{with_part_at_all, part_at_all, combined, Taken, TakesOut, IsEmpty, CannotTake, take_out, take_from, store_whole, update, select}
use Rattle.setl_model.specs.Step.{language}
use Rattle.setl_code.specs.Code.{Bracket, InRound, InBrace, Alteration, Alter, Code}
use Rattle.setl_code.specs.Piece.{Labels, past, Is, Stands, ◌⨾◌}
use Rattle.setl_code.specs.Generated.{store_slots, brackets, selectors, expr}
use Rattle.setl_code.specs.CodeCore.{Result as OperandResult}
use Rattle.setl_code.specs.CodeCore.{Cells, Operand, Copy}
use Rattle.setl_code.specs.Machine.{alter, selected_by}
use Rattle.setl_code.specs.Machine.{take_from as code_take_from, store_whole as code_store_whole}
use Rattle.setl_code_simulation.specs.Follow.{Related, moves, halts, by_step, after_step}
use Rattle.setl_code_simulation.specs.Matches.{Where, steps_in, around, Loop, Holds, none, more, filled, fills, selected_value, bracket_of, Alters, puts, combines, takes, target_of, selecting, AfterBlock, stmt_done, round_selected, brace_selected, executing, storing, Matches}
use Rattle.setl_code_simulation.specs.States.{bodies_at_work}
use Rattle.setl_code_simulation.proofs.Parts.{code_core, core, Same, matched, stored, all_popped, held_read, outcomes}
use Rattle.setl_code_simulation.proofs.Calling.{Coded}
use Rattle.setl_code_simulation.proofs.Expressions.{Answered, expr_answered}

-- ---- selectors from operands

maps_onto : {A B : Type 0} (f : A → B) (xs acc : List A) → map f (reverse_aux xs acc) ≡ reverse_aux (map f xs) (map f acc)
maps_onto f [] acc = refl
maps_onto f (x ∷ xs) acc = maps_onto f xs (x ∷ acc)

reverse_maps : {A B : Type 0} (f : A → B) (xs : List A) → map f (reverse xs) ≡ reverse (map f xs)
reverse_maps f xs = maps_onto f xs []

selected_again : (ss : List Selected) → selected_by (map bracket_of ss) (map selected_value ss) ≡ ss
selected_again [] = refl
selected_again (Round v ∷ ss) = ap (λ r. Round v ∷ r) (selected_again ss)
selected_again (Brace v ∷ ss) = ap (λ r. Brace v ∷ r) (selected_again ss)

selected_back : (got : List Selected) → selected_by (reverse (map bracket_of got)) (reverse (map selected_value got)) ≡ reverse got
selected_back got =
    ap (λ bs. selected_by bs (reverse (map selected_value got))) (sym (reverse_maps bracket_of got))
    ∙ ap (λ vs. selected_by (map bracket_of (reverse got)) vs) (sym (reverse_maps selected_value got))
    ∙ selected_again (reverse got)

holds_number : {n : ℕ} {os xs : List Operand} {vs : List (Option Datum)} → Holds n os vs xs → n ≡ length vs
holds_number none = refl
holds_number (more is h) = ap suc (holds_number h)

same_length : (got : List Selected) → length (map bracket_of got) ≡ length (map selected_value got)
same_length [] = refl
same_length (x ∷ xs) = ap suc (same_length xs)

as_many_brackets : (got : List Selected) → length (reverse (map bracket_of got)) ≡ length (map selected_value got)
as_many_brackets got = length-reverse (map bracket_of got) ∙ same_length got

-- ---- what a variable holds doesn't rest on the world

read_in : (x : Variable) (s : Shared) (u : World) → read_variable x (record s { world = u }) ≡ read_variable x s
read_in (Global name) s u = refl
read_in (Own body name) s u = refl
read_in (Bound former name) s u = refl

module _ (c : Code) (pr : Program) where
  pub in_world : {g o : Cells} {s : Shared} {ks : List Copy} {ss : List Snapshot} (u : World) → Same c pr.procedures g o s ks ss → Same c pr.procedures g o (record s { world = u }) ks ss
  in_world u h = record { globals = h.globals; own = h.own; kept = h.kept }

  -- a new whole is stored, and the statement is done
  whole_stored : (x : Variable) (line : ℕ) (q : Loop) (out : Outcome) {g o : Cells} {s : Shared} {p : Where} (at : ℕ) (ys xs : List Operand) {ks : List Copy} {ss : List Snapshot} (hand : Hand) (u w : List Frame) → Same c pr.procedures g o s ks ss → AfterBlock c pr.procedures p q (suc at) xs w → Related (Matches c pr.procedures) (code_store_whole out line x xs (code_core g o s.world p at ys ks)) (store_whole out line x w (core s hand u ss))
  whole_stored x line q out at ys xs hand u w same after =
      outcomes c pr.procedures out line _ _ _ _ (λ new n. stored c pr.procedures x line new at ys xs hand u (in_world _ same) (executing {b = no_stmt} q tt tt after))

  -- what is taken out is stored behind the place
  taken : (x : Variable) (line : ℕ) (q : Loop) (l : Labels) (t : Taken) (target : Variable) (chosen : List Selected) {g o : Cells} {s : Shared} {p : Where} (at : ℕ) (ys xs : List Operand) {ks : List Copy} {ss : List Snapshot} (hand : Hand) (u w : List Frame) → Same c pr.procedures g o s ks ss → Stands (steps_in c p) l (suc at) (store_slots line (Some target ∷ []) (suc at)) → AfterBlock c pr.procedures p q (past (suc at) (store_slots line (Some target ∷ []) (suc at))) xs w → Related (Matches c pr.procedures) (code_take_from t line x (read_variable x s) chosen xs (code_core g o s.world p at ys ks)) (take_from t line x chosen target w (core s hand u ss))
  taken x line q l (TakesOut small v) target chosen {s = s} at ys xs hand u w same here after =
      outcomes c pr.procedures (with_part_at_all chosen (read_variable x s) (Some small) s.world.left) line _ _ _ _
      (λ new n. stored c pr.procedures x line new at ys (OperandResult v ∷ xs) hand u (in_world _ same) (storing l (fills refl filled) here (stmt_done q after)))
  taken x line q l IsEmpty target chosen at ys xs hand u w same here after =
      moves (matched c pr.procedures same (storing l (fills refl filled) here (stmt_done q after)))
  taken x line q l (CannotTake fault) target chosen at ys xs hand u w same here after = halts

  -- the update at selectors
  altered : (a : Alteration) (change : Change) (x : Variable) (line : ℕ) (q : Loop) (chosen : List Selected) {g o : Cells} {s : Shared} {p : Where} (at : ℕ) (zs ys xs : List Operand) {ks : List Copy} {ss : List Snapshot} (hand : Hand) (u w : List Frame) → Same c pr.procedures g o s ks ss → Alters a change ys xs → Stands (steps_in c p) q.labels (suc at) (store_slots line (target_of change) (suc at)) → AfterBlock c pr.procedures p q (past (suc at) (store_slots line (target_of change) (suc at))) xs w → Related (Matches c pr.procedures) (alter a line x (read_variable x s) chosen ys (code_core g o s.world p at zs ks)) (update change line x chosen w (core s hand u ss))
  altered _ _ x line q chosen {s = s} at zs _ xs hand u w same (puts {v = v} is) here after =
      rw is (whole_stored x line q (with_part_at_all chosen (read_variable x s) v s.world.left) at zs xs hand u w same after)
  altered _ _ x line q chosen {s = s} at zs _ xs hand u w same (combines {f = f} {v = v} is) here after =
      rw is (whole_stored x line q (combined chosen (read_variable x s) (λ part now. op_of f (part ∷ v ∷ []) now) s.world.left) at zs xs hand u w same after)
  altered _ _ x line q chosen {g = g} {o = o} {s = s} {p = p} at zs _ xs {ks = ks} {ss = ss} hand u w same (takes {k = k} {target = target}) here after =
      outcomes c pr.procedures (part_at_all chosen (read_variable x s) s.world.left) line _ _ _ _ each
    where
      each : (part : Option Datum) (n : ℕ) → Related (Matches c pr.procedures) (code_take_from (take_out k part) line x (read_variable x s) chosen xs (code_core g o (record s.world { left = s.world.left - n }) p at zs ks)) (take_from (take_out k part) line x chosen target w (core (record s { world = record s.world { left = s.world.left - n } }) hand u ss))
      each part n =
          let u2 = record s.world { left = s.world.left - n } in
          subst (λ r. Related (Matches c pr.procedures) (code_take_from (take_out k part) line x r chosen xs (code_core g o u2 p at zs ks)) (take_from (take_out k part) line x chosen target w (core (record s { world = u2 }) hand u ss))) (read_in x s u2)
          (taken x line q q.labels (take_out k part) target chosen at zs xs hand u w (in_world u2 same) here after)

-- one bracket more
bracket_moved : (k : Bracket) (before after : List Bracket) → reverse before ++ (k ∷ after) ≡ reverse (k ∷ before) ++ after
bracket_moved k before after = sym (ap (λ l. l ++ after) (reverse_onto before k []) ∙ append_assoc (reverse before) (k ∷ []) after)

module _ (c : Code) (pr : Program) (coded : Coded c pr) (formed : Formed pr) where
  -- the next selector of a place, or the update; the meaning's step leads there
  pub select_answered : (rest : Selectors) (r : ℕ) (a : Alteration) (change : Change) (x : Variable) (line n : ℕ) (q : Loop) (have : List Selected) (g o : Cells) (s : Shared) (p : Where) (at : ℕ) (os ys xs : List Operand) (ks : List Copy) (hand : Hand) (u w : List Frame) (ss : List Snapshot) → Same c pr.procedures g o s ks ss → (language pr).move (core s hand u ss) ≡ select line x change have rest w (core s hand u ss) → bodies_at_work s.own u ≡ bodies_at_work s.own w → Holds n os (map selected_value have) ys → Alters a change ys xs → FormedSelectors (around c pr.procedures p) rest → Stands (steps_in c p) q.labels at ((selecting line a x (reverse (map bracket_of have)) rest ⨾ store_slots line (target_of change)) at) → AfterBlock c pr.procedures p q (past at ((selecting line a x (reverse (map bracket_of have)) rest ⨾ store_slots line (target_of change)) at)) xs w → Answered c pr r (slice_get (steps_in c p) at) g o s p at os ks hand u ss
  select_answered no_selector r a change x line n q have g o s p at os ys xs ks hand u w ss same moving stays h alters f here after =
      let is = subst (λ bs. Is (steps_in c p) at line (Alter a x bs)) (append-nil (reverse (map bracket_of have))) here.0.1 in
      let count : n ≡ length (reverse (map bracket_of have)) = holds_number h ∙ sym (as_many_brackets have) in
      let pops = all_popped (subst (λ m. Holds m os (map selected_value have) ys) count h) in
      rw (is, pops, held_read g o s p at os ks same.globals same.own x, selected_back have)
      (by_step tt (subst (λ m. Related (Matches c pr.procedures) (alter a line x (read_variable x s) (reverse have) ys (code_core g o s.world p at os ks)) m) (sym moving)
      (altered c pr a change x line q (reverse have) at os ys xs hand u w same alters here.1 after)))
  select_answered (round_selector e rest) r a change x line n q have g o s p at os ys xs ks hand u w ss same moving stays h alters f here after =
      let moved = subst (λ bs. Is (steps_in c p) (past (past at (expr line e at)) (selectors line rest (past at (expr line e at)))) line (Alter a x bs)) (bracket_moved InRound (map bracket_of have) (brackets rest)) here.0.1 in
      after_step {r' = 1} (core s (Evaluate e) (InStmt line (RoundSelector x change have rest) ∷ w) ss) moving (refl, stays)
      (expr_answered c pr coded formed e q.labels g o s p at os ks _ ss same f.0 here.0.0.0 (round_selected q h alters f.1 ((here.0.0.1, moved), here.1) after))
  select_answered (brace_selector e rest) r a change x line n q have g o s p at os ys xs ks hand u w ss same moving stays h alters f here after =
      let moved = subst (λ bs. Is (steps_in c p) (past (past at (expr line e at)) (selectors line rest (past at (expr line e at)))) line (Alter a x bs)) (bracket_moved InBrace (map bracket_of have) (brackets rest)) here.0.1 in
      after_step {r' = 1} (core s (Evaluate e) (InStmt line (BraceSelector x change have rest) ∷ w) ss) moving (refl, stays)
      (expr_answered c pr coded formed e q.labels g o s p at os ks _ ss same f.0 here.0.0.0 (brace_selected q h alters f.1 ((here.0.0.1, moved), here.1) after))
