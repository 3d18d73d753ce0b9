-- Updates of places keep each value in its flow.
use Rattle.std.proofs.Common.{subst, ℕ, true, false, List, [], ◌∷◌, Option, Some, None}
use mathlib.Core.List.{reverse_aux}
use Rattle.setl_value.specs.Datum.{Datum}
use Rattle.setl_model_runs.specs.Variable.{Variable}
use Rattle.setl_operators_table.specs.Outcome.{Outcome, then_with}
use Rattle.setl_operators_table.specs.Operators.{op_of}
use Rattle.setl_operators_table.specs.declared.Operator.TheVariants.{Get, Images, Put, PutImages}
use Rattle.setl_program.specs.declared.kinds.Taking.{Taking as TakingKind}
use Rattle.setl_program.specs.Program.{Selectors, no_selector, round_selector, brace_selector, no_stmt, Program}
use Rattle.setl_model.specs.Core.{Execute, Evaluate, Result, Selected, Round, Brace, Change, Puts, Combines, Takes, RoundSelector, BraceSelector, Dropping, Frame, InStmt, Storing, Core, read_variable}
use Rattle.setl_model.specs.World.{with_left}
use Rattle.setl_model.specs.Moves.{holding, store_or_bind}
use Rattle.setl_model.specs.Places.{with_part_at, part_at_all, with_part_at_all, combined, Taken, TakesOut, IsEmpty, CannotTake, take_out, take_from, store_whole, update, select}
use Rattle.setl_advise_flows.specs.Flow.{Flow}
use Rattle.setl_advise_flows.specs.Has.{Has, HasAt}
use Rattle.setl_advise_flows.specs.Operators.{el, Plain, flow_of, OutcomeShape, op_shape, get_flow, images_flow, OperatorsIn}
use Rattle.setl_advise_flows.specs.Expressions.{Flows, shape_of, At, RoundAt, BraceAt, Doing, Putting, Combining, Taking, part_flow, whole_flow, UpdateFlows, ats_of, SelectorsFlows}
use Rattle.setl_advise_flows.specs.Invariant.{onto, nothing, SelectedIn, ChangeIn, Waits, CoreIn, MoveIn}
use Rattle.setl_advise_flows.proofs.Moving.{itself, read_in, going, spent, stops, stores, gives, in_flow, below_at, goes_then, outcome_by}

-- what is left and what is taken are in their flows
abbrev pub TakenIn : Flow → Taken → Type 0
TakenIn f (TakesOut small v) = Has f small × HasAt (el f) v
TakenIn f IsEmpty = Unit {0}
TakenIn f (CannotTake e) = Unit {0}

abbrev pub TakesIn : Type 0
TakesIn = (k : TakingKind) (f : Flow) (v : Option Datum) → HasAt f v → TakenIn f (take_out k v)

selected_onto : (ats us : List At) (got xs : List Selected) → SelectedIn ats got → SelectedIn us xs → SelectedIn (onto ats us) (reverse_aux got xs)
selected_onto [] us [] xs h k = k
selected_onto (RoundAt f ∷ ats) us (Round v ∷ got) xs h k = selected_onto ats (RoundAt f ∷ us) got (Round v ∷ xs) h.1 (h.0, k)
selected_onto (BraceAt f ∷ ats) us (Brace v ∷ got) xs h k = selected_onto ats (BraceAt f ∷ us) got (Brace v ∷ xs) h.1 (h.0, k)
selected_onto [] us (v ∷ got) xs h k = absurd h
selected_onto (RoundAt f ∷ ats) us [] xs h k = absurd h
selected_onto (BraceAt f ∷ ats) us [] xs h k = absurd h
selected_onto (RoundAt f ∷ ats) us (Brace v ∷ got) xs h k = absurd h
selected_onto (BraceAt f ∷ ats) us (Round v ∷ got) xs h k = absurd h

module _ (p : Program) (s : Flows) (ops : OperatorsIn) (takes : TakesIn) where
  -- the parts at selectors
  parts : (ats : List At) (ss : List Selected) (f : Flow) (v : Option Datum) (left : ℕ) → SelectedIn ats ss → HasAt f v → OutcomeShape (Plain (part_flow ats f)) (part_at_all ss v left)
  parts [] [] f v left h x = x
  parts (RoundAt a ∷ ats) (Round u ∷ ss) f v left h x =
      goes_then (Plain (get_flow f)) (Plain (part_flow ats (get_flow f))) (op_of Get (v ∷ u ∷ []) left) left (λ part now. part_at_all ss part now)
      (ops Get (Plain f ∷ Plain a ∷ []) (v ∷ u ∷ []) left (x, (h.0, tt))) (λ part now y. parts ats ss (get_flow f) part now h.1 y)
  parts (BraceAt a ∷ ats) (Brace u ∷ ss) f v left h x =
      goes_then (Plain (images_flow f)) (Plain (part_flow ats (images_flow f))) (op_of Images (v ∷ u ∷ []) left) left (λ part now. part_at_all ss part now)
      (ops Images (Plain f ∷ Plain a ∷ []) (v ∷ u ∷ []) left (x, (h.0, tt))) (λ part now y. parts ats ss (images_flow f) part now h.1 y)
  parts [] (u ∷ ss) f v left h x = absurd h
  parts (RoundAt a ∷ ats) [] f v left h x = absurd h
  parts (BraceAt a ∷ ats) [] f v left h x = absurd h
  parts (RoundAt a ∷ ats) (Brace u ∷ ss) f v left h x = absurd h
  parts (BraceAt a ∷ ats) (Round u ∷ ss) f v left h x = absurd h

  -- the whole with a part combined
  combines : (ats : List At) (ss : List Selected) (f : Flow) (whole : Option Datum) (y : Flow) (make : Option Datum → ℕ → Outcome) (left : ℕ) → SelectedIn ats ss → HasAt f whole →
      ((v : Option Datum) (n : ℕ) → HasAt (part_flow ats f) v → OutcomeShape (Plain y) (make v n)) → OutcomeShape (Plain (whole_flow ats f y)) (combined ss whole make left)
  combines [] [] f whole y make left h x k = k whole left x
  combines (RoundAt a ∷ ats) (Round u ∷ ss) f whole y make left h x k =
      goes_then (Plain (get_flow f)) (Plain (whole_flow (RoundAt a ∷ ats) f y)) (op_of Get (whole ∷ u ∷ []) left) left
      (λ part now. then_with (combined ss part make now) now (λ new later. with_part_at (Round u) whole new later))
      (ops Get (Plain f ∷ Plain a ∷ []) (whole ∷ u ∷ []) left (x, (h.0, tt)))
      (λ part now z. goes_then (Plain (whole_flow ats (get_flow f) y)) (Plain (whole_flow (RoundAt a ∷ ats) f y)) (combined ss part make now) now
      (λ new later. with_part_at (Round u) whole new later) (combines ats ss (get_flow f) part y make now h.1 z k)
      (λ new later t. ops Put (Plain f ∷ Plain a ∷ Plain (whole_flow ats (get_flow f) y) ∷ []) (whole ∷ u ∷ new ∷ []) later (x, (h.0, (t, tt)))))
  combines (BraceAt a ∷ ats) (Brace u ∷ ss) f whole y make left h x k =
      goes_then (Plain (images_flow f)) (Plain (whole_flow (BraceAt a ∷ ats) f y)) (op_of Images (whole ∷ u ∷ []) left) left
      (λ part now. then_with (combined ss part make now) now (λ new later. with_part_at (Brace u) whole new later))
      (ops Images (Plain f ∷ Plain a ∷ []) (whole ∷ u ∷ []) left (x, (h.0, tt)))
      (λ part now z. goes_then (Plain (whole_flow ats (images_flow f) y)) (Plain (whole_flow (BraceAt a ∷ ats) f y)) (combined ss part make now) now
      (λ new later. with_part_at (Brace u) whole new later) (combines ats ss (images_flow f) part y make now h.1 z k)
      (λ new later t. ops PutImages (Plain f ∷ Plain a ∷ Plain (whole_flow ats (images_flow f) y) ∷ []) (whole ∷ u ∷ new ∷ []) later (x, (h.0, (t, tt)))))
  combines [] (u ∷ ss) f whole y make left h x k = absurd h
  combines (RoundAt a ∷ ats) [] f whole y make left h x k = absurd h
  combines (BraceAt a ∷ ats) [] f whole y make left h x k = absurd h
  combines (RoundAt a ∷ ats) (Brace u ∷ ss) f whole y make left h x k = absurd h
  combines (BraceAt a ∷ ats) (Round u ∷ ss) f whole y make left h x k = absurd h

  -- the whole with a part put
  puts : (ats : List At) (ss : List Selected) (f : Flow) (whole : Option Datum) (y : Flow) (v : Option Datum) (left : ℕ) → SelectedIn ats ss → HasAt f whole → HasAt y v →
      OutcomeShape (Plain (whole_flow ats f y)) (with_part_at_all ss whole v left)
  puts [] [] f whole y v left h x k = k
  puts (RoundAt a ∷ []) (Round u ∷ []) f whole y v left h x k = ops Put (Plain f ∷ Plain a ∷ Plain y ∷ []) (whole ∷ u ∷ v ∷ []) left (x, (h.0, (k, tt)))
  puts (BraceAt a ∷ []) (Brace u ∷ []) f whole y v left h x k = ops PutImages (Plain f ∷ Plain a ∷ Plain y ∷ []) (whole ∷ u ∷ v ∷ []) left (x, (h.0, (k, tt)))
  puts (RoundAt a ∷ b ∷ ats) (Round u ∷ t ∷ ss) f whole y v left h x k =
      goes_then (Plain (get_flow f)) (Plain (whole_flow (RoundAt a ∷ b ∷ ats) f y)) (op_of Get (whole ∷ u ∷ []) left) left
      (λ part now. then_with (with_part_at_all (t ∷ ss) part v now) now (λ new later. with_part_at (Round u) whole new later))
      (ops Get (Plain f ∷ Plain a ∷ []) (whole ∷ u ∷ []) left (x, (h.0, tt)))
      (λ part now z. goes_then (Plain (whole_flow (b ∷ ats) (get_flow f) y)) (Plain (whole_flow (RoundAt a ∷ b ∷ ats) f y)) (with_part_at_all (t ∷ ss) part v now) now
      (λ new later. with_part_at (Round u) whole new later) (puts (b ∷ ats) (t ∷ ss) (get_flow f) part y v now h.1 z k)
      (λ new later n. ops Put (Plain f ∷ Plain a ∷ Plain (whole_flow (b ∷ ats) (get_flow f) y) ∷ []) (whole ∷ u ∷ new ∷ []) later (x, (h.0, (n, tt)))))
  puts (BraceAt a ∷ b ∷ ats) (Brace u ∷ t ∷ ss) f whole y v left h x k =
      goes_then (Plain (images_flow f)) (Plain (whole_flow (BraceAt a ∷ b ∷ ats) f y)) (op_of Images (whole ∷ u ∷ []) left) left
      (λ part now. then_with (with_part_at_all (t ∷ ss) part v now) now (λ new later. with_part_at (Brace u) whole new later))
      (ops Images (Plain f ∷ Plain a ∷ []) (whole ∷ u ∷ []) left (x, (h.0, tt)))
      (λ part now z. goes_then (Plain (whole_flow (b ∷ ats) (images_flow f) y)) (Plain (whole_flow (BraceAt a ∷ b ∷ ats) f y)) (with_part_at_all (t ∷ ss) part v now) now
      (λ new later. with_part_at (Brace u) whole new later) (puts (b ∷ ats) (t ∷ ss) (images_flow f) part y v now h.1 z k)
      (λ new later n. ops PutImages (Plain f ∷ Plain a ∷ Plain (whole_flow (b ∷ ats) (images_flow f) y) ∷ []) (whole ∷ u ∷ new ∷ []) later (x, (h.0, (n, tt)))))
  puts [] (u ∷ ss) f whole y v left h x k = absurd h
  puts (RoundAt a ∷ ats) [] f whole y v left h x k = absurd h
  puts (BraceAt a ∷ ats) [] f whole y v left h x k = absurd h
  puts (RoundAt a ∷ ats) (Brace u ∷ ss) f whole y v left h x k = absurd h
  puts (BraceAt a ∷ ats) (Round u ∷ ss) f whole y v left h x k = absurd h
  puts (RoundAt a ∷ []) (Round u ∷ t ∷ ss) f whole y v left h x k = absurd h.1
  puts (BraceAt a ∷ []) (Brace u ∷ t ∷ ss) f whole y v left h x k = absurd h.1
  puts (RoundAt a ∷ RoundAt b ∷ ats) (Round u ∷ []) f whole y v left h x k = absurd h.1
  puts (RoundAt a ∷ BraceAt b ∷ ats) (Round u ∷ []) f whole y v left h x k = absurd h.1
  puts (BraceAt a ∷ RoundAt b ∷ ats) (Brace u ∷ []) f whole y v left h x k = absurd h.1
  puts (BraceAt a ∷ BraceAt b ∷ ats) (Brace u ∷ []) f whole y v left h x k = absurd h.1

  -- ---- steps

  stores_whole : (o : Outcome) (f : Flow) (line : ℕ) (x : Variable) (r : Flow) (work : List Frame) (c : Core) → CoreIn p s c → OutcomeShape (Plain f) o → ((v : Option Datum) → HasAt f v → HasAt (s.of x) v) →
      Waits p s r false nothing work → MoveIn p s (store_whole o line x work c)
  stores_whole o f line x r work c h k up a =
      gives p s (Plain f) o line c (λ new d. store_or_bind line x new (Execute no_stmt) work d) k
      (λ v n y. stores p s line x v (with_left holding n c) (spent p s c h n) r (Execute no_stmt) work (up v y) (tt, a))

  takes_from : (t : Taken) (f : Flow) (line : ℕ) (x : Variable) (ats : List At) (ss : List Selected) (y : Variable) (r : Flow) (work : List Frame) (c : Core) → CoreIn p s c →
      TakenIn f t → SelectedIn ats ss → ((v : Option Datum) → HasAt (whole_flow ats (s.of x) f) v → HasAt (s.of x) v) → ((v : Option Datum) → HasAt (el f) v → HasAt (s.of y) v) →
      Waits p s r false nothing work → MoveIn p s (take_from t line x ss y work c)
  takes_from (TakesOut small v) f line x ats ss y r work c h t k up over a =
      gives p s (Plain (whole_flow ats (s.of x) f)) (with_part_at_all ss (read_variable x c.shared) (Some small) c.shared.world.left) line c
      (λ new d. store_or_bind line x new (Result None) (Storing ((y, v) ∷ []) ∷ InStmt line Dropping ∷ work) d)
      (puts ats ss (s.of x) (read_variable x c.shared) f (Some small) c.shared.world.left k (read_in p s x c h) t.0)
      (λ new n z. stores p s line x new (with_left holding n c) (spent p s c h n) r (Result None) (Storing ((y, v) ∷ []) ∷ InStmt line Dropping ∷ work) (up new z)
      (nothing, tt, (true, ((over v t.1, tt), (tt, a)))))
  takes_from IsEmpty f line x ats ss y r work c h t k up over a =
      going p s c h r (Result None) (Storing ((y, None) ∷ []) ∷ InStmt line Dropping ∷ work) (nothing, tt, (true, ((tt, tt), (tt, a))))
  takes_from (CannotTake fault) f line x ats ss y r work c h t k up over a = stops p s fault line

  updates : (d : Doing) (change : Change) (line : ℕ) (x : Variable) (ats : List At) (ss : List Selected) (r : Flow) (work : List Frame) (c : Core) → CoreIn p s c →
      ChangeIn d change → SelectedIn ats ss → UpdateFlows s x ats d → Waits p s r false nothing work → MoveIn p s (update change line x ss work c)
  updates (Putting f) (Puts v) line x ats ss r work c h k t u a =
      stores_whole (with_part_at_all ss (read_variable x c.shared) v c.shared.world.left) (whole_flow ats (s.of x) f) line x r work c h
      (puts ats ss (s.of x) (read_variable x c.shared) f v c.shared.world.left t (read_in p s x c h) k) (below_at (whole_flow ats (s.of x) f) (s.of x) u) a
  updates (Combining o w) (Combines n v) line x ats ss r work c h k t u a =
      let y = flow_of (op_shape o (Plain (part_flow ats (s.of x)) ∷ w ∷ [])) in
      subst (λ n. MoveIn p s (update (Combines n v) line x ss work c)) k.0
      (stores_whole (combined ss (read_variable x c.shared) (λ part now. op_of o (part ∷ v ∷ []) now) c.shared.world.left) (whole_flow ats (s.of x) y) line x r work c h
      (combines ats ss (s.of x) (read_variable x c.shared) y (λ part now. op_of o (part ∷ v ∷ []) now) c.shared.world.left t (read_in p s x c h)
      (λ part now z. outcome_by (op_shape o (Plain (part_flow ats (s.of x)) ∷ w ∷ [])) (Plain y) (in_flow (op_shape o (Plain (part_flow ats (s.of x)) ∷ w ∷ []))) (op_of o (part ∷ v ∷ []) now)
      (ops o (Plain (part_flow ats (s.of x)) ∷ w ∷ []) (part ∷ v ∷ []) now (z, (k.1, tt)))))
      (below_at (whole_flow ats (s.of x) y) (s.of x) u) a)
  updates (Taking y) (Takes k z) line x ats ss r work c h e t u a =
      let f = part_flow ats (s.of x) in
      gives p s (Plain f) (part_at_all ss (read_variable x c.shared) c.shared.world.left) line c (λ part d. take_from (take_out k part) line x ss z work d)
      (parts ats ss (s.of x) (read_variable x c.shared) c.shared.world.left t (read_in p s x c h))
      (λ part n q. takes_from (take_out k part) f line x ats ss z r work (with_left holding n c) (spent p s c h n) (takes k f part q) t
      (below_at (whole_flow ats (s.of x) f) (s.of x) u.0) (subst (λ z. (v : Option Datum) → HasAt (el f) v → HasAt (s.of z) v) e (below_at (el f) (s.of y) u.1)) a)
  updates (Putting f) (Combines n v) line x ats ss r work c h k t u a = absurd k
  updates (Putting f) (Takes n v) line x ats ss r work c h k t u a = absurd k
  updates (Combining o w) (Puts v) line x ats ss r work c h k t u a = absurd k
  updates (Combining o w) (Takes n v) line x ats ss r work c h k t u a = absurd k
  updates (Taking y) (Puts v) line x ats ss r work c h k t u a = absurd k
  updates (Taking y) (Combines n v) line x ats ss r work c h k t u a = absurd k

  pub selects : (rest : Selectors) (line : ℕ) (x : Variable) (d : Doing) (change : Change) (ats : List At) (got : List Selected) (r : Flow) (work : List Frame) (c : Core) → CoreIn p s c →
      SelectorsFlows p s rest → SelectedIn ats got → ChangeIn d change → UpdateFlows s x (onto ats (ats_of s rest)) d → Waits p s r false nothing work → MoveIn p s (select line x change got rest work c)
  selects no_selector line x d change ats got r work c h fl t k u a =
      updates d change line x (onto ats []) (reverse_aux got []) r work c h k (selected_onto ats [] got [] t tt) u a
  selects (round_selector e rest) line x d change ats got r work c h fl t k u a =
      going p s c h r (Evaluate e) (InStmt line (RoundSelector x change got rest) ∷ work) (shape_of s e, fl.0, itself (shape_of s e), ((fl.1, (ats, d, t, k, u)), a))
  selects (brace_selector e rest) line x d change ats got r work c h fl t k u a =
      going p s c h r (Evaluate e) (InStmt line (BraceSelector x change got rest) ∷ work) (shape_of s e, fl.0, itself (shape_of s e), ((fl.1, (ats, d, t, k, u)), a))
