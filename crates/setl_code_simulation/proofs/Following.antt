-- The machine of the code follows the language, from every state that stands for one of the meaning.
use Rattle.std.proofs.Common.{◌≡◌, ◌<◌, ℕ, suc, List, [], ◌∷◌, Option, Some, refl, sym, subst, arith}
use Rattle.std.specs.Prelude.{slice_get}
use Rattle.std.proofs.Math.Nat.{sub-zero}
use Rattle.setl_value.specs.Datum.{Datum}
use Rattle.setl_program.specs.Program.{no_selector, round_selector, brace_selector, no_stmt, more_stmts, Program}
use Rattle.setl_program.specs.Formed.{Formed}
use Rattle.setl_model.specs.Core.{Shared, Hand, Execute, Result, Activation, Round, Brace, Frame, InCall, InStmt, Snapshot, Core, AssignRight, Puts, Combines}
use Rattle.setl_model.specs.Moves.{store_or_bind}
use Rattle.setl_model.specs.Step.{language}
use Rattle.setl_code.specs.Code.{Code, Putting, Combining}
use Rattle.setl_code.specs.CodeCore.{Cells, Operand, value_of, Copy, CodeCore}
use Rattle.setl_code.specs.Machine.{machine, store_in, do_step}
use Rattle.setl_code_simulation.specs.Follow.{Follows, Answers, Related, moves, by_step, after_step, by_none}
use Rattle.setl_code_simulation.specs.Matches.{AfterResult, Matches, Placed, Where, adding, answering, argument, binding, brace_selected, choose_test, clearing, clearing_one, combines, combining, connect_left, connect_right, discarding, doubling, dropped, evaluating, executing, forming, got, if_test, iterating, iterating_back, leaving_all, more, negating, none, operands, parting_right, printing, puts, putting, rank, rank_place, rank_result, result_jumps, returned, returning, round_selected, rounding, selection_formed, source, steps_in, storing, testing, value, while_test, Keeps, InHandOf}
use Rattle.setl_code_simulation.proofs.Parts.{code_core, core, Same, matched, stored, writes, tests}
use Rattle.setl_code_simulation.proofs.Calling.{Coded, left}
use Rattle.setl_code_simulation.proofs.Expressions.{Answered, expr_answered, operand_answered, connected, argument_answered}
use Rattle.setl_code_simulation.proofs.Storing.{storing_answered}
use Rattle.setl_code_simulation.proofs.Updating.{select_answered}
use Rattle.setl_code_simulation.proofs.Leaving.{returns, same_bodies}
use Rattle.setl_code_simulation.proofs.Statements.{chosen, looped, rounded, printed, parted, ended, block_answered}
use Rattle.setl_code_simulation.proofs.Iterations.{source_answered}
use Rattle.setl_code_simulation.proofs.Rounds.{tested, negated_answered, value_answered, adding_answered, discarded_answered, left_answered, pushed_answered, cleared_answered, cleared_one_answered, next_answered, doubled_answered, stored_all, bound_answered, former_answered, selection_answered}

module _ (c : Code) (pr : Program) (coded : Coded c pr) (formed : Formed pr) where
  -- a result goes to the innermost frame
  pub result_answered : {p : Where} (at : ℕ) (y : Operand) (v : Option Datum) (xs : List Operand) (w : List Frame) (g1 o : Cells) (s : Shared) (ks : List Copy) (ss : List Snapshot) → value_of y ≡ Some v → Same c pr.procedures g1 o s ks ss → (d : AfterResult c pr.procedures p at xs w) → Answered c pr (rank_result d) (slice_get (steps_in c p) at) g1 o s p at (y ∷ xs) ks (Result v) w ss
  result_answered at y v xs _ g1 o s ks ss is same (operands {n = n} {xs = ys} {got = vs} {o = f} {rest = es} {w = w} l h fe here after) =
      operand_answered c pr coded formed f n y v xs ys vs es l g1 o s _ at ks w ss is same h fe here after
  result_answered at y v xs _ g1 o s ks ss is same (connect_left {k = k} {b = b} {w = w} l f here after) = connected c pr coded formed k b v l g1 o s _ at y xs ks w ss is same f here after
  result_answered at y v xs _ g1 o s ks ss is same (connect_right test after) =
      rw (test, is) (by_step tt (tests c pr.procedures v _ _ _ _ _ (moves (matched c pr.procedures same (got refl after))) (moves (matched c pr.procedures same (got refl after)))))
  result_answered at y v xs _ g1 o s ks ss is same (choose_test l fa fb here after) =
      rw (here.0, is) (by_step tt (tests c pr.procedures v _ _ _ _ _ (moves (matched c pr.procedures same (evaluating l fa here.1.0 (result_jumps here.1.1.0 after)))) (moves (matched c pr.procedures same (evaluating l fb here.1.1.1 after)))))
  result_answered at y v xs w g1 o s ks ss is same (result_jumps jump after) =
      let less : rank_result after < suc (rank_result after) = omega arith in
      rw jump (by_none tt (matched c pr.procedures same (got is after)) less)
  result_answered at y v xs _ g1 o s ks ss is same (argument {n = n} {f = f} {xs = ys} {got = vs} {all = all} {rest = more2} {w = w} l h passed count fa here after) =
      argument_answered c pr coded formed f n y v xs ys vs all more2 l g1 o s _ at ks w ss is same h passed count fa here after
  result_answered at y v xs _ g1 o s ks ss is same (returning {name = name} {backs = backs} {own = own} {w = w} ret waits) =
      rw (ret, is) (by_step tt (left c pr coded formed v g1 o s at xs (y ∷ xs) ks (Result v) (InCall (Activation name backs own) ∷ w) ss same waits))
  result_answered at y v xs _ g1 o s ks ss is same (returned {name = name} {backs = backs} {own = own} {frames = frames} ret to waits) =
      after_step {r' = 0} (core s (Result v) (InCall (Activation name backs own) ∷ frames) ss) (returns c pr.procedures v _ to) (refl, same_bodies c pr.procedures s.own to)
      (rw (ret, is) (by_step tt (left c pr coded formed v g1 o s at xs (y ∷ xs) ks (Result v) (InCall (Activation name backs own) ∷ frames) ss same waits)))
  result_answered at y v xs _ g1 o s ks ss is same (parting_right {line = line} {slots = slots} {w = w} q here after) = parted c pr coded formed line slots q y v xs g1 o s _ at ks w ss is same here after
  result_answered at y v xs _ g1 o s ks ss is same (printing {line = line} {n = n} {xs = ys} {got = vs} {rest = es} {w = w} q l h f here after) =
      printed c pr coded formed line n y v xs ys vs es q l g1 o s _ at ks w ss is same h f here after
  result_answered at y v xs _ g1 o s ks ss is same (if_test {line = line} {a = a} {b = b} {w = w} q fa fb here after) = chosen c pr coded formed line a b q y v xs g1 o s _ at ks w ss is same fa fb here after
  result_answered at y v xs _ g1 o s ks ss is same (while_test {line = line} {e = e} {b = b} {w = w} q start fe fb here after) = looped c pr coded formed line start e b q y v xs g1 o s _ ks w ss is same fe fb here after
  result_answered at y v xs _ g1 o s ks ss is same (dropped {w = w} q drop after) =
      rw (drop, is) (by_step tt (moves (matched c pr.procedures same (executing {b = no_stmt} q tt tt after))))
  result_answered at y v xs _ g1 o s ks ss is same (source {rest = more2} l start h f here place stand out) = source_answered c pr coded formed more2 y v g1 o s at start ks ss is same h f here place stand out
  result_answered at y v xs _ g1 o s ks ss is same (testing l start stand out) = tested c pr coded formed l y v g1 o s start ks ss is same stand out
  result_answered at y v xs _ g1 o s ks ss is same (value l adds back out) = value_answered c pr coded formed l y v g1 o s at ks ss is same adds back out
  result_answered {p = p} at y v xs _ g1 o s ks ss is same (putting {line = line} {x = x} {ss = no_selector} {w = w} q f here after) =
      rw (here, is)
      (by_step tt (subst (λ n. Related (Matches c pr.procedures) (store_in x line v xs (code_core g1 o s.world p at (y ∷ xs) ks)) (store_or_bind line x v (Execute no_stmt) w (core (record s { world = record s.world { left = n } }) (Result v) (InStmt line (AssignRight (record { variable = x; selectors = no_selector })) ∷ w) ss))) (sym (sub-zero s.world.left))
      (stored c pr.procedures x line v at (y ∷ xs) xs (Result v) (InStmt line (AssignRight (record { variable = x; selectors = no_selector })) ∷ w) same (executing {b = no_stmt} q tt tt after))))
  result_answered at y v xs _ g1 o s ks ss is same (putting {line = line} {x = x} {ss = round_selector e sels} {w = w} q f here after) =
      select_answered c pr coded formed (round_selector e sels) 0 Putting (Puts v) x line 0 q [] g1 o s _ at (y ∷ xs) (y ∷ xs) xs ks _ _ w ss same refl refl none (puts is) f (here, tt) after
  result_answered at y v xs _ g1 o s ks ss is same (putting {line = line} {x = x} {ss = brace_selector e sels} {w = w} q f here after) =
      select_answered c pr coded formed (brace_selector e sels) 0 Putting (Puts v) x line 0 q [] g1 o s _ at (y ∷ xs) (y ∷ xs) xs ks _ _ w ss same refl refl none (puts is) f (here, tt) after
  result_answered at y v xs _ g1 o s ks ss is same (combining {line = line} {f = h} {x = x} {ss = sels} {w = w} q f here after) =
      select_answered c pr coded formed sels 0 (Combining h) (Combines h v) x line 0 q [] g1 o s _ at (y ∷ xs) (y ∷ xs) xs ks _ _ w ss same refl refl none (combines is) f (here, tt) after
  result_answered at y v os _ g1 o s ks ss is same (round_selected {line = line} {n = n} {a = a} {x = x} {change = change} {got = have} {ss = sels} {ys = ys} {xs = xs} {w = w} q h alters f here after) =
      select_answered c pr coded formed sels 0 a change x line (suc n) q (Round v ∷ have) g1 o s _ at (y ∷ os) ys xs ks _ _ w ss same refl refl (more is h) alters f here after
  result_answered at y v os _ g1 o s ks ss is same (brace_selected {line = line} {n = n} {a = a} {x = x} {change = change} {got = have} {ss = sels} {ys = ys} {xs = xs} {w = w} q h alters f here after) =
      select_answered c pr coded formed sels 0 a change x line (suc n) q (Brace v ∷ have) g1 o s _ at (y ∷ os) ys xs ks _ _ w ss same refl refl (more is h) alters f here after

  -- ---- every state

  state_answered : {p : Where} {at : ℕ} {xs : List Operand} {hand : Hand} {w : List Frame} (g1 o : Cells) (s : Shared) (ks : List Copy) (ss : List Snapshot) → Same c pr.procedures g1 o s ks ss → (d : Placed c pr.procedures p at xs hand w) → Answered c pr (rank_place d) (slice_get (steps_in c p) at) g1 o s p at xs ks hand w ss
  state_answered {p = p} {at = at} {xs = xs} g1 o s ks ss same (evaluating {e = e} {w = w} l f here after) = expr_answered c pr coded formed e l g1 o s p at xs ks w ss same f here after
  state_answered {at = at} g1 o s ks ss same (got {v = v} {o = y} {xs = xs} {w = w} is after) = result_answered at y v xs w g1 o s ks ss is same after
  state_answered g1 o s ks ss same (executing {b = no_stmt} q f here after) = ended c pr coded formed g1 o s ks ss same after
  state_answered {p = p} {at = at} {xs = xs} {w = w} g1 o s ks ss same (executing {b = more_stmts line st r} q f here after) = block_answered c pr coded formed (more_stmts line st r) q g1 o s p at xs ks w ss same f here after
  state_answered {p = p} {xs = xs} g1 o s ks ss same (rounding {line = line} {e = e} {b = b} {w = w} q start fe fb here after) = rounded c pr coded formed line start e b q xs g1 o s p ks w ss same fe fb here after
  state_answered g1 o s ks ss same (iterating out) = next_answered c pr coded formed (λ at y v ys g2 o2 s2 ks2 ss2 is same2 d. result_answered at y v ys _ g2 o2 s2 ks2 ss2 is same2 d) g1 o s ks ss same out
  state_answered g1 o s ks ss same (iterating_back is out) =
      let less : 0 < 1 = omega arith in
      rw is (by_none tt (matched c pr.procedures same (iterating out)) less)
  state_answered {at = at} g1 o s ks ss same (discarding {l = l} {o = y} is drop back out) = discarded_answered c pr coded formed y at l g1 o s ks ss is same drop back out
  state_answered g1 o s ks ss same (forming {at = at} {is = is} l f here after) = former_answered c pr coded formed is at l g1 o s ks ss same f here after
  state_answered g1 o s ks ss same (selection_formed {at = at} l f here after) = selection_answered c pr coded formed at l g1 o s ks ss same f here after
  state_answered {at = at} g1 o s ks ss same (doubling is members bound inner out) = doubled_answered c pr coded formed at g1 o s ks ss same is members bound inner out
  state_answered {at = at} g1 o s ks ss same (binding {item = item} {b = b} one_ bound inner out) =
      bound_answered c pr coded formed (λ at2 y v ys w2 g2 o2 s2 ks2 ss2 is same2 d. result_answered at2 y v ys w2 g2 o2 s2 ks2 ss2 is same2 d) b item at g1 o s ks ss same one_ bound inner out
  state_answered {at = at} g1 o s ks ss same (storing l fill here after) =
      storing_answered c pr (λ at2 g2 o2 s2 ks2 ss2 same2 a. stored_all c pr coded formed (λ at3 y v ys w3 g3 o3 s3 ks3 ss3 is same3 d. result_answered at3 y v ys w3 g3 o3 s3 ks3 ss3 is same3 d) at2 g2 o2 s2 ks2 ss2 same2 a) l at g1 o s ks ss same fill here after
  state_answered {at = at} g1 o s ks ss same (clearing {b = b} names l here after) = cleared_answered c pr coded formed names b at l g1 o s ks ss same here after
  state_answered {at = at} g1 o s ks ss same (clearing_one {b = b} x names l is here after) = cleared_one_answered c pr coded formed x names b at l g1 o s ks ss same is here after
  state_answered {at = at} {xs = xs} g1 o s ks ss same (leaving_all {b = b} leave h push jump after) = left_answered c pr coded formed b at xs g1 o s ks ss same leave h push jump after
  state_answered {at = at} g1 o s ks ss same (answering {b = b} push jump after) = pushed_answered c pr coded formed b at g1 o s ks ss same push jump after
  state_answered {at = at} g1 o s ks ss same (negating {b = b} l here out) = negated_answered c pr coded formed b at l g1 o s ks ss same here out
  state_answered {at = at} g1 o s ks ss same (adding l adds back out) = adding_answered c pr coded formed l g1 o s at ks ss same adds back out

  -- each state that matches is followed
  pub follows : Follows (machine c) (language pr) (Matches c pr.procedures) (rank c pr.procedures) Keeps (InHandOf c)
  follows = record { answers = answers; writes = λ x v k m h. writes c pr.procedures x v k m h }
    where
      answers : (k : CodeCore) (m : Core) (h : Matches c pr.procedures k m) → Answers (Matches c pr.procedures) (rank c pr.procedures) (language pr) Keeps (InHandOf c k) (rank c pr.procedures k m h) ((machine c).move k) m
      answers k m h =
          let s = m.shared in
          let same : Same c pr.procedures k.globals k.now.own s k.kept m.kept = record { globals = h.globals; own = h.own; kept = h.kept } in
          let answer = state_answered k.globals k.now.own s k.kept m.kept same h.place in
          subst (λ u. Answers (Matches c pr.procedures) (rank c pr.procedures) (language pr) Keeps (InHandOf c k) (rank_place h.place) (do_step c (slice_get (steps_in c (record { body = k.now.body; callers = k.callers })) k.now.at) (record k { world = u })) m) (sym h.world) answer
