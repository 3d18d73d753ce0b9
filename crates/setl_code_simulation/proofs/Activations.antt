-- The activations of the code are the bodies at work in the meaning.
use Rattle.std.proofs.Common.{◌≡◌, ℕ, zero, suc, List, ◌∷◌, Option, Some, None, refl, sym, ap, ◌∙◌, subst}
use Rattle.std.specs.Prelude.{slice_get}
use Rattle.std.specs.Option.{option_map}
use Rattle.setl_value.specs.Datum.{Datum}
use Rattle.setl_model_runs.specs.Variable.{Environment}
use Rattle.setl_program.specs.Program.{Iterators, Condition, Procedure}
use Rattle.setl_program.specs.Formed.{InProcedure}
use Rattle.setl_model.specs.Core.{Hand, Goal, Level, HandBacks, Activation, Frame, InCall, Core}
use Rattle.setl_code.specs.Code.{Code}
use Rattle.setl_code.specs.Code.{Body as CodeBody}
use Rattle.setl_code.specs.Piece.{Labels}
use Rattle.setl_code.specs.CodeCore.{Operand, CodeCore}
use Rattle.setl_code.specs.CodeCore.{Activation as CodeActivation}
use Rattle.setl_code_simulation.specs.Follow.{Shows}
use Rattle.setl_code_simulation.specs.States.{Alike, bodies_at_work, IsBody, SameActivations, SameCore}
use Rattle.setl_code_simulation.specs.Matches.{Where, Loop, AfterResult, operands, connect_left, connect_right, choose_test, result_jumps, argument, returning, putting, combining, round_selected, brace_selected, parting_right, printing, if_test, while_test, dropped, returned, source, testing, value, AfterBlock, last, ends, rest, loop, body, block_jumps, Awaits, awaits, Levels, outside, level, Finish, collecting, selecting_all, deciding_all, repeating, AfterStores, result_below, item_bound, stmt_done, Placed, evaluating, got, executing, rounding, iterating, iterating_back, discarding, forming, selection_formed, doubling, binding, storing, clearing, clearing_one, leaving_all, answering, negating, adding, Matches, Keeps}
use Rattle.setl_code_simulation.proofs.Leaving.{same_bodies}

is_body : (c : Code) (n : ℕ) (b : CodeBody) (name : List ℕ) → InProcedure n → slice_get c.bodies n ≡ Some b → b.name ≡ name → IsBody c n (Some name)
is_body c zero b name inside is named = absurd inside
is_body c (suc f) b name inside is named = ap (option_map (λ q. q.name)) is ∙ ap Some named

module _ (c : Code) (ps : List Procedure) where
  -- with any activation of this body in hand, the others are those that wait among the frames
  abbrev Stacked : Where → List Frame → Type 0
  Stacked p w = (a : CodeActivation) (e : Environment) → a.body ≡ p.body → Alike a.own e → SameActivations c (a ∷ p.callers) (bodies_at_work e w)

  mutual
    result_stacked : {p : Where} {at : ℕ} {xs : List Operand} {w : List Frame} → AfterResult c ps p at xs w → Stacked p w
    result_stacked (operands l h f here after) = result_stacked after
    result_stacked (connect_left l f here after) = result_stacked after
    result_stacked (connect_right is after) = result_stacked after
    result_stacked (choose_test l fa fb here after) = result_stacked after
    result_stacked (result_jumps is after) = result_stacked after
    result_stacked (argument l h passed count f here after) = result_stacked after
    result_stacked (returning is waits) = call_stacked waits
    result_stacked (putting q f here after) = block_stacked after
    result_stacked (combining q f here after) = block_stacked after
    result_stacked (round_selected q h alters f here after) = block_stacked after
    result_stacked (brace_selected q h alters f here after) = block_stacked after
    result_stacked (parting_right q here after) = block_stacked after
    result_stacked (printing q l h f here after) = block_stacked after
    result_stacked (if_test q fa fb here after) = block_stacked after
    result_stacked (while_test q start fe fb here after) = block_stacked after
    result_stacked (dropped q is after) = block_stacked after
    result_stacked {p = p} (returned is to waits) =
        λ a e same values. subst (SameActivations c (a ∷ p.callers)) (sym (same_bodies c ps e to)) (call_stacked waits a e same values)
    result_stacked (source l at h f here place stand out) = levels_stacked out
    result_stacked (testing l at here out) = levels_stacked out
    result_stacked (value l is back out) = levels_stacked out

    block_stacked : {p : Where} {q : Loop} {at : ℕ} {xs : List Operand} {w : List Frame} → AfterBlock c ps p q at xs w → Stacked p w
    block_stacked (last main outermost alone is) =
        λ a e same values. rw outermost (record { body = subst (λ n. IsBody c n None) (sym (same ∙ main)) tt; values = values }, tt)
    block_stacked (ends alone push ret waits) = call_stacked waits
    block_stacked (rest f here after) = block_stacked after
    block_stacked (loop q start fe fb here after) = block_stacked after
    block_stacked (body l at is out) = levels_stacked out
    block_stacked (block_jumps is after) = block_stacked after

    call_stacked : {p : Where} {name : List ℕ} {backs : HandBacks} {own : Environment} {w : List Frame} → Awaits c ps p name backs own w → Stacked p (InCall (Activation name backs own) ∷ w)
    call_stacked {p = p} {name = name} {own = own} (awaits l caller outer b all inside waits alike is named zipped passed here after) =
        λ a e same values. rw waits
        (record { body = subst (λ n. IsBody c n (Some name)) (sym same) (is_body c p.body b name inside is named); values = values }, result_stacked after caller own refl alike)

    levels_stacked : {p : Where} {l : Labels} {n a : ℕ} {g : Goal} {t : Condition} {ls : List Level} {ws : Iterators} {xs : List Operand} {w : List Frame} → Levels c ps p l n g t ls ws a xs w → Stacked p w
    levels_stacked (outside fi fw fn fg ft next) = finish_stacked next
    levels_stacked (level at ok here out) = levels_stacked out

    finish_stacked : {p : Where} {l : Labels} {g : Goal} {ws : Iterators} {at : ℕ} {xs : List Operand} {w : List Frame} → Finish c ps p l g ws at xs w → Stacked p w
    finish_stacked (collecting after) = result_stacked after
    finish_stacked (selecting_all after) = result_stacked after
    finish_stacked (deciding_all l here same after) = result_stacked after
    finish_stacked (repeating q same after) = block_stacked after

  stores_stacked : {p : Where} {at : ℕ} {xs : List Operand} {v : Option Datum} {w : List Frame} → AfterStores c ps p at xs v w → Stacked p w
  stores_stacked (result_below is after) = result_stacked after
  stores_stacked (item_bound stand out) = levels_stacked out
  stores_stacked (stmt_done q after) = block_stacked after

  stacked : {p : Where} {at : ℕ} {xs : List Operand} {hand : Hand} {w : List Frame} → Placed c ps p at xs hand w → Stacked p w
  stacked (evaluating l f here after) = result_stacked after
  stacked (got is after) = result_stacked after
  stacked (executing q f here after) = block_stacked after
  stacked (rounding q start fe fb here after) = block_stacked after
  stacked (iterating out) = levels_stacked out
  stacked (iterating_back is out) = levels_stacked out
  stacked (discarding h is back out) = levels_stacked out
  stacked (forming l f here after) = result_stacked after
  stacked (selection_formed l f here after) = result_stacked after
  stacked (doubling is members bound inner out) = levels_stacked out
  stacked (binding one_ bound inner out) = levels_stacked out
  stacked (storing l fill here after) = stores_stacked after
  stacked (clearing names l here after) = result_stacked after
  stacked (clearing_one x names l is here after) = result_stacked after
  stacked (leaving_all is h push jump after) = result_stacked after
  stacked (answering push jump after) = result_stacked after
  stacked (negating l here out) = levels_stacked out
  stacked (adding l is back out) = levels_stacked out

  -- states that match are the same in body, values and world, and quiet steps keep that
  pub shows_same : Shows (Matches c ps) Keeps (SameCore c)
  shows_same = record { seen = seen; kept = kept }
    where
      seen : (k : CodeCore) (m : Core) → Matches c ps k m → SameCore c k m
      seen k m h = record { world = h.world; globals = h.globals; activations = stacked h.place k.now m.shared.own refl h.own }

      kept : (k : CodeCore) (m m' : Core) → SameCore c k m → Keeps m m' → SameCore c k m'
      kept k m m' h stays = record {
        world = h.world ∙ ap (λ s. s.world) stays.0;
        globals = subst (λ s. Alike k.globals s.globals) stays.0 h.globals;
        activations = subst (SameActivations c (k.now ∷ k.callers)) stays.1 h.activations;
      }
