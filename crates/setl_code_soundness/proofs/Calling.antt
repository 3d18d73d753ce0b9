-- Calls, returns, `ok`, `fail`, `succeed` and takes of sound code.
use Rattle.std.proofs.Common.{◌≡◌, ◌<◌, ℕ, suc, Bool, true, false, List, [], ◌∷◌, ◌⊎◌, inl, inr, length, Option, Some, None, refl, sym, ap, ◌∙◌, subst, arith}
use Rattle.std.specs.Prelude.{slice_get, cond}
use Rattle.setl_value.specs.Datum.{Datum}
use Rattle.setl_model_runs.specs.Variable.{Variable, Global, Own, Bound, is_variable}
use Rattle.setl_model_runs.specs.VariableLaws.{same_variable, variable_itself}
use Rattle.setl_program.specs.Program.{Parameter}
use Rattle.setl_model.specs.Calls.{parameter, bindings}
use Rattle.setl_code.specs.Code.{Take, CallBody, ReturnTop, KeepAll, GoBack, ForgetKept, Body, Code}
use Rattle.setl_code.specs.CodeCore.{There, Gone, Cells, held_in, with_held, cleared, variables_of, Operand, Result, Activation, Copy, CodeCore, write}
use Rattle.setl_code.specs.CellLaws.{held_after}
use Rattle.setl_code.specs.Machine.{do_instr, call_body, return_to, go_back, forget_kept}
use Rattle.setl_code.specs.Shapes.{AResult, Shape, call_outs, without_results, results, handed}
use Rattle.setl_code.specs.Sound.{all_said, is_fine, ReadLater}
use Rattle.setl_code.specs.Ready.{HaveShape, IsOwn, AtWork, Waiting, AllKept, Ready}
use Rattle.setl_code_soundness.proofs.Laying.{parts}
use Rattle.setl_code_soundness.proofs.Expressions.{results_more}
use Rattle.setl_code_soundness.proofs.Operands.{led, topped, popping, handing}
use Rattle.setl_code_soundness.proofs.Moving.{write_all, takes_turn, returns, moves_on, there, Leads, FineMove, turns, not_gone, not_taken, stands, still}
use Rattle.setl_code_soundness.proofs.Instructions.{T, Here, fine, lower, here, same_turns, first}

-- no cell is taken
abbrev pub NoneGone : Cells → Type 0
NoneGone own = (y : Variable) → held_in own y ≡ Gone → ⊥

pub all_there : (xs : List Variable) → NoneGone (cleared xs)
all_there [] y gone = cc
all_there (x ∷ xs) y gone = go (is_variable x y) (all_there xs y) gone
  where
    go : (b : Bool) → (held_in (cleared xs) y ≡ Gone → ⊥) → cond b (There None) (held_in (cleared xs) y) ≡ Gone → ⊥
    go true rest h = cc
    go false rest h = rest h

there_after : (x : Variable) (v : Option Datum) (own : Cells) → NoneGone own → NoneGone (with_held own x (There v))
there_after x v own none y gone = go (is_variable x y) (sym (held_after own x (There v) y) ∙ gone)
  where
    go : (b : Bool) → cond b (There v) (held_in own y) ≡ Gone → ⊥
    go true h = cc
    go false h = none y h

-- the parameters are stored in the own cells
record Stored (n : ℕ) (ps : List Parameter) (vs : List (Option Datum)) (k : CodeCore) : Type 0 where
  own : Cells
  is : write_all (bindings n ps vs) k ≡ record k { now = record k.now { own = own } }
  none : NoneGone own

bound : (n : ℕ) (ps : List Parameter) (vs : List (Option Datum)) (k : CodeCore) → NoneGone k.now.own → Stored n ps vs k
bound n [] vs k none = record { own = k.now.own; is = refl; none = none }
bound n (p ∷ ps) [] k none =
    let r = bound n ps [] (write (parameter n p) (There None) k) (there_after (parameter n p) None k.now.own none) in
    record { own = r.own; is = r.is; none = r.none }
bound n (p ∷ ps) (v ∷ vs) k none =
    let r = bound n ps vs (write (parameter n p) (There v) k) (there_after (parameter n p) v k.now.own none) in
    record { own = r.own; is = r.is; none = r.none }

module _ (c : Code) (declared : List Variable) (k : CodeCore) (r : Ready c declared k) (line : ℕ) where
  -- ---- calls

  calling : (n : ℕ) (b : Body) (is : Here c declared k r line (CallBody n)) → slice_get c.bodies n ≡ Some b → is_fine (T c declared k r line) (call_outs (Some b) (suc k.now.at) r.now.shape) ≡ true → FineMove c declared k r (call_body n (Some b) line k)
  calling n b is body said =
      let t = led (T c declared k r line) (without_results (length b.parameters) r.now.shape) (λ u. (suc k.now.at, results (suc (handed b.parameters)) u) ∷ []) said in
      let pops = popping (length b.parameters) [] k.now.operands r.now.shape t.0 (here c declared k r line) t.1 in
      rw (pops.is) (turns c declared k r _ (λ m less. called t.0 t.2 pops.values pops.rest pops.shape m less))
    where
      called : (t : Shape) → all_said (T c declared k r line) ((suc k.now.at, results (suc (handed b.parameters)) t) ∷ []) ≡ true → (vs : List (Option Datum)) (rest : List Operand) → HaveShape rest t → (m : ℕ) → m < k.world.left → Leads c declared k r (write_all (bindings n b.parameters vs) (record k { now = record { body = n; at = 0; own = cleared (variables_of n b); operands = [] }; callers = record k.now { at = suc k.now.at; operands = rest } ∷ k.callers; world = record k.world { left = m } }))
      called t all vs rest shape m less =
          let inner : CodeCore = record k { now = record { body = n; at = 0; own = cleared (variables_of n b); operands = [] }; callers = record k.now { at = suc k.now.at; operands = rest } ∷ k.callers; world = record k.world { left = m } } in
          let own = bound n b.parameters vs inner (all_there (variables_of n b)) in
          let sound = r.sound.bodies n b body in
          let s = there (T c declared k r line) (suc k.now.at) (results (suc (handed b.parameters)) t) (parts _ true all).0 in
          let outer : AtWork c declared (record k.now { at = suc k.now.at; operands = rest }) (suc (handed b.parameters)) = record {
            body = r.now.body;
            is = r.now.is;
            sound = r.now.sound;
            shape = s.0;
            reached = s.1;
            below = t;
            operands = shape;
            fits = s.2;
            taken = λ y mine gone. still c declared k r line (CallBody n) is (suc k.now.at) (first []) y refl mine gone;
          } in
          subst (Leads c declared k r) (sym own.is) (
            record {
              sound = r.sound;
              globals = r.globals;
              now = record { body = b; is = body; sound = sound; shape = []; reached = sound.starts; below = []; operands = tt; fits = refl; taken = λ y mine gone. absurd (own.none y gone) };
              callers = (b, body, outer, r.callers);
              kept = r.kept;
            },
            takes_turn less,
          )

  pub call_fine : (n : ℕ) → Here c declared k r line (CallBody n) → FineMove c declared k r (do_instr c line (CallBody n) k)
  call_fine n is = go (slice_get c.bodies n) refl (fine c declared k r line (CallBody n) is)
    where
      go : (o : Option Body) → slice_get c.bodies n ≡ o → is_fine (T c declared k r line) (call_outs o (suc k.now.at) r.now.shape) ≡ true → FineMove c declared k r (call_body n o line k)
      go None at_ said = cc
      go (Some b) at_ said = calling n b is at_ said

  -- ---- returns

  returning : (is : Here c declared k r line ReturnTop) (v : Option Datum) (cs : List Activation) → k.callers ≡ cs → Waiting c declared k.now.body cs → FineMove c declared k r (return_to (Some r.now.body) v k cs)
  returning is v [] none wait =
      let over : 0 < k.now.body = r.now.sound.below k.now.at line ReturnTop is in
      absurd (omega arith)
  returning is v (a ∷ cs) some (b, body, outer, wait) =
      let same : b ≡ r.now.body = one b r.now.body (slice_get c.bodies k.now.body) body r.now.is in
      let caller : AtWork c declared a (suc (handed r.now.body.parameters)) = subst (λ d. AtWork c declared a (suc (handed d.parameters))) same outer in
      let hands = handing k.now.body r.now.body.parameters k.now.own (Result v ∷ a.operands) (AResult ∷ caller.below) (λ x back gone. not_taken c declared k r line ReturnTop is (parameter k.now.body x) back tt gone) (tt, caller.operands) in
      let below : Shape = results (suc (handed r.now.body.parameters)) caller.below in
      let shape : HaveShape hands.0 below = subst (HaveShape hands.0) (results_more (handed r.now.body.parameters) caller.below) hands.2 in
      let fewer : length cs < length k.callers = (let long = ap length some in omega arith) in
      rw (hands.1) (
        record {
          sound = r.sound;
          globals = r.globals;
          now = record { body = caller.body; is = caller.is; sound = caller.sound; shape = caller.shape; reached = caller.reached; below = below; operands = shape; fits = caller.fits; taken = caller.taken };
          callers = wait;
          kept = r.kept;
        },
        returns (same_turns c declared k r line) fewer,
      )
    where
      one : (b d : Body) (o : Option Body) → o ≡ Some b → o ≡ Some d → b ≡ d
      one b d o h g = cc

  pub return_fine : Here c declared k r line ReturnTop → FineMove c declared k r (do_instr c line ReturnTop k)
  return_fine is =
      let t = led (T c declared k r line) (without_results 1 r.now.shape) (λ u. []) (fine c declared k r line ReturnTop is) in
      let top = topped k.now.operands r.now.shape t.0 (here c declared k r line) t.1 in
      rw (top.is, r.now.is) (returning is top.value k.callers refl r.callers)

  -- ---- `ok`, `fail` and `succeed`

  pub keep_fine : Here c declared k r line KeepAll → FineMove c declared k r (do_instr c line KeepAll k)
  keep_fine is =
      let s = there (T c declared k r line) (suc k.now.at) (AResult ∷ r.now.shape) (parts _ true (fine c declared k r line KeepAll is)).0 in
      let unread : (y : Variable) → IsOwn y → held_in k.now.own y ≡ Gone → ReadLater k.now.body r.now.body y (suc k.now.at) → ⊥ = λ y mine gone. still c declared k r line KeepAll is (suc k.now.at) (first []) y refl mine gone in
      let copy : AtWork c declared (record k.now { at = suc k.now.at }) 1 = record { body = r.now.body; is = r.now.is; sound = r.now.sound; shape = s.0; reached = s.1; below = r.now.shape; operands = here c declared k r line; fits = s.2; taken = unread } in
      let down = (lower c declared k r line KeepAll is).0 in (
        record {
          sound = r.sound;
          globals = r.globals;
          now = record { body = r.now.body; is = r.now.is; sound = r.now.sound; shape = s.0; reached = s.1; below = AResult ∷ r.now.shape; operands = (tt, here c declared k r line); fits = s.2; taken = unread };
          callers = r.callers;
          kept = (r.globals, copy, r.callers, r.kept);
        },
        moves_on (same_turns c declared k r line) (omega arith) down,
      )

  backing : (ks : List Copy) → AllKept c declared ks → FineMove c declared k r (go_back line ks k)
  backing [] kept = tt
  backing (copy ∷ older) (globals, now, callers, kept) =
      turns c declared k r _ (λ m less. (
        record {
          sound = r.sound;
          globals = globals;
          now = record { body = now.body; is = now.is; sound = now.sound; shape = now.shape; reached = now.reached; below = AResult ∷ now.below; operands = (tt, now.operands); fits = now.fits; taken = now.taken };
          callers = callers;
          kept = kept;
        },
        takes_turn less,
      ))

  pub back_fine : Here c declared k r line GoBack → FineMove c declared k r (do_instr c line GoBack k)
  back_fine is = backing k.kept r.kept

  forgetting : (ks : List Copy) → AllKept c declared ks → Here c declared k r line ForgetKept → FineMove c declared k r (forget_kept line ks k)
  forgetting [] kept is = tt
  forgetting (copy ∷ older) kept is =
      let s = there (T c declared k r line) (suc k.now.at) r.now.shape (parts _ true (fine c declared k r line ForgetKept is)).0 in
      let unread : (y : Variable) → IsOwn y → held_in k.now.own y ≡ Gone → ReadLater k.now.body r.now.body y (suc k.now.at) → ⊥ = λ y mine gone. still c declared k r line ForgetKept is (suc k.now.at) (first []) y refl mine gone in
      let down = (lower c declared k r line ForgetKept is).0 in (
        record {
          sound = r.sound;
          globals = r.globals;
          now = record { body = r.now.body; is = r.now.is; sound = r.now.sound; shape = s.0; reached = s.1; below = r.now.shape; operands = here c declared k r line; fits = s.2; taken = unread };
          callers = r.callers;
          kept = kept.3;
        },
        moves_on (same_turns c declared k r line) (omega arith) down,
      )

  pub forget_fine : Here c declared k r line ForgetKept → FineMove c declared k r (do_instr c line ForgetKept k)
  forget_fine is = forgetting k.kept r.kept is

  -- ---- takes

  -- own cells after a take
  gone_after : (x y : Variable) (own : Cells) → held_in (with_held own x Gone) y ≡ Gone → (x ≡ y) ⊎ (held_in own y ≡ Gone)
  gone_after x y own gone = go (is_variable x y) refl (sym (held_after own x Gone y) ∙ gone)
    where
      go : (b : Bool) → is_variable x y ≡ b → cond (is_variable x y) Gone (held_in own y) ≡ Gone → (x ≡ y) ⊎ (held_in own y ≡ Gone)
      go true same h = inl (same_variable x y same)
      go false other h = inr (ap (λ t. cond t Gone (held_in own y)) (sym other) ∙ h)

  taking : (x : Variable) → IsOwn x → (is : Here c declared k r line (Take x)) (v : Option Datum) (own : Cells) → own ≡ with_held k.now.own x Gone → Leads c declared k r (record k { now = record k.now { at = suc k.now.at; own = own; operands = Result v ∷ k.now.operands } })
  taking x mine is v own taken =
      let down = (lower c declared k r line (Take x) is).0 in (
        record {
          sound = r.sound;
          globals = r.globals;
          now = stands c declared k r line (Take x) is (suc k.now.at) (AResult ∷ r.now.shape) (Result v ∷ k.now.operands) own (parts _ true (fine c declared k r line (Take x) is)).0 (tt, here c declared k r line) unread;
          callers = r.callers;
          kept = r.kept;
        },
        moves_on (same_turns c declared k r line) (omega arith) down,
      )
    where
      unread : (y : Variable) → IsOwn y → held_in own y ≡ Gone → ReadLater k.now.body r.now.body y (suc k.now.at) → ⊥
      unread y y_mine gone read = go (gone_after x y k.now.own (subst (λ cells. held_in cells y ≡ Gone) taken gone))
        where
          go : (x ≡ y) ⊎ (held_in k.now.own y ≡ Gone) → ⊥
          go (inl same) = (r.now.sound.takes k.now.at line x is).1 (subst (λ z. ReadLater k.now.body r.now.body z (suc k.now.at)) (sym same) read)
          go (inr before) = still c declared k r line (Take x) is (suc k.now.at) (first []) y refl y_mine before read

  pub take_fine : (x : Variable) → Here c declared k r line (Take x) → FineMove c declared k r (do_instr c line (Take x) k)
  take_fine (Global name) is = let no : false ≡ true = (r.now.sound.takes k.now.at line (Global name) is).0 in cc
  take_fine (Own body name) is =
      not_gone c declared k r (Own body name) _ (not_taken c declared k r line (Take (Own body name)) is (Own body name) (variable_itself (Own body name))) (λ v.
      taking (Own body name) tt is v (with_held k.now.own (Own body name) Gone) refl)
  take_fine (Bound former name) is =
      not_gone c declared k r (Bound former name) _ (not_taken c declared k r line (Take (Bound former name)) is (Bound former name) (variable_itself (Bound former name))) (λ v.
      taking (Bound former name) tt is v (with_held k.now.own (Bound former name) Gone) refl)
