-- What a call of a body does.
use Rattle.std.proofs.Common.{◌≡◌, ◌∙◌, ℕ, zero, suc, ◌+◌, List, [], ◌∷◌, length, map, Option, None, Some, Result, Ok, Err, refl, sym, ap, subst, arith}
use Rattle.std.specs.Prelude.{slice_get, IfSome, IfOk, OnOk}
use Rattle.std.specs.Global.{Vec}
use Rattle.std.specs.Option.{option_map}
use Rattle.std.proofs.lemmas.List.{length-map}
use Rattle.setl_value.specs.Datum.{Datum}
use Rattle.setl_value.specs.code.DatumOf.{part}
use Rattle.setl_value.specs.declared.Value.{Value}
use Rattle.setl_program.specs.ProgramOf.{parameter_of}
use Rattle.setl_model_runs.specs.Events.{Called, Unfit, Stopped}
use Rattle.setl_model_runs.specs.Turns.{left_after}
use Rattle.setl_model_runs.specs.Run.{Store, State, Move, Moves, if_fits, store_all, stored, settle}
use Rattle.setl_model_runs.specs.Variable.{Variable}
use Rattle.setl_model.specs.Calls.{bindings}
use Rattle.setl_model.specs.World.{World, go_with}
use Rattle.setl_code.specs.declared.code.Body as declared
use Rattle.setl_code.specs.Code.{Body, Code, CallBody}
use Rattle.setl_code.specs.Plain.{plain_body, plain_bodies, plain_code}
use Rattle.setl_code.specs.CodeCore.{There, Operand, value_of, Pops, Lacks, pop_before, popped, CodeCore, holding, cleared, variables_of, write}
use Rattle.setl_code.specs.Machine.{machine, turn, call_body, on_popped}
use Rattle.setl_store.specs.Bodies.{with_stores, entered}
use Rattle.setl_store.specs.Operands.{TakesOff}
use Rattle.setl_store.specs.Standing.{Standing, over}
use Rattle.setl_machine_control.specs.Control.{ControlState, world_of, in_world, stood_for}
use Rattle.setl_machine_control.specs.Declaring.{Modes, tested, AreOfMain, IsBare}
use Rattle.setl_machine_control.specs.Answers.{start, next_of, Quiet}
use Rattle.setl_machine_control.specs.Working.{DoesBy, Halted}
use Rattle.setl_machine.specs.Working.{HasParameters, TakesArguments, Begins}
use Rattle.setl_machine_control.specs.declared.end.End.{End}
use Rattle.setl_machine_control.specs.declared.end.End.TheVariants as end
use Rattle.setl_machine.proofs.Declared.{AllTaken, TakesAll, parameters_taken}
use Rattle.setl_machine_control.specs.Laws.{write_in_world}
use Rattle.setl_machine.proofs.Working.{stops_with}
use Rattle.setl_machine_control.specs.Laws.{bodies_at}

-- ---- bodies

pub has_none : (vars : List Variable) (bs : List declared.Body) (k : ℕ) → slice_get bs k ≡ None → HasParameters (slice_get (plain_bodies vars 0 bs) k) None
has_none vars bs k e = subst (λ b. HasParameters b None) (sym (bodies_at vars 0 bs k ∙ ap (option_map (plain_body vars (0 + k))) e)) tt

pub has_some : (vars : List Variable) (bs : List declared.Body) (k : ℕ) (b : declared.Body) → slice_get bs k ≡ Some b → HasParameters (slice_get (plain_bodies vars 0 bs) k) (Some (length b.parameters))
has_some vars bs k b e = subst (λ o. HasParameters o (Some (length b.parameters))) (sym (bodies_at vars 0 bs k ∙ ap (option_map (plain_body vars (0 + k))) e)) (length-map b.parameters parameter_of)

-- ---- operands

-- so many operands are popped
pub popped_count : (n : ℕ) (us vs : List (Option Datum)) (xs ys : List Operand) → popped n us xs ≡ Pops vs ys → length vs ≡ n + length us
popped_count zero us vs xs ys h = let e : us ≡ vs = cc in ap length (sym e) ∙ omega arith
popped_count (suc n) us vs [] ys h = absurd (cc)
popped_count (suc n) us vs (o ∷ xs) ys h = go (value_of o) (λ u. popped_count n (u ∷ us) vs xs ys) h
  where
    go : (v : Option (Option Datum)) → ((u : Option Datum) → popped n (u ∷ us) xs ≡ Pops vs ys → length vs ≡ n + length (u ∷ us)) → pop_before v (λ u. popped n (u ∷ us) xs) ≡ Pops vs ys → length vs ≡ suc n + length us
    go None more h = absurd (cc)
    go (Some u) more h = omega (arith, more u h)

-- ---- stores

stores_in_world : (xs : List Store) (w : World) (k : CodeCore) → with_stores xs (in_world w k) ≡ in_world w (with_stores xs k)
stores_in_world [] w k = refl
stores_in_world (x ∷ xs) w k = ap (with_stores xs) (write_in_world x.0 (There x.1) w k) ∙ stores_in_world xs w (write x.0 (There x.1) k)

stores_go : (modes : Modes) (c : Code) (line : ℕ) (xs : List Store) (s : State CodeCore) (to : CodeCore) → AllTaken modes xs → with_stores xs s.core ≡ to → s.out ≡ [] → Quiet modes (store_all (machine c) (tested modes) line xs s) to end.Paused
stores_go modes c line [] s to t e o = (e, o)
stores_go modes c line (x ∷ xs) s to t e o =
    subst (λ b. Quiet modes (if_fits b (store_all (machine c) (tested modes) line xs (stored (machine c) line x s)) (Stopped (Unfit x.0) line) s) to end.Paused) (sym t.0)
    (stores_go modes c line xs (stored (machine c) line x s) to t.1 e o)

-- ---- the call

-- once a turn is taken
abbrev enter_move : ℕ → Body → ℕ → List (Option Datum) → List Operand → CodeCore → Move CodeCore
enter_move n b line vs ys d = Moves [] (Called line b.name ∷ []) (record d { now = record { body = n; at = 0; own = cleared (variables_of n b); operands = [] }; callers = record d.now { at = suc d.now.at; operands = ys } ∷ d.callers }) line (bindings n b.parameters vs)

pub call_goes : (modes : Modes) (c : Code) (n line count m : ℕ) (b : Option Body) (k to : CodeCore) (w : World) (vs : List (Option Datum)) (ys : List Operand) → TakesAll modes n vs b → HasParameters b (Some count) → popped count [] k.now.operands ≡ Pops vs ys → left_after 1 w.left ≡ Some m → to ≡ entered n b vs (over ys k) → Quiet modes (settle (machine c) (tested modes) (start (in_world w k)) (call_body n b line (in_world w k))) (in_world (record w { left = m }) to) end.Paused
call_goes modes c n line count m None k to w vs ys a h e s t = absurd h
call_goes modes c n line count m (Some b) k to w vs ys a h e s t =
    let here = in_world w k in
    let then_there = in_world (record w { left = m }) to in
    let P : Move CodeCore → Type 0 = λ move. Quiet modes (settle (machine c) (tested modes) (start here) move) then_there end.Paused in
    let K = record (over ys k) { now = record { body = n; at = 0; own = cleared (variables_of n b); operands = [] }; callers = record (over ys k).now { at = suc (over ys k).now.at } ∷ k.callers } in
    let base : P (enter_move n b line vs ys (in_world (record w { left = m }) k)) =
    stores_go modes c line (bindings n b.parameters vs) (record { core = in_world (record w { left = m }) K; out = []; events = Called line b.name ∷ [] }) then_there a
    (stores_in_world (bindings n b.parameters vs) (record w { left = m }) K ∙ ap (in_world (record w { left = m })) (sym t)) refl in
    subst (λ p. P (on_popped p (λ us zs. turn here (λ d. enter_move n b line us zs d)))) (sym (ap (λ j. popped j [] k.now.operands) h ∙ e))
    (subst (λ l. P (go_with holding l here (λ d. enter_move n b line vs ys d))) (sym s) base)

pub called : (modes : Modes) (old mid new : Standing) (from to : ControlState) (body line count : ℕ) (vs : List (Option Datum)) → AreOfMain modes → IsBare (plain_code old.code) → HasParameters (slice_get (plain_code old.code).bodies body) (Some count) → popped count [] old.core.now.operands ≡ Pops vs mid.core.now.operands → mid ≡ record old { core = over mid.core.now.operands old.core } → left_after 1 from.turns ≡ Some to.turns → to ≡ record from { turns = to.turns } → new ≡ record mid { core = entered body (slice_get (plain_code mid.code).bodies body) vs mid.core } → DoesBy modes old from line (CallBody body) new to end.Paused
called modes old mid new from to body line count vs main bare h e m s t n =
    let ys = mid.core.now.operands in
    let c = plain_code old.code in
    let b = slice_get c.bodies body in
    let there : new ≡ record old { core = entered body b vs (over ys old.core) } = n ∙ ap (λ (s : Standing). record s { core = entered body (slice_get (plain_code s.code).bodies body) vs s.core }) m in (
      ap (λ s. s.code) there,
      λ rest.
          subst (λ d. Quiet modes (next_of modes c line (CallBody body) (stood_for old.core from rest)) (stood_for new.core d rest) end.Paused) (sym t)
          (call_goes modes c body line count to.turns b old.core new.core (world_of from rest) vs ys (parameters_taken modes c main bare body vs) h e s (ap (λ s. s.core) there)),
    )

-- each parameter has its value
pub each_value : (b : Option declared.Body) (n count : ℕ) → IfSome b (λ b. length b.parameters ≡ count) → n ≡ count → IfSome b (λ b. n ≡ length b.parameters)
each_value None n count h e = tt
each_value (Some b) n count h e = e ∙ sym h

-- ---- its parts

-- no arguments are there
pub no_body : (b : Option Body) (n : ℕ) → HasParameters b None → HasParameters b (Some n) → ⊥
no_body None n h g = g
no_body (Some b) n h g = h

pub too_few : (b : Option Body) (n m : ℕ) (xs : List Operand) → HasParameters b (Some n) → popped n [] xs ≡ Lacks → HasParameters b (Some m) → popped m [] xs ≡ Lacks
too_few None n m xs h e g = absurd h
too_few (Some b) n m xs h e g = ap (λ j. popped j [] xs) (sym g ∙ h) ∙ e

lacks_arguments : (n line : ℕ) (b : Option Body) (k : CodeCore) → ((count : ℕ) → HasParameters b (Some count) → popped count [] k.now.operands ≡ Lacks) → Halted (call_body n b line k) end.Stuck
lacks_arguments n line None k h = refl
lacks_arguments n line (Some b) k h = subst (λ p. Halted (on_popped p (λ vs ys. turn k (λ d. enter_move n b line vs ys d))) end.Stuck) (sym (h (length b.parameters) refl)) refl

pub call_lacks : (modes : Modes) (old mid : Standing) (from : ControlState) (n line : ℕ) → TakesArguments n old None mid → DoesBy modes old from line (CallBody n) mid from end.Stuck
call_lacks modes old mid from n line t =
    let does = stops_with old mid from from line (CallBody n) mid.core.now.operands end.Stuck t.0 refl (λ rest. lacks_arguments n line (slice_get (plain_code old.code).bodies n) (stood_for old.core from rest) t.1) in
    (does.0, does.1 modes)

no_turn : (n line : ℕ) (b : Option Body) (k : CodeCore) (vs : List (Option Datum)) (ys : List Operand) → HasParameters b (Some (length vs)) → popped (length vs) [] k.now.operands ≡ Pops vs ys → left_after 1 k.world.left ≡ None → Halted (call_body n b line k) end.Spent
no_turn n line None k vs ys h e s = absurd h
no_turn n line (Some b) k vs ys h e s =
    subst (λ p. Halted (on_popped p (λ us zs. turn k (λ d. enter_move n b line us zs d))) end.Spent) (sym (ap (λ j. popped j [] k.now.operands) h ∙ e))
    (subst (λ l. Halted (go_with holding l k (λ d. enter_move n b line vs ys d)) end.Spent) (sym s) refl)

pub begun : (modes : Modes) (old mid new : Standing) (from to : ControlState) (n line : ℕ) (vs : List (Option Datum)) (e : End) → AreOfMain modes → IsBare (plain_code old.code) → TakesArguments n old (Some vs) mid → Begins n vs mid from new to e → DoesBy modes old from line (CallBody n) new to e
begun modes old mid new from to n line vs end.Paused main bare t g = called modes old mid new from to n line (length vs) vs main bare t.1 t.2 t.0 (g.0).0 (g.0).1 g.1
begun modes old mid new from to n line vs end.Spent main bare t g =
    let does = stops_with old new from to line (CallBody n) mid.core.now.operands end.Spent (g.1 ∙ t.0) (g.0).1 (λ rest. no_turn n line (slice_get (plain_code old.code).bodies n) (stood_for old.core from rest) vs mid.core.now.operands t.1 t.2 (g.0).0) in
    (does.0, does.1 modes)
begun modes old mid new from to n line vs e main bare t g = absurd g

pub takes_arguments : {E : Type 0} (old new : Standing) (n count : ℕ) (r : Result (Option (Vec (Option Value))) E) → HasParameters (slice_get (plain_code old.code).bodies n) (Some count) → IfOk r (λ vs. TakesOff count old.core.now.operands (option_map (λ all. map part all.items) vs) new.core.now.operands) → OnOk r (new ≡ record old { core = over new.core.now.operands old.core }) →
    IfOk r (λ vs. TakesArguments n old (option_map (λ all. map part all.items) vs) new)
takes_arguments old new n count (Err e) h t m = tt
takes_arguments old new n count (Ok None) h t m = (m, λ other g. too_few (slice_get (plain_code old.code).bodies n) count other old.core.now.operands h t g)
takes_arguments old new n count (Ok (Some vs)) h t m =
    let many : count ≡ length (map part vs.items) = omega (arith, popped_count count [] (map part vs.items) old.core.now.operands new.core.now.operands t) in
    (m, subst (λ j. HasParameters (slice_get (plain_code old.code).bodies n) (Some j)) many h, subst (λ j. popped j [] old.core.now.operands ≡ Pops (map part vs.items) new.core.now.operands) many t)

pub each_argument : {E : Type 0} (old new : Standing) (n count : ℕ) (r : Result (Option (Vec (Option Value))) E) → IfSome (slice_get old.code.bodies n) (λ b. length b.parameters ≡ count) → IfOk r (λ vs. TakesOff count old.core.now.operands (option_map (λ all. map part all.items) vs) new.core.now.operands) → OnOk r (new ≡ record old { core = over new.core.now.operands old.core }) →
    IfOk r (λ vs. IfSome vs (λ all. IfSome (slice_get new.code.bodies n) (λ b. length all.items ≡ length b.parameters)))
each_argument old new n count (Err e) h t m = tt
each_argument old new n count (Ok None) h t m = tt
each_argument old new n count (Ok (Some vs)) h t m =
    let many : length vs.items ≡ count = omega (arith, length-map vs.items part, popped_count count [] (map part vs.items) old.core.now.operands new.core.now.operands t) in
    subst (λ (s : Standing). IfSome (slice_get s.code.bodies n) (λ b. length vs.items ≡ length b.parameters)) (sym m) (each_value (slice_get old.code.bodies n) (length vs.items) count h many)
