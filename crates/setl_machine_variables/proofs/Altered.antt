-- Updates of variables.
use Rattle.std.proofs.Common.{◌≡◌, ◌∙◌, ◌⊎◌, inl, inr, ◌++◌, append_assoc, ℕ, suc, ◌-◌, ◌≤◌, Bool, true, false, List, [], ◌∷◌, length, map, Option, Some, None, Result, Ok, Err, refl, sym, ap, subst, arith}
use Rattle.std.specs.Prelude.{cond, OnErr}
use Rattle.std.proofs.lemmas.List.{map-append, length-map}
use Rattle.std.specs.Option.{option_map, unwrap_or}
use Rattle.setl_value.specs.Datum.{Datum}
use Rattle.setl_value.specs.code.DatumOf.{part}
use Rattle.setl_value.specs.declared.Value.{Value}
use Rattle.setl_operators_table.specs.declared.OpFault.{OpFault}
use Rattle.setl_operators_table.specs.Outcome.{Outcome, Gives, Fails, Overspends}
use Rattle.setl_model_runs.specs.Run.{Move, settle}
use Rattle.setl_model_runs.specs.Variable.{Variable, Global, Own, Bound, is_variable}
use Rattle.setl_model_runs.specs.VariableLaws.{variable_itself}
use Rattle.setl_model.specs.Core.{Selected}
use Rattle.setl_model.specs.Places.{Taken, TakesOut, IsEmpty, CannotTake, part_at_all, with_part_at_all, take_out}
use Rattle.setl_model.specs.World.{World}
use Rattle.setl_program.specs.declared.kinds.Taking.{Taking}
use Rattle.setl_code.specs.declared.code.Bracket.{Bracket}
use Rattle.setl_code.specs.declared.code.Bracket.TheVariants as bracket
use Rattle.setl_code.specs.declared.code.Slot.{Slot}
use Rattle.setl_code.specs.declared.code.Slot.TheVariants as slot
use Rattle.setl_code.specs.Code as plain
use Rattle.setl_code.specs.Code.{Alteration, TakingOut, Code, Alter}
use Rattle.setl_code.specs.Plain.{plain_code, plain_slot, plain_bracket}
use Rattle.setl_code.specs.MayRun.{HasSlot}
use Rattle.setl_code.specs.CodeCore.{Held, There, Gone, Cells, held, with_held, write, Operand, Result as Holds, value_of, CodeCore}
use Rattle.setl_code.specs.Machine.{machine, at_step, next, on_value, on_top, on_held, with_outcome, store_in, store_whole, take_from, selected_by}
use Rattle.setl_store.specs.Standing.{Standing, over, at_place, top_of, variables}
use Rattle.setl_machine_updates.specs.Selectors.{selected}
use Rattle.setl_machine_updates.specs.Takes.{TakesPart, TakesFrom, Takes}
use Rattle.setl_machine_updates.specs.Updates.{Leaves, Updates}
use Rattle.setl_machine_updates.specs.declared.selectors.Selector.{Selector}
use Rattle.setl_machine_updates.specs.declared.taking.TakenOut.{TakenOut}
use Rattle.setl_machine_control.specs.Settling.{Settles, EndsUpdate}
use Rattle.setl_machine_variables.specs.Altered.{Alters, TakesHeld}
use Rattle.setl_machine_control.specs.Control.{ControlState, world_of, in_world, stood_for}
use Rattle.setl_machine_control.specs.Declaring.{Modes, tested, Keeps, IsDeclared}
use Rattle.setl_machine_control.specs.Answers.{start, IsLikely, Quiet}
use Rattle.setl_machine_control.specs.Working.{PopsTop, EndsBy, Halted}
use Rattle.setl_machine_control.specs.declared.declaration.Declaration.{Declaration}
use Rattle.setl_machine_control.specs.declared.end.End.{End}
use Rattle.setl_machine_control.specs.declared.end.End.TheVariants as end
use Rattle.setl_machine_control.specs.declared.end.StopKind.TheVariants as kind
use Rattle.setl_machine_variables.proofs.Storing.{at_written, goes_stored, stops_unfit}
use Rattle.setl_machine_control.specs.Laws.{halted_quiet, likely_over, write_in_world}
use Rattle.setl_machine_control.specs.Laws.{halts_by}

-- ---- selectors

selected_first : (b : Bracket) (v : Option Value) (s : Selector) (bs : List plain.Bracket) (vs : List (Option Datum)) → selected_by (plain_bracket b ∷ []) (part v ∷ []) ≡ selected s ∷ [] → selected_by (plain_bracket b ∷ bs) (part v ∷ vs) ≡ selected s ∷ selected_by bs vs
selected_first bracket.Round v s bs vs h = ap (λ ss. ss ++ selected_by bs vs) h
selected_first bracket.Brace v s bs vs h = ap (λ ss. ss ++ selected_by bs vs) h

-- one more selector was made
pub one_selector_more : (done : List Selector) (s : Selector) (b : Bracket) (v : Option Value) (bs bs' : List Bracket) (vs vs' : List (Option Value)) → bs ≡ b ∷ bs' → vs ≡ v ∷ vs' → selected_by (plain_bracket b ∷ []) (part v ∷ []) ≡ selected s ∷ [] →
    map selected done ++ selected_by (map plain_bracket bs) (map part vs) ≡ map selected (done ++ s ∷ []) ++ selected_by (map plain_bracket bs') (map part vs')
one_selector_more done s b v bs bs' vs vs' e f h =
    let rest = selected_by (map plain_bracket bs') (map part vs') in
    let first : selected_by (map plain_bracket bs) (map part vs) ≡ selected s ∷ rest = (λ i. selected_by (map plain_bracket (e i)) (map part (f i))) ∙ selected_first b v s (map plain_bracket bs') (map part vs') h in
    ap (λ ss. map selected done ++ ss) first ∙ sym (ap (λ ss. ss ++ rest) (map-append selected done (s ∷ [])) ∙ append_assoc (map selected done) (selected s ∷ []) rest)

-- no bracket or no operand is left
pub no_selector_more : (bs : List Bracket) (vs : List (Option Value)) → (length bs ≡ 0) ⊎ (length vs ≡ 0) → selected_by (map plain_bracket bs) (map part vs) ≡ []
no_selector_more [] vs h = refl
no_selector_more (b ∷ bs) [] h = refl
no_selector_more (b ∷ bs) (v ∷ vs) (inl h) = absurd (omega (arith, h))
no_selector_more (b ∷ bs) (v ∷ vs) (inr h) = absurd (omega (arith, h))

pub none_left : {S T : Type 0} {P : S → Type 0} {Q : T → Type 0} (n m l : ℕ) → ((x : S) × ((n ≡ 0) × P x)) ⊎ ((y : T) × ((l ≡ 0) × Q y)) → l ≡ m → (n ≡ 0) ⊎ (m ≡ 0)
none_left n m l (inl h) e = inl h.1.0
none_left n m l (inr h) e = inr (sym e ∙ h.1.0)

-- ---- cells

names_alike : (g : Cells) (x : Variable) (h h' : Held) → map (λ c. c.0) (with_held g x h) ≡ map (λ c. c.0) (with_held g x h')
names_alike [] x h h' = refl
names_alike (b ∷ bs) x h h' = go (is_variable b.0 x) (names_alike bs x h h')
  where
    go : (t : Bool) → map (λ c. c.0) (with_held bs x h) ≡ map (λ c. c.0) (with_held bs x h') → map (λ c. c.0) (cond t ((x, h) ∷ bs) (b ∷ with_held bs x h)) ≡ map (λ c. c.0) (cond t ((x, h') ∷ bs) (b ∷ with_held bs x h'))
    go true ih = refl
    go false ih = ap (λ xs. b.0 ∷ xs) ih

-- the last write counts
held_twice : (g : Cells) (x : Variable) (h h' : Held) → with_held (with_held g x h) x h' ≡ with_held g x h'
held_twice [] x h h' = rw (variable_itself x) refl
held_twice (b ∷ bs) x h h' = go (is_variable b.0 x) refl (held_twice bs x h h')
  where
    go : (t : Bool) → is_variable b.0 x ≡ t → with_held (with_held bs x h) x h' ≡ with_held bs x h' → with_held (cond t ((x, h) ∷ bs) (b ∷ with_held bs x h)) x h' ≡ cond t ((x, h') ∷ bs) (b ∷ with_held bs x h')
    go true p ih = rw (variable_itself x) refl
    go false p ih = rw p (ap (λ cs. b ∷ cs) ih)

written_twice : (x : Variable) (h h' : Held) (k : CodeCore) → write x h' (write x h k) ≡ write x h' k
written_twice (Global name) h h' k = ap (λ g. record k { globals = g }) (held_twice k.globals (Global name) h h')
written_twice (Own body name) h h' k = ap (λ g. record k { now = record k.now { own = g } }) (held_twice k.now.own (Own body name) h h')
written_twice (Bound former name) h h' k = ap (λ g. record k { now = record k.now { own = g } }) (held_twice k.now.own (Bound former name) h h')

variables_alike : (x : Variable) (h h' : Held) (k : CodeCore) → variables (write x h k) ≡ variables (write x h' k)
variables_alike (Global name) h h' k = λ i. record { global = names_alike k.globals (Global name) h h' i; own = map (λ c. c.0) k.now.own }
variables_alike (Own body name) h h' k = λ i. record { global = map (λ c. c.0) k.globals; own = names_alike k.now.own (Own body name) h h' i }
variables_alike (Bound former name) h h' k = λ i. record { global = map (λ c. c.0) k.globals; own = names_alike k.now.own (Bound former name) h h' i }

pub variables_kept : (x : Variable) (h h' : Held) (k : CodeCore) → write x h k ≡ k → variables (write x h' k) ≡ variables k
variables_kept x h h' k again = variables_alike x h' h k ∙ ap variables again

over_written : (x : Variable) (h : Held) (xs : List Operand) (k : CodeCore) → over xs (write x h k) ≡ write x h (over xs k)
over_written (Global name) h xs k = refl
over_written (Own body name) h xs k = refl
over_written (Bound former name) h xs k = refl

pub held_in_world : (x : Variable) (w : World) (xs : List Operand) (k : CodeCore) → held x (in_world w (over xs k)) ≡ held x k
held_in_world (Global name) w xs k = refl
held_in_world (Own body name) w xs k = refl
held_in_world (Bound former name) w xs k = refl

-- the slot is there where the variables are the same
has_same : (k k' : CodeCore) (x : Slot) → variables k' ≡ variables k → HasSlot (length k.globals) (length k.now.own) x → HasSlot (length k'.globals) (length k'.now.own) x
has_same k k' (slot.Global n) e h = let m = ap (λ vs. length vs.global) e in omega (arith, h, m, length-map k.globals (λ c. c.0), length-map k'.globals (λ c. c.0))
has_same k k' (slot.Own n) e h = let m = ap (λ vs. length vs.own) e in omega (arith, h, m, length-map k.now.own (λ c. c.0), length-map k'.now.own (λ c. c.0))

-- ---- a value in hand

-- A store whose variable's value is in hand, beside the same store with the value in its slot and these operands.
pub record InHand (old : Standing) (slot : Slot) (xs : List Operand) (v : Option Datum) (gone : Standing) : Type 0 where
  pub was : held (plain_slot (variables old.core) slot) old.core ≡ There v
  pub again : write (plain_slot (variables old.core) slot) (There v) (over xs old.core) ≡ over xs old.core
  pub is : gone ≡ record old { core = write (plain_slot (variables old.core) slot) Gone (over xs old.core) }

abbrev pub Has : Standing → Slot → Type 0
Has s x = HasSlot (length s.core.globals) (length s.core.now.own) x

pub same_variables : (old : Standing) (x : Slot) (xs : List Operand) (v : Option Datum) (gone : Standing) → InHand old x xs v gone → variables gone.core ≡ variables old.core
same_variables old x xs v gone h = ap (λ (s : Standing). variables s.core) h.is ∙ variables_kept (plain_slot (variables old.core) x) (There v) Gone (over xs old.core) h.again

pub still_there : (old : Standing) (x : Slot) (xs : List Operand) (v : Option Datum) (gone : Standing) → InHand old x xs v gone → Has old x → Has gone x
still_there old x xs v gone h has = has_same old.core gone.core x (same_variables old x xs v gone h) has

pub taken_held : (old mid : Standing) (x : Slot) (w : Option Value) (gone : Standing) → mid ≡ record old { core = over mid.core.now.operands old.core } → TakesHeld (plain_slot (variables mid.core) x) mid (Some w) gone → InHand old x mid.core.now.operands (part w) gone
taken_held old mid x w gone m h =
    let xs = mid.core.now.operands in
    let y = plain_slot (variables old.core) x in
    let there : TakesHeld y (record old { core = over xs old.core }) (Some w) gone = subst (λ (s : Standing). TakesHeld (plain_slot (variables s.core) x) s (Some w) gone) m h in
    record { was = sym (held_in_world y old.core.world xs old.core) ∙ there.0; again = there.1; is = there.2 }

pub held_slot : (old mid gone : Standing) (x : Slot) (v w : Option Value) → PopsTop old (Some v) mid → TakesHeld (plain_slot (variables mid.core) x) mid (Some w) gone → Has old x → Has gone x
held_slot old mid gone x v w pops takes has = still_there old x mid.core.now.operands (part w) gone (taken_held old mid x w gone pops.1 takes) has

pub held_slot_of : (old gone : Standing) (x : Slot) (w : Option Value) → TakesHeld (plain_slot (variables old.core) x) old (Some w) gone → Has old x → Has gone x
held_slot_of old gone x w takes has = still_there old x old.core.now.operands (part w) gone (taken_held old old x w gone refl takes) has

pub pushed : (old : Standing) (x : Slot) (xs ys : List Operand) (v : Option Datum) (gone new : Standing) → InHand old x xs v gone → new ≡ record gone { core = over ys gone.core } → InHand old x ys v new
pushed old x xs ys v gone new h n =
    let y = plain_slot (variables old.core) x in record {
      was = h.was;
      again = sym (over_written y (There v) ys (over xs old.core)) ∙ ap (over ys) h.again;
      is = n ∙ ap (λ (s : Standing). record s { core = over ys s.core }) h.is ∙ ap (λ k. record old { core = k }) (over_written y Gone ys (over xs old.core));
    }

-- the declaration is that of the variable whose value is in hand
pub declared_in_hand : (modes : Modes) (old : Standing) (x : Slot) (xs : List Operand) (v : Option Datum) (gone : Standing) (d : Option Declaration) → InHand old x xs v gone → IsDeclared modes (plain_slot (variables old.core) x) d → IsDeclared modes (plain_slot (variables gone.core) x) d
declared_in_hand modes old x xs v gone d h is = subst (λ vs. IsDeclared modes (plain_slot vs x) d) (sym (same_variables old x xs v gone h)) is

pub declared_here : (modes : Modes) (old mid gone : Standing) (x : Slot) (v w : Option Value) (d : Option Declaration) → PopsTop old (Some v) mid → TakesHeld (plain_slot (variables mid.core) x) mid (Some w) gone → IsDeclared modes (plain_slot (variables old.core) x) d → IsDeclared modes (plain_slot (variables gone.core) x) d
declared_here modes old mid gone x v w d pops takes is = declared_in_hand modes old x mid.core.now.operands (part w) gone d (taken_held old mid x w gone pops.1 takes) is

pub declared_gone : (modes : Modes) (old gone : Standing) (x : Slot) (w : Option Value) (d : Option Declaration) → TakesHeld (plain_slot (variables old.core) x) old (Some w) gone → IsDeclared modes (plain_slot (variables old.core) x) d → IsDeclared modes (plain_slot (variables gone.core) x) d
declared_gone modes old gone x w d takes is = declared_in_hand modes old x old.core.now.operands (part w) gone d (taken_held old old x w gone refl takes) is

-- ---- the end of an update

stored_again : (old : Standing) (x : Slot) (xs : List Operand) (w v : Option Datum) (gone : Standing) → InHand old x xs w gone → write (plain_slot (variables gone.core) x) (There v) gone.core ≡ write (plain_slot (variables old.core) x) (There v) (over xs old.core)
stored_again old x xs w v gone h =
    let y = plain_slot (variables old.core) x in
    ap (λ vs. write (plain_slot vs x) (There v) gone.core) (same_variables old x xs w gone h)
    ∙ ap (λ (s : Standing). write y (There v) s.core) h.is
    ∙ written_twice y Gone (There v) (over xs old.core)

place_of_step : (old : Standing) (x : Slot) (xs : List Operand) (w : Option Datum) (gone : Standing) → InHand old x xs w gone → gone.core.now.at ≡ old.core.now.at
place_of_step old x xs w gone h = ap (λ (s : Standing). s.core.now.at) h.is ∙ at_written (plain_slot (variables old.core) x) Gone (over xs old.core)

-- where an update that left so many turns comes to
ended_at : (modes : Modes) (old : Standing) (slot : Slot) (xs : List Operand) (w v : Option Datum) (kept : Option (Option Datum)) (gone new : Standing) (from to : ControlState) (line left : ℕ) (e : End) (rest : List ℕ) → InHand old slot xs w gone → (f : EndsUpdate modes (Ok left) line (plain_slot (variables gone.core) slot) v kept gone from new to e) → left ≤ from.turns →
    stood_for new.core to rest ≡ in_world (record (world_of from rest) { left = left }) (at_place (suc old.core.now.at) (write (plain_slot (variables old.core) slot) (There f.0) (over xs old.core)))
ended_at modes old slot xs w v kept gone new from to line left e rest h f few =
    let turns : from.turns - (from.turns - left) ≡ left = omega (arith, few) in
    ap (λ t. stood_for new.core t rest) (f.3 ∙ ap (λ n. record from { turns = n }) turns)
    ∙ ap (in_world (record (world_of from rest) { left = left })) (ap (λ (s : Standing). s.core) f.2 ∙ (λ i. at_place (suc (place_of_step old slot xs w gone h i)) (stored_again old slot xs w f.0 gone h i)))

-- what the code holds then
abbrev held_then : ℕ → Variable → Option Datum → List Operand → World → CodeCore → CodeCore
held_then at x v xs world k = in_world world (at_place at (write x (There v) (over xs k)))

-- the variable's test
taken_by : (modes : Modes) (x : Variable) (w v : Option Datum) (kept : Option (Option Datum)) → Keeps modes x w v kept → (kept ≡ None) ⊎ (tested modes x v ≡ true) → tested modes x v ≡ true
taken_by modes x w v kept h (inl none) = subst (Keeps modes x w v) none h
taken_by modes x w v kept h (inr t) = t

settled_goes : (modes : Modes) (c : Code) (line : ℕ) (x : Variable) (w v : Option Datum) (kept : Option (Option Datum)) (holds : Option Datum) (xs before : List Operand) (world : World) (core k to : CodeCore) (e : End) →
    Keeps modes x w v kept → write x (There w) (over xs core) ≡ over xs core → Settles modes line x v kept holds e → to ≡ held_then (suc core.now.at) x holds xs world core →
    Quiet modes (settle (machine c) (tested modes) (start k) (store_in x line v xs (in_world world (over before core)))) to e
settled_goes modes c line x w v kept holds xs before world core k to end.Paused keeps again s there =
    let d = in_world world (over before core) in
    let at : to ≡ at_place (suc d.now.at) (write x (There v) (over xs d)) =
    there ∙ ap (λ u. held_then (suc core.now.at) x u xs world core) s.0 ∙ ap (at_place (suc core.now.at)) (sym (write_in_world x (There v) world (over xs core))) in
    goes_stored modes c line x v xs k d to (taken_by modes x w v kept keeps s.1) at
settled_goes modes c line x w v kept holds xs before world core k to (end.Stopped (kind.Unfit place) at) keeps again s there =
    let d = in_world world (over before core) in
    let was : holds ≡ w = subst (Keeps modes x w v) s.1 keeps in
    let same : to ≡ at_step (suc d.now.at) xs d =
    there ∙ ap (λ u. held_then (suc core.now.at) x u xs world core) was ∙ ap (λ (k : CodeCore). in_world world (at_place (suc core.now.at) k)) again in
    let likely : IsLikely (at_step (suc d.now.at) xs d) to = subst (λ t. IsLikely (at_step (suc d.now.at) xs d) t) (sym same) ([], refl) in
    subst (λ l. Quiet modes (settle (machine c) (tested modes) (start k) (store_in x line v xs d)) to (end.Stopped (kind.Unfit place) l)) (sym s.0)
    (stops_unfit modes c line x v place xs k d to s.2 likely)
settled_goes modes c line x w v kept holds xs before world core k to e keeps again s there = absurd s

settled_skips : (modes : Modes) (c : Code) (line : ℕ) (x : Variable) (w holds : Option Datum) (xs before : List Operand) (world : World) (core k to : CodeCore) (e : End) →
    write x (There w) (over xs core) ≡ over xs core → Settles modes line x w None holds e → to ≡ held_then (suc core.now.at) x holds xs world core →
    Quiet modes (settle (machine c) (tested modes) (start k) (next xs (in_world world (over before core)))) to e
settled_skips modes c line x w holds xs before world core k to end.Paused again s there =
    (sym (there ∙ ap (λ u. held_then (suc core.now.at) x u xs world core) s.0 ∙ ap (λ (k : CodeCore). in_world world (at_place (suc core.now.at) k)) again), refl)
settled_skips modes c line x w holds xs before world core k to (end.Stopped (kind.Unfit place) at) again s there = let none : None ≡ Some holds = s.1 in absurd (cc)
settled_skips modes c line x w holds xs before world core k to e again s there = absurd s

-- what was in hand is in its slot, so it settles as it did
settled_same : (modes : Modes) (old : Standing) (slot : Slot) (xs : List Operand) (w v : Option Datum) (kept : Option (Option Datum)) (holds : Option Datum) (gone : Standing) (line : ℕ) (e : End) → InHand old slot xs w gone → Settles modes line (plain_slot (variables gone.core) slot) v kept holds e → Settles modes line (plain_slot (variables old.core) slot) v kept holds e
settled_same modes old slot xs w v kept holds gone line e h s = subst (λ vs. Settles modes line (plain_slot vs slot) v kept holds e) (same_variables old slot xs w gone h) s

update_goes : (modes : Modes) (old : Standing) (slot : Slot) (xs before : List Operand) (w v : Option Datum) (kept : Option (Option Datum)) (gone new : Standing) (from to : ControlState) (line left : ℕ) (e : End) (k : CodeCore) (rest : List ℕ) → Keeps modes (plain_slot (variables old.core) slot) w v kept → InHand old slot xs w gone → EndsUpdate modes (Ok left) line (plain_slot (variables gone.core) slot) v kept gone from new to e → left ≤ from.turns →
    Quiet modes (settle (machine (plain_code old.code)) (tested modes) (start k) (store_in (plain_slot (variables old.core) slot) line v xs (in_world (record (world_of from rest) { left = left }) (over before old.core)))) (stood_for new.core to rest) e
update_goes modes old slot xs before w v kept gone new from to line left e k rest keeps h f few =
    settled_goes modes (plain_code old.code) line (plain_slot (variables old.core) slot) w v kept f.0 xs before (record (world_of from rest) { left = left }) old.core k (stood_for new.core to rest) e
    keeps h.again (settled_same modes old slot xs w v kept f.0 gone line e h f.1) (ended_at modes old slot xs w v kept gone new from to line left e rest h f few)

-- where the variable holds what it held, nothing need be stored
update_skips : (modes : Modes) (old : Standing) (slot : Slot) (xs before : List Operand) (w : Option Datum) (gone new : Standing) (from to : ControlState) (line left : ℕ) (e : End) (k : CodeCore) (rest : List ℕ) → InHand old slot xs w gone → EndsUpdate modes (Ok left) line (plain_slot (variables gone.core) slot) w None gone from new to e → left ≤ from.turns →
    Quiet modes (settle (machine (plain_code old.code)) (tested modes) (start k) (next xs (in_world (record (world_of from rest) { left = left }) (over before old.core)))) (stood_for new.core to rest) e
update_skips modes old slot xs before w gone new from to line left e k rest h f few =
    settled_skips modes (plain_code old.code) line (plain_slot (variables old.core) slot) w f.0 xs before (record (world_of from rest) { left = left }) old.core k (stood_for new.core to rest) e
    h.again (settled_same modes old slot xs w w None f.0 gone line e h f.1) (ended_at modes old slot xs w w None gone new from to line left e rest h f few)

-- a fault leaves the variable as it was
pub update_stops : (modes : Modes) (old : Standing) (slot : Slot) (xs before : List Operand) (w : Option Datum) (kept : Option (Option Datum)) (gone new : Standing) (from to : ControlState) (line : ℕ) (f : OpFault) (e : End) (rest : List ℕ) (m : Move CodeCore) → InHand old slot xs w gone → EndsUpdate modes (Err f) line (plain_slot (variables gone.core) slot) w kept gone from new to e → Halted m e →
    Quiet modes (settle (machine (plain_code old.code)) (tested modes) (start (stood_for (over before old.core) from rest)) m) (stood_for new.core to rest) e
update_stops modes old slot xs before w kept gone new from to line f e rest m h g halts =
    let c = plain_code old.code in
    let k = stood_for (over before old.core) from rest in
    let core : new.core ≡ over xs old.core = ap (λ (s : Standing). s.core) g.1 ∙ stored_again old slot xs w w gone h ∙ h.again in
    let there : stood_for new.core to rest ≡ stood_for (over xs old.core) from rest = λ i. stood_for (core i) (g.2 i) rest in
    halted_quiet modes c k (stood_for new.core to rest) m e (subst (λ d. IsLikely k d) (sym there) (likely_over (world_of from rest) (over before old.core) xs)) halts

-- ---- putting and combining

pub parts_refused : (r : Result ℕ OpFault) (w' w : Option Value) → OnErr r (w' ≡ w) → OnErr r (part w' ≡ part w)
parts_refused (Ok left) w' w h = h
parts_refused (Err f) w' w h = ap part h

update_ends : (modes : Modes) (old : Standing) (slot : Slot) (xs before : List Operand) (w v : Option Datum) (kept : Option (Option Datum)) (gone new : Standing) (from to : ControlState) (line : ℕ) (o : Outcome) (r : Result ℕ OpFault) (e : End) (rest : List ℕ) →
    Keeps modes (plain_slot (variables old.core) slot) w v kept → InHand old slot xs w gone → Updates o from.turns v r → OnErr r (v ≡ w) → EndsUpdate modes r line (plain_slot (variables gone.core) slot) v kept gone from new to e →
    Quiet modes (settle (machine (plain_code old.code)) (tested modes) (start (stood_for (over before old.core) from rest)) (store_whole o line (plain_slot (variables old.core) slot) xs (stood_for (over before old.core) from rest))) (stood_for new.core to rest) e
update_ends modes old slot xs before w v kept gone new from to line (Gives z n) (Ok left) e rest keeps h u refused f =
    let few : left ≤ from.turns = omega (arith, u.1) in
    let k = stood_for (over before old.core) from rest in
    let x = plain_slot (variables old.core) slot in
    subst (λ y. Quiet modes (settle (machine (plain_code old.code)) (tested modes) (start k) (store_in x line y xs (in_world (record (world_of from rest) { left = from.turns - n }) (over before old.core)))) (stood_for new.core to rest) e) (sym u.0)
    (subst (λ m. Quiet modes (settle (machine (plain_code old.code)) (tested modes) (start k) (store_in x line v xs (in_world (record (world_of from rest) { left = m }) (over before old.core)))) (stood_for new.core to rest) e) u.1
    (update_goes modes old slot xs before w v kept gone new from to line left e k rest keeps h f few))
update_ends modes old slot xs before w v kept gone new from to line (Fails g) (Ok left) e rest keeps h u refused f = absurd u
update_ends modes old slot xs before w v kept gone new from to line Overspends (Ok left) e rest keeps h u refused f = absurd u
update_ends modes old slot xs before w v kept gone new from to line o (Err g) e rest keeps h u refused f =
    let k = stood_for (over before old.core) from rest in
    let x = plain_slot (variables old.core) slot in
    let same : EndsUpdate modes (Err g) line (plain_slot (variables gone.core) slot) w kept gone from new to e = subst (λ y. EndsUpdate modes (Err g) line (plain_slot (variables gone.core) slot) y kept gone from new to e) refused f in
    update_stops modes old slot xs before w kept gone new from to line g e rest (store_whole o line x xs k) h same (halts_by g o line k (λ y d. store_in x line y xs d) e u f.0)

code_kept : (modes : Modes) (old : Standing) (slot : Slot) (xs : List Operand) (w v : Option Datum) (kept : Option (Option Datum)) (gone new : Standing) (from to : ControlState) (line : ℕ) (r : Result ℕ OpFault) (e : End) → InHand old slot xs w gone → EndsUpdate modes r line (plain_slot (variables gone.core) slot) v kept gone from new to e → new.code ≡ old.code
code_kept modes old slot xs w v kept gone new from to line (Ok left) e h f = ap (λ s. s.code) f.2 ∙ ap (λ s. s.code) h.is
code_kept modes old slot xs w v kept gone new from to line (Err g) e h f = ap (λ s. s.code) f.1 ∙ ap (λ s. s.code) h.is

on_top_of : (xs ys : List Operand) (v : Option Datum) (f : Option Datum → List Operand → Move CodeCore) → top_of xs ≡ Some (v, ys) → on_top xs f ≡ f v ys
on_top_of [] ys v f h = absurd (cc)
on_top_of (o ∷ xs) ys v f h = go (value_of o) h
  where
    go : (u : Option (Option Datum)) → option_map {U = Option Datum × List Operand} (λ v. (v, xs)) u ≡ Some (v, ys) → on_value u (λ v. f v xs) ≡ f v ys
    go None h = absurd (cc)
    go (Some u) h = let here : Option Datum × List Operand = (u, xs) in let same = ap (λ o. unwrap_or o here) h in λ i. f (same i).0 (same i).1

-- the whole becomes what an outcome gives, by the value on top
pub changed : (modes : Modes) (old mid gone new : Standing) (from to : ControlState) (line : ℕ) (slot : Slot) (outcome : Option Datum → Option Datum → ℕ → Outcome) (v w w' : Option Value) (kept : Option (Option Datum)) (r : Result ℕ OpFault) (e : End) →
    Keeps modes (plain_slot (variables old.core) slot) (part w) (part w') kept → PopsTop old (Some v) mid → TakesHeld (plain_slot (variables mid.core) slot) mid (Some w) gone → Updates (outcome (part w) (part v) from.turns) from.turns (part w') r → OnErr r (w' ≡ w) → EndsUpdate modes r line (plain_slot (variables gone.core) slot) (part w') kept gone from new to e →
    (new.code ≡ old.code)
    × ((before : List Operand) (rest : List ℕ) →
    let k = stood_for (over before old.core) from rest in
    Quiet modes (settle (machine (plain_code old.code)) (tested modes) (start k) (on_held (held (plain_slot (variables old.core) slot) k) (λ whole. on_top old.core.now.operands (λ u xs. store_whole (outcome whole u k.world.left) line (plain_slot (variables old.core) slot) xs k)))) (stood_for new.core to rest) e)
changed modes old mid gone new from to line slot outcome v w w' kept r e keeps pops takes u refused f =
    let xs = mid.core.now.operands in
    let x = plain_slot (variables old.core) slot in
    let h : InHand old slot xs (part w) gone = taken_held old mid slot w gone pops.1 takes in (
      code_kept modes old slot xs (part w) (part w') kept gone new from to line r e h f,
      λ before rest.
          let k = stood_for (over before old.core) from rest in
          let P : Move CodeCore → Type 0 = λ move. Quiet modes (settle (machine (plain_code old.code)) (tested modes) (start k) move) (stood_for new.core to rest) e in
          let f_of : Option Datum → Move CodeCore = λ whole. on_top old.core.now.operands (λ u xs. store_whole (outcome whole u k.world.left) line x xs k) in
          subst (λ a. P (on_held a f_of)) (sym (held_in_world x (world_of from rest) before old.core ∙ h.was))
          (subst P (sym (on_top_of old.core.now.operands xs (part v) (λ u xs. store_whole (outcome (part w) u k.world.left) line x xs k) pops.0))
          (update_ends modes old slot xs before (part w) (part w') kept gone new from to line (outcome (part w) (part v) from.turns) r e rest keeps h u (parts_refused r w' w refused) f)),
    )

-- ---- taking out

operands_written : (x : Variable) (h : Held) (k : CodeCore) → (write x h k).now.operands ≡ k.now.operands
operands_written (Global name) h k = refl
operands_written (Own body name) h k = refl
operands_written (Bound former name) h k = refl

-- what was taken out is pushed
pub taken_pushed : (old : Standing) (slot : Slot) (w u : Option Value) (gone put : Standing) → TakesHeld (plain_slot (variables old.core) slot) old (Some w) gone → put ≡ record gone { core = over (Holds (part u) ∷ gone.core.now.operands) gone.core } → InHand old slot (Holds (part u) ∷ old.core.now.operands) (part w) put
taken_pushed old slot w u gone put h n =
    let x = plain_slot (variables old.core) slot in
    let xs = old.core.now.operands in
    let same : gone.core.now.operands ≡ xs = ap (λ (s : Standing). s.core.now.operands) h.2 ∙ operands_written x Gone old.core in
    pushed old slot xs (Holds (part u) ∷ xs) (part w) gone put (taken_held old old slot w gone refl h) (n ∙ ap (λ ys. record gone { core = over (Holds (part u) ∷ ys) gone.core }) same)

pub declared_pushed : (modes : Modes) (old gone put : Standing) (x : Slot) (w u : Option Value) (d : Option Declaration) → TakesHeld (plain_slot (variables old.core) x) old (Some w) gone → put ≡ record gone { core = over (Holds (part u) ∷ gone.core.now.operands) gone.core } → IsDeclared modes (plain_slot (variables old.core) x) d → IsDeclared modes (plain_slot (variables put.core) x) d
declared_pushed modes old gone put x w u d takes n is = declared_in_hand modes old x (Holds (part u) ∷ old.core.now.operands) (part w) put d (taken_pushed old x w u gone put takes n) is

pub pushed_slot : (old gone put : Standing) (x : Slot) (w u : Option Value) → TakesHeld (plain_slot (variables old.core) x) old (Some w) gone → put ≡ record gone { core = over (Holds (part u) ∷ gone.core.now.operands) gone.core } → Has old x → Has put x
pushed_slot old gone put x w u takes n has = still_there old x (Holds (part u) ∷ old.core.now.operands) (part w) put (taken_pushed old x w u gone put takes n) has

-- what is left over is stored, or nothing is
taking_goes : (modes : Modes) (old : Standing) (slot : Slot) (before : List Operand) (w w' : Option Datum) (kept tests : Option (Option Datum)) (put new : Standing) (from to : ControlState) (line turns : ℕ) (at : List Selected) (taken : Taken) (t : TakenOut) (e : End) (k : CodeCore) (rest : List ℕ) →
    Keeps modes (plain_slot (variables old.core) slot) w w' kept → tests ≡ cond t.stored kept None → InHand old slot (Holds (part t.value) ∷ old.core.now.operands) w put → turns ≤ from.turns → TakesPart taken at w turns w' (Ok t) → EndsUpdate modes (Ok t.left) line (plain_slot (variables put.core) slot) w' tests put from new to e →
    Quiet modes (settle (machine (plain_code old.code)) (tested modes) (start k) (take_from taken line (plain_slot (variables old.core) slot) w at old.core.now.operands (in_world (record (world_of from rest) { left = turns }) (over before old.core)))) (stood_for new.core to rest) e
taking_goes modes old slot before w w' kept tests put new from to line turns at (TakesOut small v) t e k rest keeps stores h few told f = go (with_part_at_all at w (Some small) turns) told.2
  where
    x : Variable
    x = plain_slot (variables old.core) slot

    d : CodeCore
    d = in_world (record (world_of from rest) { left = turns }) (over before old.core)

    ends : EndsUpdate modes (Ok t.left) line (plain_slot (variables put.core) slot) w' kept put from new to e
    ends = subst (λ b. EndsUpdate modes (Ok t.left) line (plain_slot (variables put.core) slot) w' b put from new to e) (stores ∙ ap (λ b. cond b kept None) told.0) f

    go : (o : Outcome) → Leaves o turns w' t.left → Quiet modes (settle (machine (plain_code old.code)) (tested modes) (start k) (store_whole o line x (Holds v ∷ old.core.now.operands) d)) (stood_for new.core to rest) e
    go (Gives z n) u =
        let left_few : t.left ≤ from.turns = omega (arith, u.1, few) in
        let P : Option Datum → Option Datum → ℕ → Type 0 = λ y v m. Quiet modes (settle (machine (plain_code old.code)) (tested modes) (start k) (store_in x line y (Holds v ∷ old.core.now.operands) (in_world (record (world_of from rest) { left = m }) (over before old.core)))) (stood_for new.core to rest) e in
        subst (λ y. P y v (turns - n)) (sym u.0) (subst (λ b. P w' b (turns - n)) told.1 (subst (P w' (part t.value)) u.1
        (update_goes modes old slot (Holds (part t.value) ∷ old.core.now.operands) before w w' kept put new from to line t.left e k rest keeps h ends left_few)))
    go (Fails g) u = absurd u
    go Overspends u = absurd u
taking_goes modes old slot before w w' kept tests put new from to line turns at IsEmpty t e k rest keeps stores h few told f =
    let x = plain_slot (variables old.core) slot in
    let left_few : t.left ≤ from.turns = omega (arith, told.3, few) in
    let nothing : part t.value ≡ None = ap part told.1 in
    let untested : tests ≡ None = stores ∙ ap (λ b. cond b kept None) told.0 in
    let ends : EndsUpdate modes (Ok t.left) line (plain_slot (variables put.core) slot) w None put from new to e = subst (λ b. EndsUpdate modes (Ok t.left) line (plain_slot (variables put.core) slot) w b put from new to e) untested (subst (λ y. EndsUpdate modes (Ok t.left) line (plain_slot (variables put.core) slot) y tests put from new to e) told.2 f) in
    let P : Option Datum → ℕ → Type 0 = λ v m. Quiet modes (settle (machine (plain_code old.code)) (tested modes) (start k) (next (Holds v ∷ old.core.now.operands) (in_world (record (world_of from rest) { left = m }) (over before old.core)))) (stood_for new.core to rest) e in
    subst (λ v. P v turns) nothing (subst (P (part t.value)) told.3
    (update_skips modes old slot (Holds (part t.value) ∷ old.core.now.operands) before w put new from to line t.left e k rest h ends left_few))
taking_goes modes old slot before w w' kept tests put new from to line turns at (CannotTake g) t e k rest keeps stores h few told f = absurd told

-- the part that a move takes a value out of
abbrev taking : Outcome → Taking → ℕ → Variable → Option Datum → List Selected → List Operand → CodeCore → Move CodeCore
taking o end line x whole at xs k = with_outcome o line k (λ p d. take_from (take_out end p) line x whole at xs d)

reading_goes : (modes : Modes) (old : Standing) (slot : Slot) (before : List Operand) (w w' : Option Datum) (kept tests : Option (Option Datum)) (put new : Standing) (from to : ControlState) (line : ℕ) (at : List Selected) (end : Taking) (o : Outcome) (t : TakenOut) (e : End) (rest : List ℕ) →
    Keeps modes (plain_slot (variables old.core) slot) w w' kept → tests ≡ cond t.stored kept None → InHand old slot (Holds (part t.value) ∷ old.core.now.operands) w put → TakesFrom o end at w from.turns w' (Ok t) → EndsUpdate modes (Ok t.left) line (plain_slot (variables put.core) slot) w' tests put from new to e →
    Quiet modes (settle (machine (plain_code old.code)) (tested modes) (start (stood_for (over before old.core) from rest)) (taking o end line (plain_slot (variables old.core) slot) w at old.core.now.operands (stood_for (over before old.core) from rest))) (stood_for new.core to rest) e
reading_goes modes old slot before w w' kept tests put new from to line at end (Gives p n) t e rest keeps stores h told f =
    taking_goes modes old slot before w w' kept tests put new from to line (from.turns - n) at (take_out end p) t e (stood_for (over before old.core) from rest) rest keeps stores h (omega arith) told f
reading_goes modes old slot before w w' kept tests put new from to line at end (Fails g) t e rest keeps stores h told f = absurd told
reading_goes modes old slot before w w' kept tests put new from to line at end Overspends t e rest keeps stores h told f = absurd told

taking_halts : (taken : Taken) (line : ℕ) (x : Variable) (w w' : Option Datum) (at : List Selected) (xs : List Operand) (k : CodeCore) (f : OpFault) (e : End) → TakesPart taken at w k.world.left w' (Err f) → EndsBy f line e → Halted (take_from taken line x w at xs k) e
taking_halts (TakesOut small v) line x w w' at xs k f e told b = halts_by f (with_part_at_all at w (Some small) k.world.left) line k (λ y d. store_in x line y (Holds v ∷ xs) d) e told b
taking_halts IsEmpty line x w w' at xs k f e told b = absurd (subst (λ g. EndsBy g line e) told b)
taking_halts (CannotTake g) line x w w' at xs k f e told b = halts_by f (Fails g) line k (λ y d. next xs d) e told b

reading_halts : (o : Outcome) (end : Taking) (line : ℕ) (x : Variable) (w w' : Option Datum) (at : List Selected) (xs : List Operand) (k : CodeCore) (f : OpFault) (e : End) → TakesFrom o end at w k.world.left w' (Err f) → EndsBy f line e → Halted (taking o end line x w at xs k) e
reading_halts (Gives p n) end line x w w' at xs k f e told b = taking_halts (take_out end p) line x w w' at xs (record k { world = record k.world { left = k.world.left - n } }) f e told b
reading_halts (Fails g) end line x w w' at xs k f e told b = halts_by f (Fails g) line k (λ y d. next xs d) e told b
reading_halts Overspends end line x w w' at xs k f e told b = halts_by f Overspends line k (λ y d. next xs d) e told b

pub took_out : (modes : Modes) (old gone put new : Standing) (from to : ControlState) (line : ℕ) (slot : Slot) (at : List Selected) (end : Taking) (w w' : Option Value) (kept tests : Option (Option Datum)) (t : TakenOut) (e : End) →
    Keeps modes (plain_slot (variables old.core) slot) (part w) (part w') kept → tests ≡ cond t.stored kept None → TakesHeld (plain_slot (variables old.core) slot) old (Some w) gone → Takes end at (part w) from.turns (part w') (Ok t) → put ≡ record gone { core = over (Holds (part t.value) ∷ gone.core.now.operands) gone.core } → EndsUpdate modes (Ok t.left) line (plain_slot (variables put.core) slot) (part w') tests put from new to e →
    Alters modes old from line (TakingOut end) (plain_slot (variables old.core) slot) at new to e
took_out modes old gone put new from to line slot at end w w' kept tests t e keeps stores takes told n f =
    let xs = Holds (part t.value) ∷ old.core.now.operands in
    let x = plain_slot (variables old.core) slot in
    let h : InHand old slot xs (part w) put = taken_pushed old slot w t.value gone put takes n in (
      code_kept modes old slot xs (part w) (part w') tests put new from to line (Ok t.left) e h f,
      λ before rest.
          let k = stood_for (over before old.core) from rest in
          subst (λ a. Quiet modes (settle (machine (plain_code old.code)) (tested modes) (start k) (on_held a (λ whole. taking (part_at_all at whole from.turns) end line x whole at old.core.now.operands k))) (stood_for new.core to rest) e) (sym (held_in_world x (world_of from rest) before old.core ∙ h.was))
          (reading_goes modes old slot before (part w) (part w') kept tests put new from to line at end (part_at_all at (part w) from.turns) t e rest keeps stores h told f),
    )

pub takes_not : (modes : Modes) (old gone new : Standing) (from to : ControlState) (line : ℕ) (slot : Slot) (at : List Selected) (end : Taking) (w w' : Option Value) (kept : Option (Option Datum)) (g : OpFault) (e : End) →
    TakesHeld (plain_slot (variables old.core) slot) old (Some w) gone → Takes end at (part w) from.turns (part w') (Err g) → w' ≡ w → EndsUpdate modes (Err g) line (plain_slot (variables gone.core) slot) (part w') kept gone from new to e →
    Alters modes old from line (TakingOut end) (plain_slot (variables old.core) slot) at new to e
takes_not modes old gone new from to line slot at end w w' kept g e takes told refused f =
    let xs = old.core.now.operands in
    let x = plain_slot (variables old.core) slot in
    let h : InHand old slot xs (part w) gone = taken_held old old slot w gone refl takes in
    let same : EndsUpdate modes (Err g) line (plain_slot (variables gone.core) slot) (part w) kept gone from new to e = subst (λ y. EndsUpdate modes (Err g) line (plain_slot (variables gone.core) slot) (part y) kept gone from new to e) refused f in (
      code_kept modes old slot xs (part w) (part w') kept gone new from to line (Err g) e h f,
      λ before rest.
          let k = stood_for (over before old.core) from rest in
          subst (λ a. Quiet modes (settle (machine (plain_code old.code)) (tested modes) (start k) (on_held a (λ whole. taking (part_at_all at whole from.turns) end line x whole at xs k))) (stood_for new.core to rest) e) (sym (held_in_world x (world_of from rest) before old.core ∙ h.was))
          (update_stops modes old slot xs before (part w) kept gone new from to line g e rest (taking (part_at_all at (part w) from.turns) end line x (part w) at xs k) h same (reading_halts (part_at_all at (part w) from.turns) end line x (part w) (part w') at xs k g e told f.0)),
    )
