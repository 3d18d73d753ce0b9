-- Variables that hold forms.
use Rattle.std.proofs.Common.{◌≡◌, ◌∙◌, ℕ, suc, true, List, [], ◌∷◌, drop, Option, Some, refl, sym, ap, subst}
use Rattle.std.specs.Prelude.{IsSome}
use Rattle.setl_value.specs.Datum.{Datum}
use Rattle.setl_modes.specs.Modes.{Mode}
use Rattle.setl_modes.specs.Fits.{is_taken}
use Rattle.setl_modes_parts.specs.Parts.{combines}
use Rattle.setl_modes_parts.specs.Laws.{CombinedFit}
use Rattle.setl_operators_table.specs.declared.Operator.{Operator}
use Rattle.setl_operators_table.specs.Outcome.{Outcome, Gives}
use Rattle.setl_value.specs.WellFormed.{PartIsWellFormed}
use Rattle.setl_operators_table.specs.Operators.{op_of}
use Rattle.setl_model_runs.specs.Run.{settle}
use Rattle.setl_model_runs.specs.Variable.{Variable, Global, Own, Bound}
use Rattle.setl_model.specs.Step.{declared_mode}
use Rattle.setl_code.specs.Code.{Alteration, Bracket, Alter, Combining, Load}
use Rattle.setl_code.specs.Machine.{machine, do_instr, on_held, next}
use Rattle.setl_code.specs.declared.code.Slot.{Slot}
use Rattle.setl_code.specs.Plain.{plain_code, plain_slot}
use Rattle.setl_code.specs.CodeCore.{Held, There, Gone, Operand, Result as Holds, CodeCore, held, write}
use Rattle.setl_code_declared.specs.Fitting.{Fitting}
use Rattle.setl_code_declared.specs.Laws.{HeldFits}
use Rattle.setl_store.specs.Forms.{UpdatesFreely}
use Rattle.setl_store.specs.Operands.{IsThere}
use Rattle.setl_store.specs.Standing.{Standing, over, at_place, top_of, variables, with_pushed}
use Rattle.setl_machine_control.specs.Declaring.{mode_by, Modes, tested, IsDeclared}
use Rattle.setl_machine_control.specs.Answers.{start, Quiet}
use Rattle.setl_machine_control.specs.Control.{in_world}
use Rattle.setl_machine_control.specs.Working.{Works, WorksBy}
use Rattle.setl_machine_control.specs.declared.declaration.Declaration.{Declaration}
use Rattle.setl_machine_control.specs.declared.end.End.TheVariants as end
use Rattle.setl_store.specs.Gained.{with_part}
use Rattle.setl_machine_variables.specs.Gaining.{stores_at, GainsIf}
use Rattle.setl_machine_variables.proofs.Altered.{held_in_world}
use Rattle.setl_machine_variables.proofs.Freely.{combined_freely}
use Rattle.setl_machine_variables.proofs.Gaining.{stored_by}
use Rattle.setl_machine_variables.proofs.Parts.{mode_is}
use Rattle.setl_machine_variables.proofs.Storing.{at_written}

-- what its declaration takes
pub taken_by : (modes : Modes) (x : Variable) (d : Option Declaration) (v : Option Datum) → IsDeclared modes x d → tested modes x v ≡ true → is_taken (mode_by d) v ≡ true
taken_by modes x d v declared t = subst (λ m. is_taken m v ≡ true) (mode_is modes x d declared) t

-- ---- updates in place

operands_written : (x : Variable) (h : Held) (k : CodeCore) → (write x h k).now.operands ≡ k.now.operands
operands_written (Global name) h k = refl
operands_written (Own body name) h k = refl
operands_written (Bound former name) h k = refl

over_written : (x : Variable) (h : Held) (xs : List Operand) (k : CodeCore) → over xs (write x h k) ≡ write x h (over xs k)
over_written (Global name) h xs k = refl
over_written (Own body name) h xs k = refl
over_written (Bound former name) h xs k = refl

-- what an update in place makes of a variable, but for the bases
abbrev pub UpdatesAlone : (gives : Option Datum → ℕ → Outcome) → Variable → Standing → Standing → Type 0
UpdatesAlone gives x old new =
    (before after : Option Datum) × (held x old.core ≡ There before) × PartIsWellFormed before × ((left : ℕ) → gives before left ≡ Gives after 0)
    × (new ≡ record old { core = write x (There after) old.core })

-- the same given in other words
pub given_alike : (gives also : Option Datum → ℕ → Outcome) (x : Variable) (old put : Standing) → ((whole : Option Datum) → gives whole ≡ also whole) → (m : Mode) → UpdatesFreely gives m x old put true → UpdatesAlone also x old (record put { bases = old.bases })
given_alike gives also x old put same m u = (u.0, u.1, u.2, u.3, λ left. sym (ap (λ g. g left) (same u.0)) ∙ u.4 left, ap (λ (s : Standing). record s { bases = old.bases }) u.5)

-- the value is still on top
pub still_on_top : (o : Operator) (old put : Standing) (x : Variable) (d : Datum) → UpdatesAlone (λ s. op_of o (s ∷ Some d ∷ [])) x old put → old.core.now.operands ≡ Holds (Some d) ∷ drop 1 old.core.now.operands → IsSome (top_of put.core.now.operands)
still_on_top o old put x d u top =
    subst (λ xs. IsSome (top_of xs)) (sym (ap (λ (s : Standing). s.core.now.operands) u.5 ∙ operands_written x (There u.1) old.core ∙ top)) refl

-- the variable was updated, and the value dropped
pub combined_in_form : CombinedFit → HeldFits → (modes : Modes) (old put dropped new : Standing) (line : ℕ) (x : Variable) (m : Mode) (o : Operator) (what : Alteration) (bs : List Bracket) (d : Datum) → Fitting modes old.core →
    what ≡ Combining o → bs ≡ [] → declared_mode modes x ≡ Some m → combines o m (Some d) ≡ true → old.core.now.operands ≡ Holds (Some d) ∷ drop 1 old.core.now.operands →
    UpdatesAlone (λ s. op_of o (s ∷ Some d ∷ [])) x old put → dropped ≡ record put { core = over (drop 1 put.core.now.operands) put.core } →
    new ≡ record dropped { core = at_place (suc dropped.core.now.at) dropped.core } → WorksBy modes old line (Alter what x bs) new end.Paused
combined_in_form fit holds modes old put dropped new line x m o what bs d fitting is none declared sure top u off goes =
    let before = u.0 in
    let after = u.1 in
    let ys = drop 1 old.core.now.operands in
    let takes : tested modes x after ≡ true =
    subst (λ o. is_taken o after ≡ true) (sym declared)
    (fit o m before (Some d) after 0 0 sure (u.3, subst (λ o. is_taken o before ≡ true) declared (holds modes old.core x before fitting u.2)) (u.4 0)) in
    let off_is : dropped ≡ record old { core = write x (There after) (over ys old.core) } =
    off
    ∙ ap (λ (s : Standing). record s { core = over (drop 1 s.core.now.operands) s.core }) u.5
    ∙ ap (λ xs. record old { core = over (drop 1 xs) (write x (There after) old.core) }) (operands_written x (There after) old.core)
    ∙ ap (λ k. record old { core = k }) (over_written x (There after) ys old.core) in
    let new_is : new ≡ record old { core = at_place (suc old.core.now.at) (write x (There after) (over ys old.core)) } =
    goes
    ∙ ap (λ (s : Standing). record s { core = at_place (suc s.core.now.at) s.core }) off_is
    ∙ ap (λ at. record old { core = at_place (suc at) (write x (There after) (over ys old.core)) }) (at_written x (There after) (over ys old.core)) in
    subst (λ a. WorksBy modes old line (Alter a x bs) new end.Paused) (sym is)
    (subst (λ l. WorksBy modes old line (Alter (Combining o) x l) new end.Paused) (sym none)
    (combined_freely modes old new line x o before after d takes u.2 top u.4 new_is))

-- ---- loads

-- what the variable holds is pushed
pub loaded : (old put new : Standing) (line : ℕ) (x : Variable) → IsThere (held x old.core) → put ≡ record old { core = with_pushed (held x old.core) old.core } →
    new ≡ record put { core = at_place (suc put.core.now.at) put.core } → Works old line (Load x) new end.Paused
loaded old put new line x there pushed goes = go (held x old.core) refl there pushed
  where
    go : (h : Held) → held x old.core ≡ h → IsThere h → put ≡ record old { core = with_pushed h old.core } → Works old line (Load x) new end.Paused
    go Gone was none to = absurd none
    go (There v) was some to =
        let new_is : new ≡ record old { core = at_place (suc old.core.now.at) (over (Holds v ∷ old.core.now.operands) old.core) } =
        goes ∙ ap (λ (s : Standing). record s { core = at_place (suc s.core.now.at) s.core }) to in (
          ap (λ s. s.code) new_is,
          λ modes w.
              let k = in_world w old.core in
              let c = plain_code old.code in
              let does : do_instr c line (Load x) k ≡ next (Holds v ∷ k.now.operands) k = ap (λ h. on_held h (λ u. next (Holds u ∷ k.now.operands) k)) (held_in_world x w old.core.now.operands old.core ∙ was) in
              subst (λ m. Quiet modes (settle (machine c) (tested modes) (start k) m) (in_world w new.core) end.Paused) (sym does)
              (sym (ap (λ (s : Standing). in_world w s.core) new_is), refl),
          ap (λ (s : Standing). s.bases) new_is,
        )

-- what the variable holds is pushed, where nothing became of the store before
pub loaded_plain : (old mid put new : Standing) (line : ℕ) (slot : Slot) (v : Option Datum) → mid ≡ old → held (plain_slot (variables mid.core) slot) mid.core ≡ There v →
    put ≡ record mid { core = over (Holds v ∷ mid.core.now.operands) mid.core } → new ≡ record put { core = at_place (suc put.core.now.at) put.core } → Works old line (Load (plain_slot (variables old.core) slot)) new end.Paused
loaded_plain old mid put new line slot v same was pushed goes =
    let x = plain_slot (variables mid.core) slot in
    subst (λ (s : Standing). Works s line (Load (plain_slot (variables s.core) slot)) new end.Paused) same
    (loaded mid put new line x (subst IsThere (sym was) tt) (subst (λ h. put ≡ record mid { core = with_pushed h mid.core }) (sym was) pushed) goes)

-- the step in hand is the same
pub at_pushed : (h : Held) (k : CodeCore) → (with_pushed h k).now.at ≡ k.now.at
at_pushed Gone k = refl
at_pushed (There v) k = refl

-- the bases after an update in place
pub form_gains : (modes : Modes) (gives : Option Datum → ℕ → Outcome) (old put dropped new : Standing) (x : Variable) (m : Mode) (what : Alteration) (o : Operator) (bs : List Bracket) (turns : ℕ) → declared_mode modes x ≡ Some m → what ≡ Combining o →
    UpdatesFreely gives m x old put true → dropped ≡ record put { core = over (drop 1 put.core.now.operands) put.core } → new ≡ record dropped { core = at_place (suc dropped.core.now.at) dropped.core } →
    GainsIf (stores_at what x bs old.core turns) modes x old new end.Paused
form_gains modes gives old put dropped new x m what o bs turns declared is u off goes =
    let ys = drop 1 put.core.now.operands in
    let put_core : put.core ≡ write x (There u.1) old.core = ap (λ (s : Standing). s.core) u.5 in
    let new_core : new.core ≡ at_place (suc dropped.core.now.at) (write x (There u.1) (over ys old.core)) =
    ap (λ (s : Standing). s.core) goes
    ∙ ap (at_place (suc dropped.core.now.at)) (ap (λ (s : Standing). s.core) off ∙ ap (over ys) put_core ∙ over_written x (There u.1) ys old.core) in
    let bases : new.bases ≡ with_part m u.1 old.bases = ap (λ (s : Standing). s.bases) goes ∙ ap (λ (s : Standing). s.bases) off ∙ ap (λ (s : Standing). s.bases) u.5 in
    let gain = stored_by modes x (Some m) old new u.1 (over ys old.core) (suc dropped.core.now.at) declared new_core bases in
    subst (λ a. GainsIf (stores_at a x bs old.core turns) modes x old new end.Paused) (sym is) gain
