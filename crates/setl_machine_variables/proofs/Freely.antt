-- Updates in place that charge nothing.
use Rattle.std.proofs.Common.{◌≡◌, ◌∙◌, ℕ, suc, ◌-◌, true, List, [], ◌∷◌, drop, Option, None, Some, refl, sym, ap, subst, arith}
use Rattle.std.specs.Prelude.{IsSome, map, length}
use Rattle.std.specs.Borrow.{Bor}
use Rattle.setl_value.specs.Datum.{Datum}
use Rattle.setl_value.specs.code.DatumOf.{datum}
use Rattle.setl_value.specs.declared.Value.{Value}
use Rattle.setl_operators_table.specs.declared.Operator.{Operator}
use Rattle.setl_operators_table.specs.Operators.{op_of}
use Rattle.setl_operators_table.specs.Outcome.{Gives}
use Rattle.setl_model_runs.specs.Run.{Move, settle}
use Rattle.setl_model_runs.specs.Variable.{Variable}
use Rattle.setl_code.specs.declared.code.Bracket as declared
use Rattle.setl_code.specs.declared.code.Slot.{Slot}
use Rattle.setl_code.specs.Code.{Alteration, Bracket, Alter, Combining}
use Rattle.setl_code.specs.Plain.{plain_code, plain_slot, plain_bracket}
use Rattle.setl_code.specs.CodeCore.{Held, There, Gone, Result as Holds, CodeCore, held, write}
use Rattle.setl_code.specs.Machine.{machine, do_instr, on_held, on_top, store_in, store_whole, alter}
use Rattle.setl_store.specs.Standing.{Standing, over, at_place, top_of, variables, IsHeld}
use Rattle.setl_store.specs.declared.store.Content.TheVariants as content
use Rattle.setl_machine_control.specs.Control.{in_world}
use Rattle.setl_machine_control.specs.Declaring.{Modes, tested}
use Rattle.setl_machine_variables.specs.Freely.{GivesFreely, AltersFreely}
use Rattle.setl_machine_control.specs.Answers.{start, Quiet}
use Rattle.setl_machine_control.specs.Working.{WorksBy}
use Rattle.setl_machine_control.specs.declared.end.End.TheVariants as end
use Rattle.setl_machine_variables.proofs.Altered.{held_in_world}
use Rattle.setl_machine_variables.proofs.Storing.{stored_is, goes_stored}
use Rattle.setl_machine_control.specs.Laws.{write_in_world}

pub some_altered : (modes : Modes) (what : Alteration) (x : Variable) (bs : List Bracket) (k : CodeCore) (d : Datum) → AltersFreely modes what x bs k d → IsSome (top_of k.now.operands)
some_altered modes what x bs k d h = subst (λ xs. IsSome (top_of xs)) (sym h.2.2.3) refl

-- what an operator gives of what a variable holds and the value on top, without a charge, is stored
pub combined_freely : (modes : Modes) (old new : Standing) (line : ℕ) (x : Variable) (o : Operator) (before after : Option Datum) (b : Datum) → tested modes x after ≡ true → held x old.core ≡ There before →
    old.core.now.operands ≡ Holds (Some b) ∷ drop 1 old.core.now.operands → ((left : ℕ) → op_of o (before ∷ Some b ∷ []) left ≡ Gives after 0) →
    new ≡ record old { core = at_place (suc old.core.now.at) (write x (There after) (over (drop 1 old.core.now.operands) old.core)) } → WorksBy modes old line (Alter (Combining o) x []) new end.Paused
combined_freely modes old new line x o before after b takes was top gives new_is =
    let ys = drop 1 old.core.now.operands in
    let c = plain_code old.code in (
      ap (λ s. s.code) new_is,
      λ w.
          let k = in_world w old.core in
          let l : CodeCore = record k { world = record w { left = w.left - 0 } } in
          let same : l ≡ k = let less : w.left - 0 ≡ w.left = omega arith in ap (λ n. record k { world = record w { left = n } }) less in
          let there : in_world w new.core ≡ at_place (suc k.now.at) (write x (There after) (over ys k)) =
          ap (λ (s : Standing). in_world w s.core) new_is ∙ ap (at_place (suc k.now.at)) (sym (write_in_world x (There after) w (over ys old.core))) in
          let whole : Option Datum → Move CodeCore = λ u. alter (Combining o) line x u [] k.now.operands k in
          let does : do_instr c line (Alter (Combining o) x []) k ≡ store_in x line after ys l =
          ap (λ v. on_held v whole) (held_in_world x w old.core.now.operands old.core ∙ was)
          ∙ ap (λ xs. on_top xs (λ v rest. store_whole (op_of o (before ∷ v ∷ []) w.left) line x rest k)) top
          ∙ ap (λ r. store_whole r line x ys k) (gives w.left) in
          subst (λ m. Quiet modes (settle (machine c) (tested modes) (start k) m) (in_world w new.core) end.Paused) (sym (does ∙ ap (store_in x line after ys) same))
          (goes_stored modes c line x after ys k k (in_world w new.core) takes there),
    )

pub altered_freely : (modes : Modes) (old dropped put new : Standing) (line : ℕ) (slot : Slot) (what : Alteration) (bs : List Bracket) (d : Datum) → AltersFreely modes what (plain_slot (variables old.core) slot) bs old.core d →
    dropped ≡ record old { core = over (drop 1 old.core.now.operands) old.core } → put ≡ record dropped { core = write (plain_slot (variables dropped.core) slot) (There (Some d)) dropped.core } →
    new ≡ record put { core = at_place (suc put.core.now.at) put.core } → WorksBy modes old line (Alter what (plain_slot (variables old.core) slot) bs) new end.Paused
altered_freely modes old dropped put new line slot what bs d h off stored goes =
    let x = plain_slot (variables old.core) slot in
    let new_is = stored_is old dropped put new slot (Some d) (drop 1 old.core.now.operands) off stored goes in
    subst (λ a. WorksBy modes old line (Alter a x bs) new end.Paused) (sym h.2.1)
    (subst (λ l. WorksBy modes old line (Alter (Combining h.2.0) x l) new end.Paused) (sym h.1)
    (combined_freely modes old new line x h.2.0 (Some h.2.2.0) (Some d) h.2.2.1 h.0 h.2.2.2 h.2.2.3 h.2.2.4.1 new_is))

held_is : (h : Held) (v : Bor Value) → IsHeld h (content.Value v) → h ≡ There (Some (datum v.now))
held_is Gone v h = absurd h
held_is (There None) v h = absurd h
held_is (There (Some d)) v h = ap (λ e. There (Some e)) (sym h)

pub no_brackets : (bs : List declared.Bracket) → length bs ≡ 0 → map plain_bracket bs ≡ []
no_brackets [] none = refl
no_brackets (b ∷ bs) none = absurd (omega (arith, none))

-- what an update makes of the two integers, where the variable takes it
pub altering : (modes : Modes) (what : Alteration) (x : Variable) (bs : List declared.Bracket) (k : CodeCore) (o : Operator) (whole value : Bor Value) (d : Datum) → tested modes x (Some d) ≡ true → length bs ≡ 0 → what ≡ Combining o → IsHeld (held x k) (content.Value whole) →
    k.now.operands ≡ Holds (Some (datum value.now)) ∷ drop 1 k.now.operands → GivesFreely o (datum whole.now) (datum value.now) d → AltersFreely modes what x (map plain_bracket bs) k d
altering modes what x bs k o whole value d takes none combines was top gives =
    (takes, no_brackets bs none, (o, combines, (datum whole.now, datum value.now, held_is (held x k) whole was, top, gives)))
