-- What `print` does.
use Rattle.std.proofs.Common.{◌≡◌, ◌∙◌, ◌<◌, ℕ, suc, List, length, refl, sym, ap, subst, Ok, Err, arith}
use Rattle.std.specs.Global.{Vec}
use Rattle.setl_value.specs.Datum.{Datum}
use Rattle.std.specs.Option.{option_map}
use Rattle.std.specs.Prelude.{Option}
use Rattle.setl_io.specs.Faults.{one_more}
use Rattle.setl_text.specs.Texts.{print_line}
use Rattle.setl_model_runs.specs.Run.{settle}
use Rattle.setl_model.specs.World.{World}
use Rattle.setl_code.specs.Code.{Code, PrintTop}
use Rattle.setl_code.specs.CodeCore.{Operand, CodeCore}
use Rattle.setl_code.specs.Machine.{machine, on_popped, print_values}
use Rattle.setl_code.specs.Plain.{plain_code}
use Rattle.setl_store.specs.Standing.{Standing, over, at_place}
use Rattle.setl_machine_control.specs.Control.{in_world}
use Rattle.setl_machine_control.specs.Declaring.{Modes, tested}
use Rattle.setl_machine_control.specs.Answers.{start, next_of, IsLikely}
use Rattle.setl_machine.specs.Outcome.{Seen, Steps}
use Rattle.setl_machine.specs.Working.{TakesLine, WritesLine}
use Rattle.setl_machine.specs.Writing.{pieces_by, NextWrites}
use Rattle.setl_machine_control.specs.declared.end.End.{End}
use Rattle.setl_machine_control.specs.declared.end.End.TheVariants.{Done, Stopped, Spent, Paused, ReadFault, WriteFault, NoMemory, Stuck}
use Rattle.setl_machine.proofs.Joining.{made}
use Rattle.setl_machine.proofs.Stays.{appends_same}
use Rattle.setl_machine.proofs.Writing.{line_some}
use Rattle.setl_machine_control.specs.Laws.{likely_over}

module _ (modes : Modes) (old : Standing) (line n : ℕ) (w : World) where
  -- a line was written
  pub writes : (mid new : Standing) (bytes : Vec ℕ) (from to : Seen) (e : End) → TakesLine n old (Ok bytes) mid → WritesLine bytes.items mid from new to e → Steps modes (next_of modes (plain_code old.code) line (PrintTop n) (in_world w old.core)) from to (in_world w new.core) e
  writes mid new bytes from to e t h =
      subst (λ p. Steps modes (settle (machine c) (tested modes) (start k) (on_popped p (λ vs xs. print_values vs xs k))) from to (in_world w new.core) e) (sym (t.1).1)
      (go e (subst (λ bs. WritesLine bs mid from new to e) (t.1).2 h))
    where
      c : Code
      c = plain_code old.code

      k : CodeCore
      k = in_world w old.core

      vs : List (Option Datum)
      vs = (t.1).0

      ys : List Operand
      ys = mid.core.now.operands

      there : new ≡ record mid { core = at_place (suc mid.core.now.at) mid.core } → at_place (suc k.now.at) (over ys k) ≡ in_world w new.core
      there g = sym (ap (λ (s : Standing). in_world w s.core) (g ∙ ap (λ (s : Standing). record s { core = at_place (suc s.core.now.at) s.core }) t.0))

      go : (e : End) → WritesLine (print_line vs) mid from new to e → Steps modes (settle (machine c) (tested modes) (start k) (print_values vs ys k)) from to (in_world w new.core) e
      go Paused g = (there g.0, g.1, g.2)
      go WriteFault g = (g.0, g.1, g.2, refl)
      go NoMemory g = g
      go Done g = absurd g
      go (Stopped why at) g = absurd g
      go Spent g = absurd g
      go ReadFault g = absurd g
      go Stuck g = absurd g

  -- no line was made
  pub lacks : (mid : Standing) (now : Seen) (e : End) → TakesLine n old (Err e) mid → Steps modes (next_of modes (plain_code old.code) line (PrintTop n) (in_world w old.core)) now now (in_world w mid.core) e
  lacks mid now Stuck t =
      let c = plain_code old.code in
      let k = in_world w old.core in
      let likely : IsLikely k (in_world w mid.core) = subst (λ (s : Standing). IsLikely k (in_world w s.core)) (sym t.0) (likely_over w old.core mid.core.now.operands) in
      subst (λ p. Steps modes (settle (machine c) (tested modes) (start k) (on_popped p (λ vs xs. print_values vs xs k))) now now (in_world w mid.core) Stuck) (sym t.1) ((refl, likely), appends_same now.held, (refl, refl))
  lacks mid now NoMemory t = ((0, omega arith, appends_same now.held), (refl, refl))
  lacks mid now Done t = absurd t
  lacks mid now (Stopped why at) t = absurd t
  lacks mid now Spent t = absurd t
  lacks mid now Paused t = absurd t
  lacks mid now ReadFault t = absurd t
  lacks mid now WriteFault t = absurd t

  -- a line is one piece
  pub hands_line : (mid : Standing) (bytes : Vec ℕ) (pieces pieces' : Option ℕ) (e : End) → TakesLine n old (Ok bytes) mid → (0 < length bytes.items → pieces' ≡ option_map one_more pieces) → NextWrites (next_of modes (plain_code old.code) line (PrintTop n) (in_world w old.core)) pieces pieces' e
  hands_line mid bytes pieces pieces' e t h =
      let c = plain_code old.code in
      let k = in_world w old.core in
      let vs = (t.1).0 in
      let some : 0 < length bytes.items = subst (λ bs. 0 < length bs) (sym (t.1).2) (line_some vs) in
      subst (λ p. NextWrites (settle (machine c) (tested modes) (start k) (on_popped p (λ vs xs. print_values vs xs k))) pieces pieces' e) (sym (t.1).1)
      (made pieces_by (settle (machine c) (tested modes) (start k) (print_values vs mid.core.now.operands k)) pieces pieces' (h some) e)

  -- no line is none
  pub hands_none : (mid : Standing) (pieces : Option ℕ) (e : End) → TakesLine n old (Err e) mid → NextWrites (next_of modes (plain_code old.code) line (PrintTop n) (in_world w old.core)) pieces pieces e
  hands_none mid pieces Stuck t =
      let c = plain_code old.code in
      let k = in_world w old.core in
      subst (λ p. NextWrites (settle (machine c) (tested modes) (start k) (on_popped p (λ vs xs. print_values vs xs k))) pieces pieces Stuck) (sym t.1) refl
  hands_none mid pieces NoMemory t = tt
  hands_none mid pieces Done t = absurd t
  hands_none mid pieces (Stopped why at) t = absurd t
  hands_none mid pieces Spent t = absurd t
  hands_none mid pieces Paused t = absurd t
  hands_none mid pieces ReadFault t = absurd t
  hands_none mid pieces WriteFault t = absurd t

pub reads_none : (bytes : List ℕ) (mid new : Standing) (from to : Seen) (e : End) → WritesLine bytes mid from new to e → e ≡ ReadFault → ⊥
reads_none bytes mid new from to e h p = subst (WritesLine bytes mid from new to) p h

pub writes_code : (bytes : List ℕ) (mid new : Standing) (from to : Seen) (e : End) → WritesLine bytes mid from new to e → e ≡ Paused → new.code ≡ mid.code
writes_code bytes mid new from to e h p = let paused : WritesLine bytes mid from new to Paused = subst (WritesLine bytes mid from new to) p h in ap (λ s. s.code) paused.0
