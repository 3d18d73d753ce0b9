-- The last states of the code and of the meaning, and the states that they reach, are the same.
use Rattle.std.proofs.Common.{◌≡◌, ℕ, suc, Bool, List, [], ◌∷◌, Option, refl, subst}
use Rattle.setl_value.specs.Datum.{Datum}
use Rattle.setl_text.specs.Texts.{print_line}
use Rattle.setl_model_runs.specs.Events.{Event, Printed}
use Rattle.setl_model_runs.specs.Run.{Store, State, Move, Moves}
use Rattle.setl_program.specs.Program.{Program}
use Rattle.setl_program.specs.Formed.{Formed}
use Rattle.setl_model.specs.Core.{Shared, Hand, Frame, Snapshot, Core}
use Rattle.setl_model.specs.Step.{language, test_of}
use Rattle.setl_model.specs.Means.{first}
use Rattle.setl_code.specs.Code.{ReadOne, PrintTop}
use Rattle.setl_code.specs.CodeOf.{code_of}
use Rattle.setl_code.specs.CodeCore.{Operand, Popped, Pops, Lacks, popped, CodeCore}
use Rattle.setl_code.specs.Machine.{do_step, fetch, on_popped, print_values}
use Rattle.setl_code_simulation.specs.Follow.{Related, moves, halts}
use Rattle.setl_code_simulation.specs.States.{SameState, CodeReaches, ReachedAlike, IsNext, ReadsAlike, IsPrintOf, without_arguments, with_arguments, PrintsAlike}
use Rattle.setl_code_simulation.specs.Matches.{Matches, InHand, IsReadFor}
use Rattle.setl_code_simulation.specs.Claims.{CodeEndsInTheSameState, CodeReachesTheSameStates, CodeReadsWhereMeant, CodePrintsWhereMeant}
use Rattle.setl_code_simulation.proofs.Parts.{core}
use Rattle.setl_code_simulation.proofs.Follow.{ends_alike, MadeAlike, alike, alone}
use Rattle.setl_code_simulation.proofs.Meaning.{meant_end, met}

pub ends_in_the_same_state : CodeEndsInTheSameState
ends_in_the_same_state p formed input turns based out code_out end code_end meant done =
    let r = meant_end p formed input turns based code_end done.last done.steps done.ends in
    let one = ends_alike (language p) (test_of p.modes based) r.0 meant.steps (first p input turns) r.1 meant.last code_end end r.2 meant.ends in
    let same : r.1 ≡ meant.last = cc in
    subst (λ l. SameState (code_of p) done.last l) same r.3

-- ---- prints

-- a move like one that goes on goes on
moves_alike : {K C : Type 0} {R : K → C → Type 0} {x : Move K} {y : Move C} {said : List ℕ} {told : List Event} {to : C} {line : ℕ} {xs : List Store} → Related R x y → y ≡ Moves said told to line xs → (k : K) × (x ≡ Moves said told k line xs)
moves_alike (moves {k = k} r) h = (k, cc)
moves_alike halts h = cc

-- a `print` in hand writes a line
print_moves : (p : Program) (line : ℕ) (s : Shared) (hand : Hand) (w : List Frame) (ss : List Snapshot) → IsPrintOf line hand w → (said : List ℕ) × (to : Core) × ((language p).move (core s hand w ss) ≡ Moves said (Printed said ∷ []) to 0 [])
print_moves p line s hand w ss without_arguments = (_, _, refl)
print_moves p line s hand w ss with_arguments = (_, _, refl)

-- the code has its operands, and writes the same line
printed_alike : (R : CodeCore → Core → Type 0) (q : Popped) (k : CodeCore) (y : Move Core) (said : List ℕ) (to : Core) → y ≡ Moves said (Printed said ∷ []) to 0 [] → MadeAlike R (on_popped q (λ vs xs. print_values vs xs k)) y → (values : List (Option Datum)) × (others : List Operand) × (q ≡ Pops values others) × (said ≡ print_line values)
printed_alike R (Pops vs xs) k y said to h (alike r) = let m = moves_alike r h in let e = m.1 in (vs, xs, refl, cc)
printed_alike R (Pops vs xs) k y said to h (alone k2 e) = cc
printed_alike R Lacks k y said to h (alike r) = let m = moves_alike r h in let e = m.1 in cc
printed_alike R Lacks k y said to h (alone k2 e) = cc

-- ---- reached states

module _ (p : Program) (formed : Formed p) (input : List ℕ) (turns : ℕ) (based : Bool) (s : State CodeCore) (reached : CodeReaches p input turns based s) where
  abbrev there : ReachedAlike p input turns based s
  there = let m = met p formed input turns based s reached in record { state = m.state; reached = (m.steps, m.leads); same = m.same }

  pub reads : (line : ℕ) → IsNext (code_of p) s.core line ReadOne → ReadsAlike p input turns based s line
  reads line is =
      let c = code_of p in
      let r : IsReadFor line (fetch c s.core.now.body (suc s.core.now.at)) there.state.core.hand = subst (λ i. InHand i (fetch c s.core.now.body (suc s.core.now.at)) there.state.core) is (met p formed input turns based s reached).in_hand in
      record { there = there; in_hand = record { line = line; variable = r.variable; others = r.others; rest = r.rest; in_hand = r.in_hand }; line_same = refl; stores = r.stores }

  pub prints : (line number : ℕ) → IsNext (code_of p) s.core line (PrintTop number) → PrintsAlike p input turns based s line number
  prints line number is =
      let c = code_of p in
      let m = there.state.core in
      let of_line : IsPrintOf line m.hand m.work = subst (λ i. InHand i (fetch c s.core.now.body (suc s.core.now.at)) m) is (met p formed input turns based s reached).in_hand in
      let means = print_moves p line m.shared m.hand m.work m.kept of_line in
      let made = subst (λ i. MadeAlike (Matches c p.procedures) (do_step c i s.core) ((language p).move m)) is (met p formed input turns based s reached).made in
      let r = printed_alike (Matches c p.procedures) (popped number [] s.core.now.operands) s.core ((language p).move m) means.0 means.1 means.2 made in
      record {
        there = there;
        values = r.0;
        others = r.1;
        operands = r.2;
        in_hand = record { to = means.1; writes = subst (λ said. (language p).move m ≡ Moves said (Printed said ∷ []) means.1 0 []) r.3 means.2 };
        of_line = of_line;
      }

pub reaches_the_same_states : CodeReachesTheSameStates
reaches_the_same_states p formed input turns based s reached = there p formed input turns based s reached

pub reads_where_meant : CodeReadsWhereMeant
reads_where_meant p formed input turns based s line reached is = reads p formed input turns based s reached line is

pub prints_where_meant : CodePrintsWhereMeant
prints_where_meant p formed input turns based s line number reached is = prints p formed input turns based s reached line number is
