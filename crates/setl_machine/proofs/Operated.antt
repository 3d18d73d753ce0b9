-- What an operator makes of the operands.
use Rattle.std.proofs.Common.{◌≡◌, ◌∙◌, ℕ, suc, ◌-◌, List, [], ◌∷◌, drop, Option, Some, Ok, Err, refl, sym, ap, subst, arith}
use Rattle.std.specs.Prelude.{Result, IsSome, IfOk}
use Rattle.std.specs.declared.alloc.AllocError.{AllocError}
use Rattle.setl_value.specs.Datum.{Datum}
use Rattle.setl_operators_table.specs.declared.OpFault.{OpFault}
use Rattle.setl_operators_table.specs.code.Answers.{Tells}
use Rattle.setl_operators_table.specs.declared.Operator.{Operator}
use Rattle.setl_operators_table.specs.Operators.{op_of, operand_count, IsCount, TakesOperands}
use Rattle.setl_operators_table.specs.Outcome.{Gives}
use Rattle.setl_model_runs.specs.Run.{settle}
use Rattle.setl_code.specs.Code.{Operate}
use Rattle.setl_code.specs.Plain.{plain_code}
use Rattle.setl_code.specs.CodeCore.{Operand, Result as Holds, Iterator, PairIterator, Collecting, Pops, popped, CodeCore}
use Rattle.setl_code.specs.Machine.{machine, do_instr, next, at_step, on_popped, with_outcome}
use Rattle.setl_store.specs.Operands.{IsPlainTop}
use Rattle.setl_store.specs.Standing.{Standing, over, at_place, top_of}
use Rattle.setl_machine_control.specs.Control.{ControlState, stood_for}
use Rattle.setl_machine_control.specs.Declaring.{tested}
use Rattle.setl_machine_variables.specs.Freely.{OnTop, OnTopAlone}
use Rattle.setl_machine.specs.Operating.{AreTwo, PutsForTwo, PutsForOne}
use Rattle.setl_machine_control.specs.Answers.{start, Quiet}
use Rattle.setl_machine_control.specs.Working.{Does, EndsBy, Halted}
use Rattle.setl_machine_control.specs.declared.end.End.{End}
use Rattle.setl_machine_control.specs.declared.end.End.TheVariants as end
use Rattle.setl_machine_control.specs.Laws.{halts_by}
use Rattle.setl_machine.proofs.Working.{stops_with}

-- ---- two operands

-- the two operands apart
two_apart : (xs : List Operand) → AreTwo xs → (u : Option Datum) × (v : Option Datum) × (ys : List Operand) × (xs ≡ Holds v ∷ Holds u ∷ ys)
two_apart [] h = absurd h
two_apart (Holds v ∷ []) h = absurd h
two_apart (Holds v ∷ Holds u ∷ xs) h = (u, v, xs, refl)
two_apart (Holds v ∷ Iterator items ∷ xs) h = absurd h
two_apart (Holds v ∷ PairIterator items ∷ xs) h = absurd h
two_apart (Holds v ∷ Collecting what got ∷ xs) h = absurd h
two_apart (Iterator items ∷ xs) h = absurd h
two_apart (PairIterator items ∷ xs) h = absurd h
two_apart (Collecting what got ∷ xs) h = absurd h

pub some_of_two : (xs : List Operand) → AreTwo xs → IsSome (top_of xs)
some_of_two xs h = let t = two_apart xs h in subst (λ l. IsSome (top_of l)) (sym t.3) refl

pub plain_of_two : (xs : List Operand) → AreTwo xs → IsPlainTop (drop 1 xs)
plain_of_two xs h = let t = two_apart xs h in subst (λ l. IsPlainTop (drop 1 l)) (sym t.3) tt

pub two_there : (xs ys : List Operand) (u v : Option Datum) → xs ≡ Holds v ∷ Holds u ∷ ys → AreTwo xs
two_there xs ys u v top = subst AreTwo (sym top) tt

pub two_on_top : (o : Operator) (xs : List Operand) (d : Datum) → OnTop o xs d → AreTwo xs
two_on_top o xs d h = two_there xs (drop 2 xs) (Some h.0) (Some h.1) h.2

pub plain_on_top : (xs ys : List Operand) (v : Option Datum) → xs ≡ Holds v ∷ ys → IsPlainTop xs
plain_on_top xs ys v top = subst IsPlainTop (sym top) tt

pub plain_on_top_alone : (o : Operator) (xs : List Operand) (d : Datum) → OnTopAlone o xs d → IsPlainTop xs
plain_on_top_alone o xs d h = plain_on_top xs (drop 1 xs) (Some h.0) h.1

two_off : (xs : List Operand) → drop 1 (drop 1 xs) ≡ drop 2 xs
two_off [] = refl
two_off (x ∷ []) = refl
two_off (x ∷ y ∷ xs) = refl

-- a value in the place of two
pub put_two : (old dropped put new : Standing) (v : Option Datum) → dropped ≡ record old { core = over (drop 1 old.core.now.operands) old.core } →
    put ≡ record dropped { core = over (Holds v ∷ drop 1 dropped.core.now.operands) dropped.core } → new ≡ record put { core = at_place (suc put.core.now.at) put.core } → PutsForTwo old v new end.Paused
put_two old dropped put new v d p n =
    let put_is : put ≡ record old { core = over (Holds v ∷ drop 2 old.core.now.operands) old.core } =
    p ∙ ap (λ (s : Standing). record s { core = over (Holds v ∷ drop 1 s.core.now.operands) s.core }) d
    ∙ ap (λ xs. record old { core = over (Holds v ∷ xs) old.core }) (two_off old.core.now.operands) in
    (refl, n ∙ ap (λ (s : Standing). record s { core = at_place (suc s.core.now.at) s.core }) put_is)

two_popped : (n : ℕ) (o : Operator) (xs ys : List Operand) (a b : Option Datum) → operand_count o ≡ Some 2 → TakesOperands o n → xs ≡ Holds b ∷ Holds a ∷ ys → popped n [] xs ≡ Pops (a ∷ b ∷ []) ys
two_popped n o xs ys a b two takes e =
    let count : n ≡ 2 = subst (λ c. IsCount c n) two takes in
    λ i. popped (count i) [] (e i)

one_popped : (n : ℕ) (o : Operator) (xs ys : List Operand) (a : Option Datum) → operand_count o ≡ Some 1 → TakesOperands o n → xs ≡ Holds a ∷ ys → popped n [] xs ≡ Pops (a ∷ []) ys
one_popped n o xs ys a one takes e =
    let count : n ≡ 1 = subst (λ c. IsCount c n) one takes in
    λ i. popped (count i) [] (e i)

-- what an operator gives of the operands that are popped stands in their place, for its charge
operated : (old new : Standing) (from to : ControlState) (line n charged : ℕ) (o : Operator) (vs : List (Option Datum)) (ys : List Operand) (v : Option Datum) → popped n [] old.core.now.operands ≡ Pops vs ys → op_of o vs from.turns ≡ Gives v charged →
    to ≡ record from { turns = from.turns - charged } → new ≡ record old { core = at_place (suc old.core.now.at) (over (Holds v ∷ ys) old.core) } → Does old from line (Operate o n) new to end.Paused
operated old new from to line n charged o vs ys v pops gives same put =
    let c = plain_code old.code in (
      ap (λ s. s.code) put,
      λ modes rest.
          let k = stood_for old.core from rest in
          let d : CodeCore = record k { world = record k.world { left = from.turns - charged } } in
          let does : do_instr c line (Operate o n) k ≡ next (Holds v ∷ ys) d =
          ap (λ q. on_popped q (λ us xs. with_outcome (op_of o us from.turns) line k (λ u l. next (Holds u ∷ xs) l))) pops
          ∙ ap (λ w. with_outcome w line k (λ u l. next (Holds u ∷ ys) l)) gives in
          let there : stood_for new.core to rest ≡ at_step (suc k.now.at) (Holds v ∷ ys) d = λ i. stood_for (put i).core (same i) rest in
          subst (λ m. Quiet modes (settle (machine c) (tested modes) (start k) m) (stood_for new.core to rest) end.Paused) (sym does) (sym there, refl),
      ap (λ s. s.bases) put,
    )

-- the same by what was put in the place of the two on top, or of the one
pub operated_two : (old new : Standing) (from to : ControlState) (line n charged : ℕ) (o : Operator) (a b v : Option Datum) (e : End) → operand_count o ≡ Some 2 → TakesOperands o n → old.core.now.operands ≡ Holds b ∷ Holds a ∷ drop 2 old.core.now.operands →
    op_of o (a ∷ b ∷ []) from.turns ≡ Gives v charged → to ≡ record from { turns = from.turns - charged } → PutsForTwo old v new e → Does old from line (Operate o n) new to e
operated_two old new from to line n charged o a b v e two takes top gives same put =
    let ys = drop 2 old.core.now.operands in
    subst (Does old from line (Operate o n) new to) (sym put.0)
    (operated old new from to line n charged o (a ∷ b ∷ []) ys v (two_popped n o old.core.now.operands ys a b two takes top) gives same put.1)

pub operated_one : (old new : Standing) (from to : ControlState) (line n charged : ℕ) (o : Operator) (a v : Option Datum) (e : End) → operand_count o ≡ Some 1 → TakesOperands o n → old.core.now.operands ≡ Holds a ∷ drop 1 old.core.now.operands →
    op_of o (a ∷ []) from.turns ≡ Gives v charged → to ≡ record from { turns = from.turns - charged } → PutsForOne old v new e → Does old from line (Operate o n) new to e
operated_one old new from to line n charged o a v e one takes top gives same put =
    let ys = drop 1 old.core.now.operands in
    subst (Does old from line (Operate o n) new to) (sym put.0)
    (operated old new from to line n charged o (a ∷ []) ys v (one_popped n o old.core.now.operands ys a one takes top) gives same put.1)

pub operated_freely : (old new : Standing) (from : ControlState) (line n : ℕ) (o : Operator) (d : Datum) (e : End) → TakesOperands o n → OnTop o old.core.now.operands d → PutsForTwo old (Some d) new e → Does old from line (Operate o n) new from e
operated_freely old new from line n o d e takes h put =
    let left : from.turns ≡ from.turns - 0 = omega arith in
    operated_two old new from from line n 0 o (Some h.0) (Some h.1) (Some d) e h.3.0 takes h.2 (h.3.1 from.turns) (ap (λ t. record from { turns = t }) left) put

pub operated_freely_alone : (old new : Standing) (from : ControlState) (line n : ℕ) (o : Operator) (d : Datum) (e : End) → TakesOperands o n → OnTopAlone o old.core.now.operands d → PutsForOne old (Some d) new e → Does old from line (Operate o n) new from e
operated_freely_alone old new from line n o d e takes h put =
    let left : from.turns ≡ from.turns - 0 = omega arith in
    operated_one old new from from line n 0 o (Some h.0) (Some d) e h.2.0 takes h.1 (h.2.1 from.turns) (ap (λ t. record from { turns = t }) left) put

-- ---- faults

-- a fault of an operator on operands that are popped
pub operated_not : (old : Standing) (from : ControlState) (line n : ℕ) (o : Operator) (vs : List (Option Datum)) (ys : List Operand) (f : OpFault) (r : Result End AllocError) → popped n [] old.core.now.operands ≡ Pops vs ys → Tells (Err f) (op_of o vs from.turns) → IfOk r (λ e. EndsBy f line e) → IfOk r (λ e. Does old from line (Operate o n) old from e)
operated_not old from line n o vs ys f (Err e) pops told ends = tt
operated_not old from line n o vs ys f (Ok e) pops told ends =
    stops_with old old from from line (Operate o n) old.core.now.operands e refl refl (λ rest.
    let k = stood_for old.core from rest in
    subst (λ q. Halted (on_popped q (λ us xs. with_outcome (op_of o us from.turns) line k (λ u l. next (Holds u ∷ xs) l))) e) (sym pops)
    (halts_by f (op_of o vs from.turns) line k (λ u l. next (Holds u ∷ ys) l) e told ends))

pub two_not : (old : Standing) (from : ControlState) (line n : ℕ) (o : Operator) (a b : Option Datum) (f : OpFault) (r : Result End AllocError) → operand_count o ≡ Some 2 → TakesOperands o n → old.core.now.operands ≡ Holds b ∷ Holds a ∷ drop 2 old.core.now.operands → Tells (Err f) (op_of o (a ∷ b ∷ []) from.turns) → IfOk r (λ e. EndsBy f line e) → IfOk r (λ e. Does old from line (Operate o n) old from e)
two_not old from line n o a b f r two takes top told ends =
    operated_not old from line n o (a ∷ b ∷ []) (drop 2 old.core.now.operands) f r (two_popped n o old.core.now.operands (drop 2 old.core.now.operands) a b two takes top) told ends

pub one_not : (old : Standing) (from : ControlState) (line n : ℕ) (o : Operator) (a : Option Datum) (f : OpFault) (r : Result End AllocError) → operand_count o ≡ Some 1 → TakesOperands o n → old.core.now.operands ≡ Holds a ∷ drop 1 old.core.now.operands → Tells (Err f) (op_of o (a ∷ []) from.turns) → IfOk r (λ e. EndsBy f line e) → IfOk r (λ e. Does old from line (Operate o n) old from e)
one_not old from line n o a f r one takes top told ends =
    operated_not old from line n o (a ∷ []) (drop 1 old.core.now.operands) f r (one_popped n o old.core.now.operands (drop 1 old.core.now.operands) a one takes top) told ends
