-- Calls and returns.
use Rattle.std.specs.Prelude.{◌≡◌, ℕ, suc, Bool, true, false, List, [], ◌∷◌, Option, Some, None}
use Rattle.std.specs.Option.{option_map}
use Rattle.setl_value.specs.Datum.{Datum}
use Rattle.setl_model_runs.specs.Run.{Store}
use Rattle.setl_model.specs.Calls.{bindings}
use Rattle.setl_code.specs.Code.{Body}
use Rattle.setl_code.specs.CodeCore.{There, Operand, Result as Holds, Activation, CodeCore, cleared, variables_of, write}
use Rattle.setl_code.specs.Machine.{handed_back}

-- with these values stored, from left to right
abbrev pub with_stores : List Store → CodeCore → CodeCore
with_stores [] k = k
with_stores (x ∷ xs) k = with_stores xs (write x.0 (There x.1) k)

-- with the body of this number at work: its parameters hold these values, and its other variables are `om`; the body that
-- called it waits at its next step
abbrev pub entered : ℕ → Option Body → List (Option Datum) → CodeCore → CodeCore
entered n None vs k = k
entered n (Some b) vs k =
    with_stores (bindings n b.parameters vs)
    (record k {
      now = record { body = n; at = 0; own = cleared (variables_of n b); operands = [] };
      callers = record k.now { at = suc k.now.at } ∷ k.callers;
    })

-- with the caller at work again: on its operands the result, and on it what the `wr` and `rw` parameters hold, the first
-- on top; or there is no caller, or one of these was taken
abbrev pub left_for : Body → Option Datum → CodeCore → List Activation → Option CodeCore
left_for b v k [] = None
left_for b v k (c ∷ cs) =
    option_map (λ (xs : List Operand). record k { now = record c { operands = xs }; callers = cs }) (handed_back k.now.body b.parameters k.now.own (Holds v ∷ c.operands))

abbrev pub left : Option Body → Option Datum → CodeCore → Option CodeCore
left None v k = None
left (Some b) v k = left_for b v k k.callers

-- it was left, or can't be, and then all is as before
abbrev pub Leaves : Option CodeCore → Bool → CodeCore → CodeCore → Type 0
Leaves to true old new = to ≡ Some new
Leaves to false old new = (to ≡ None) × (new ≡ old)
